use Rattle.std.proofs.Common.{◌∙◌, ◌≡◌, ◌++◌, sym, ap, drop, take, min, length, rules}
use Rattle.std.proofs.lemmas.List.{drop-drop}
use Rattle.rm_outside.proofs.Fronts.{reads_front}
use Rattle.rm_outside.proofs.memory_source.MemorySourceSource.read.Goals as goal

pub returns-clause-bytes : goal.returns-clause-bytes
returns-clause-bytes c =
    let n = c.copy_front-count.result in
    let all = c.args.self.now in
    let count : n ≡ min (length all) (length c.args.into.now) = c.copy_front-count.ensures.count ∙ ap (λ l. min (length l) (length c.args.into.now)) c.rest.ensures in
    let copied : c.copy_front-count.new.to ≡ take n all ++ drop n c.args.into.now = c.copy_front-count.ensures.copied ∙ ap (λ l. take n l ++ drop n c.args.into.now) c.rest.ensures in
    let moved = sym (drop-drop n c.self.inside.at c.self.inside.bytes.items) ∙ ap (drop n) c.self.view_is in
    reads_front all c.args.into.now c.copy_front-count.new.to _ n count (search rules) copied moved
