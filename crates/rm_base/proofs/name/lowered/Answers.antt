use Rattle.std.specs.Prelude.{◌-◌, ◌++◌, map, length, replicate}
use Rattle.std.specs.Char.{to_ascii_lowercase}
use Rattle.std.proofs.Common.{ap, ◌∙◌}
use Rattle.std.proofs.lemmas.List.{drop-replicate}
use Rattle.rm_base.proofs.name.lowered.Goals as goal

pub returns : goal.returns
returns c =
    let text = c.args.text.now in
    ap (λ zeros. c.make_ascii_lowercase.new.self ++ zeros) (drop-replicate (length text) 32 0)
    ∙ ap (λ front. front ++ replicate (32 - length text) 0) (c.make_ascii_lowercase.ensures.after ∙ ap (map to_ascii_lowercase) c.copy_from_slice.ensures.after)
