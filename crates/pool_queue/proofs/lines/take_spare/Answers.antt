use Rattle.std.proofs.Common.{◌<◌, ◌-◌, List, length, subst, sym, ap, arith}
use Rattle.std.proofs.lemmas.List.Edits.{length-remove}
use Rattle.pool_queue.specs.declared.lines.Arrived.{Arrived}
use Rattle.pool_queue.specs.Lines.{AreEmpty}
use Rattle.pool_queue.proofs.Counts.{empty-at, empty-remove}
use Rattle.pool_queue.proofs.lines.take_spare.Goals as goal

pub returns : goal.returns
returns c =
    let spare = c.args.spare.now in
    let last = c.len-last.result - 1 in
    let within : last < length spare = omega (arith, c.len-last.ensures.value, c.requires.some) in
    record {
      list = empty-at spare last c.remove.result within c.remove.ensures.row c.requires.empty;
      count = omega (arith, length-remove spare last within, ap (λ (xs : List (List Arrived)). length xs) c.remove.ensures.rest);
      spare = subst (λ (xs : List (List Arrived)). AreEmpty xs) (sym c.remove.ensures.rest) (empty-remove spare last within c.requires.empty);
    }
