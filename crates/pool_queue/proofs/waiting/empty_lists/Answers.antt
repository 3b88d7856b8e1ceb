use Rattle.std.proofs.Common.{List, ◌∷◌, [], length, subst, sym, ap, arith, length-append}
use Rattle.pool_queue.specs.declared.lines.Arrived.{Arrived}
use Rattle.pool_queue.specs.Lines.{AreEmpty}
use Rattle.pool_queue.proofs.Counts.{empty-push}
use Rattle.pool_queue.proofs.waiting.empty_lists.Goals as goal

pub loop-preserved : goal.loop-preserved
loop-preserved c = record {
  count = omega (arith, ap (λ (xs : List (List Arrived)). length xs) c.add.ensures, length-append c.loop.lists (c.in_ok-new.field-0 ∷ []), c.loop.invariant.count);
  empty = subst (λ (xs : List (List Arrived)). AreEmpty xs) (sym c.add.ensures) (empty-push c.loop.lists c.in_ok-new.field-0 c.loop.invariant.empty c.in_ok-new.ensures);
}
