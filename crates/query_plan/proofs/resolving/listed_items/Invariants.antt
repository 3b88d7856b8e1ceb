use Rattle.std.proofs.Common.{◌≡◌, drop}
use Rattle.query_plan.specs.Resolving.{each, item_of}
use Rattle.query_plan.proofs.Eaches.{onto}
use Rattle.query_plan.proofs.resolving.listed_items.Given as goal

abbrev pub invariant-loop-item : goal.invariant-loop-item
invariant-loop-item l =
    onto l.out (each (item_of l.raw l.scope) (drop l.item-index l.items)) ≡ each (item_of l.raw l.scope) l.items
