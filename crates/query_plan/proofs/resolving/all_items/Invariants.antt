use Rattle.std.proofs.Common.{◌≡◌, ◌++◌, drop}
use Rattle.query_plan.specs.Resolving.{all_from}
use Rattle.query_plan.proofs.resolving.all_items.Given as goal

abbrev pub invariant-loop-i : goal.invariant-loop-i
invariant-loop-i l = l.items ++ all_from l.i (drop l.i l.scope) ≡ all_from 0 l.scope
