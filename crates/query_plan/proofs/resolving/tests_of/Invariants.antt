use Rattle.std.proofs.Common.{◌≡◌, drop}
use Rattle.query_plan.specs.Resolving.{each, condition_of}
use Rattle.query_plan.proofs.Eaches.{onto}
use Rattle.query_plan.proofs.resolving.tests_of.Given as goal

abbrev pub invariant-loop-condition : goal.invariant-loop-condition
invariant-loop-condition l =
    onto l.out (each (condition_of l.tables l.scope) (drop l.condition-index l.conditions)) ≡ each (condition_of l.tables l.scope) l.conditions
