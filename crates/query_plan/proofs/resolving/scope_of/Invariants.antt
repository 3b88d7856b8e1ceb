use Rattle.std.proofs.Common.{◌≡◌, drop}
use Rattle.query_plan.specs.Scope.{scope_from}
use Rattle.query_plan.proofs.Eaches.{onto}
use Rattle.query_plan.proofs.resolving.scope_of.Given as goal

abbrev pub invariant-loop-i : goal.invariant-loop-i
invariant-loop-i l = onto l.scope (scope_from l.catalog l.i (drop l.i l.tables)) ≡ scope_from l.catalog 0 l.tables
