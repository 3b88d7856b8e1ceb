use Rattle.std.proofs.Common.{◌≡◌, drop}
use Rattle.query_plan.specs.Scope.{reaches}
use Rattle.query_plan.proofs.scope.reaches.Given as goal

abbrev pub invariant-loop-table : goal.invariant-loop-table
invariant-loop-table l = reaches l.catalog (drop l.table-index l.tables) l.rest ≡ reaches l.catalog l.tables l.number
