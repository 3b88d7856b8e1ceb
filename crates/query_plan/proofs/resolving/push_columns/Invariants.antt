use Rattle.std.proofs.Common.{◌≡◌, ◌++◌, take}
use Rattle.query_plan.specs.Scope.{columns_here}
use Rattle.query_plan.proofs.resolving.push_columns.Given as goal

abbrev pub invariant-loop-column : goal.invariant-loop-column
invariant-loop-column l = l.scope ≡ l.initial.scope ++ columns_here l.table l.call (take l.column-index l.columns)
