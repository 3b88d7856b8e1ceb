use Rattle.std.proofs.Common.{◌≡◌, map, take}
use Rattle.query_plan.specs.Resolving.{column_name}
use Rattle.query_plan.proofs.resolving.all_names.Given as goal

abbrev pub invariant-loop-here : goal.invariant-loop-here
invariant-loop-here l = l.names ≡ map column_name (take l.here-index l.scope)
