use Rattle.std.proofs.Common.{◌≡◌, map, take}
use Rattle.query_plan.specs.Resolving.{item_name}
use Rattle.query_plan.proofs.resolving.listed_names.Given as goal

abbrev pub invariant-loop-item : goal.invariant-loop-item
invariant-loop-item l = l.names ≡ map item_name (take l.item-index l.items)
