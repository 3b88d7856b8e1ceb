use Rattle.std.proofs.Common.{◌≡◌, ◌-◌, ◌^◌, min, take}
use Rattle.grouping.specs.Gathering.{items_charge}
use Rattle.grouping.proofs.groups.items_charge.Given as goal

abbrev pub invariant-loop-item : goal.invariant-loop-item
invariant-loop-item l = l.charge ≡ min (items_charge (take l.item-index l.items)) (2 ^ 64 - 1)
