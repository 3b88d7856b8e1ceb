use Rattle.std.proofs.Common.{◌≡◌, ◌-◌, ◌^◌, min, take}
use Rattle.rm_base.specs.Values.{row_measure}
use Rattle.rm_rules.specs.Meaning.{shown}
use Rattle.tuples.specs.Tuple.{tuple_values}
use Rattle.tuples.proofs.showing.shown_measure.Given as goal

abbrev pub invariant-loop-item : goal.invariant-loop-item
invariant-loop-item l = l.sum ≡ min (row_measure (shown (take l.item-index l.items) (tuple_values l.tuple))) (2 ^ 64 - 1)
