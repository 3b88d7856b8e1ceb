use Rattle.std.proofs.Common.{◌≡◌, take}
use Rattle.rm_rules.specs.Meaning.{shown}
use Rattle.tuples.specs.Tuple.{tuple_values}
use Rattle.tuples.proofs.showing.shown.Given as goal

abbrev pub invariant-loop-item : goal.invariant-loop-item
invariant-loop-item l = l.values.items ≡ shown (take l.item-index l.items) (tuple_values l.tuple)
