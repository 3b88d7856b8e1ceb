use Rattle.std.proofs.Common.{◌≡◌, take}
use Rattle.rm_rules.specs.Comparing.{columns}
use Rattle.tuples.specs.Tuple.{tuple_values}
use Rattle.grouping.proofs.keys.key_of.Given as goal

abbrev pub invariant-loop-column : goal.invariant-loop-column
invariant-loop-column l = l.values.items ≡ columns (take l.column-index l.keys) (tuple_values l.tuple)
