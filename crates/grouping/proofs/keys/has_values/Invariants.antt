use Rattle.std.proofs.Common.{◌≡◌, drop}
use Rattle.rm_base.specs.Values.{same_row}
use Rattle.rm_rules.specs.Comparing.{columns}
use Rattle.tuples.specs.Tuple.{tuple_values}
use Rattle.grouping.proofs.keys.has_values.Given as goal

abbrev pub invariant-loop-place : goal.invariant-loop-place
invariant-loop-place l =
    same_row (columns (drop l.place l.keys) (tuple_values l.tuple)) (drop l.place l.values) ≡ same_row (columns l.keys (tuple_values l.tuple)) l.values
