use Rattle.std.proofs.Common.{◌≡◌, ◌≤◌, drop, length}
use Rattle.rm_base.specs.Values.{row_cmp}
use Rattle.rm_rules.specs.Meaning.{shown}
use Rattle.tuples.specs.Tuple.{tuple_values}
use Rattle.grouping.proofs.order.shown_row_cmp.Given as goal

abbrev pub invariant-loop-place : goal.invariant-loop-place
invariant-loop-place l =
    (row_cmp (shown (drop l.place l.items) (tuple_values l.tuple)) (drop l.place l.values) ≡ row_cmp (shown l.items (tuple_values l.tuple)) l.values)
    × (l.place ≤ length l.values)
