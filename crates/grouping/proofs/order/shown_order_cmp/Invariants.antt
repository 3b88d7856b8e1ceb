use Rattle.std.proofs.Common.{◌≡◌, drop}
use Rattle.rm_rules.specs.Meaning.{shown}
use Rattle.rm_rules.specs.Ordering.{order_cmp}
use Rattle.tuples.specs.Tuple.{tuple_values}
use Rattle.grouping.proofs.order.shown_order_cmp.Given as goal

abbrev pub invariant-loop-key : goal.invariant-loop-key
invariant-loop-key l =
    order_cmp (drop l.key-index l.keys) (shown l.items (tuple_values l.tuple)) l.row ≡ order_cmp l.keys (shown l.items (tuple_values l.tuple)) l.row
