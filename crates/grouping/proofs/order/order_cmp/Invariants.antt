use Rattle.std.proofs.Common.{◌≡◌, drop}
use Rattle.rm_rules.specs.Ordering.{order_cmp}
use Rattle.grouping.proofs.order.order_cmp.Given as goal

abbrev pub invariant-loop-key : goal.invariant-loop-key
invariant-loop-key l = order_cmp (drop l.key-index l.keys) l.a l.b ≡ order_cmp l.keys l.a l.b
