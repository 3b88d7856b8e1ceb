use Rattle.std.proofs.Common.{rules, is_lt}
use Rattle.std.proofs.lemmas.List.Sorted.{ranks_by}
use Rattle.std.proofs.lemmas.Fn.{always_returns_same}
use Rattle.rm_rules.specs.Ordering.{order_cmp}
use Rattle.rm_rules.proofs.OrderLaws.{order_total, in_order_is}
use Rattle.grouping.proofs.order.sort_rows.Goals as goal

pub returns : goal.returns
returns c =
    in_order_is c.args.keys.now c.args.rows.now c.sort_unstable_by.new.self c.sort_unstable_by.ensures.permutation
    (c.sort_unstable_by.ensures.sorted (λ x y. is_lt (order_cmp c.args.keys.now x y)) (ranks_by (order_total c.args.keys.now) (λ x. x)) (always_returns_same _ _ _ (λ a r g h. (search rules, search rules))))
