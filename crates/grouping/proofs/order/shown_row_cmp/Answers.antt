use Rattle.std.proofs.Common.{◌∙◌, sym, arith}
use Rattle.tuples.specs.Tuple.{tuple_values}
use Rattle.grouping.proofs.OrderCases.{alike, longer, shorter}
use Rattle.grouping.proofs.order.shown_row_cmp.Goals as goal

pub returns-then-place-values : goal.returns-then-place-values
returns-then-place-values c =
    sym (longer (tuple_values c.args.tuple) c.args.items.now c.args.values.now c.loop-place.place c.loop-place-test.true c.if-place-values.true) ∙ c.loop-place.invariant.0

pub returns-then-items-values : goal.returns-then-items-values
returns-then-items-values c =
    sym (shorter (tuple_values c.args.tuple) c.args.items.now c.args.values.now c.loop-place.place (omega arith) (omega arith) (omega arith)) ∙ c.loop-place.invariant.0

pub returns-else-items-values : goal.returns-else-items-values
returns-else-items-values c =
    sym (alike (tuple_values c.args.tuple) c.args.items.now c.args.values.now c.loop-place.place (omega arith) (omega arith) (omega arith) (omega arith)) ∙ c.loop-place.invariant.0
