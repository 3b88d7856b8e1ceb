use Rattle.std.proofs.Common.{◌++◌, ap, ◌∙◌, arith}
use Rattle.rm_rules.specs.Ordering.{in_order}
use Rattle.grouping.proofs.Least.{front_most, front_up, pruned}
use Rattle.grouping.proofs.batch.prune.Goals as goal

pub returns-then-len-limit-clause-rows : goal.returns-then-len-limit-clause-rows
returns-then-len-limit-clause-rows c = λ more.
    ap (λ rows. in_order c.args.order.now (rows ++ more)) c.put_in_order.ensures
    ∙ pruned c.args.order.now c.in-Some.limit c.args.rows.now.items more c.in-Some.is

pub returns-then-len-limit-clause-front : goal.returns-then-len-limit-clause-front
returns-then-len-limit-clause-front c _ =
    front_up c.args.order.now c.args.rows.now.items c.put_in_order.new.rows.items c.in-Some.limit c.put_in_order.ensures c.in-Some.is

pub returns-then-len-limit-clause-most : goal.returns-then-len-limit-clause-most
returns-then-len-limit-clause-most c _ =
    front_most c.args.order.now c.args.rows.now.items c.put_in_order.new.rows.items c.in-Some.limit c.put_in_order.ensures c.in-Some.is (omega arith)
