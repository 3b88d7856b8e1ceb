use Rattle.query_plan.specs.Resolving.{each, condition_of}
use Rattle.query_plan.proofs.Eaches.{each-goes}
use Rattle.query_plan.proofs.resolving.tests_of.Goals as goal

pub loop-condition-preserved : goal.loop-condition-preserved
loop-condition-preserved c =
    let f = condition_of c.args.tables.now c.args.scope.now in
    each-goes f c.loop-condition.out c.args.conditions.now c.loop-condition.condition-index c.condition-item.result c.in-Ok.test c.push.new.self (each f c.args.conditions.now)
    c.loop-condition-test.true c.condition-item.is c.in-Ok.ensures c.in_ok-push-in-Ok.ensures.ok c.loop-condition.invariant
