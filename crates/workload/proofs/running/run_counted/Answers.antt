use Rattle.std.proofs.Common.{arith, length, ap, ◌≡◌}
use Rattle.query_run.specs.Running.{tables_called}
use Rattle.workload.proofs.AnswerSizes.{few_rows}
use Rattle.workload.proofs.running.run_counted.Goals as goal

pub complete-requires-clause-small : goal.complete-requires-clause-small
complete-requires-clause-small g c =
    omega (arith, ap length c.as_slice.ensures, few_rows c.args.grant c.args.plan.now (tables_called c.args.tables.now c.args.plan.now.tables) c.in-Answer.rows c.in-Answer.ensures.outcome)
