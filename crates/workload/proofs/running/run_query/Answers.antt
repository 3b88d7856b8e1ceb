use Rattle.workload.proofs.RunLemmas.{plan-runs}
use Rattle.workload.proofs.running.run_query.Goals as goal

pub run_counted-fits-requires-clause-planned : goal.run_counted-fits-requires-clause-planned
run_counted-fits-requires-clause-planned g c =
    plan-runs c.args.options.now.rows c.args.options.now.seed c.args.query c.plan-plan.result.now c.args.work.now.tables c.plan-plan.ensures c.requires.tables
