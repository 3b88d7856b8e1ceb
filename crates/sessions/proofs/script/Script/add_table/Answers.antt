use Rattle.sessions.proofs.PlanLemmas.{run-added}
use Rattle.sessions.proofs.script.Script.add_table.Goals as goal

pub invariant_of-self-in-Ok : goal.invariant_of-self-in-Ok
invariant_of-self-in-Ok c = record {
  held = c.self.invariant.held;
  plans = run-added c.self.inside.tables _ c.add.new.self c.self.inside.plans c.add.result c.add.ensures.ok c.add.ensures.err c.self.invariant.plans;
}
