use Rattle.std.proofs.Common.{sym, subst}
use Rattle.sessions.specs.Plans.{AreRunnable}
use Rattle.sessions.proofs.PlanLemmas.{run-without}
use Rattle.sessions.proofs.script.Script.forget_released.Goals as goal

pub invariant_of-self : goal.invariant_of-self
invariant_of-self c = record {
  held = c.self.invariant.held;
  plans = subst (AreRunnable c.self.inside.tables) (sym c.forget.ensures) (run-without c.self.inside.tables c.args.number c.self.inside.plans c.self.invariant.plans);
}
