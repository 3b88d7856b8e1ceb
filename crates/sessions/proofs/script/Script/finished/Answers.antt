use Rattle.std.proofs.Common.{sym, ◌∙◌, subst}
use Rattle.sessions.specs.Plans.{AreRunnable}
use Rattle.sessions.proofs.PlanLemmas.{kept-runs, run-without}
use Rattle.sessions.proofs.script.Script.finished.Goals as goal

pub run_plan-requires : goal.run_plan-requires
run_plan-requires g c =
    kept-runs c.self.inside.tables c.args.number c.in-Some.plan c.self.inside.plans c.self.invariant.plans (sym c.take.ensures.plan ∙ c.in-Some.is)

pub invariant_of-self : goal.invariant_of-self
invariant_of-self g c = record {
  held = c.self.invariant.held;
  plans = subst (AreRunnable c.self.inside.tables) (sym c.take.ensures.left) (run-without c.self.inside.tables c.args.number c.self.inside.plans c.self.invariant.plans);
}

pub invariant_of-self-in_default-take : goal.invariant_of-self-in_default-take
invariant_of-self-in_default-take g c = record {
  held = c.self.invariant.held;
  plans = subst (AreRunnable c.self.inside.tables) (sym c.take.ensures.left) (run-without c.self.inside.tables c.args.number c.self.inside.plans c.self.invariant.plans);
}

pub invariant_of-self-in_err-ran : goal.invariant_of-self-in_err-ran
invariant_of-self-in_err-ran g c = record {
  held = c.self.invariant.held;
  plans = subst (AreRunnable c.self.inside.tables) (sym c.take.ensures.left) (run-without c.self.inside.tables c.args.number c.self.inside.plans c.self.invariant.plans);
}

pub invariant_of-self-2 : goal.invariant_of-self-2
invariant_of-self-2 g c = record {
  held = c.self.invariant.held;
  plans = subst (AreRunnable c.self.inside.tables) (sym c.take.ensures.left) (run-without c.self.inside.tables c.args.number c.self.inside.plans c.self.invariant.plans);
}
