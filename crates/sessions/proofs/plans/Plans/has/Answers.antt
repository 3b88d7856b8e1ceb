use Rattle.std.proofs.Common.{List, eqb, ap, ◌∙◌}
use Rattle.std.specs.List.{list_any}
use Rattle.sessions.specs.declared.plans.KeptPlan.{KeptPlan}
use Rattle.sessions.proofs.PlanLemmas.{has-plan}
use Rattle.sessions.proofs.plans.Plans.has.Goals as goal

pub returns : goal.returns
returns c =
    c.has_plan.ensures ∙ ap (λ (ks : List KeptPlan). list_any (λ (k : KeptPlan). eqb k.session c.args.session) ks) (c.deref.ensures.value ∙ c.self.view_is)
    ∙ has-plan c.args.session c.args.self.now
