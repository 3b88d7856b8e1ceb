use Rattle.std.proofs.Common.{◌≡◌, Bool, List, eqb, get_or, remove, ap, sym, ◌∙◌, subst}
use Rattle.std.specs.Prelude.{option_map}
use Rattle.sessions.specs.declared.plans.KeptPlan.{KeptPlan}
use Rattle.rm_rules.proofs.Places.{find-found, find-absent, without-found, without-absent}
use Rattle.sessions.proofs.plans.Plans.take.Goals as goal

pub returns-in-Some-clause-plan : goal.returns-in-Some-clause-plan
returns-in-Some-clause-plan c =
    let test : KeptPlan → Bool = λ k. eqb k.session c.args.session in
    let x = c.remove.result in
    let place = c.in-Some.place in
    let at = subst (λ (ks : List KeptPlan). x ≡ get_or ks place x) c.self.view_is c.remove.ensures.value in
    sym (ap (option_map (λ (k : KeptPlan). k.plan)) (find-found test c.args.self.now place x (sym c.place_of.ensures.place ∙ c.in-Some.is) at))

pub returns-in-Some-clause-left : goal.returns-in-Some-clause-left
returns-in-Some-clause-left c =
    let test : KeptPlan → Bool = λ k. eqb k.session c.args.session in
    let place = c.in-Some.place in
    c.remove.ensures.items ∙ ap (λ (ks : List KeptPlan). remove ks place) c.self.view_is
    ∙ sym (without-found test c.args.self.now place (sym c.place_of.ensures.place ∙ c.in-Some.is))

pub returns-in-None-clause-plan : goal.returns-in-None-clause-plan
returns-in-None-clause-plan c =
    let test : KeptPlan → Bool = λ k. eqb k.session c.args.session in
    sym (ap (option_map (λ (k : KeptPlan). k.plan)) (find-absent test c.args.self.now (sym c.place_of.ensures.place ∙ c.in-None.is)))

pub returns-in-None-clause-left : goal.returns-in-None-clause-left
returns-in-None-clause-left c =
    let test : KeptPlan → Bool = λ k. eqb k.session c.args.session in
    sym (without-absent test c.args.self.now (sym c.place_of.ensures.place ∙ c.in-None.is))
