use Rattle.std.proofs.Common.{sym, subst, ap, ◌∙◌}
use Rattle.rm_rules.specs.State.{State}
use Rattle.rm_rules.specs.Step.{step}
use Rattle.machine.specs.Desk.{DeskState, IsLegalDesk}
use Rattle.machine.proofs.Keeping.{kept-step}
use Rattle.machine.proofs.desk.Desk.apply.Goals as goal

pub invariant_of-self : goal.invariant_of-self
invariant_of-self c =
    let after = kept-step (record { first = c.self.inside.first; state = c.self.inside.machine }) c.args.seat c.args.at c.args.event.now c.requires.formed c.self.invariant in
    subst (λ (s : State). IsLegalDesk (record { first = c.self.inside.first; state = s })) (sym c.apply.ensures.state) after

pub returns-clause-state : goal.returns-clause-state
returns-clause-state c =
    ap (λ (t : State). let d : DeskState = record { first = c.self.inside.first; state = t } in d) c.apply.ensures.state
    ∙ ap (λ (d : DeskState). let e : DeskState = record d { state = (step d.state c.args.seat c.args.at c.args.event.now).state } in e) c.self.view_is

pub returns-clause-reply : goal.returns-clause-reply
returns-clause-reply c = c.apply.ensures.reply ∙ ap (λ (d : DeskState). (step d.state c.args.seat c.args.at c.args.event.now).reply) c.self.view_is

pub returns-clause-entry : goal.returns-clause-entry
returns-clause-entry c = c.apply.ensures.entry ∙ ap (λ (d : DeskState). (step d.state c.args.seat c.args.at c.args.event.now).entry) c.self.view_is
