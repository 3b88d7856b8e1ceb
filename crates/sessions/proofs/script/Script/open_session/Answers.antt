use Rattle.std.proofs.Common.{false, List, [], ◌∷◌, ◌++◌, None, refl, ap, sym, ◌∙◌, subst}
use Rattle.rm_base.specs.declared.event.Event.TheVariants as event
use Rattle.rm_base.specs.declared.reply.Reply.TheVariants as reply
use Rattle.rm_rules.specs.Step.{step}
use Rattle.sessions.specs.declared.held.Held.{Held}
use Rattle.sessions.specs.Held.{AreHeld, named_session, held_names}
use Rattle.sessions.specs.SessionNames.{NamedSession}
use Rattle.sessions.specs.Host.{state_of, desk_known}
use Rattle.sessions.specs.Turns.{ScriptState, with_name}
use Rattle.sessions.proofs.HeldLaws.{all-go_on}
use Rattle.sessions.proofs.FreshLaws.{opened-held}
use Rattle.sessions.proofs.TurnLemmas.{stepped-state, stepped-reply, names-more}
use Rattle.sessions.proofs.script.Script.open_session.Goals as goal

pub invariant_of-self : goal.invariant_of-self
invariant_of-self c =
    let call = c.in-Ok.ensures.call in
    record {
      plans = c.self.invariant.plans;
      held = subst (AreHeld (desk_known c.open.new.host)) (sym c.in_err-push-in-Ok.ensures.items)
          (all-go_on (desk_known c.self.inside.desk) (desk_known c.open.new.host) c.self.inside.moment (event.Open c.args.user) call.0 c.self.inside.held.items call.1 tt refl c.self.invariant.held);
    }

pub invariant_of-self-in-Ok : goal.invariant_of-self-in-Ok
invariant_of-self-in-Ok c =
    let call = c.in-Ok.ensures.call in
    let old = desk_known c.self.inside.desk in
    let new = desk_known c.open.new.host in
    let number = c.in-Ok.opened.number in
    let g : Held = record { name = c.args.session; session = c.in-Ok.opened; grant = None; leaving = false } in
    record {
      plans = c.self.invariant.plans;
      held = subst (AreHeld new) (sym c.in_ok-push-in-Ok.ensures.items)
          (opened-held old new c.self.inside.moment c.args.user call.0 c.self.inside.held.items g call.1 call.2 c.in-Ok.ensures.open c.in-Ok.ensures.free refl refl c.self.invariant.held);
    }

pub invariant_of-self-in-Err : goal.invariant_of-self-in-Err
invariant_of-self-in-Err c =
    let call = c.in-Err.ensures.call in
    record { plans = c.self.invariant.plans; held = all-go_on (desk_known c.self.inside.desk) (desk_known c.open.new.host) c.self.inside.moment (event.Open c.args.user) call.0 c.self.inside.held.items call.1 tt refl c.self.invariant.held }

pub returns-in_ok-push-in-Ok-clause-reply : goal.returns-in_ok-push-in-Ok-clause-reply
returns-in_ok-push-in-Ok-clause-reply c =
    let call = c.in-Ok.ensures.call in
    ap reply.Opened c.number-number.ensures ∙ sym call.2
    ∙ stepped-reply c.self.inside.desk c.open.new.host c.self.inside.held.items c.self.inside.plans c.self.inside.tables c.self.inside.moment c.args.self.now (event.Open c.args.user) call.0 c.self.view_is call.1

pub returns-in_ok-push-in-Ok-clause-state : goal.returns-in_ok-push-in-Ok-clause-state
returns-in_ok-push-in-Ok-clause-state c =
    let call = c.in-Ok.ensures.call in
    let hs = c.self.inside.held.items in
    let g : Held = record { name = c.args.session; session = c.in-Ok.opened; grant = None; leaving = false } in
    let at = c.self.inside.moment in
    let more : (l : List NamedSession) → ScriptState → ScriptState = λ l t. record t { names = t.names ++ l } in
    ap (λ (l : List NamedSession). let t : ScriptState = record { machine = state_of (desk_known c.open.new.host); names = l; plans = c.self.inside.plans; tables = c.self.inside.tables; moment = at } in t)
    (ap held_names c.in_ok-push-in-Ok.ensures.items ∙ names-more hs g)
    ∙ ap (more (named_session g ∷ [])) (stepped-state c.self.inside.desk c.open.new.host hs hs c.self.inside.plans c.self.inside.tables at c.args.self.now (event.Open c.args.user) call.0 c.self.view_is call.1 refl)
    ∙ ap (λ n. with_name (let t : ScriptState = record c.args.self.now { machine = (step c.args.self.now.machine 0 c.args.self.now.moment (event.Open c.args.user)).state } in t) c.args.session n)
    (sym c.number-number.ensures)

pub returns-in-Err-clause-reply : goal.returns-in-Err-clause-reply
returns-in-Err-clause-reply c =
    let call = c.in-Err.ensures.call in
    sym call.2 ∙ stepped-reply c.self.inside.desk c.open.new.host c.self.inside.held.items c.self.inside.plans c.self.inside.tables c.self.inside.moment c.args.self.now (event.Open c.args.user) call.0 c.self.view_is call.1

pub returns-in-Err-clause-state : goal.returns-in-Err-clause-state
returns-in-Err-clause-state c =
    let call = c.in-Err.ensures.call in
    stepped-state c.self.inside.desk c.open.new.host c.self.inside.held.items c.self.inside.held.items c.self.inside.plans c.self.inside.tables c.self.inside.moment c.args.self.now (event.Open c.args.user) call.0 c.self.view_is call.1 refl
