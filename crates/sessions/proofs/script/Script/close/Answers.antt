use Rattle.std.proofs.Common.{List, remove, ap, sym, ◌∙◌, subst}
use Rattle.std.proofs.lemmas.Result.{IfOk-weaker}
use Rattle.std.specs.Prelude.{string_bytes}
use Rattle.rm_base.specs.declared.event.Event.TheVariants as event
use Rattle.sessions.specs.declared.held.Held.{Held}
use Rattle.sessions.specs.declared.plans.KeptPlan.{KeptPlan}
use Rattle.sessions.specs.Plans.{AreRunnable, without_plan}
use Rattle.sessions.proofs.PlanLemmas.{run-without}
use Rattle.sessions.specs.Commands.{Close}
use Rattle.sessions.specs.Held.{AreHeld}
use Rattle.sessions.specs.Host.{desk_known}
use Rattle.sessions.specs.Running.{DoesRequest}
use Rattle.sessions.specs.Turns.{ScriptState}
use Rattle.sessions.proofs.HeldLaws.{found-at, held-at, placed-held, removed-held, close-ends}
use Rattle.sessions.proofs.TurnLemmas.{state_with, insert-removed, closed-gone, closed-not}
use Rattle.sessions.proofs.script.Script.close.Goals as goal

pub close-requires : goal.close-requires
close-requires c =
    let hs = c.self.inside.held.items in
    let x = c.remove-held.result in
    let there = found-at hs c.args.self.now.names c.args.session c.args.place x (ap (λ (s : ScriptState). s.names) c.self.view_is) c.requires c.remove-held.ensures.value in
    held-at (desk_known c.self.inside.desk) hs c.args.place x there.within c.remove-held.ensures.value c.self.invariant.held

pub invariant_of-self : goal.invariant_of-self
invariant_of-self c =
    let hs = c.self.inside.held.items in
    let x = c.remove-held.result in
    let there = found-at hs c.args.self.now.names c.args.session c.args.place x (ap (λ (s : ScriptState). s.names) c.self.view_is) c.requires c.remove-held.ensures.value in
    let call = c.in-Ok.ensures.call in
    let new = desk_known c.close.new.desk in
    record {
      plans = subst (AreRunnable c.self.inside.tables) (sym c.forget.ensures) (run-without c.self.inside.tables c.number-number.result c.self.inside.plans c.self.invariant.plans);
      held = subst (AreHeld new) (sym c.remove-held.ensures.items)
          (removed-held (desk_known c.self.inside.desk) new c.self.inside.moment (event.Close x.session.number) call.0 hs c.args.place x there.within c.remove-held.ensures.value call.1 tt (close-ends x.session.number) c.self.invariant.held);
    }

pub invariant_of-self-in-Err : goal.invariant_of-self-in-Err
invariant_of-self-in-Err c =
    let hs = c.self.inside.held.items in
    let x = c.remove-held.result in
    let g = c.in-Err.held in
    let there = found-at hs c.args.self.now.names c.args.session c.args.place x (ap (λ (s : ScriptState). s.names) c.self.view_is) c.requires c.remove-held.ensures.value in
    let call = c.in-Err.ensures.call in
    let new = desk_known c.close.new.desk in
    record {
      plans = c.self.invariant.plans;
      held = subst (AreHeld new)
          (sym (c.in_ok-insert-in-Err.ensures.items ∙ insert-removed hs c.remove-held.new.self.items c.args.place g there.within c.remove-held.ensures.items))
          (placed-held (desk_known c.self.inside.desk) new c.self.inside.moment (event.Close x.session.number) call.0 hs c.args.place x g there.within c.remove-held.ensures.value call.1 tt (close-ends x.session.number) c.in-Err.ensures.named c.in-Err.ensures.held c.self.invariant.held);
    }

pub returns-in-Ok : goal.returns-in-Ok
returns-in-Ok c =
    let hs = c.self.inside.held.items in
    let x = c.remove-held.result in
    let s = c.args.self.now in
    let call = c.in-Ok.ensures.call in
    let at = c.self.inside.moment in
    let e = c.close.new.desk in
    IfOk-weaker c.line_text.result _ _
    (λ text is. subst (λ (l : List Held). DoesRequest s (state_with e l c.forget.new.self c.self.inside.tables at) c.args.session Close (string_bytes text)) (sym c.remove-held.ensures.items)
    (subst (λ (ks : List KeptPlan). DoesRequest s (state_with e (remove hs c.args.place) ks c.self.inside.tables at) c.args.session Close (string_bytes text)) (sym (c.forget.ensures ∙ ap (λ n. without_plan n c.self.inside.plans) c.number-number.ensures))
    (closed-gone c.self.inside.desk e hs c.self.inside.plans c.self.inside.tables at s c.args.session c.args.place x call.0 c.self.view_is c.requires c.remove-held.ensures.value call.1 call.2 (string_bytes text) is)))
    c.line_text.ensures

pub returns-in_ok-insert-in-Err : goal.returns-in_ok-insert-in-Err
returns-in_ok-insert-in-Err c =
    let hs = c.self.inside.held.items in
    let x = c.remove-held.result in
    let s = c.args.self.now in
    let there = found-at hs s.names c.args.session c.args.place x (ap (λ (t : ScriptState). t.names) c.self.view_is) c.requires c.remove-held.ensures.value in
    let g = c.in-Err.held in
    let call = c.in-Err.ensures.call in
    let at = c.self.inside.moment in
    let e = c.close.new.desk in
    IfOk-weaker c.line_text-in-Err.result _ _
    (λ text is. subst (λ (l : List Held). DoesRequest s (state_with e l c.self.inside.plans c.self.inside.tables at) c.args.session Close (string_bytes text))
    (sym (c.in_ok-insert-in-Err.ensures.items ∙ insert-removed hs c.remove-held.new.self.items c.args.place g there.within c.remove-held.ensures.items))
    (closed-not c.self.inside.desk e hs c.self.inside.plans c.self.inside.tables at s c.args.session c.args.place x g c.in-Err.refusal call.0 c.self.view_is c.requires c.remove-held.ensures.value c.in-Err.ensures.named call.1 call.2 (string_bytes text) is))
    c.line_text-in-Err.ensures
