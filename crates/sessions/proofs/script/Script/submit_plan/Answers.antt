use Rattle.std.proofs.Common.{ℕ, subst}
use Rattle.rm_base.specs.declared.event.Event.TheVariants as event
use Rattle.std.specs.Prelude.{string_bytes}
use Rattle.sessions.specs.Running.{Makes}
use Rattle.sessions.proofs.TurnLemmas.{submitted-turn}
use Rattle.sessions.proofs.script.Script.submit_plan.Goals as goal

pub returns : goal.returns
returns c =
    let s = c.args.self.now in
    let u = c.submit-reply.new.self in
    let r = c.submit-reply.result in
    submitted-turn s u c.keep_plan.new.self c.args.session c.args.number c.args.plan r (string_bytes c.in_ok-queued_text.field-0)
    (subst (λ (n : ℕ). Makes s u (event.Submit c.args.number n) r) c.floor.ensures c.submit-reply.ensures) c.in_ok-keep_plan.ensures c.in_ok-queued_text.ensures
