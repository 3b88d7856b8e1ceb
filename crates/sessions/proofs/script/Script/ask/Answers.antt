use Rattle.std.proofs.Common.{refl}
use Rattle.std.proofs.lemmas.Result.{IfOk-weaker}
use Rattle.std.specs.Prelude.{string_bytes}
use Rattle.rm_base.specs.declared.event.Event.TheVariants as event
use Rattle.rm_rules.specs.Step.{step}
use Rattle.sessions.specs.Commands as request
use Rattle.sessions.specs.Texts.{queued_text}
use Rattle.sessions.proofs.PrintLemmas.{queued-shown}
use Rattle.sessions.proofs.TurnLemmas.{does-request}
use Rattle.sessions.proofs.script.Script.ask.Goals as goal

pub returns : goal.returns
returns c =
    let s = c.args.self.now in
    let n = c.number_at-number.result in
    let e = event.Submit n c.args.floor in
    let o = step s.machine 0 s.moment e in
    IfOk-weaker c.queued_text.result _ _
    (λ text is. does-request s c.submit-reply.new.self c.args.session n (request.Ask c.args.floor) e (queued_text c.args.session) c.submit-reply.result (string_bytes text) c.number_at-number.ensures refl
    c.submit-reply.ensures.state (queued-shown c.args.session c.submit-reply.result o.reply c.submit-reply.ensures.reply) is)
    c.queued_text.ensures
