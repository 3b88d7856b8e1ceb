use Rattle.std.proofs.Common.{refl}
use Rattle.std.proofs.lemmas.Result.{IfOk-weaker}
use Rattle.std.specs.Prelude.{string_bytes}
use Rattle.rm_base.specs.declared.event.Event.TheVariants as event
use Rattle.rm_rules.specs.Step.{step}
use Rattle.sessions.specs.Commands as request
use Rattle.sessions.specs.Texts.{line_text}
use Rattle.sessions.proofs.PrintLemmas.{line-shown}
use Rattle.sessions.proofs.TurnLemmas.{does-request}
use Rattle.sessions.proofs.script.Script.check.Goals as goal

pub returns : goal.returns
returns c =
    let s = c.args.self.now in
    let n = c.number_at-number.result in
    let e = event.Check n in
    let o = step s.machine 0 s.moment e in
    IfOk-weaker c.line_text.result _ _
    (λ text is. does-request s c.check_query-reply.new.self c.args.session n request.Check e (line_text c.args.session) c.check_query-reply.result (string_bytes text) c.number_at-number.ensures refl
    c.check_query-reply.ensures.state (line-shown c.args.session c.check_query-reply.result o.reply c.check_query-reply.ensures.reply) is)
    c.line_text.ensures
