use Rattle.std.proofs.lemmas.Result.{IfOk-weaker}
use Rattle.std.specs.Prelude.{string_bytes}
use Rattle.rm_base.specs.declared.event.Event.TheVariants as event
use Rattle.sessions.specs.Commands as request
use Rattle.sessions.specs.Texts.{line_text}
use Rattle.sessions.specs.Turns.{after_poll}
use Rattle.sessions.proofs.PrintLemmas.{line-shown, poll-shown}
use Rattle.sessions.proofs.TurnLemmas.{made-turn, requested}
use Rattle.sessions.proofs.script.Script.poll.Goals as goal

pub returns : goal.returns
returns c =
    let s = c.args.self.now in
    let n = c.number_at-number.result in
    let u = c.poll_query-reply.new.self in
    let t = c.forget_ended.new.self in
    IfOk-weaker c.line_text.result _ _
    (λ text is. requested s t c.args.session n request.Poll (string_bytes text) c.number_at-number.ensures
    (made-turn s u t (event.Poll n) c.poll_query-reply.result (line_text c.args.session) (λ v r. after_poll v n r) (string_bytes text) c.poll_query-reply.ensures
    (line-shown c.args.session) (λ v. poll-shown v n) c.forget_ended.ensures is))
    c.line_text.ensures
