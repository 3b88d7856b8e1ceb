use Rattle.std.proofs.lemmas.Result.{IfOk-weaker}
use Rattle.std.specs.Prelude.{string_bytes}
use Rattle.rm_base.specs.declared.event.Event.TheVariants as event
use Rattle.sessions.specs.Texts.{queued_text}
use Rattle.sessions.specs.Turns.{after_poll}
use Rattle.sessions.proofs.PrintLemmas.{queued-shown, poll-shown}
use Rattle.sessions.proofs.TurnLemmas.{made-turn}
use Rattle.sessions.proofs.script.Script.way.Goals as goal

pub returns : goal.returns
returns c =
    let s = c.args.self.now in
    let n = c.args.number in
    let u = c.give_way-reply.new.self in
    IfOk-weaker c.queued_text.result _ _
    (λ text is. made-turn s u c.forget_ended.new.self (event.GiveWay n) c.give_way-reply.result (queued_text c.args.session) (λ v r. after_poll v n r) (string_bytes text) c.give_way-reply.ensures
    (queued-shown c.args.session) (λ v. poll-shown v n) c.forget_ended.ensures is)
    c.queued_text.ensures
