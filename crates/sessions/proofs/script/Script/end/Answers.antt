use Rattle.std.proofs.lemmas.Result.{IfOk-weaker}
use Rattle.std.specs.Prelude.{string_bytes}
use Rattle.rm_base.specs.declared.event.Event.TheVariants as event
use Rattle.sessions.specs.Texts.{line_text}
use Rattle.sessions.specs.Turns.{after_finish}
use Rattle.sessions.proofs.PrintLemmas.{line-shown, finish-shown}
use Rattle.sessions.proofs.TurnLemmas.{made-turn}
use Rattle.sessions.proofs.script.Script.end.Goals as goal

pub returns : goal.returns
returns c =
    let s = c.args.self.now in
    let n = c.args.number in
    let u = c.finish_query-reply.new.self in
    IfOk-weaker c.line_text.result _ _
    (λ text is. made-turn s u c.forget_released.new.self (event.Finish n) c.finish_query-reply.result (line_text c.args.session) (λ v r. after_finish v n r) (string_bytes text) c.finish_query-reply.ensures
    (line-shown c.args.session) (λ v. finish-shown v n) c.forget_released.ensures is)
    c.line_text.ensures
