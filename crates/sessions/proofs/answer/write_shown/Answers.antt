use Rattle.std.proofs.Common.{◌++◌, List, ℕ, subst}
use Rattle.std.proofs.lemmas.Result.{err_from_is_err_and}
use Rattle.sessions.specs.AnswerTexts.{shown_text}
use Rattle.sessions.specs.Transfers.{ExplainsOutput}
use Rattle.sessions.specs.World.{seen_sink}
use Rattle.sessions.proofs.RunLemmas.{explains-longer, explains-after, if_err-weaker}
use Rattle.sessions.proofs.answer.write_shown.Goals as goal

pub returns-in_err-write_text-clause-err : goal.returns-in_err-write_text-clause-err
returns-in_err-write_text-clause-err g c =
    let rest = shown_text c.args.table.now in
    let old = seen_sink g.O.Sink c.args.out.now in
    let new = seen_sink g.O.Sink c.write_text.new.out in
    let f = c.in_err-write_text.field-0.0 in
    let p = err_from_is_err_and c.from_residual.result c.from_residual.ensures.1 in
    rw (p.1, p.2) (subst (λ (t : List ℕ). ExplainsOutput old new (t ++ rest) f) c.as_bytes.ensures.value
    (explains-longer old new c.as_bytes.result.now rest f c.in_err-write_text.ensures.err))

pub returns-clause-err : goal.returns-clause-err
returns-clause-err g c =
    let rest = shown_text c.args.table.now in
    let old = seen_sink g.O.Sink c.args.out.now in
    let mid = seen_sink g.O.Sink c.write_text.new.out in
    let new = seen_sink g.O.Sink c.write_table.new.out in
    if_err-weaker c.write_table.result _ _
    (λ f err. subst (λ (t : List ℕ). ExplainsOutput old new (t ++ rest) f) c.as_bytes.ensures.value
    (explains-after old mid new c.as_bytes.result.now rest f c.in_ok-write_text.ensures.later c.in_ok-write_text.ensures.whole err))
    c.write_table.ensures.err
