use Rattle.std.proofs.Common.{◌++◌, ◌∙◌, List, ℕ, refl, ap, subst, arith}
use Rattle.std.proofs.KnownBytes.{Appends-trans, Keeps-refl}
use Rattle.std.proofs.lemmas.Result.{err_from_is_err_and}
use Rattle.rm_base.specs.declared.reply.Reply.TheVariants as reply
use Rattle.rm_base.specs.declared.select.Select.{Select}
use Rattle.sessions.specs.AnswerTexts.{rows_text}
use Rattle.sessions.specs.Answered.{rows_in}
use Rattle.sessions.specs.Texts.{line_text}
use Rattle.sessions.specs.Transfers.{ExplainsOutput}
use Rattle.sessions.specs.World.{seen_sink}
use Rattle.sessions.proofs.AnswerLemmas.{answer-parts}
use Rattle.sessions.proofs.RunLemmas.{explains-longer, explains-after, wrote_nothing, if_err-weaker}
use Rattle.sessions.proofs.answer.write_outcome.Goals as goal

pub returns-in_err-head-clause-err : goal.returns-in_err-head-clause-err
returns-in_err-head-clause-err g c =
    let p = err_from_is_err_and c.from_residual.result c.from_residual.ensures.1 in
    rw (p.1, p.2) (wrote_nothing _ _ _ (Keeps-refl _))

pub returns-in_err-write_text-clause-err : goal.returns-in_err-write_text-clause-err
returns-in_err-write_text-clause-err g c =
    let a = c.args.answer.now in
    let head = c.deref.result.now in
    let rows = rows_text (rows_in a.ran) in
    let line = line_text a.session (reply.Released a.released) in
    let names = c.as_slice-names.ensures ∙ ap (λ (s : Select). s.names) c.select.ensures in
    let old = seen_sink g.O.Sink c.args.out.now in
    let new = seen_sink g.O.Sink c.write_text.new.out in
    let f = c.in_err-write_text.field-0.0 in
    let p = err_from_is_err_and c.from_residual-in_err-write_text.result c.from_residual-in_err-write_text.ensures.1 in
    rw (p.1, p.2) (subst (λ (t : List ℕ). ExplainsOutput old new t f) (answer-parts a head rows line c.as_slice-names.result.now (c.deref.ensures.value ∙ c.in_ok-head.ensures) refl refl names)
    (explains-longer old new (head ++ rows) line f (explains-longer old new head rows f c.in_err-write_text.ensures.err)))

pub returns-in_err-write_rows-clause-err : goal.returns-in_err-write_rows-clause-err
returns-in_err-write_rows-clause-err g c =
    let a = c.args.answer.now in
    let head = c.deref.result.now in
    let rows = rows_text c.rows_in.result.now in
    let line = line_text a.session (reply.Released a.released) in
    let names = c.as_slice-names.ensures ∙ ap (λ (s : Select). s.names) c.select.ensures in
    let old = seen_sink g.O.Sink c.args.out.now in
    let mid = seen_sink g.O.Sink c.write_text.new.out in
    let new = seen_sink g.O.Sink c.write_rows.new.out in
    let f = c.in_err-write_rows.field-0.0 in
    let p = err_from_is_err_and c.from_residual-in_err-write_rows.result c.from_residual-in_err-write_rows.ensures.1 in
    rw (p.1, p.2) (subst (λ (t : List ℕ). ExplainsOutput old new t f) (answer-parts a head rows line c.as_slice-names.result.now (c.deref.ensures.value ∙ c.in_ok-head.ensures) (ap rows_text c.rows_in.ensures) refl names)
    (explains-longer old new (head ++ rows) line f
    (explains-after old mid new head rows f c.in_ok-write_text.ensures.later c.in_ok-write_text.ensures.whole c.in_err-write_rows.ensures.err)))

pub returns-clause-err : goal.returns-clause-err
returns-clause-err g c =
    let a = c.args.answer.now in
    let head = c.deref.result.now in
    let rows = rows_text c.rows_in.result.now in
    let line = c.as_bytes.result.now in
    let names = c.as_slice-names.ensures ∙ ap (λ (s : Select). s.names) c.select.ensures in
    let old = seen_sink g.O.Sink c.args.out.now in
    let mid = seen_sink g.O.Sink c.write_text.new.out in
    let last = seen_sink g.O.Sink c.write_rows.new.out in
    let new = seen_sink g.O.Sink c.write_text-2.new.out in
    if_err-weaker c.write_text-2.result _ _
    (λ f err. subst (λ (t : List ℕ). ExplainsOutput old new t f)
    (answer-parts a head rows line c.as_slice-names.result.now (c.deref.ensures.value ∙ c.in_ok-head.ensures) (ap rows_text c.rows_in.ensures) (c.as_bytes.ensures.value ∙ c.in_ok-released.ensures) names)
    (explains-after old last new (head ++ rows) line f (omega (arith, c.in_ok-write_text.ensures.later, c.in_ok-write_rows.ensures.later))
    (Appends-trans old.told mid.told last.told head rows c.in_ok-write_text.ensures.whole c.in_ok-write_rows.ensures.whole) err))
    c.write_text-2.ensures.err
