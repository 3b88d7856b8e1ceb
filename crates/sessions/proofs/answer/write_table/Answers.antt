use Rattle.std.proofs.Common.{◌++◌, ◌∙◌, List, ℕ, ap, subst}
use Rattle.std.proofs.KnownBytes.{Keeps-refl}
use Rattle.std.proofs.lemmas.Result.{err_from_is_err_and}
use Rattle.csv.specs.Writing.{row_text, default_writer}
use Rattle.rm_base.specs.declared.value.Value.{Value}
use Rattle.sessions.specs.AnswerTexts.{rows_text}
use Rattle.sessions.specs.Transfers.{ExplainsOutput}
use Rattle.sessions.specs.World.{seen_sink}
use Rattle.sessions.proofs.RunLemmas.{explains-longer, explains-after, wrote_nothing, if_err-weaker}
use Rattle.sessions.proofs.answer.write_table.Goals as goal

pub returns-in_err-head-clause-err : goal.returns-in_err-head-clause-err
returns-in_err-head-clause-err g c =
    let p = err_from_is_err_and c.from_residual.result c.from_residual.ensures.1 in
    rw (p.1, p.2) (wrote_nothing _ _ _ (Keeps-refl _))

pub returns-in_err-write_text-clause-err : goal.returns-in_err-write_text-clause-err
returns-in_err-write_text-clause-err g c =
    let head = c.deref.result.now in
    let rows = rows_text c.args.table.now.rows in
    let old = seen_sink g.O.Sink c.args.out.now in
    let new = seen_sink g.O.Sink c.write_text.new.out in
    let f = c.in_err-write_text.field-0.0 in
    let is = c.deref.ensures.value ∙ c.in_ok-head.ensures ∙ ap (row_text default_writer) c.as_slice.ensures in
    let p = err_from_is_err_and c.from_residual-in_err-write_text.result c.from_residual-in_err-write_text.ensures.1 in
    rw (p.1, p.2) (subst (λ (t : List ℕ). ExplainsOutput old new (t ++ rows) f) is (explains-longer old new head rows f c.in_err-write_text.ensures.err))

pub returns-clause-err : goal.returns-clause-err
returns-clause-err g c =
    let head = c.deref.result.now in
    let rows = rows_text c.args.table.now.rows in
    let old = seen_sink g.O.Sink c.args.out.now in
    let mid = seen_sink g.O.Sink c.write_text.new.out in
    let new = seen_sink g.O.Sink c.write_rows.new.out in
    let is = c.deref.ensures.value ∙ c.in_ok-head.ensures ∙ ap (row_text default_writer) c.as_slice.ensures in
    if_err-weaker c.write_rows.result _ _
    (λ f err. subst (λ (t : List ℕ). ExplainsOutput old new (t ++ rows) f) is
    (explains-after old mid new head rows f c.in_ok-write_text.ensures.later c.in_ok-write_text.ensures.whole
    (subst (λ (vs : List (List Value)). ExplainsOutput mid new (rows_text vs) f) c.as_slice-2.ensures err)))
    c.write_rows.ensures.err
