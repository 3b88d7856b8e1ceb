use Rattle.std.proofs.Common.{◌≤◌, ◌+◌, ◌-◌, ◌∙◌, List, ℕ, take, drop, sym, subst, arith}
use Rattle.std.specs.Io.KnownBytes.{Appends}
use Rattle.std.proofs.KnownBytes.{Appends-trans}
use Rattle.std.proofs.lemmas.List.{length-drop}
use Rattle.std.proofs.lemmas.Result.{err_from_is_err_and}
use Rattle.sessions.specs.AnswerTexts.{rows_text}
use Rattle.sessions.specs.Transfers.{WroteFront, ExplainsOutput}
use Rattle.sessions.specs.World.{seen_sink}
use Rattle.sessions.proofs.CsvLemmas.{rows-upto, rows-split, rows-parts}
use Rattle.sessions.proofs.RunLemmas.{explains-longer, explains-after, front-whole}
use Rattle.sessions.proofs.answer.write_rows.Goals as goal

pub returns-in_err-piece-clause-err : goal.returns-in_err-piece-clause-err
returns-in_err-piece-clause-err g c =
    let rows = c.args.rows.now in
    let at = c.loop-at.at in
    let p = err_from_is_err_and c.from_residual.result c.from_residual.ensures.1 in
    rw (p.1, p.2) (subst (WroteFront _ _) (sym (rows-split rows at)) (front-whole _ _ (rows_text (take at rows)) (rows_text (drop at rows)) c.loop-at.invariant.wrote))

pub returns-in_err-write_text-clause-err : goal.returns-in_err-write_text-clause-err
returns-in_err-write_text-clause-err g c =
    let rows = c.args.rows.now in
    let at = c.loop-at.at in
    let next = at + c.piece_len-count.result in
    let up : at ≤ next = omega arith in
    let old = seen_sink g.O.Sink c.args.out.now in
    let mid = seen_sink g.O.Sink c.loop-at.out in
    let new = seen_sink g.O.Sink c.write_text.new.out in
    let f = c.in_err-write_text.field-0.0 in
    let p = err_from_is_err_and c.from_residual-in_err-write_text.result c.from_residual-in_err-write_text.ensures.1 in
    let piece = subst (λ (t : List ℕ). ExplainsOutput mid new t f) (c.deref.ensures.value ∙ c.in_ok-piece.ensures) c.in_err-write_text.ensures.err in
    rw (p.1, p.2) (subst (λ (t : List ℕ). ExplainsOutput old new t f) (sym (rows-parts rows at next up))
    (explains-after old mid new (rows_text (take at rows)) _ f c.loop-at.invariant.later c.loop-at.invariant.wrote
    (explains-longer mid new (rows_text (take (next - at) (drop at rows))) (rows_text (drop next rows)) f piece)))

pub loop-at-preserved : goal.loop-at-preserved
loop-at-preserved g c =
    let rows = c.args.rows.now in
    let at = c.loop-at.at in
    let next = at + c.piece_len-count.result in
    let up : at ≤ next = omega arith in
    let a = g.O.Sink.written c.args.out.now in
    let b = g.O.Sink.written c.loop-at.out in
    let d = g.O.Sink.written c.write_text.new.out in
    let piece = subst (Appends b d) (c.deref.ensures.value ∙ c.in_ok-piece.ensures) c.in_ok-write_text.ensures.whole in
    record {
      within = omega (arith, c.piece_len-count.ensures.within, length-drop at rows, c.loop-at.invariant.within);
      wrote = subst (Appends a d) (sym (rows-upto rows at next up)) (Appends-trans a b d (rows_text (take at rows)) (rows_text (take (next - at) (drop at rows))) c.loop-at.invariant.wrote piece);
      later = omega (arith, c.loop-at.invariant.later, c.in_ok-write_text.ensures.later);
    }
