use Rattle.std.proofs.Common.{ℕ, ◌++◌, [], List, Vec, Global, Some, ap, ◌∙◌}
use Rattle.std.proofs.lemmas.List.{take_all}
use Rattle.rm_base.specs.declared.value.Value.{Value}
use Rattle.sessions.specs.AnswerTexts.{row_line, rows_text}
use Rattle.sessions.proofs.CsvLemmas.{not_err, rows-next}
use Rattle.sessions.proofs.csv_rows.rows_bytes.Goals as goal

pub loop-row-init : goal.loop-row-init
loop-row-init c =
    let e = c.from_writer-writer.ensures in
    let w = c.from_writer-writer.result in
    record {
      between = record { setup = e.cfg ∙ c.new.ensures; fields = e.fields; wrote = e.wrote };
      wrote = ap (λ (v : Vec ℕ Global). v.items ++ w.wtr.buf) e.wtr ∙ ap (λ (l : List ℕ). l ++ w.wtr.buf) c.new-2.ensures.items ∙ e.empty;
    }

pub loop-row-preserved : goal.loop-row-preserved
loop-row-preserved c =
    let now = c.loop-row.writer in
    let next = c.write_row.new.writer in
    record {
      between = not_err _ c.write_row.result c.if-is_err.ensures.value c.write_row.ensures.between;
      wrote = rows-next (Some []) (Some (now.wtr.inner.items ++ now.wtr.buf)) (Some (next.wtr.inner.items ++ next.wtr.buf)) c.args.rows.now c.loop-row.row-index c.row-item.result
          c.loop-row-test.true c.row-item.is c.loop-row.invariant.wrote
          (not_err _ c.write_row.result c.if-is_err.ensures.value c.write_row.ensures.text ∙ ap (λ (vs : List Value). (now.wtr.inner.items ++ now.wtr.buf) ++ row_line vs) c.as_slice.ensures);
    }

pub returns-in-Ok : goal.returns-in-Ok
returns-in-Ok c = c.in-Ok.ensures.ok ∙ c.loop-row.invariant.wrote ∙ ap rows_text (take_all c.loop-row.row-index c.args.rows.now c.loop-row-test.false)
