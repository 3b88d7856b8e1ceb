use Rattle.std.proofs.Common.{◌≡◌, ℕ, ◌++◌, [], List, Vec, Global, ap, ◌∙◌}
use Rattle.csv.specs.Writing.{default_writer, row_text}
use Rattle.sessions.proofs.CsvLemmas.{not_err}
use Rattle.sessions.proofs.csv_rows.names_bytes.Goals as goal

pub write_names-requires : goal.write_names-requires
write_names-requires c =
    let e = c.from_writer-writer.ensures in
    record { setup = e.cfg ∙ c.new.ensures; fields = e.fields; wrote = e.wrote }

pub returns-in-Ok : goal.returns-in-Ok
returns-in-Ok c =
    let e = c.from_writer-writer.ensures in
    let w = c.from_writer-writer.result in
    let text = row_text default_writer c.args.names.now in
    let empty : w.wtr.inner.items ++ w.wtr.buf ≡ [] = ap (λ (v : Vec ℕ Global). v.items ++ w.wtr.buf) e.wtr ∙ ap (λ (l : List ℕ). l ++ w.wtr.buf) c.new-2.ensures.items ∙ e.empty in
    c.in-Ok.ensures.ok ∙ not_err _ c.write_names.result c.if-is_err.ensures.value c.write_names.ensures ∙ ap (λ l. l ++ text) empty
