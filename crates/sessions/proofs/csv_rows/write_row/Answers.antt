use Rattle.std.proofs.Common.{arith}
use Rattle.std.proofs.lemmas.Result.{on_ok_weaker}
use Rattle.sessions.proofs.CsvLemmas.{fields-none, cells-next, cells-whole, fields-end, between-rows}
use Rattle.sessions.proofs.csv_rows.write_row.Goals as goal

pub loop-value-init : goal.loop-value-init
loop-value-init g c = fields-none g.W.Write.contents c.args.writer.now c.requires

pub loop-value-preserved : goal.loop-value-preserved
loop-value-preserved g c =
    let e = c.in_ok-write_field.ensures in
    cells-next g.W.Write.contents c.args.writer.now c.loop-value.writer c.write_field.new.self c.args.row.now c.loop-value.value-index c.value-item.result c.cell_bytes.result.now
    c.loop-value-test.true (omega (arith, c.loop-value-test.true)) c.value-item.is c.cell_bytes.ensures c.loop-value.invariant
    (record { text = e.text; same = e.same; count = e.count; wrote = e.wrote; stays = e.stays })

pub returns-clause-text : goal.returns-clause-text
returns-clause-text g c =
    on_ok_weaker c.end_record.result
    (λ tail. fields-end g.W.Write.contents c.args.writer.now c.loop-value.writer c.end_record.new.self _
    (cells-whole g.W.Write.contents c.args.writer.now c.loop-value.writer c.args.row.now c.loop-value.value-index c.loop-value-test.false c.loop-value.invariant) tail)
    c.end_record.ensures.bytes

pub returns-clause-between : goal.returns-clause-between
returns-clause-between g c =
    between-rows c.end_record.result c.loop-value.writer c.end_record.new.self c.loop-value.invariant.setup c.end_record.ensures.same c.end_record.ensures.fields c.end_record.ensures.wrote
