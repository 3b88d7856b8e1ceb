use Rattle.std.proofs.Common.{◌∙◌, arith, subst}
use Rattle.std.proofs.lemmas.Result.{on_ok_weaker}
use Rattle.sessions.proofs.CsvLemmas.{fields-none, fields-next, fields-whole, fields-end, WroteField}
use Rattle.sessions.proofs.csv_rows.write_names.Goals as goal

pub loop-name-init : goal.loop-name-init
loop-name-init g c = fields-none g.W.Write.contents c.args.writer.now c.requires

pub loop-name-preserved : goal.loop-name-preserved
loop-name-preserved g c =
    let e = c.in_ok-write_field.ensures in
    let wrote : WroteField g.W.Write.contents c.loop-name.writer c.write_field.new.self c.as_bytes.result.now =
    record { text = e.text; same = e.same; count = e.count; wrote = e.wrote; stays = e.stays } in
    fields-next g.W.Write.contents c.args.writer.now c.loop-name.writer c.write_field.new.self c.args.names.now c.loop-name.name-index c.name-item.result
    c.loop-name-test.true (omega (arith, c.loop-name-test.true)) c.name-item.is c.loop-name.invariant
    (subst (WroteField g.W.Write.contents c.loop-name.writer c.write_field.new.self) (c.as_bytes.ensures.value ∙ c.as_str.ensures) wrote)

pub returns : goal.returns
returns g c =
    on_ok_weaker c.end_record.result
    (λ tail. fields-end g.W.Write.contents c.args.writer.now c.loop-name.writer c.end_record.new.self c.args.names.now
    (fields-whole g.W.Write.contents c.args.writer.now c.loop-name.writer c.args.names.now c.loop-name.name-index c.loop-name-test.false c.loop-name.invariant) tail)
    c.end_record.ensures.bytes
