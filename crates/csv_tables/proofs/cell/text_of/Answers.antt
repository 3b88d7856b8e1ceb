use Rattle.std.proofs.Common.{rules, ◌≡◌, arith}
use Rattle.csv_tables.proofs.CellLemmas.{text_good, text_bad}
use Rattle.csv_tables.proofs.cell.text_of.Goals as goal

pub returns-in_ok-from_str-in-Ok : goal.returns-in_ok-from_str-in-Ok
returns-in_ok-from_str-in-Ok c =
    let same : c.of.result ≡ c.args.cell.now = search rules in
    text_good c.args.cell.now c.of.result (omega arith) c.in-Ok.ensures.cases.1 same

pub returns-in-Err : goal.returns-in-Err
returns-in-Err c = text_bad c.args.cell.now (omega arith) c.in-Err.ensures.cases.0
