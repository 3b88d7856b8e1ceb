use Rattle.std.proofs.Common.{option_map, sym, ◌∙◌, ap}
use Rattle.csv.specs.Records.{fields_of}
use Rattle.csv.proofs.RecordFacts.{field-there, field-get}
use Rattle.csv_tables.proofs.row.cell_at.Goals as goal

pub unreachable-requires : goal.unreachable-requires
unreachable-requires c =
    field-there (fields_of c.args.cells.now) c.args.place c.requires
    (sym c.get.ensures.value ∙ ap (option_map (λ s. s.now)) c.in-None.is)

pub returns : goal.returns
returns c =
    sym (field-get (fields_of c.args.cells.now) c.args.place c.in-Some.cell.now
    (sym c.get.ensures.value ∙ ap (option_map (λ s. s.now)) c.in-Some.is))
