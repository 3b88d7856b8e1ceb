use Rattle.std.proofs.Common.{◌≡◌, Ok, length}
use Rattle.csv_tables.specs.Left.{IsReading, left_of}
use Rattle.csv_tables.specs.Loading.{loaded}
use Rattle.csv_tables.proofs.load.load_rows.Given as goal

abbrev pub invariant-records : goal.invariant-records
invariant-records l = record {
  reading : IsReading l.reader;
  same : loaded (Ok l.table) (left_of l.reader) ≡ loaded (Ok l.initial.table) (left_of l.initial.reader);
}

abbrev pub decreases-records : goal.decreases-records
decreases-records l = length (left_of l.reader)
