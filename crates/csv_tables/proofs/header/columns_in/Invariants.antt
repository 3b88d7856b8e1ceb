use Rattle.std.proofs.Common.{◌≡◌, [], drop, length}
use Rattle.csv.specs.Records.{fields_of}
use Rattle.csv_tables.specs.Header.{columns_from}
use Rattle.csv_tables.proofs.header.columns_in.Given as goal

abbrev pub invariant-loop-place : goal.invariant-loop-place
invariant-loop-place l = record {
  same : columns_from l.columns.items (drop l.place (fields_of l.header)) ≡ columns_from [] (fields_of l.header);
  many : length l.columns.items ≡ l.place;
}
