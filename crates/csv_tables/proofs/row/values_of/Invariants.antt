use Rattle.std.proofs.Common.{◌≡◌, [], true, take, drop, length}
use Rattle.csv.specs.Records.{fields_of}
use Rattle.rm_base.specs.TableSeen.{fits_columns}
use Rattle.csv_tables.specs.Loading.{values_from}
use Rattle.csv_tables.proofs.row.values_of.Given as goal

abbrev pub invariant-loop-place : goal.invariant-loop-place
invariant-loop-place l = record {
  same : values_from l.number l.values.items (drop l.place l.columns) (drop l.place (fields_of l.cells)) ≡ values_from l.number [] l.columns (fields_of l.cells);
  fits : fits_columns (take l.place l.columns) l.values.items ≡ true;
  many : length l.values.items ≡ l.place;
}
