-- Which table a file of CSV is, or its first fault. Records are counted from 1, the header counted.
use Rattle.std.specs.Prelude.{ℕ, ◌+◌, ◌==◌, if◌then◌else◌, nat_le, nat_lt, List, [], ◌∷◌, ◌++◌, length, Some, None, Result, Ok, Err}
use Rattle.csv.specs.Reading.{records, default_config, strip_bom}
use Rattle.rm_base.specs.declared.catalog.CatalogColumn.{CatalogColumn}
use Rattle.rm_base.specs.declared.limits.TheConstants.{ROWS_MOST, TABLE_MOST}
use Rattle.rm_base.specs.declared.value.Value.{Value}
use Rattle.rm_base.specs.TableSeen.{TableSeen, width}
use Rattle.rm_base.specs.Values.{row_measure, rows_measure}
use Rattle.csv_tables.specs.declared.load_error.LoadError.{LoadError}
use Rattle.csv_tables.specs.declared.load_error.LoadError.TheVariants as fault
use Rattle.csv_tables.specs.Cells.{value_of}
use Rattle.csv_tables.specs.Header.{columns_of}

-- the values before, and those of these cells behind them, in the record of that number
abbrev pub values_from : ℕ → List Value → List CatalogColumn → List (List ℕ) → Result (List Value) LoadError
values_from number values [] cells = Ok values
values_from number values (c ∷ columns) [] = Ok values
values_from number values (c ∷ columns) (cell ∷ cells) = elim (value_of c.kind cell) [
  | Some value ↦ values_from number (values ++ value ∷ []) columns cells
  | None ↦ Err (fault.Value number (length values + 1))
]

-- a table with one more row, within the limits
abbrev pub with_row : TableSeen → List Value → Result TableSeen LoadError
with_row t row =
    if nat_le ROWS_MOST (length t.rows) then Err fault.Rows
    else (if nat_lt TABLE_MOST (rows_measure t.rows + row_measure row) then Err fault.TooLarge
    else Ok (record t { rows = t.rows ++ row ∷ [] }))

abbrev pub with_values : TableSeen → Result (List Value) LoadError → Result TableSeen LoadError
with_values t (Err e) = Err e
with_values t (Ok row) = with_row t row

-- the number of the record behind a table's rows
abbrev pub next_number : TableSeen → ℕ
next_number t = length t.rows + 2

-- a table with one more record, which has one cell for each column
abbrev pub with_record : TableSeen → List (List ℕ) → Result TableSeen LoadError
with_record t cells =
    if length cells == width t then with_values t (values_from (next_number t) [] t.columns cells)
    else Err (fault.Width (next_number t))

-- a table with these further records, or the first fault
abbrev pub loaded : Result TableSeen LoadError → List (List (List ℕ)) → Result TableSeen LoadError
loaded (Err e) records = Err e
loaded (Ok t) [] = Ok t
loaded (Ok t) (cells ∷ records) = loaded (with_record t cells) records

abbrev pub begun : Result (List CatalogColumn) LoadError → Result TableSeen LoadError
begun (Err e) = Err e
begun (Ok columns) = Ok (record { columns = columns; rows = [] })

-- the table of records, of which the first is the header
abbrev pub table_of_records : List (List (List ℕ)) → Result TableSeen LoadError
table_of_records [] = Err (fault.Columns 0)
table_of_records (header ∷ records) = loaded (begun (columns_of header)) records

-- the table of a file: of the records that `csv` reads in it with its default settings
abbrev pub table_of : List ℕ → Result TableSeen LoadError
table_of bytes = table_of_records (records default_config (strip_bom bytes))
