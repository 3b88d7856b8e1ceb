-- The columns that a header names.
use Rattle.std.specs.Prelude.{ℕ, ◌+◌, ◌-◌, ◌^◌, ◌&&◌, Bool, if◌then◌else◌, nat_lt, nat_le, min, List, [], ◌∷◌, ◌++◌, length, drop, take, Option, Some, None, Result, Ok, Err, codes}
use Rattle.std.specs.List.{list_any}
use Rattle.std.specs.Str.{bytes_eq, is_utf8}
use Rattle.rm_base.specs.declared.catalog.CatalogColumn.{CatalogColumn}
use Rattle.rm_base.specs.declared.catalog.ColumnKind.{ColumnKind}
use Rattle.rm_base.specs.declared.catalog.ColumnKind.TheVariants as column
use Rattle.rm_base.specs.declared.limits.TheConstants.{COLUMNS_MOST}
use Rattle.rm_base.specs.declared.name.Name.{Name}
use Rattle.rm_base.specs.Name.{name_of, same_name}
use Rattle.csv_tables.specs.declared.load_error.LoadError.{LoadError}
use Rattle.csv_tables.specs.declared.load_error.LoadError.TheVariants as fault

abbrev pub ends_in : List ℕ → List ℕ → Bool
ends_in cell suffix = bytes_eq (drop (length cell - length suffix) cell) suffix

-- what a header cell has as a name, and the kind: `name:int`, `name:text` or `name`, which is a text
abbrev pub typed : List ℕ → List ℕ × ColumnKind
typed cell =
    if ends_in cell (codes ":int") then (take (length cell - 4) cell, column.Int)
    else (if ends_in cell (codes ":text") then (take (length cell - 5) cell, column.Words)
    else (cell, column.Words))

-- the name that bytes spell, in any case
abbrev pub name_in : List ℕ → Option Name
name_in bytes = if is_utf8 bytes then name_of bytes else None

abbrev pub named : ColumnKind → Option Name → Option CatalogColumn
named kind None = None
named kind (Some name) = Some (record { name = name; kind = kind })

-- the column that a header cell names
abbrev pub column_of : List ℕ → Option CatalogColumn
column_of cell = named (typed cell).1 (name_in (typed cell).0)

abbrev pub is_used : Name → List CatalogColumn → Bool
is_used name columns = list_any (λ (c : CatalogColumn). same_name c.name name) columns

-- one more column, where a cell names one and its name is new
abbrev pub with_column : List CatalogColumn → Option CatalogColumn → Option (List CatalogColumn)
with_column columns None = None
with_column columns (Some c) = if is_used c.name columns then None else Some (columns ++ c ∷ [])

-- the columns before, and those of these cells behind them
abbrev pub columns_from : List CatalogColumn → List (List ℕ) → Result (List CatalogColumn) LoadError
columns_from columns [] = Ok columns
columns_from columns (cell ∷ cells) = elim (with_column columns (column_of cell)) [
  | Some more ↦ columns_from more cells
  | None ↦ Err (fault.Header (length columns + 1))
]

-- the columns of a header
abbrev pub columns_of : List (List ℕ) → Result (List CatalogColumn) LoadError
columns_of cells =
    if nat_lt 0 (length cells) && nat_le (length cells) COLUMNS_MOST then columns_from [] cells
    else Err (fault.Columns (min (length cells) (2 ^ 32 - 1)))
