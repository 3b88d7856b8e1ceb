-- Tables as definitions see them: their columns, and rows that fit these.
use Rattle.std.specs.Prelude.{◌≡◌, ◌<◌, ◌≤◌, ℕ, Bool, true, false, ◌&&◌, nat_le, List, [], ◌∷◌, length}
use Rattle.std.specs.List.{list_all}
use Rattle.rm_base.specs.declared.limits.TheConstants.{COLUMNS_MOST, ROWS_MOST, TABLE_MOST, CELL_MOST}
use Rattle.rm_base.specs.declared.catalog.ColumnKind.{ColumnKind}
use Rattle.rm_base.specs.declared.catalog.ColumnKind.TheVariants as column
use Rattle.rm_base.specs.declared.catalog.CatalogColumn.{CatalogColumn}
use Rattle.rm_base.specs.declared.value.Value.{Value}
use Rattle.rm_base.specs.declared.value.Value.TheVariants.{Null, Int, Words}
use Rattle.rm_base.specs.Values.{rows_measure}

-- a table: its columns and its rows
pub record TableSeen : Type 0 where
  pub columns : List CatalogColumn
  pub rows : List (List Value)

-- how many columns a table has
abbrev pub width : TableSeen → ℕ
width t = length t.columns

-- a value may stand in a column of that kind: Null in each, an Int in those of Ints, a text that is not too long in others
abbrev pub fits_kind : ColumnKind → Value → Bool
fits_kind kind Null = true
fits_kind column.Int (Int n) = true
fits_kind column.Int (Words text) = false
fits_kind column.Words (Int n) = false
fits_kind column.Words (Words text) = nat_le (length text) CELL_MOST

-- a row has one value for each column, which may stand there
abbrev pub fits_columns : List CatalogColumn → List Value → Bool
fits_columns [] [] = true
fits_columns [] (value ∷ values) = false
fits_columns (c ∷ columns) [] = false
fits_columns (c ∷ columns) (value ∷ values) = fits_kind c.kind value && fits_columns columns values

-- a table within the limits, whose rows fit its columns
pub record IsTable (t : TableSeen) : Type 0 where
  pub some_column : 0 < width t
  pub few_columns : width t ≤ COLUMNS_MOST
  pub few_rows : length t.rows ≤ ROWS_MOST
  pub measured : rows_measure t.rows ≤ TABLE_MOST
  pub rows_fit : list_all (fits_columns t.columns) t.rows ≡ true
