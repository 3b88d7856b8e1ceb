-- what a plan says of the tables of a catalog
use Rattle.std.specs.Prelude.{◌≡◌, ◌≢◌, ◌<◌, ◌≤◌, ℕ, Bool, true, false, ◌&&◌, max, nat_eq, nat_lt, Option, Some, None, List, [], ◌∷◌, ◌++◌, length, slice_get}
use Rattle.std.specs.List.{list_all, list_any}
use Rattle.rm_base.specs.declared.catalog.CatalogColumn.{CatalogColumn}
use Rattle.rm_base.specs.declared.catalog.CatalogTable.{CatalogTable}
use Rattle.rm_base.specs.declared.limits.TheConstants.{GROUP_COLUMNS_MOST, ITEMS_MOST, ROW_VALUES_MOST, SELECT_TABLES_MOST}
use Rattle.rm_base.specs.declared.name.Name.{Name}
use Rattle.rm_base.specs.declared.select.Item.{Item}
use Rattle.rm_base.specs.declared.select.Item.TheVariants as item
use Rattle.rm_base.specs.declared.select.Operand.{Operand}
use Rattle.rm_base.specs.declared.select.Operand.TheVariants.{Column, Fixed}
use Rattle.rm_base.specs.declared.select.Select.{Select}
use Rattle.rm_base.specs.declared.select.Test.{Test}
use Rattle.rm_base.specs.Catalog.{is_narrow}
use Rattle.query_plan.specs.Resolving.{is_int}
use Rattle.query_plan.specs.Scope.{table_named}

-- a table's columns, and those of the tables behind it
abbrev pub columns_behind : Option CatalogTable → Option (List CatalogColumn) → Option (List CatalogColumn)
columns_behind None more = None
columns_behind (Some table) None = None
columns_behind (Some table) (Some more) = Some (table.columns ++ more)

-- the columns of the tables of these names in order, where the catalog has them all
abbrev pub columns_named : List CatalogTable → List Name → Option (List CatalogColumn)
columns_named catalog [] = Some []
columns_named catalog (name ∷ names) = columns_behind (table_named catalog name) (columns_named catalog names)

-- an operand is one of so many columns, or stands in the text
abbrev pub operand_within : ℕ → Operand → Bool
operand_within count (Column c) = nat_lt c count
operand_within count (Fixed value) = true

-- a comparison is of so many columns
abbrev pub test_within : ℕ → Test → Bool
test_within count test = operand_within count test.left && operand_within count test.right

-- an item is of so many columns
abbrev pub item_within : ℕ → Item → Bool
item_within count (item.Column c) = nat_lt c count
item_within count item.CountAll = true
item_within count (item.Count c) = nat_lt c count
item_within count (item.Sum c) = nat_lt c count
item_within count (item.Min c) = nat_lt c count
item_within count (item.Max c) = nat_lt c count

-- a column of Ints
abbrev pub is_int_there : Option CatalogColumn → Bool
is_int_there None = false
is_int_there (Some column) = is_int column.kind

-- the column at this place is one of Ints
abbrev pub is_int_in : List CatalogColumn → ℕ → Bool
is_int_in columns c = is_int_there (slice_get columns c)

-- a SUM is of a column of Ints
abbrev pub sums_ints : List CatalogColumn → Item → Bool
sums_ints columns (item.Sum c) = is_int_in columns c
sums_ints columns _ = true

-- an item of rows without groups is a column; one of groups is one of theirs, or an aggregate
abbrev pub stands_in : Option (List ℕ) → Item → Bool
stands_in None (item.Column c) = true
stands_in None _ = false
stands_in (Some groups) (item.Column c) = list_any (nat_eq c) groups
stands_in (Some groups) _ = true

-- the columns of GROUP BY
abbrev pub group_columns : Option (List ℕ) → List ℕ
group_columns None = []
group_columns (Some groups) = groups

-- a plan over tables of the catalog: what each part of it names is there, sums are of Ints, a plain column stands among
-- groups only where they have it, and no list is longer than it may be. `*` alone may make more items than a list has
pub record FitsCatalog (catalog : List CatalogTable) (plan : Select) : Type 0 where
  pub columns : List CatalogColumn
  pub known : columns_named catalog plan.tables ≡ Some columns
  pub some_table : 0 < length plan.tables
  pub few_tables : length plan.tables ≤ SELECT_TABLES_MOST
  pub few_columns : list_all is_narrow catalog ≡ true → length columns ≤ ROW_VALUES_MOST
  pub tests : list_all (test_within (length columns)) plan.tests ≡ true
  pub items : list_all (item_within (length columns)) plan.items ≡ true
  pub sums : list_all (sums_ints columns) plan.items ≡ true
  pub few_items : length plan.items ≤ max ITEMS_MOST (length columns)
  pub few_group_items : plan.groups ≢ None → length plan.items ≤ ITEMS_MOST
  pub names : length plan.names ≡ length plan.items
  pub groups : list_all (λ c. nat_lt c (length columns)) (group_columns plan.groups) ≡ true
  pub few_groups : length (group_columns plan.groups) ≤ GROUP_COLUMNS_MOST
  pub stand : list_all (stands_in plan.groups) plan.items ≡ true
  pub keys : list_all (λ k. nat_lt k.column (length plan.items)) plan.order.keys ≡ true
