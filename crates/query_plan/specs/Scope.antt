-- the tables of a SELECT as a catalog has them
use Rattle.std.specs.Prelude.{ℕ, ◌+◌, ◌-◌, ◌^◌, Bool, true, ◌&&◌, nat_le, nat_lt, nat_eq, Option, Some, None, find, map, Result, Ok, Err, List, [], ◌∷◌, ◌++◌, length}
use Rattle.rm_base.specs.declared.catalog.CatalogColumn.{CatalogColumn}
use Rattle.rm_base.specs.declared.catalog.CatalogTable.{CatalogTable}
use Rattle.rm_base.specs.declared.name.Name.{Name}
use Rattle.rm_base.specs.declared.refusal.Refusal.{Refusal}
use Rattle.rm_base.specs.declared.refusal.Refusal.TheVariants.{NoSuchTable}
use Rattle.rm_base.specs.Name.{same_name}
use Rattle.query_plan.specs.declared.raw.RawSelect.{RawSelect}
use Rattle.query_plan.specs.declared.raw.RawTable.{RawTable}
use Rattle.query_plan.specs.declared.scope.Here.{Here}

-- the table of this name
abbrev pub table_named : List CatalogTable → Name → Option CatalogTable
table_named catalog name = find (λ t. same_name t.name name) catalog

-- the columns of a table, the n-th of the SELECT
abbrev pub columns_here : ℕ → Name → List CatalogColumn → List Here
columns_here n call columns = map (λ c. record { table = n; call = call; column = c }) columns

-- a table's columns, and those of the tables behind it
abbrev pub with_table : ℕ → RawTable → Option CatalogTable → Result (List Here) Refusal → Result (List Here) Refusal
with_table n table None more = Err (NoSuchTable table.name)
with_table n table (Some found) (Ok more) = Ok (columns_here n table.call found.columns ++ more)
with_table n table (Some found) (Err why) = Err why

-- the columns of the tables in order, the first table counted as the n-th, or the refusal of the first that is unknown
abbrev pub scope_from : List CatalogTable → ℕ → List RawTable → Result (List Here) Refusal
scope_from catalog n [] = Ok []
scope_from catalog n (table ∷ tables) =
    with_table n table (table_named catalog table.name) (scope_from catalog (n + 1) tables)

-- what is left of a number behind the columns of a table; where the table is unknown, no number counts too far
abbrev pub behind_table : Option CatalogTable → ℕ → (ℕ → Bool) → Bool
behind_table None n next = true
behind_table (Some found) n next = next (n - length found.columns)

-- a number counts no further than the columns of the tables
abbrev pub reaches : List CatalogTable → List RawTable → ℕ → Bool
reaches catalog [] n = nat_eq n 0
reaches catalog (table ∷ tables) n = behind_table (table_named catalog table.name) n (λ rest. reaches catalog tables rest)

-- a number counts no further than the select list
abbrev pub counts_within : List CatalogTable → RawSelect → Option ℕ → ℕ → Bool
counts_within catalog raw None n = nat_le n (length raw.items)
counts_within catalog raw (Some place) n = reaches catalog raw.tables n

-- the number of an output column, counted from 1
abbrev pub is_listed : List CatalogTable → RawSelect → ℕ → Bool
is_listed catalog raw n = nat_lt 0 n && nat_lt n (2 ^ 63) && counts_within catalog raw raw.all n
