-- Tables by their names.
use Rattle.std.specs.Prelude.{Bool, List, map, Option, option_map, find}
use Rattle.std.specs.List.{list_any}
use Rattle.rm_base.specs.declared.catalog.CatalogTable.{CatalogTable}
use Rattle.rm_base.specs.declared.name.Name.{Name}
use Rattle.rm_base.specs.Name.{same_name}
use Rattle.rm_base.specs.TableSeen.{TableSeen}
use Rattle.csv_tables.specs.declared.tables.NamedTable.{NamedTable}

-- a table has the name
abbrev pub has_table : List NamedTable → Name → Bool
has_table tables name = list_any (λ (t : NamedTable). same_name t.name name) tables

-- the table of the name
abbrev pub table_called : List NamedTable → Name → Option TableSeen
table_called tables name = option_map (λ (t : NamedTable). t.table) (find (λ (t : NamedTable). same_name t.name name) tables)

-- the name and the columns of a table, as a catalog has them
abbrev pub catalog_table : NamedTable → CatalogTable
catalog_table t = record { name = t.name; columns = t.table.columns }

-- the catalog of the tables
abbrev pub catalog_of : List NamedTable → List CatalogTable
catalog_of tables = map catalog_table tables
