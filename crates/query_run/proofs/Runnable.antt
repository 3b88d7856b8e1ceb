-- A text that is read over tables can be run over them.
use Rattle.std.proofs.Common.{◌≡◌, ℕ, Bool, true, false, cond, List, [], ◌∷◌, Some, find, refl}
use Rattle.std.specs.Prelude.{option_map, IfSome}
use Rattle.rm_base.specs.declared.name.Name.{Name}
use Rattle.rm_base.specs.declared.select.Select.{Select}
use Rattle.rm_base.specs.Name.{same_name}
use Rattle.rm_base.specs.TableSeen.{TableSeen}
use Rattle.csv_tables.specs.declared.tables.NamedTable.{NamedTable}
use Rattle.csv_tables.specs.Named.{table_called, catalog_table, catalog_of}
use Rattle.query_plan.specs.Scope.{table_named}
use Rattle.query_plan.specs.Text.{SpellsText}
use Rattle.query_run.specs.Running.{IsRunnable}

-- a table's columns stand in the catalog of the tables
stands : (tables : List NamedTable) (name : Name)
    → IfSome (table_named (catalog_of tables) name) (λ t. option_map (λ (found : TableSeen). found.columns) (table_called tables name) ≡ Some t.columns)
stands [] name = tt
stands (t ∷ ts) name =
    elim (same_name t.name name) as (λ b. IfSome (cond b (Some (catalog_table t)) (table_named (catalog_of ts) name))
    (λ c. option_map (λ (found : TableSeen). found.columns) (option_map (λ (n : NamedTable). n.table) (cond b (Some t) (find (λ (n : NamedTable). same_name n.name name) ts))) ≡ Some c.columns)) [
      | true ↦ refl
      | false ↦ stands ts name
    ]

-- a text that is read over the tables is a plan that can be run over them
pub spelled-runs : (tables : List NamedTable) (text : List ℕ) (plan : Select) → SpellsText (catalog_of tables) text plan → IsRunnable plan tables
spelled-runs tables text plan spelled = record { catalog = catalog_of tables; spelled = (text, spelled); stand = stands tables }
