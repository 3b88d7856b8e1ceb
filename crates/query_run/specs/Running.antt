-- What a plan is run over, and how a run ends.
use Rattle.std.specs.Prelude.{◌≡◌, ◌≤◌, ℕ, ◌-◌, Option, Some, None, option_map, IfSome, List, [], ◌∷◌, length, if◌then◌else◌, ⊤}
use Rattle.std.specs.List.{filter_map}
use Rattle.rm_base.specs.declared.catalog.CatalogTable.{CatalogTable}
use Rattle.rm_base.specs.declared.name.Name.{Name}
use Rattle.rm_base.specs.declared.reply.Reply.{Reply}
use Rattle.rm_base.specs.declared.select.Select.{Select}
use Rattle.rm_base.specs.TableSeen.{TableSeen}
use Rattle.rm_outside.specs.declared.watch.TheConstants.{STEPS_MOST}
use Rattle.rm_outside.specs.Faults.{counted}
use Rattle.rm_rules.specs.AllFits.{all_fits}
use Rattle.rm_rules.specs.Meaning.{SelectOutcome, meaning}
use Rattle.rm_rules.specs.Meaning.SelectOutcome.{Answer, SumOutOfRange, AnswerTooLarge}
use Rattle.csv_tables.specs.declared.tables.NamedTable.{NamedTable}
use Rattle.csv_tables.specs.Named.{table_called}
use Rattle.query_plan.specs.Scope.{table_named}
use Rattle.query_plan.specs.Text.{IsSpelled}
use Rattle.query_run.specs.declared.run.RunEnd.{RunEnd}
use Rattle.query_run.specs.declared.run.RunEnd.TheVariants as end

-- the tables of these names, in their order
abbrev pub tables_called : List NamedTable → List Name → List TableSeen
tables_called tables names = filter_map (table_called tables) names

-- some text is the plan over a catalog whose tables all stand among these, with their columns
pub record IsRunnable (plan : Select) (tables : List NamedTable) : Type 0 where
  pub catalog : List CatalogTable
  pub spelled : IsSpelled catalog plan
  pub stand : (name : Name) → IfSome (table_named catalog name) (λ t. option_map (λ (found : TableSeen). found.columns) (table_called tables name) ≡ Some t.columns)

-- how a run ends by the rules: as the SELECT means, or without an answer, since what it keeps does not fit its grant
pub data RunOutcome : Type 0 where
  Meant : (outcome : SelectOutcome) → RunOutcome
  Spills : RunOutcome

-- how a SELECT's run ends with this grant, over its tables, which stand in the order in which it names them
abbrev pub run_outcome : ℕ → Select → List TableSeen → RunOutcome
run_outcome grant select tables = if all_fits grant select tables then Meant (meaning select tables) else Spills

-- where a run is neither stopped nor wants memory, it ends by the rules
abbrev pub IsEndOf : RunOutcome → RunEnd → Type 0
IsEndOf outcome (end.Answer rows) = outcome ≡ Meant (Answer rows)
IsEndOf outcome (end.SumOutOfRange column sum) = outcome ≡ Meant (SumOutOfRange column sum)
IsEndOf outcome (end.AnswerTooLarge rows) = outcome ≡ Meant (AnswerTooLarge rows)
IsEndOf outcome end.NeedsSpill = outcome ≡ Spills
IsEndOf outcome (end.Stopped reply) = ⊤
IsEndOf outcome end.Memory = ⊤

-- the reply for which a run was stopped
abbrev pub stop_of : RunEnd → Option Reply
stop_of (end.Answer rows) = None
stop_of (end.SumOutOfRange column sum) = None
stop_of (end.AnswerTooLarge rows) = None
stop_of end.NeedsSpill = None
stop_of (end.Stopped reply) = Some reply
stop_of end.Memory = None

-- how many rows the first table has
abbrev pub first_rows : List TableSeen → ℕ
first_rows [] = 0
first_rows (table ∷ tables) = length table.rows

-- where a run ends with rows, a step for each row of the first table was handed over, but for those of a last check-in
abbrev pub HandsOver : RunEnd → ℕ → ℕ → ℕ → Type 0
HandsOver (end.Answer rows) taken before now = counted before (taken - (STEPS_MOST - 1)) ≤ now
HandsOver (end.SumOutOfRange column sum) taken before now = ⊤
HandsOver (end.AnswerTooLarge rows) taken before now = ⊤
HandsOver end.NeedsSpill taken before now = ⊤
HandsOver (end.Stopped reply) taken before now = ⊤
HandsOver end.Memory taken before now = ⊤
