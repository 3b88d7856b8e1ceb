-- What a run makes of the rows that remain: the rows that they show, or their groups.
use Rattle.std.specs.Prelude.{◌≡◌, ◌≤◌, ℕ, List, map, ◌≢◌, length, Option, Some, None, ⊤}
use Rattle.rm_base.specs.declared.limits.TheConstants.{ITEMS_MOST}
use Rattle.rm_base.specs.declared.select.GroupSpec.{GroupSpec}
use Rattle.rm_base.specs.declared.select.Item.{Item}
use Rattle.rm_base.specs.declared.select.Select.{Select}
use Rattle.rm_base.specs.declared.value.Value.{Value}
use Rattle.rm_base.specs.Values.{rows_measure}
use Rattle.rm_rules.specs.AllFits.{groups_charge}
use Rattle.rm_rules.specs.Meaning.{shown}
use Rattle.grouping.specs.Batching.{Batched, Takes}
use Rattle.grouping.specs.Gathering.{Gathered, gathered}
use Rattle.query_run.specs.declared.gathering.Gathering.{Gathering}
use Rattle.query_run.specs.declared.gathering.Gathering.TheVariants.{Shown, Grouped}

-- a batch was given the rows that these show, all of which are charged
pub record Batches (select : Select) (room : ℕ) (rows : List (List Value)) (batch : Batched) : Type 0 where
  pub plain : select.groups ≡ None
  pub room_is : batch.room ≡ room
  pub takes : Takes select.order (map (shown select.items) rows) batch
  pub fits : rows_measure (map (shown select.items) rows) ≤ room

-- by which columns a SELECT groups, and what each group gives
abbrev pub spec_of : List Item → List ℕ → GroupSpec
spec_of items keys = record { keys = keys; items = items }

-- a table of groups was given these rows, and all its groups are charged
pub record Groups (select : Select) (room : ℕ) (rows : List (List Value)) (groups : Gathered) : Type 0 where
  pub keys : List ℕ
  pub grouped : select.groups ≡ Some keys
  pub are : groups ≡ gathered (spec_of select.items keys) room rows
  pub fits : groups_charge (spec_of select.items keys) rows ≤ room

-- what was made of these rows
abbrev pub Gathers : Select → ℕ → List (List Value) → Gathering → Type 0
Gathers select room rows (Shown batch) = Batches select room rows batch
Gathers select room rows (Grouped groups) = Groups select room rows groups

-- what the rows that rows show, or their groups, are charged
abbrev pub gathered_charge : List Item → Option (List ℕ) → List (List Value) → ℕ
gathered_charge items None rows = rows_measure (map (shown items) rows)
gathered_charge items (Some keys) rows = groups_charge (spec_of items keys) rows

-- each group gives as many values as a select list may have at most
abbrev pub HasFewItems : Select → Type 0
HasFewItems select = select.groups ≢ None → length select.items ≤ ITEMS_MOST

abbrev pub GivesFew : Gathering → Type 0
GivesFew (Shown batch) = ⊤
GivesFew (Grouped groups) = length groups.spec.items ≤ ITEMS_MOST
