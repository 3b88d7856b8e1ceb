-- Groups of rows, in the order in which their keys first stand, and what they are charged.
use Rattle.std.specs.Prelude.{ℕ, List, map, fold, sum_by}
use Rattle.rm_base.specs.declared.select.GroupSpec.{GroupSpec}
use Rattle.rm_base.specs.declared.select.Item.{Item}
use Rattle.rm_base.specs.declared.value.Value.{Value}
use Rattle.rm_base.specs.Values.{same_row}
use Rattle.rm_rules.specs.AllFits.{groups_charge, item_charge}
use Rattle.rm_rules.specs.Grouping.{keys_in, members}
use Rattle.rm_rules.specs.Sorting.{distinct}
use Rattle.tuples.specs.Hashing.{value_hash}
use Rattle.grouping.specs.Tallying.{tallies_of}
use Rattle.grouping.specs.declared.tally.Tally.{Tally}

-- the keys of rows, each where it first stands
abbrev pub keys_seen : List ℕ → List (List Value) → List (List Value)
keys_seen keys rows = distinct same_row (keys_in keys rows)

-- the group of a key: its key, and the tallies of its rows
abbrev pub group_of : GroupSpec → List (List Value) → List Value → List Value × List Tally
group_of spec rows key = (key, tallies_of spec.items (members spec.keys rows key))

-- all groups of rows
abbrev pub groups_seen : GroupSpec → List (List Value) → List (List Value × List Tally)
groups_seen spec rows = map (group_of spec rows) (keys_seen spec.keys rows)

-- groups of rows within some room
pub record Gathered : Type 0 where
  pub spec : GroupSpec
  pub room : ℕ
  pub charge : ℕ
  pub groups : List (List Value × List Tally)

-- the groups of these rows
abbrev pub gathered : GroupSpec → ℕ → List (List Value) → Gathered
gathered spec room rows =
    record { spec = spec; room = room; charge = groups_charge spec rows; groups = groups_seen spec rows }

-- the hash of a key
abbrev pub row_hash : List Value → ℕ
row_hash key = fold value_hash 0 key

-- the keys of groups, and their hashes
abbrev pub keys_of : List (List Value × List Tally) → List (List Value)
keys_of groups = map (λ group. group.0) groups

abbrev pub hashes_of : List (List Value × List Tally) → List ℕ
hashes_of groups = map (λ group. row_hash group.0) groups

-- what all groups are charged for their items
abbrev pub items_charge : List Item → ℕ
items_charge items = sum_by item_charge items
