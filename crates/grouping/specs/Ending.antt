-- What groups end with.
use Rattle.std.specs.Prelude.{◌≡◌, ◌≤◌, ℕ, Bool, ◌&&◌, List, Some, None, IsPermutation, nat_le, ⊤}
use Rattle.rm_base.specs.declared.select.GroupSpec.{GroupSpec}
use Rattle.rm_base.specs.declared.select.OrderSpec.{OrderSpec}
use Rattle.rm_base.specs.declared.value.Value.{Value}
use Rattle.rm_rules.specs.AllFits.{group_rows_fit, groups_charge}
use Rattle.rm_rules.specs.Grouping.{first_bad, grouped}
use Rattle.rm_rules.specs.Ordering.{in_order}
use Rattle.grouping.specs.declared.group.Grouped.{Grouped}
use Rattle.grouping.specs.declared.group.Grouped.TheVariants as out
use Rattle.grouping.specs.declared.groups.GroupsEnd.{GroupsEnd}
use Rattle.grouping.specs.declared.groups.GroupsEnd.TheVariants as end

-- the rows of the groups in any order, or the first sum out of range
abbrev pub IsGrouped : GroupSpec → List (List Value) → GroupsEnd → Type 0
IsGrouped spec rows (end.Rows out) = (first_bad spec rows ≡ None) × IsPermutation (grouped spec rows) out
IsGrouped spec rows (end.SumOutOfRange column sum) = first_bad spec rows ≡ Some (column, sum)

-- the first rows of the groups in order, or the first sum out of range
abbrev pub IsGroupedInOrder : GroupSpec → OrderSpec → List (List Value) → GroupsEnd → Type 0
IsGroupedInOrder spec order rows (end.Rows out) = (first_bad spec rows ≡ None) × (out ≡ in_order order (grouped spec rows))
IsGroupedInOrder spec order rows (end.SumOutOfRange column sum) = first_bad spec rows ≡ Some (column, sum)

-- a run of the rows of the groups in any order, or the first sum out of range
abbrev pub IsGroupedRun : GroupSpec → List (List Value) → Grouped → Type 0
IsGroupedRun spec rows (out.Rows run) = (first_bad spec rows ≡ None) × IsPermutation (grouped spec rows) run.rows
IsGroupedRun spec rows (out.SumOutOfRange column sum) = first_bad spec rows ≡ Some (column, sum)

-- a run that is handed out stands at its first row, and holds at most the room
abbrev pub StartsWithin : ℕ → Grouped → Type 0
StartsWithin room (out.Rows run) = (run.place ≡ 0) × (run.charge ≤ room)
StartsWithin room (out.SumOutOfRange column sum) = ⊤

-- what is still held of the meter
abbrev pub held_by : Grouped → ℕ
held_by (out.Rows run) = run.charge
held_by (out.SumOutOfRange column sum) = 0

-- the table of groups fits the room, and so do the rows that they give, where no sum is out of range
abbrev pub groups_fit : ℕ → GroupSpec → List (List Value) → Bool
groups_fit room spec rows =
    nat_le (groups_charge spec rows) room && group_rows_fit room (first_bad spec rows) (grouped spec rows)
