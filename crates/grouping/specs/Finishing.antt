-- What groups give: their rows, or the first sum out of range.
use Rattle.std.specs.Prelude.{ℕ, ◌+◌, ◌^◌, ℤ, pos, List, [], ◌∷◌, map, slice_get, nat_lt, Option, Some, None, if◌then◌else◌}
use Rattle.std.specs.declared.cmp.Ordering.{Ordering}
use Rattle.std.specs.Option.{unwrap_or}
use Rattle.rm_base.specs.declared.select.GroupSpec.{GroupSpec}
use Rattle.rm_base.specs.declared.select.Item.{Item}
use Rattle.rm_base.specs.declared.value.Value.{Value}
use Rattle.rm_base.specs.declared.value.Value.TheVariants.{Null, Int}
use Rattle.rm_base.specs.Values.{row_cmp}
use Rattle.rm_rules.specs.Grouping.{group_keys, is_int64, key_value}
use Rattle.grouping.specs.Gathering.{group_of}
use Rattle.grouping.specs.declared.tally.Tally.{Tally}
use Rattle.grouping.specs.declared.tally.Tally.TheVariants.{Key, Rows, Present, Total, Least, Most}

-- groups by their keys
abbrev pub group_cmp : List Value × List Tally → List Value × List Tally → Ordering
group_cmp a b = row_cmp a.0 b.0

-- all groups of rows in the order of keys
abbrev pub groups_in_order : GroupSpec → List (List Value) → List (List Value × List Tally)
groups_in_order spec rows = map (group_of spec rows) (group_keys spec.keys rows)

-- a sum outside 64 bits
abbrev pub bad_sum : Option Tally → Option ℤ
bad_sum None = None
bad_sum (Some (Key c)) = None
bad_sum (Some (Rows n)) = None
bad_sum (Some (Present c n)) = None
bad_sum (Some (Total c t)) = if is_int64 t.sum then None else Some t.sum
bad_sum (Some (Least c best)) = None
bad_sum (Some (Most c best)) = None

-- the first such sum at a place
abbrev pub bad_at : ℕ → List (List Value × List Tally) → Option ℤ
bad_at n [] = None
bad_at n (group ∷ groups) = elim (bad_sum (slice_get group.1 n)) [ Some sum ↦ Some sum | None ↦ bad_at n groups ]

-- the least column from a place on that has one, counted from 1, and its first such sum
abbrev pub bad_from : ℕ → List Item → List (List Value × List Tally) → Option (ℕ × ℤ)
bad_from n [] groups = None
bad_from n (item ∷ items) groups = elim (bad_at n groups) [ Some sum ↦ Some (n + 1, sum) | None ↦ bad_from (n + 1) items groups ]

-- a count as a value
abbrev pub count_cell : ℕ → Value
count_cell n = if nat_lt n (2 ^ 63) then Int (pos n) else Null

-- a sum as a value: Null where there was no number
abbrev pub total_cell : ℕ → ℤ → Value
total_cell n s = if nat_lt 0 n then (if is_int64 s then Int s else Null) else Null

-- what a tally gives; a number outside 64 bits is given as Null, and no answer has one
abbrev pub cell : List ℕ → List Value → Tally → Value
cell keys key (Key c) = key_value keys key c
cell keys key (Rows n) = count_cell n
cell keys key (Present c n) = count_cell n
cell keys key (Total c t) = total_cell t.count t.sum
cell keys key (Least c best) = unwrap_or best Null
cell keys key (Most c best) = unwrap_or best Null

-- the rows that groups give
abbrev pub cells : List ℕ → List (List Value × List Tally) → List (List Value)
cells keys groups = map (λ (group : List Value × List Tally). map (cell keys group.0) group.1) groups
