-- Groups of rows with equal keys, what each gives, and sums out of range.
use Rattle.std.specs.Prelude.{ℕ, ◌+◌, ◌^◌, ℤ, pos, neg_ℤ, ◌+ℤ◌, int_lt, int_le, Bool, not, ◌&&◌, List, [], ◌∷◌, ◌++◌, map, filter, length, slice_get, nat_eq, Option, Some, None, if◌then◌else◌}
use Rattle.std.specs.List.{find}
use Rattle.std.specs.declared.cmp.Ordering.{Ordering}
use Rattle.std.specs.Option.{unwrap_or}
use Rattle.rm_base.specs.declared.select.GroupSpec.{GroupSpec}
use Rattle.rm_base.specs.declared.select.Item.{Item}
use Rattle.rm_base.specs.declared.select.Item.TheVariants.{Column, CountAll, Count, Sum, Min, Max}
use Rattle.rm_base.specs.declared.value.Value.{Value}
use Rattle.rm_base.specs.declared.value.Value.TheVariants.{Null, Int}
use Rattle.rm_base.specs.Values.{number_in, same_row, row_cmp, value_cmp}
use Rattle.rm_rules.specs.Comparing.{is_null, column, columns}
use Rattle.rm_rules.specs.Sorting.{sorted, distinct}

-- a whole number of 64 bits
abbrev pub is_int64 : ℤ → Bool
is_int64 n = int_le (neg_ℤ (pos (2 ^ 63))) n && int_lt n (pos (2 ^ 63))

-- the values of a column that are not Null
abbrev pub present : ℕ → List (List Value) → List Value
present c rows = filter (λ value. not (is_null value)) (map (λ row. column row c) rows)

-- the sum of Ints, a whole number without bound
abbrev pub int_sum : List Value → ℤ
int_sum [] = pos 0
int_sum (value ∷ values) = number_in value +ℤ int_sum values

-- what SUM gives of these values: Null where there is none
abbrev pub sum_value : List Value → Value
sum_value [] = Null
sum_value (value ∷ values) = Int (int_sum (value ∷ values))

-- the first of these values, or Null where there is none
abbrev pub first_value : List Value → Value
first_value values = unwrap_or (slice_get values 0) Null

-- the order of values turned round
abbrev pub falling_cmp : Value → Value → Ordering
falling_cmp a b = value_cmp b a

-- what stands in a column of a group, which is one of the key's columns
abbrev pub key_value : List ℕ → List Value → ℕ → Value
key_value [] key c = Null
key_value (k ∷ keys) [] c = Null
key_value (k ∷ keys) (value ∷ key) c = if nat_eq k c then value else key_value keys key c

-- what an item gives of a group, by the group's key and its rows
abbrev pub item_value : List ℕ → List Value → List (List Value) → Item → Value
item_value keys key rows (Column c) = key_value keys key c
item_value keys key rows CountAll = Int (pos (length rows))
item_value keys key rows (Count c) = Int (pos (length (present c rows)))
item_value keys key rows (Sum c) = sum_value (present c rows)
item_value keys key rows (Min c) = first_value (sorted value_cmp (present c rows))
item_value keys key rows (Max c) = first_value (sorted falling_cmp (present c rows))

-- without GROUP BY there is one group, even of no rows
abbrev pub first_keys : List ℕ → List (List Value)
first_keys [] = [] ∷ []
first_keys (k ∷ keys) = []

-- the keys that stand in the rows
abbrev pub keys_in : List ℕ → List (List Value) → List (List Value)
keys_in keys rows = first_keys keys ++ map (columns keys) rows

-- the keys of the groups, ascending: equal keys are one group, and Null is equal to Null
abbrev pub group_keys : List ℕ → List (List Value) → List (List Value)
group_keys keys rows = sorted row_cmp (distinct same_row (keys_in keys rows))

-- the rows of one group
abbrev pub members : List ℕ → List (List Value) → List Value → List (List Value)
members keys rows key = filter (λ row. same_row (columns keys row) key) rows

-- the row that a group gives
abbrev pub group_row : GroupSpec → List (List Value) → List Value → List Value
group_row spec rows key = map (item_value spec.keys key (members spec.keys rows key)) spec.items

-- one row for each group, in the order of group keys
abbrev pub grouped : GroupSpec → List (List Value) → List (List Value)
grouped spec rows = map (group_row spec rows) (group_keys spec.keys rows)

-- the sum of a column in each group, in the order of group keys
abbrev pub sums : List ℕ → List (List Value) → ℕ → List ℤ
sums keys rows c = map (λ key. int_sum (present c (members keys rows key))) (group_keys keys rows)

-- the first sum of a SUM that is outside 64 bits
abbrev pub bad_sum_of : List ℕ → List (List Value) → Item → Option ℤ
bad_sum_of keys rows (Sum c) = find (λ n. not (is_int64 n)) (sums keys rows c)
bad_sum_of keys rows (Column c) = None
bad_sum_of keys rows CountAll = None
bad_sum_of keys rows (Count c) = None
bad_sum_of keys rows (Min c) = None
bad_sum_of keys rows (Max c) = None

-- the least of these output columns, the first of which has this number, with such a sum, and the sum
abbrev pub first_bad_from : ℕ → List ℕ → List (List Value) → List Item → Option (ℕ × ℤ)
first_bad_from n keys rows [] = None
first_bad_from n keys rows (item ∷ items) =
    elim (bad_sum_of keys rows item) [ Some sum ↦ Some (n, sum) | None ↦ first_bad_from (n + 1) keys rows items ]

-- the least output column, counted from 1, with a sum outside 64 bits, and in it the first such sum
abbrev pub first_bad : GroupSpec → List (List Value) → Option (ℕ × ℤ)
first_bad spec rows = first_bad_from 1 spec.keys rows spec.items
