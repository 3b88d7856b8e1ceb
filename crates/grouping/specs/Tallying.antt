-- What a group keeps of its rows for one item.
use Rattle.std.specs.Prelude.{ℕ, Bool, true, List, length, map, slice_get, Option, Some, None, if◌then◌else◌}
use Rattle.std.specs.declared.cmp.Ordering.{Ordering}
use Rattle.std.specs.Ordering.{is_lt}
use Rattle.rm_base.specs.declared.select.Item.{Item}
use Rattle.rm_base.specs.declared.select.Item.TheVariants.{Column, CountAll, Count, Sum, Min, Max}
use Rattle.rm_base.specs.declared.value.Value.{Value}
use Rattle.rm_base.specs.declared.value.Value.TheVariants.{Null, Int, Words}
use Rattle.rm_base.specs.Values.{value_cmp}
use Rattle.rm_outside.specs.Faults.{counted}
use Rattle.rm_rules.specs.Comparing.{column}
use Rattle.rm_rules.specs.Sorting.{sorted}
use Rattle.rm_rules.specs.Grouping.{present, int_sum, falling_cmp}
use Rattle.grouping.specs.Totals.{totaled}
use Rattle.grouping.specs.declared.tally.Tally.{Tally}
use Rattle.grouping.specs.declared.tally.Tally.TheVariants.{Key, Rows, Present, Total, Least, Most}

-- one more value in a count; Null is left out
abbrev pub counted_value : Value → ℕ → ℕ
counted_value Null n = n
counted_value (Int k) n = counted n 1
counted_value (Words t) n = counted n 1

-- a value comes before the best so far
abbrev pub is_first : (Value → Value → Ordering) → Value → Option Value → Bool
is_first cmp v None = true
is_first cmp v (Some best) = is_lt (cmp v best)

-- the better of a value and the best so far
abbrev pub kept : (Value → Value → Ordering) → Value → Option Value → Option Value
kept cmp v best = if is_first cmp v best then Some v else best

-- the best with one more value; Null is left out
abbrev pub picked : (Value → Value → Ordering) → Value → Option Value → Option Value
picked cmp Null best = best
picked cmp (Int n) best = kept cmp (Int n) best
picked cmp (Words t) best = kept cmp (Words t) best

-- a tally with one more row
abbrev pub added : Tally → List Value → Tally
added (Key c) row = Key c
added (Rows n) row = Rows (counted n 1)
added (Present c n) row = Present c (counted_value (column row c) n)
added (Total c t) row = Total c (totaled (column row c) t)
added (Least c best) row = Least c (picked value_cmp (column row c) best)
added (Most c best) row = Most c (picked falling_cmp (column row c) best)

-- the tally of these rows
abbrev pub tally_of : List (List Value) → Item → Tally
tally_of rows (Column c) = Key c
tally_of rows CountAll = Rows (length rows)
tally_of rows (Count c) = Present c (length (present c rows))
tally_of rows (Sum c) = Total c (record { count = length (present c rows); sum = int_sum (present c rows) })
tally_of rows (Min c) = Least c (slice_get (sorted value_cmp (present c rows)) 0)
tally_of rows (Max c) = Most c (slice_get (sorted falling_cmp (present c rows)) 0)

-- all tallies of a group with one more row
abbrev pub all_added : List Value → List Tally → List Tally
all_added row tallies = map (λ tally. added tally row) tallies

-- the tallies of these rows, one for each item
abbrev pub tallies_of : List Item → List (List Value) → List Tally
tallies_of items rows = map (tally_of rows) items
