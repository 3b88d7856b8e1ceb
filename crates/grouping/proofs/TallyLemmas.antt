-- A tally with one more row.
use Rattle.std.proofs.Common.{◌≡◌, ℕ, ◌+◌, ◌-◌, ◌^◌, ◌≤◌, ◌<◌, true, false, not, cond, List, [], ◌∷◌, ◌++◌, append-nil, map, filter, length, refl, sym, ap, ◌∙◌, arith, Ordering, Less, Equal, Greater, is_gt, is_lt, Some, slice_get}
use Rattle.std.specs.Prelude.{ℤ, ◌+ℤ◌, nat_lt}
use Rattle.std.specs.Cmp.{IsTotalOrder, back_total}
use Rattle.std.proofs.lemmas.Bool.Decides.{nat_tests}
use Rattle.std.proofs.lemmas.Int.{ints}
use Rattle.std.proofs.lemmas.List.{length-append, map-append}
use Rattle.std.proofs.lemmas.List.Elements.{filter-append}
use Rattle.std.proofs.lemmas.List.Sorted.{IsPermutation-append_comm}
use Rattle.rm_base.specs.declared.select.Item.{Item}
use Rattle.rm_base.specs.declared.select.Item.TheVariants.{Column, CountAll, Count, Sum, Min, Max}
use Rattle.rm_base.specs.declared.value.Value.{Value}
use Rattle.rm_base.specs.declared.value.Value.TheVariants.{Null, Int, Words}
use Rattle.rm_base.specs.ValueLaws.{value_total}
use Rattle.rm_base.specs.Values.{number_in, value_cmp}
use Rattle.rm_outside.specs.Faults.{counted}
use Rattle.rm_rules.specs.Comparing.{column, is_null}
use Rattle.rm_rules.specs.Grouping.{present, int_sum, falling_cmp}
use Rattle.rm_rules.specs.Sorting.{put, sorted}
use Rattle.rm_rules.proofs.GroupLaws.{value_exact, falling_exact, int_sum_along}
use Rattle.rm_rules.proofs.SortLaws.{sorted_along}
use Rattle.grouping.specs.declared.tally.Tally.TheVariants.{Rows, Present, Total, Least, Most}
use Rattle.grouping.specs.Tallying.{added, all_added, counted_value, kept, picked, tallies_of, tally_of}
use Rattle.grouping.specs.Totals.{Totaled, totaled, totaled_number}

-- the value, unless it is Null
abbrev some_of : Value → List Value
some_of v = cond (not (is_null v)) (v ∷ []) []

present_more : (c : ℕ) (rows : List (List Value)) (row : List Value) → present c (rows ++ row ∷ []) ≡ present c rows ++ some_of (column row c)
present_more c rows row =
    ap (filter (λ v. not (is_null v))) (map-append (λ r. column r c) rows (row ∷ []))
    ∙ filter-append (λ v. not (is_null v)) (map (λ r. column r c) rows) (column row c ∷ [])

pub few_present : (c : ℕ) (rows : List (List Value)) → length (present c rows) ≤ length rows
few_present c [] = omega arith
few_present c (row ∷ rows) =
    elim (not (is_null (column row c))) as (λ b. length (cond b (column row c ∷ present c rows) (present c rows)) ≤ length (row ∷ rows))
    [ true ↦ omega (arith, few_present c rows) | false ↦ omega (arith, few_present c rows) ]

one_more : {X : Type 0} (xs : List X) (x : X) → length xs < 2 ^ 63 → length (xs ++ x ∷ []) ≡ counted (length xs) 1
one_more xs x few = omega (arith, length-append xs (x ∷ []), few)

count_value : (v : Value) (vs : List Value) → length vs < 2 ^ 63 → length (vs ++ some_of v) ≡ counted_value v (length vs)
count_value Null vs few = ap length (append-nil vs)
count_value (Int n) vs few = one_more vs (Int n) few
count_value (Words t) vs few = one_more vs (Words t) few

last_first : (a b : ℤ) → a +ℤ b ≡ b +ℤ a
last_first a b = omega (arith, ints)

sum_last : (v : Value) (vs : List Value) → int_sum (vs ++ v ∷ []) ≡ int_sum vs +ℤ number_in v
sum_last v vs = int_sum_along (vs ++ v ∷ []) (v ∷ vs) (IsPermutation-append_comm vs (v ∷ [])) ∙ last_first (number_in v) (int_sum vs)

abbrev totals : List Value → Totaled
totals vs = record { count = length vs; sum = int_sum vs }

is_few : (n : ℕ) → n < 2 ^ 63 → nat_lt n (2 ^ 64 - 1) ≡ true
is_few n few = grind (arith, nat_tests, few)

total_number : (v : Value) (vs : List Value) → length vs < 2 ^ 63 → totals (vs ++ v ∷ []) ≡ totaled_number (number_in v) (totals vs)
total_number v vs few =
    (λ i. record { count = length-append vs (v ∷ []) i; sum = sum_last v vs i })
    ∙ sym (ap (λ b. cond b (record { count = length vs + 1; sum = int_sum vs +ℤ number_in v }) (record { count = length vs; sum = int_sum vs })) (is_few (length vs) few))

total_value : (v : Value) (vs : List Value) → length vs < 2 ^ 63 → totals (vs ++ some_of v) ≡ totaled v (totals vs)
total_value Null vs few = ap totals (append-nil vs)
total_value (Int n) vs few = total_number (Int n) vs few
total_value (Words t) vs few = total_number (Words t) vs few

module _ (cmp : Value → Value → Ordering) (total : IsTotalOrder cmp) (exact : (x y : Value) → cmp x y ≡ Equal → x ≡ y) where
  first_put : (v : Value) (vs : List Value) → slice_get (put cmp v vs) 0 ≡ kept cmp v (slice_get vs 0)
  first_put v [] = refl
  first_put v (x ∷ vs) = go (cmp v x) refl
    where
      go : (r : Ordering) → cmp v x ≡ r → slice_get (cond (is_gt r) (x ∷ put cmp v vs) (v ∷ x ∷ vs)) 0 ≡ cond (is_lt r) (Some v) (Some x)
      go Less e = refl
      go Equal e = ap Some (exact v x e)
      go Greater e = refl

  first_last : (v : Value) (vs : List Value) → slice_get (sorted cmp (vs ++ v ∷ [])) 0 ≡ kept cmp v (slice_get (sorted cmp vs) 0)
  first_last v vs =
      ap (λ l. slice_get l 0) (sorted_along cmp total exact (vs ++ v ∷ []) (v ∷ vs) (IsPermutation-append_comm vs (v ∷ [])))
      ∙ first_put v (sorted cmp vs)

  first_more : (v : Value) (vs : List Value) → slice_get (sorted cmp (vs ++ some_of v)) 0 ≡ picked cmp v (slice_get (sorted cmp vs) 0)
  first_more Null vs = ap (λ l. slice_get (sorted cmp l) 0) (append-nil vs)
  first_more (Int n) vs = first_last (Int n) vs
  first_more (Words t) vs = first_last (Words t) vs

-- the tally of one more row
tally_more : (rows : List (List Value)) (row : List Value) (item : Item) → length rows < 2 ^ 63 → tally_of (rows ++ row ∷ []) item ≡ added (tally_of rows item) row
tally_more rows row (Column c) few = refl
tally_more rows row CountAll few = ap Rows (one_more rows row few)
tally_more rows row (Count c) few =
    ap (λ vs. Present c (length vs)) (present_more c rows row)
    ∙ ap (Present c) (count_value (column row c) (present c rows) (omega (arith, few_present c rows, few)))
tally_more rows row (Sum c) few =
    ap (λ vs. Total c (totals vs)) (present_more c rows row)
    ∙ ap (Total c) (total_value (column row c) (present c rows) (omega (arith, few_present c rows, few)))
tally_more rows row (Min c) few =
    ap (λ vs. Least c (slice_get (sorted value_cmp vs) 0)) (present_more c rows row)
    ∙ ap (Least c) (first_more value_cmp value_total value_exact (column row c) (present c rows))
tally_more rows row (Max c) few =
    ap (λ vs. Most c (slice_get (sorted falling_cmp vs) 0)) (present_more c rows row)
    ∙ ap (Most c) (first_more falling_cmp (back_total value_total) falling_exact (column row c) (present c rows))

pub tallies_more : (items : List Item) (rows : List (List Value)) (row : List Value) → length rows < 2 ^ 63
    → tallies_of items (rows ++ row ∷ []) ≡ all_added row (tallies_of items rows)
tallies_more [] rows row few = refl
tallies_more (item ∷ items) rows row few = λ i. tally_more rows row item few i ∷ tallies_more items rows row few i
