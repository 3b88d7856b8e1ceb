-- The rows that groups give can be put into a run.
use Rattle.std.proofs.Common.{◌≡◌, ℕ, zero, suc, ◌≤◌, Bool, true, false, cond, not, ◌&&◌, List, [], ◌∷◌, map, filter, length, nat_eq, nat_le, refl, sym, ap, ◌∙◌, arith, IsPermutation}
use Rattle.std.specs.List.{list_all}
use Rattle.std.specs.declared.cmp.Ordering.{Ordering}
use Rattle.std.proofs.lemmas.Bool.{and_parts}
use Rattle.std.proofs.lemmas.Bool.Decides.{nat_tests}
use Rattle.std.proofs.lemmas.List.{length-map}
use Rattle.rm_base.specs.declared.limits.TheConstants.{ROW_VALUES_MOST}
use Rattle.rm_base.specs.declared.select.GroupSpec.{GroupSpec}
use Rattle.rm_base.specs.declared.select.Item.{Item}
use Rattle.rm_base.specs.declared.select.Item.TheVariants.{Column, CountAll, Count, Sum, Min, Max}
use Rattle.rm_base.specs.declared.value.Value.{Value}
use Rattle.rm_base.specs.Values.{row_cmp, same_row, value_cmp}
use Rattle.rm_rules.specs.Comparing.{column, columns, is_null}
use Rattle.rm_rules.specs.Grouping.{falling_cmp, first_value, group_keys, group_row, grouped, item_value, key_value, keys_in, members, present, sum_value}
use Rattle.rm_rules.specs.Sorting.{distinct, sorted}
use Rattle.rm_rules.proofs.Along.{same_along}
use Rattle.rm_rules.proofs.SortLaws.{IsPermutation-sorted}
use Rattle.spill_files.specs.Runs.{is_short, is_spillable}

both : (a b : Bool) → a ≡ true → b ≡ true → (a && b) ≡ true
both a b p q = λ i. p i && q i

and_turn : (a b c : Bool) → (a && (b && c)) ≡ (b && (a && c))
and_turn true true c = refl
and_turn true false c = refl
and_turn false true c = refl
and_turn false false c = refl

-- ---- tests of all elements

module _ {X : Type 0} (p : X → Bool) where
  all_moved : (xs ys : List X) → IsPermutation xs ys → list_all p xs ≡ list_all p ys
  all_moved = same_along (list_all p) (λ x xs ys h. ap (λ b. p x && b) h) (λ x y xs. and_turn (p x) (p y) (list_all p xs))

  all_filter : (q : X → Bool) (xs : List X) → list_all p xs ≡ true → list_all p (filter q xs) ≡ true
  all_filter q [] h = refl
  all_filter q (x ∷ xs) h =
      let parts = and_parts _ _ h in
      go (q x) parts.0 (all_filter q xs parts.1)
    where
      go : (b : Bool) → p x ≡ true → list_all p (filter q xs) ≡ true → list_all p (cond b (x ∷ filter q xs) (filter q xs)) ≡ true
      go true here more = both _ _ here more
      go false here more = more

  all_distinct : (same : X → X → Bool) (xs : List X) → list_all p xs ≡ true → list_all p (distinct same xs) ≡ true
  all_distinct same [] h = refl
  all_distinct same (x ∷ xs) h =
      let parts = and_parts _ _ h in
      both _ _ parts.0 (all_filter (λ y. not (same x y)) (distinct same xs) (all_distinct same xs parts.1))

  all_sorted : (cmp : X → X → Ordering) (xs : List X) → list_all p xs ≡ true → list_all p (sorted cmp xs) ≡ true
  all_sorted cmp xs h = sym (all_moved xs (sorted cmp xs) (IsPermutation-sorted cmp xs)) ∙ h

-- ---- texts that are not too long

abbrev short_row : List Value → Bool
short_row row = list_all is_short row

column_short : (row : List Value) (c : ℕ) → short_row row ≡ true → is_short (column row c) ≡ true
column_short [] c h = refl
column_short (v ∷ vs) zero h = (and_parts _ _ h).0
column_short (v ∷ vs) (suc c) h = column_short vs c (and_parts _ _ h).1

columns_short : (cs : List ℕ) (row : List Value) → short_row row ≡ true → short_row (columns cs row) ≡ true
columns_short [] row h = refl
columns_short (c ∷ cs) row h = both _ _ (column_short row c h) (columns_short cs row h)

mapped_short : (cs : List ℕ) (rows : List (List Value)) → list_all short_row rows ≡ true → list_all short_row (map (columns cs) rows) ≡ true
mapped_short cs [] h = refl
mapped_short cs (row ∷ rows) h =
    let parts = and_parts _ _ h in
    both _ _ (columns_short cs row parts.0) (mapped_short cs rows parts.1)

in_short : (keys : List ℕ) (rows : List (List Value)) → list_all short_row rows ≡ true → list_all short_row (keys_in keys rows) ≡ true
in_short [] rows h = mapped_short [] rows h
in_short (k ∷ keys) rows h = mapped_short (k ∷ keys) rows h

keys_short : (keys : List ℕ) (rows : List (List Value)) → list_all short_row rows ≡ true → list_all short_row (group_keys keys rows) ≡ true
keys_short keys rows h =
    all_sorted short_row row_cmp (distinct same_row (keys_in keys rows)) (all_distinct short_row same_row (keys_in keys rows) (in_short keys rows h))

key_value_short : (keys : List ℕ) (key : List Value) (c : ℕ) → short_row key ≡ true → is_short (key_value keys key c) ≡ true
key_value_short [] key c h = refl
key_value_short (k ∷ keys) [] c h = refl
key_value_short (k ∷ keys) (v ∷ vs) c h =
    let parts = and_parts _ _ h in
    go (nat_eq k c) parts.0 (key_value_short keys vs c parts.1)
  where
    go : (b : Bool) → is_short v ≡ true → is_short (key_value keys vs c) ≡ true → is_short (cond b v (key_value keys vs c)) ≡ true
    go true here more = here
    go false here more = more

column_all : (c : ℕ) (rows : List (List Value)) → list_all short_row rows ≡ true → short_row (map (λ row. column row c) rows) ≡ true
column_all c [] h = refl
column_all c (row ∷ rows) h =
    let parts = and_parts _ _ h in
    both _ _ (column_short row c parts.0) (column_all c rows parts.1)

present_short : (c : ℕ) (rows : List (List Value)) → list_all short_row rows ≡ true → short_row (present c rows) ≡ true
present_short c rows h = all_filter is_short (λ value. not (is_null value)) (map (λ row. column row c) rows) (column_all c rows h)

first_short : (vs : List Value) → short_row vs ≡ true → is_short (first_value vs) ≡ true
first_short [] h = refl
first_short (v ∷ vs) h = (and_parts _ _ h).0

sum_short : (vs : List Value) → is_short (sum_value vs) ≡ true
sum_short [] = refl
sum_short (v ∷ vs) = refl

item_short : (keys : List ℕ) (key : List Value) (rows : List (List Value)) (item : Item) → short_row key ≡ true → list_all short_row rows ≡ true
    → is_short (item_value keys key rows item) ≡ true
item_short keys key rows (Column c) k h = key_value_short keys key c k
item_short keys key rows CountAll k h = refl
item_short keys key rows (Count c) k h = refl
item_short keys key rows (Sum c) k h = sum_short (present c rows)
item_short keys key rows (Min c) k h = first_short (sorted value_cmp (present c rows)) (all_sorted is_short value_cmp (present c rows) (present_short c rows h))
item_short keys key rows (Max c) k h = first_short (sorted falling_cmp (present c rows)) (all_sorted is_short falling_cmp (present c rows) (present_short c rows h))

items_short : (keys : List ℕ) (key : List Value) (rows : List (List Value)) (items : List Item) → short_row key ≡ true → list_all short_row rows ≡ true
    → short_row (map (item_value keys key rows) items) ≡ true
items_short keys key rows [] k h = refl
items_short keys key rows (item ∷ items) k h = both _ _ (item_short keys key rows item k h) (items_short keys key rows items k h)

-- ---- the rows

spillable_short : (rows : List (List Value)) → list_all is_spillable rows ≡ true → list_all short_row rows ≡ true
spillable_short [] h = refl
spillable_short (row ∷ rows) h =
    let parts = and_parts _ _ h in
    both _ _ (and_parts (nat_le (length row) ROW_VALUES_MOST) (short_row row) parts.0).1 (spillable_short rows parts.1)

narrow : (n : ℕ) → n ≤ ROW_VALUES_MOST → nat_le n ROW_VALUES_MOST ≡ true
narrow n h = grind (arith, nat_tests)

module _ (spec : GroupSpec) (rows : List (List Value)) (few : length spec.items ≤ ROW_VALUES_MOST) (short : list_all short_row rows ≡ true) where
  of_keys : (ks : List (List Value)) → list_all short_row ks ≡ true → list_all is_spillable (map (group_row spec rows) ks) ≡ true
  of_keys [] h = refl
  of_keys (k ∷ ks) h =
      let own : List (List Value) = members spec.keys rows k in
      let size : length (group_row spec rows k) ≤ ROW_VALUES_MOST = omega (arith, few, length-map spec.items (item_value spec.keys k own)) in
      let parts = and_parts _ _ h in
      both _ _
      (both _ _ (narrow (length (group_row spec rows k)) size)
      (items_short spec.keys k own spec.items parts.0 (all_filter short_row (λ row. same_row (columns spec.keys row) k) rows short)))
      (of_keys ks parts.1)

pub grouped_spillable : (spec : GroupSpec) (rows out : List (List Value)) → length spec.items ≤ ROW_VALUES_MOST → list_all is_spillable rows ≡ true
    → IsPermutation (grouped spec rows) out → list_all is_spillable out ≡ true
grouped_spillable spec rows out few spillable moved =
    let short = spillable_short rows spillable in
    sym (all_moved is_spillable (grouped spec rows) out moved) ∙ of_keys spec rows few short (group_keys spec.keys rows) (keys_short spec.keys rows short)
