-- Groups do not depend on how the rows were arranged.
use Rattle.std.proofs.Common.{◌≡◌, ℕ, ◌+◌, not, List, [], ◌∷◌, map, refl, sym, ap, ◌∙◌, arith, Equal, is_eq, Some, None, IsPermutation}
use Rattle.std.specs.Prelude.{ℤ, pos, ◌+ℤ◌}
use Rattle.std.specs.List.{find}
use Rattle.std.specs.Cmp.{back_total}
use Rattle.std.proofs.lemmas.Int.{ints}
use Rattle.std.proofs.lemmas.List.Sorted.{IsPermutation-map, IsPermutation-append_right, length_permutation}
use Rattle.rm_base.specs.declared.value.Value.{Value}
use Rattle.rm_base.specs.declared.value.Value.TheVariants.{Int}
use Rattle.rm_base.specs.declared.select.Item.{Item}
use Rattle.rm_base.specs.declared.select.Item.TheVariants.{Column, CountAll, Count, Sum, Min, Max}
use Rattle.rm_base.specs.declared.select.GroupSpec.{GroupSpec}
use Rattle.rm_base.specs.Values.{value_cmp, row_cmp, number_in, same_row}
use Rattle.rm_base.specs.ValueLaws.{value_total, value_ties, row_total, row_ties, row_equiv, same_value-eq, same_row-eq}
use Rattle.rm_rules.specs.Comparing.{column, columns}
use Rattle.rm_rules.specs.Sorting.{sorted}
use Rattle.rm_rules.specs.Grouping.{present, int_sum, first_value, falling_cmp, sum_value, item_value, first_keys, keys_in, group_keys, members, group_row, grouped, sums, bad_sum_of, first_bad_from, first_bad, is_int64}
use Rattle.rm_rules.proofs.Along.{same_along, IsPermutation-filter}
use Rattle.rm_rules.proofs.Distinct.{distinct_along}
use Rattle.rm_rules.proofs.SortLaws.{sorted_along}

pub value_exact : (x y : Value) → value_cmp x y ≡ Equal → x ≡ y
value_exact x y h = same_value-eq x y (value_ties x y ∙ ap is_eq h)

pub row_exact : (x y : List Value) → row_cmp x y ≡ Equal → x ≡ y
row_exact x y h = same_row-eq x y (row_ties x y ∙ ap is_eq h)

pub values_along : (xs ys : List Value) → IsPermutation xs ys → sorted value_cmp xs ≡ sorted value_cmp ys
values_along = sorted_along value_cmp value_total value_exact

pub falling_exact : (x y : Value) → falling_cmp x y ≡ Equal → x ≡ y
falling_exact x y h = sym (value_exact y x h)

pub falling_along : (xs ys : List Value) → IsPermutation xs ys → sorted falling_cmp xs ≡ sorted falling_cmp ys
falling_along = sorted_along falling_cmp (back_total value_total) falling_exact

pub keys_in_along : (keys : List ℕ) (xs ys : List (List Value)) → IsPermutation xs ys → IsPermutation (keys_in keys xs) (keys_in keys ys)
keys_in_along keys xs ys moved = IsPermutation-append_right (first_keys keys) _ _ (IsPermutation-map (columns keys) xs ys moved)

pub keys_along : (keys : List ℕ) (xs ys : List (List Value)) → IsPermutation xs ys → group_keys keys xs ≡ group_keys keys ys
keys_along keys xs ys moved =
    sorted_along row_cmp row_total row_exact _ _ (distinct_along same_row row_equiv same_row-eq _ _ (keys_in_along keys xs ys moved))

pub members_along : (keys : List ℕ) (key : List Value) (xs ys : List (List Value)) → IsPermutation xs ys
    → IsPermutation (members keys xs key) (members keys ys key)
members_along keys key xs ys moved = IsPermutation-filter _ xs ys moved

pub present_along : (c : ℕ) (xs ys : List (List Value)) → IsPermutation xs ys → IsPermutation (present c xs) (present c ys)
present_along c xs ys moved = IsPermutation-filter _ _ _ (IsPermutation-map (λ row. column row c) xs ys moved)

exchange : (a b c : ℤ) → a +ℤ (b +ℤ c) ≡ b +ℤ (a +ℤ c)
exchange a b c = omega (arith, ints)

pub int_sum_along : (xs ys : List Value) → IsPermutation xs ys → int_sum xs ≡ int_sum ys
int_sum_along = same_along int_sum (λ x xs ys h. ap (λ t. number_in x +ℤ t) h) (λ x y xs. exchange (number_in x) (number_in y) (int_sum xs))

pub sum_along : (xs ys : List Value) → IsPermutation xs ys → sum_value xs ≡ sum_value ys
sum_along [] [] moved = refl
sum_along [] (y ∷ ys) moved = absurd (omega (arith, length_permutation _ _ moved))
sum_along (x ∷ xs) [] moved = absurd (omega (arith, length_permutation _ _ moved))
sum_along (x ∷ xs) (y ∷ ys) moved = ap Int (int_sum_along (x ∷ xs) (y ∷ ys) moved)

pub item_along : (keys : List ℕ) (key : List Value) (xs ys : List (List Value)) → IsPermutation xs ys → (item : Item)
    → item_value keys key xs item ≡ item_value keys key ys item
item_along keys key xs ys moved (Column c) = refl
item_along keys key xs ys moved CountAll = ap (λ n. Int (pos n)) (sym (length_permutation xs ys moved))
item_along keys key xs ys moved (Count c) = ap (λ n. Int (pos n)) (sym (length_permutation _ _ (present_along c xs ys moved)))
item_along keys key xs ys moved (Sum c) = sum_along _ _ (present_along c xs ys moved)
item_along keys key xs ys moved (Min c) = ap first_value (values_along _ _ (present_along c xs ys moved))
item_along keys key xs ys moved (Max c) = ap first_value (falling_along _ _ (present_along c xs ys moved))

pub group_row_along : (spec : GroupSpec) (xs ys : List (List Value)) → IsPermutation xs ys → (key : List Value) → group_row spec xs key
    ≡ group_row spec ys key
group_row_along spec xs ys moved key =
    λ i. map (λ item. item_along spec.keys key (members spec.keys xs key) (members spec.keys ys key) (members_along spec.keys key xs ys moved) item i) spec.items

pub grouped_along : (spec : GroupSpec) (xs ys : List (List Value)) → IsPermutation xs ys → grouped spec xs ≡ grouped spec ys
grouped_along spec xs ys moved = λ i. map (λ key. group_row_along spec xs ys moved key i) (keys_along spec.keys xs ys moved i)

pub sums_along : (keys : List ℕ) (xs ys : List (List Value)) → IsPermutation xs ys → (c : ℕ) → sums keys xs c ≡ sums keys ys c
sums_along keys xs ys moved c =
    λ i. map (λ key. int_sum_along _ _ (present_along c _ _ (members_along keys key xs ys moved)) i) (keys_along keys xs ys moved i)

pub bad_sum_along : (keys : List ℕ) (xs ys : List (List Value)) → IsPermutation xs ys → (item : Item) → bad_sum_of keys xs item
    ≡ bad_sum_of keys ys item
bad_sum_along keys xs ys moved (Column c) = refl
bad_sum_along keys xs ys moved CountAll = refl
bad_sum_along keys xs ys moved (Count c) = refl
bad_sum_along keys xs ys moved (Sum c) = ap (find (λ n. not (is_int64 n))) (sums_along keys xs ys moved c)
bad_sum_along keys xs ys moved (Min c) = refl
bad_sum_along keys xs ys moved (Max c) = refl

pub first_bad_along : (spec : GroupSpec) (xs ys : List (List Value)) → IsPermutation xs ys → first_bad spec xs ≡ first_bad spec ys
first_bad_along spec xs ys moved = from 1 spec.items
  where
    from : (n : ℕ) (items : List Item) → first_bad_from n spec.keys xs items ≡ first_bad_from n spec.keys ys items
    from n [] = refl
    from n (item ∷ items) = λ i. elim (bad_sum_along spec.keys xs ys moved item i) [ Some s ↦ Some (n, s) | None ↦ from (n + 1) items i ]
