-- Where no sum is out of range the entries need no order.
use Rattle.std.proofs.Common.{◌≡◌, ℕ, ◌+◌, ◌^◌, ◌<◌, List, [], ◌∷◌, map, length, refl, sym, ◌∙◌, subst, Option, Some, None, slice_get, IsPermutation}
use Rattle.std.specs.Prelude.{ℤ}
use Rattle.std.proofs.lemmas.List.Sorted.{IsPermutation-map, IsPermutation-sym}
use Rattle.rm_base.specs.declared.value.Value.{Value}
use Rattle.rm_base.specs.declared.select.Item.{Item}
use Rattle.rm_base.specs.declared.select.GroupSpec.{GroupSpec}
use Rattle.rm_rules.specs.Grouping.{grouped, first_bad}
use Rattle.rm_rules.proofs.Along.{along_permutation}
use Rattle.grouping.specs.declared.tally.Tally.{Tally}
use Rattle.grouping.specs.Finishing.{bad_sum, bad_at, bad_from, cell, cells, groups_in_order}
use Rattle.grouping.proofs.FinishLemmas.{first_bad_is, cells_are}

abbrev Entry : Type 0
Entry = List Value × List Tally

or_else : Option ℤ → Option ℤ → Option ℤ
or_else (Some s) p = Some s
or_else None p = p

both_none : (o p : Option ℤ) → (elim o as (λ _. Option ℤ) [ Some s ↦ Some s | None ↦ p ]) ≡ None → (o ≡ None) × (p ≡ None)
both_none None p h = (refl, h)
both_none (Some s) p h = cc

none_both : (o p : Option ℤ) → o ≡ None → p ≡ None → (elim o as (λ _. Option ℤ) [ Some s ↦ Some s | None ↦ p ]) ≡ None
none_both o p h k = (λ i. elim (h i) as (λ _. Option ℤ) [ Some s ↦ Some s | None ↦ p ]) ∙ k

at_along : (n : ℕ) (xs ys : List Entry) → IsPermutation xs ys → bad_at n xs ≡ None → bad_at n ys ≡ None
at_along n = along_permutation (λ xs ys. bad_at n xs ≡ None → bad_at n ys ≡ None) (λ xs h. h)
    (λ x xs ys more h. let parts = both_none (bad_sum (slice_get x.1 n)) (bad_at n xs) h in none_both _ _ parts.0 (more parts.1))
    (λ x y xs h. let first = both_none (bad_sum (slice_get x.1 n)) (bad_at n (y ∷ xs)) h in let second = both_none (bad_sum (slice_get y.1 n)) (bad_at n xs) first.1 in none_both _ _ second.0 (none_both _ _ first.0 second.1))
    (λ xs ys zs p q h. q (p h))

pub none_along : (n : ℕ) (items : List Item) (xs ys : List Entry) → IsPermutation xs ys → bad_from n items xs ≡ None → bad_from n items ys ≡ None
none_along n [] xs ys moved h = refl
none_along n (item ∷ items) xs ys moved h = go (bad_at n xs) refl h (none_along (n + 1) items xs ys moved)
  where
    go : (o : Option ℤ) → bad_at n xs ≡ o → (elim o as (λ _. Option (ℕ × ℤ)) [ Some s ↦ Some (n + 1, s) | None ↦ bad_from (n + 1) items xs ]) ≡ None
        → (bad_from (n + 1) items xs ≡ None → bad_from (n + 1) items ys ≡ None)
        → (elim (bad_at n ys) as (λ _. Option (ℕ × ℤ)) [ Some s ↦ Some (n + 1, s) | None ↦ bad_from (n + 1) items ys ]) ≡ None
    go None e none more = (λ i. elim (at_along n xs ys moved e i) as (λ _. Option (ℕ × ℤ)) [ Some s ↦ Some (n + 1, s) | None ↦ bad_from (n + 1) items ys ]) ∙ more none
    go (Some s) e none more = cc

pub none_is : (spec : GroupSpec) (rows : List (List Value)) (es : List Entry) → IsPermutation (groups_in_order spec rows) es → bad_from 0 spec.items es ≡ None → first_bad spec rows ≡ None
none_is spec rows es moved h = sym (first_bad_is spec rows) ∙ none_along 0 spec.items es (groups_in_order spec rows) (IsPermutation-sym _ _ moved) h

pub rows_unsorted : (spec : GroupSpec) (rows : List (List Value)) (es : List Entry) → length rows < 2 ^ 63 → IsPermutation (groups_in_order spec rows) es → first_bad spec rows ≡ None → IsPermutation (grouped spec rows) (cells spec.keys es)
rows_unsorted spec rows es small moved none =
    subst (λ l. IsPermutation l (cells spec.keys es)) (cells_are spec rows small none) (IsPermutation-map (λ (e : Entry). map (cell spec.keys e.0) e.1) _ _ moved)
