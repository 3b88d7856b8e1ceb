-- Entries in the order of keys are the groups; their first sum out of range and their rows are those of the meaning.
use Rattle.std.proofs.Common.{◌≡◌, ℕ, zero, suc, ◌+◌, ◌^◌, ◌≤◌, ◌<◌, Bool, true, false, not, cond, List, [], ◌∷◌, ◌++◌, map, length, take, drop, get_or, refl, sym, ap, ◌∙◌, subst, arith, append_assoc, true≢false, Option, Some, None, slice_get, is_lt, IsPermutation, IsSorted}
use Rattle.std.specs.Prelude.{ℤ, pos, nat_lt, nat_eq, ⊤}
use Rattle.std.specs.List.{find}
use Rattle.std.proofs.Math.ListN.{get_or-map}
use Rattle.std.proofs.lemmas.List.{length-append, length-map, drop_more, map_more}
use Rattle.std.proofs.lemmas.List.Sorted.{IsPermutation-map, IsPermutation-trans}
use Rattle.rm_base.specs.declared.value.Value.{Value}
use Rattle.rm_base.specs.declared.value.Value.TheVariants.{Null, Int}
use Rattle.rm_base.specs.declared.select.Item.{Item}
use Rattle.rm_base.specs.declared.select.Item.TheVariants.{Column, CountAll, Count, Sum, Min, Max}
use Rattle.rm_base.specs.declared.select.GroupSpec.{GroupSpec}
use Rattle.rm_base.specs.Values.{row_cmp, same_row}
use Rattle.rm_base.specs.ValueLaws.{row_total}
use Rattle.rm_rules.specs.Sorting.{sorted, distinct}
use Rattle.rm_rules.specs.Grouping.{is_int64, key_value, present, int_sum, sum_value, item_value, keys_in, group_keys, members, grouped, bad_sum_of, first_bad_from, first_bad}
use Rattle.rm_rules.proofs.Along.{along_permutation}
use Rattle.rm_rules.proofs.SortLaws.{sorted_is, sorted_along, IsPermutation-sorted}
use Rattle.rm_rules.proofs.GroupLaws.{row_exact}
use Rattle.grouping.specs.declared.tally.Tally.{Tally}
use Rattle.grouping.specs.Tallying.{tally_of}
use Rattle.grouping.specs.Tallying.{tallies_of}
use Rattle.grouping.specs.Finishing.{group_cmp, groups_in_order, bad_sum, bad_at, bad_from, count_cell, total_cell, cell, cells}
use Rattle.grouping.proofs.TallyLemmas.{few_present}
use Rattle.grouping.proofs.SeenLemmas.{few_members}

-- ---- in the order of keys

abbrev fst : {K X : Type 0} → K × X → K
fst e = e.0

module _ {K X : Type 0} (f : K → X) where
  abbrev mend : K × X → K × X
  mend e = (e.0, f e.0)

  -- entries that f gives stay so in another order
  still : (xs ys : List (K × X)) → IsPermutation xs ys → map mend xs ≡ xs → map mend ys ≡ ys
  still = along_permutation (λ xs ys. map mend xs ≡ xs → map mend ys ≡ ys) (λ xs h. h)
      (λ x xs ys more h. λ i. get_or (h i) 0 x ∷ more (ap (drop 1) h) i)
      (λ x y xs h. λ i. get_or (h i) 1 y ∷ get_or (h i) 0 x ∷ drop 2 (h i))
      (λ xs ys zs p q h. q (p h))

  made : (ks : List K) → map mend (map (λ k. (k, f k)) ks) ≡ map (λ k. (k, f k)) ks
  made [] = refl
  made (k ∷ ks) = λ i. (k, f k) ∷ made ks i

  firsts : (ks : List K) → map fst (map (λ k. (k, f k)) ks) ≡ ks
  firsts [] = refl
  firsts (k ∷ ks) = λ i. k ∷ firsts ks i

  again : (es : List (K × X)) → map (λ k. (k, f k)) (map fst es) ≡ map mend es
  again [] = refl
  again (e ∷ es) = λ i. (e.0, f e.0) ∷ again es i

  pub from_keys : (ks : List K) (es : List (K × X)) → IsPermutation (map (λ k. (k, f k)) ks) es → map fst es ≡ ks → es ≡ map (λ k. (k, f k)) ks
  from_keys ks es moved e = sym (still _ _ moved (made ks)) ∙ sym (again es) ∙ ap (map (λ k. (k, f k))) e

keys_sorted : (es : List (List Value × List Tally)) → IsSorted group_cmp es → IsSorted row_cmp (map fst es)
keys_sorted es up k d p q =
    (λ i. is_lt (row_cmp (get_or-map fst es (k + 1) (d, []) i) (get_or-map fst es k (d, []) i)))
    ∙ up k (d, []) p (omega (arith, q, length-map es fst))

pub in_key_order : (spec : GroupSpec) (rows : List (List Value)) (es ys : List (List Value × List Tally)) → IsPermutation (groups_in_order spec rows) es → IsPermutation es ys → IsSorted group_cmp ys → ys ≡ groups_in_order spec rows
in_key_order spec rows es ys first moved up =
    let f : List Value → List Tally = λ key. tallies_of spec.items (members spec.keys rows key) in
    let ks = group_keys spec.keys rows in
    let all = IsPermutation-trans _ _ _ first moved in
    let keys : IsPermutation ks (map fst ys) = subst (λ l. IsPermutation l (map fst ys)) (firsts f ks) (IsPermutation-map fst _ _ all) in
    let stay : sorted row_cmp ks ≡ ks = sym (sorted_along row_cmp row_total row_exact _ _ (IsPermutation-sorted row_cmp (distinct same_row (keys_in spec.keys rows)))) in
    from_keys f ks ys all (sorted_is row_cmp row_total row_exact ks (map fst ys) keys (keys_sorted ys up) ∙ stay)

-- ---- the first sum out of range

middle : {X Y : Type 0} (f : X → Y) (front : List X) (x : X) (rest : List X) → slice_get (map f (front ++ x ∷ rest)) (length front) ≡ Some (f x)
middle f [] x rest = refl
middle f (y ∷ front) x rest = middle f front x rest

module _ (keys : List ℕ) (rows : List (List Value)) where
  abbrev sum_in : ℕ → List Value → ℤ
  sum_in c key = int_sum (present c (members keys rows key))

  -- the first sum out of range over these keys
  abbrev bad_in : List (List Value) → Item → Option ℤ
  bad_in ks (Sum c) = find (λ n. not (is_int64 n)) (map (sum_in c) ks)
  bad_in ks (Column c) = None
  bad_in ks CountAll = None
  bad_in ks (Count c) = None
  bad_in ks (Min c) = None
  bad_in ks (Max c) = None

  abbrev states : List Item → List (List Value) → List (List Value × List Tally)
  states items ks = map (λ key. (key, tallies_of items (members keys rows key))) ks

  module _ (front : List Item) (item : Item) (rest : List Item) where
    abbrev found : List Value → Option Tally
    found k = slice_get (tallies_of (front ++ item ∷ rest) (members keys rows k)) (length front)

    is_found : (k : List Value) → found k ≡ Some (tally_of (members keys rows k) item)
    is_found k = middle (tally_of (members keys rows k)) front item rest

    nothing : ((k : List Value) → bad_sum (Some (tally_of (members keys rows k) item)) ≡ None) → (ks : List (List Value)) → bad_at (length front) (states (front ++ item ∷ rest) ks) ≡ None
    nothing h [] = refl
    nothing h (k ∷ ks) = (λ i. elim ((ap bad_sum (is_found k) ∙ h k) i) as (λ _. Option ℤ) [ Some s ↦ Some s | None ↦ bad_at (length front) (states (front ++ item ∷ rest) ks) ]) ∙ nothing h ks

  summed : (front : List Item) (c : ℕ) (rest : List Item) (ks : List (List Value)) → bad_at (length front) (states (front ++ Sum c ∷ rest) ks) ≡ bad_in ks (Sum c)
  summed front c rest [] = refl
  summed front c rest (k ∷ ks) =
      (λ i. elim (ap bad_sum (is_found front (Sum c) rest k) i) as (λ _. Option ℤ) [ Some s ↦ Some s | None ↦ bad_at (length front) (states (front ++ Sum c ∷ rest) ks) ])
      ∙ go (is_int64 (sum_in c k)) (summed front c rest ks)
    where
      go : (b : Bool) {o p : Option ℤ} → o ≡ p → (elim (cond b None (Some (sum_in c k))) as (λ _. Option ℤ) [ Some s ↦ Some s | None ↦ o ]) ≡ cond (not b) (Some (sum_in c k)) p
      go true e = e
      go false e = refl

  at_place : (front : List Item) (item : Item) (rest : List Item) (ks : List (List Value)) → bad_at (length front) (states (front ++ item ∷ rest) ks) ≡ bad_in ks item
  at_place front (Sum c) rest ks = summed front c rest ks
  at_place front (Column c) rest ks = nothing front (Column c) rest (λ k. refl) ks
  at_place front CountAll rest ks = nothing front CountAll rest (λ k. refl) ks
  at_place front (Count c) rest ks = nothing front (Count c) rest (λ k. refl) ks
  at_place front (Min c) rest ks = nothing front (Min c) rest (λ k. refl) ks
  at_place front (Max c) rest ks = nothing front (Max c) rest (λ k. refl) ks

  same_bad : (item : Item) → bad_in (group_keys keys rows) item ≡ bad_sum_of keys rows item
  same_bad (Sum c) = refl
  same_bad (Column c) = refl
  same_bad CountAll = refl
  same_bad (Count c) = refl
  same_bad (Min c) = refl
  same_bad (Max c) = refl

  pub bad_is : (front rest : List Item) → bad_from (length front) rest (states (front ++ rest) (group_keys keys rows)) ≡ first_bad_from (length front + 1) keys rows rest
  bad_is front [] = refl
  bad_is front (item ∷ rest) =
      let more : bad_from (length front + 1) rest (states (front ++ item ∷ rest) (group_keys keys rows)) ≡ first_bad_from (length front + 1 + 1) keys rows rest =
      sym (λ i. bad_from (length-append front (item ∷ []) i) rest (states (append_assoc front (item ∷ []) rest i) (group_keys keys rows)))
      ∙ bad_is (front ++ item ∷ []) rest ∙ ap (λ n. first_bad_from (n + 1) keys rows rest) (length-append front (item ∷ [])) in
      λ i. elim ((at_place front item rest (group_keys keys rows) ∙ same_bad item) i) as (λ _. Option (ℕ × ℤ)) [ Some s ↦ Some (length front + 1, s) | None ↦ more i ]

pub first_bad_is : (spec : GroupSpec) (rows : List (List Value)) → bad_from 0 spec.items (groups_in_order spec rows) ≡ first_bad spec rows
first_bad_is spec rows = bad_is spec.keys rows [] spec.items

-- ---- the rows

module _ (keys : List ℕ) (rows : List (List Value)) (small : length rows < 2 ^ 63) where
  all_none : List (List Value) → List Item → Type 0
  all_none ks [] = ⊤
  all_none ks (item ∷ items) = (bad_in keys rows ks item ≡ None) × all_none ks items

  counted_cell : (n : ℕ) → n ≤ length rows → count_cell n ≡ Int (pos n)
  counted_cell n h = ap (λ b. cond b (Int (pos n)) Null) (is_small n (omega (arith, small, h)))
    where
      is_small : (m : ℕ) → m < 2 ^ 63 → nat_lt m (2 ^ 63) ≡ true
      is_small m p = grind arith

  find_here : (p : ℤ → Bool) (n : ℤ) (ns : List ℤ) → find p (n ∷ ns) ≡ None → (p n ≡ false) × (find p ns ≡ None)
  find_here p n ns h = go (p n) refl h
    where
      go : (b : Bool) → p n ≡ b → cond b (Some n) (find p ns) ≡ None → (p n ≡ false) × (find p ns ≡ None)
      go true e none = cc
      go false e none = (e, none)

  not_not : (b : Bool) → not b ≡ false → b ≡ true
  not_not true h = refl
  not_not false h = absurd (true≢false h)

  summed_cell : (vs : List Value) → is_int64 (int_sum vs) ≡ true → total_cell (length vs) (int_sum vs) ≡ sum_value vs
  summed_cell [] h = refl
  summed_cell (v ∷ vs) h = (λ i. cond (positive (length vs) i) (cond (h i) (Int (int_sum (v ∷ vs))) Null) Null)
    where
      positive : (n : ℕ) → nat_lt 0 (suc n) ≡ true
      positive n = grind arith

  cell_is : (k : List Value) (ks : List (List Value)) (item : Item) → bad_in keys rows (k ∷ ks) item ≡ None → cell keys k (tally_of (members keys rows k) item) ≡ item_value keys k (members keys rows k) item
  cell_is k ks (Column c) h = refl
  cell_is k ks CountAll h = counted_cell (length (members keys rows k)) (few_members keys rows k)
  cell_is k ks (Count c) h = counted_cell (length (present c (members keys rows k))) (omega (arith, few_present c (members keys rows k), few_members keys rows k))
  cell_is k ks (Sum c) h = summed_cell (present c (members keys rows k)) (not_not _ (find_here (λ n. not (is_int64 n)) (sum_in keys rows c k) (map (sum_in keys rows c) ks) h).0)
  cell_is k ks (Min c) h = refl
  cell_is k ks (Max c) h = refl

  rest_none : (k : List Value) (ks : List (List Value)) (item : Item) → bad_in keys rows (k ∷ ks) item ≡ None → bad_in keys rows ks item ≡ None
  rest_none k ks (Column c) h = refl
  rest_none k ks CountAll h = refl
  rest_none k ks (Count c) h = refl
  rest_none k ks (Sum c) h = (find_here (λ n. not (is_int64 n)) (sum_in keys rows c k) (map (sum_in keys rows c) ks) h).1
  rest_none k ks (Min c) h = refl
  rest_none k ks (Max c) h = refl

  row_is : (k : List Value) (ks : List (List Value)) (items : List Item) → all_none (k ∷ ks) items → map (cell keys k) (tallies_of items (members keys rows k)) ≡ map (item_value keys k (members keys rows k)) items
  unfolding all_none
  row_is k ks [] h = refl
  row_is k ks (item ∷ items) h = λ i. cell_is k ks item h.0 i ∷ row_is k ks items h.1 i

  fewer : (k : List Value) (ks : List (List Value)) (items : List Item) → all_none (k ∷ ks) items → all_none ks items
  unfolding all_none
  fewer k ks [] h = tt
  fewer k ks (item ∷ items) h = (rest_none k ks item h.0, fewer k ks items h.1)

  rows_are : (items : List Item) (ks : List (List Value)) → all_none ks items → cells keys (states keys rows items ks) ≡ map (λ k. map (item_value keys k (members keys rows k)) items) ks
  rows_are items [] h = refl
  rows_are items (k ∷ ks) h = λ i. row_is k ks items h i ∷ rows_are items ks (fewer k ks items h) i

  none_from : (n : ℕ) (items : List Item) → first_bad_from n keys rows items ≡ None → all_none (group_keys keys rows) items
  unfolding all_none
  none_from n [] h = tt
  none_from n (item ∷ items) h = go (bad_sum_of keys rows item) refl (none_from (n + 1) items) h
    where
      go : (o : Option ℤ) → bad_sum_of keys rows item ≡ o → (first_bad_from (n + 1) keys rows items ≡ None → all_none (group_keys keys rows) items)
          → (elim o as (λ _. Option (ℕ × ℤ)) [ Some s ↦ Some (n, s) | None ↦ first_bad_from (n + 1) keys rows items ]) ≡ None
          → (bad_in keys rows (group_keys keys rows) item ≡ None) × all_none (group_keys keys rows) items
      go None e more none = (same_bad keys rows item ∙ e, more none)
      go (Some s) e more none = cc

pub cells_are : (spec : GroupSpec) (rows : List (List Value)) → length rows < 2 ^ 63 → first_bad spec rows ≡ None → cells spec.keys (groups_in_order spec rows) ≡ grouped spec rows
cells_are spec rows small none = rows_are spec.keys rows small spec.items (group_keys spec.keys rows) (none_from spec.keys rows small 1 spec.items none)

-- ---- the loops

pub bad_step : (n : ℕ) (items : List Item) (es : List (List Value × List Tally)) (o : Option ℤ) → n < length items → bad_at n es ≡ o
    → bad_from n (drop n items) es ≡ (elim o as (λ _. Option (ℕ × ℤ)) [ Some s ↦ Some (n + 1, s) | None ↦ bad_from (n + 1) (drop (n + 1) items) es ])
bad_step n items es o lt h =
    ap (λ l. bad_from n l es) (drop_more items n (Column 0) lt) ∙ (λ i. elim (h i) as (λ _. Option (ℕ × ℤ)) [ Some s ↦ Some (n + 1, s) | None ↦ bad_from (n + 1) (drop (n + 1) items) es ])

none_left : (ks : List ℕ) (c : ℕ) → key_value ks [] c ≡ Null
none_left [] c = refl
none_left (k ∷ ks) c = refl

nil_drop : (n : ℕ) → drop {A = Value} n [] ≡ []
nil_drop zero = refl
nil_drop (suc n) = refl

key_next : (n : ℕ) (ks : List ℕ) (vs : List Value) (c : ℕ) → n < length ks → nat_eq (get_or ks n 0) c ≡ false → key_value (drop (suc n) ks) (drop (suc n) vs) c ≡ key_value (drop n ks) (drop n vs) c
key_next n ks [] c lt h = ap (λ l. key_value (drop (suc n) ks) l c) (nil_drop (suc n)) ∙ none_left (drop (suc n) ks) c ∙ sym (ap (λ l. key_value (drop n ks) l c) (nil_drop n) ∙ none_left (drop n ks) c)
key_next n [] (v ∷ vs) c lt h = absurd (omega arith)
key_next zero (k ∷ ks) (v ∷ vs) c lt h = sym (ap (λ b. cond b v (key_value ks vs c)) h)
key_next (suc n) (k ∷ ks) (v ∷ vs) c lt h = key_next n ks vs c (omega arith) h

one_more : (n : ℕ) → suc n ≡ n + 1
one_more n = omega arith

pub key_step : (n : ℕ) (ks : List ℕ) (vs : List Value) (c : ℕ) → n < length ks → nat_eq (get_or ks n 0) c ≡ false → key_value (drop (n + 1) ks) (drop (n + 1) vs) c ≡ key_value (drop n ks) (drop n vs) c
key_step n ks vs c lt h = subst (λ m. key_value (drop m ks) (drop m vs) c ≡ key_value (drop n ks) (drop n vs) c) (one_more n) (key_next n ks vs c lt h)

pub cells_more : (keys : List ℕ) (es : List (List Value × List Tally)) (i : ℕ) (e : List Value × List Tally) (row : List Value) (old new : List (List Value)) → i < length es → e ≡ get_or es i e → row ≡ map (cell keys e.0) e.1
    → old ≡ cells keys (take i es) → new ≡ old ++ row ∷ [] → new ≡ cells keys (take (i + 1) es)
cells_more keys es i e row old new lt is h was so =
    so ∙ (λ j. was j ++ h j ∷ []) ∙ (λ j. cells keys (take i es) ++ map (cell keys (is j).0) (is j).1 ∷ [])
    ∙ sym (map_more (λ (x : List Value × List Tally). map (cell keys x.0) x.1) es i e lt)
