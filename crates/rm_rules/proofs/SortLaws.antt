-- A multiset has one order, where values that tie are one value.
use Rattle.std.proofs.Common.{◌≡◌, ℕ, suc, ◌<◌, ◌≤◌, ◌+◌, Bool, true, false, cond, List, [], ◌∷◌, length, refl, sym, ap, ap₂, ◌∙◌, subst, arith, Ordering, Less, Equal, Greater, is_lt, is_gt, true≢false, IsPermutation, IsSorted}
use Rattle.std.specs.Cmp.{IsTotalOrder}
use Rattle.std.specs.Ordering.{ordering_reverse}
use Rattle.rm_rules.specs.Sorting.{put, sorted}
use Rattle.std.proofs.lemmas.List.Sorted.{IsPermutation-refl, IsPermutation-trans, IsPermutation-cons}
use Rattle.rm_rules.proofs.Along.{same_along, two_heads}

module _ {X : Type 0} (cmp : X → X → Ordering) (total : IsTotalOrder cmp) (exact : (x y : X) → cmp x y ≡ Equal → x ≡ y) where
  abbrev above : X → X → Bool
  above x y = is_gt (cmp x y)

  -- of two values that are not above each other both are one
  both_flat : (r s : Ordering) → r ≡ ordering_reverse s → is_gt r ≡ false → is_gt s ≡ false → r ≡ Equal
  both_flat Less Less e p q = cc
  both_flat Less Equal e p q = cc
  both_flat Less Greater e p q = absurd (true≢false q)
  both_flat Equal s e p q = refl
  both_flat Greater s e p q = absurd (true≢false p)

  one_of_two : (x y : X) → above x y ≡ false → above y x ≡ false → x ≡ y
  one_of_two x y p q = exact x y (both_flat (cmp x y) (cmp y x) (total.antisymm x y) p q)

  both_above : (r s : Ordering) → r ≡ ordering_reverse s → is_gt r ≡ true → is_gt s ≡ false
  both_above Less s e p = absurd (true≢false (sym p))
  both_above Equal s e p = absurd (true≢false (sym p))
  both_above Greater Less e p = refl
  both_above Greater Equal e p = refl
  both_above Greater Greater e p = cc

  not_both : (x y : X) → above x y ≡ true → above y x ≡ false
  not_both x y p = both_above (cmp x y) (cmp y x) (total.antisymm x y) p

  turn_gt : (r s : Ordering) → r ≡ ordering_reverse s → is_gt r ≡ true → s ≡ Less
  turn_gt Less s e p = absurd (true≢false (sym p))
  turn_gt Equal s e p = absurd (true≢false (sym p))
  turn_gt Greater Less e p = refl
  turn_gt Greater Equal e p = cc
  turn_gt Greater Greater e p = cc

  -- x above z and y not above z: x is above y
  pub across : (x y z : X) → above x z ≡ true → above y z ≡ false → above x y ≡ true
  across x y z p q = go (cmp y z) refl q
    where
      go : (r : Ordering) → cmp y z ≡ r → is_gt r ≡ false → above x y ≡ true
      go Less e s = ap is_gt (total.antisymm x y ∙ ap ordering_reverse (total.trans y z x e (turn_gt (cmp x z) (cmp z x) (total.antisymm x z) p)))
      go Equal e s = subst (λ w. above x w ≡ true) (sym (exact y z e)) p
      go Greater e s = absurd (true≢false s)

  -- the two that are put before all of the rest
  two : (x y : X) (s : List X) → cond (above x y) (y ∷ x ∷ s) (x ∷ y ∷ s) ≡ cond (above y x) (x ∷ y ∷ s) (y ∷ x ∷ s)
  two x y s = go (above x y) (above y x) refl refl
    where
      go : (a b : Bool) → above x y ≡ a → above y x ≡ b → cond a (y ∷ x ∷ s) (x ∷ y ∷ s) ≡ cond b (x ∷ y ∷ s) (y ∷ x ∷ s)
      go true true p q = absurd (true≢false (sym q ∙ not_both x y p))
      go true false p q = refl
      go false true p q = refl
      go false false p q = λ i. one_of_two x y p q i ∷ one_of_two y x q p i ∷ s

  pub put_put : (x y : X) (s : List X) → put cmp x (put cmp y s) ≡ put cmp y (put cmp x s)
  put_put x y [] = two x y []
  put_put x y (z ∷ s) = go (above x z) (above y z) refl refl (put_put x y s)
    where
      go : (a b : Bool) → above x z ≡ a → above y z ≡ b → put cmp x (put cmp y s) ≡ put cmp y (put cmp x s)
          → put cmp x (cond b (z ∷ put cmp y s) (y ∷ z ∷ s)) ≡ put cmp y (cond a (z ∷ put cmp x s) (x ∷ z ∷ s))
      go true true p q more = rw (p, q) (ap (λ l. z ∷ l) more)
      go true false p q more = rw (across x y z p q, p, q) refl
      go false true p q more = rw (across y x z q p, p, q) refl
      go false false p q more = rw (p, q) (two x y (z ∷ s))

  -- the order forgets how the rows were arranged
  pub sorted_along : (xs ys : List X) → IsPermutation xs ys → sorted cmp xs ≡ sorted cmp ys
  sorted_along = same_along (sorted cmp) (λ x xs ys h. ap (put cmp x) h) (λ x y xs. put_put x y (sorted cmp xs))

  -- a list in order stays as it is
  pub sorted_stays : (xs : List X) → IsSorted cmp xs → sorted cmp xs ≡ xs
  sorted_stays [] up = refl
  sorted_stays (x ∷ xs) up =
      let tail : IsSorted cmp xs =
      λ k d p q. rw Rattle.std.proofs.Common.add-one (rw Rattle.std.proofs.Common.add-one at (up (suc k) d (omega arith) (omega arith))) in
      ap (put cmp x) (sorted_stays xs tail) ∙ first xs up
    where
      turned : (r s : Ordering) → r ≡ ordering_reverse s → is_lt s ≡ false → is_gt r ≡ false
      turned r Less e h = absurd (true≢false h)
      turned r Equal e h = ap is_gt e
      turned r Greater e h = ap is_gt e

      first : (ys : List X) → IsSorted cmp (x ∷ ys) → put cmp x ys ≡ x ∷ ys
      first [] h = refl
      first (y ∷ ys) h = rw (turned (cmp x y) (cmp y x) (total.antisymm x y) (h 0 x (omega arith) (omega arith))) refl

  -- what a sort leaves is the one order of what came in
  pub sorted_is : (xs ys : List X) → IsPermutation xs ys → IsSorted cmp ys → ys ≡ sorted cmp xs
  sorted_is xs ys moved up = sym (sorted_stays ys up) ∙ sym (sorted_along xs ys moved)

pub IsPermutation-put : {X : Type 0} (cmp : X → X → Ordering) (x : X) (xs : List X) → IsPermutation (x ∷ xs) (put cmp x xs)
IsPermutation-put cmp x [] = IsPermutation-refl (x ∷ [])
IsPermutation-put cmp x (y ∷ ys) =
    elim (is_gt (cmp x y)) as (λ b. IsPermutation (x ∷ y ∷ ys) (cond b (y ∷ put cmp x ys) (x ∷ y ∷ ys)))
    [ true ↦ IsPermutation-trans _ _ _ (two_heads x y ys) (IsPermutation-cons y _ _ (IsPermutation-put cmp x ys)) | false ↦ IsPermutation-refl (x ∷ y ∷ ys) ]

pub IsPermutation-sorted : {X : Type 0} (cmp : X → X → Ordering) (xs : List X) → IsPermutation xs (sorted cmp xs)
IsPermutation-sorted cmp [] = IsPermutation-refl []
IsPermutation-sorted cmp (x ∷ xs) =
    IsPermutation-trans _ _ _ (IsPermutation-cons x _ _ (IsPermutation-sorted cmp xs)) (IsPermutation-put cmp x (sorted cmp xs))
