-- Lists without repetition that have the same elements are the same but for their order.
use Rattle.std.proofs.Common.{◌≡◌, Bool, true, false, not, cond, ◌||◌, List, [], ◌∷◌, filter, refl, sym, ap, ◌∙◌, subst, true≢false, IsPermutation}
use Rattle.std.specs.List.{list_any, IsDistinct, AllByRecursion}
use Rattle.std.specs.Cmp.{IsEquivalence}
use Rattle.std.proofs.lemmas.Map.Keys.{IsDistinct-head, IsDistinct-tail, IsDistinct-cons, IsDistinct-IsPermutation}
use Rattle.std.proofs.lemmas.List.Sorted.{IsPermutation-refl, IsPermutation-cons, IsPermutation-trans, list_any-IsPermutation}
use Rattle.rm_rules.specs.Sorting.{distinct}
use Rattle.rm_rules.proofs.Along.{two_heads}

module _ {X : Type 0} (same : X → X → Bool) (laws : IsEquivalence same) (exact : (x y : X) → same x y ≡ true → x ≡ y) where
  taken_out : (x : X) (ks : List X) → list_any (same x) ks ≡ true → (rest : List X) × IsPermutation ks (x ∷ rest)
  taken_out x [] h = absurd (true≢false (sym h))
  taken_out x (k ∷ ks) h = go (same x k) refl h (taken_out x ks)
    where
      go : (b : Bool) → same x k ≡ b → (b || list_any (same x) ks) ≡ true
          → (list_any (same x) ks ≡ true → (rest : List X) × IsPermutation ks (x ∷ rest)) → (rest : List X) × IsPermutation (k ∷ ks) (x ∷ rest)
      go true e t more = (ks, subst (λ y. IsPermutation (k ∷ ks) (y ∷ ks)) (sym (exact x k e)) (IsPermutation-refl (k ∷ ks)))
      go false e t more = let m = more t in (k ∷ m.0, IsPermutation-trans _ _ _ (IsPermutation-cons k ks (x ∷ m.0) m.1) (two_heads k x m.0))

  none_in : (x : X) (ys : List X) → AllByRecursion (λ y. same x y ≡ false) ys → list_any (same x) ys ≡ false
  none_in x [] h = refl
  none_in x (y ∷ ys) h = (λ i. h.0 i || list_any (same x) ys) ∙ none_in x ys h.1

  -- what x is not the same as, a test at x does not find, nor one at what is the same as x
  none_at : (x q : X) (ys : List X) → AllByRecursion (λ y. same x y ≡ false) ys → same q x ≡ true → list_any (same q) ys ≡ false
  none_at x q ys h e = ap (λ z. list_any (same z) ys) (exact q x e) ∙ none_in x ys h

  rests_alike : (x : X) (gs rest : List X) → IsDistinct same (x ∷ gs) → IsDistinct same (x ∷ rest)
      → ((q : X) → (same q x || list_any (same q) gs) ≡ (same q x || list_any (same q) rest)) → (q : X) → list_any (same q) gs
      ≡ list_any (same q) rest
  rests_alike x gs rest dg dr h q = go (same q x) refl (h q)
    where
      go : (b : Bool) → same q x ≡ b → (b || list_any (same q) gs) ≡ (b || list_any (same q) rest) → list_any (same q) gs ≡ list_any (same q) rest
      go true e t = none_at x q gs (IsDistinct-head same x gs dg) e ∙ sym (none_at x q rest (IsDistinct-head same x rest dr) e)
      go false e t = t

  pub same_members : (gs ks : List X) → IsDistinct same gs → IsDistinct same ks → ((q : X) → list_any (same q) gs ≡ list_any (same q) ks)
      → IsPermutation ks gs
  same_members [] [] dg dk h = IsPermutation-refl []
  same_members [] (k ∷ ks) dg dk h = absurd (true≢false (sym (h k ∙ (λ i. laws.refl k i || list_any (same k) ks))))
  same_members (g ∷ gs) ks dg dk h =
      let out = taken_out g ks (sym (h g) ∙ (λ i. laws.refl g i || list_any (same g) gs)) in
      let dr = IsDistinct-IsPermutation same laws.symm ks (g ∷ out.0) out.1 dk in
      let alike = rests_alike g gs out.0 dg dr (λ q. h q ∙ list_any-IsPermutation (same q) ks (g ∷ out.0) out.1) in
      IsPermutation-trans _ _ _ out.1 (IsPermutation-cons g out.0 gs (same_members gs out.0 (IsDistinct-tail same g gs dg) (IsDistinct-tail same g out.0 dr) alike))

  -- ---- what `distinct` leaves

  kept_apart : (x : X) (ys : List X) → AllByRecursion (λ y. same x y ≡ false) (filter (λ y. not (same x y)) ys)
  kept_apart x [] = tt
  kept_apart x (y ∷ ys) = go (same x y) refl (kept_apart x ys)
    where
      go : (b : Bool) → same x y ≡ b → AllByRecursion (λ z. same x z ≡ false) (filter (λ z. not (same x z)) ys)
          → AllByRecursion (λ z. same x z ≡ false) (cond (not b) (y ∷ filter (λ z. not (same x z)) ys) (filter (λ z. not (same x z)) ys))
      go true e more = more
      go false e more = (e, more)

  kept_all : (p : X → Bool) (P : X → Type 0) (ys : List X) → AllByRecursion P ys → AllByRecursion P (filter p ys)
  kept_all p P [] h = tt
  kept_all p P (y ∷ ys) h =
      elim (p y) as (λ b. AllByRecursion P (cond b (y ∷ filter p ys) (filter p ys))) [ true ↦ (h.0, kept_all p P ys h.1) | false ↦ kept_all p P ys h.1 ]

  kept_distinct : (p : X → Bool) (ys : List X) → IsDistinct same ys → IsDistinct same (filter p ys)
  kept_distinct p [] h = h
  kept_distinct p (y ∷ ys) h =
      elim (p y) as (λ b. IsDistinct same (cond b (y ∷ filter p ys) (filter p ys)))
      [ true ↦ IsDistinct-cons same y (filter p ys) (kept_all p (λ z. same y z ≡ false) ys (IsDistinct-head same y ys h)) (kept_distinct p ys (IsDistinct-tail same y ys h)) | false ↦ kept_distinct p ys (IsDistinct-tail same y ys h) ]

  nothing_distinct : IsDistinct same []
  unfolding IsDistinct
  nothing_distinct = tt

  pub IsDistinct-distinct : (xs : List X) → IsDistinct same (distinct same xs)
  IsDistinct-distinct [] = nothing_distinct
  IsDistinct-distinct (x ∷ xs) =
      IsDistinct-cons same x _ (kept_apart x (distinct same xs)) (kept_distinct _ (distinct same xs) (IsDistinct-distinct xs))

  -- a test at q finds what it found, but for what x is the same as
  any_kept : (x q : X) (ys : List X) → same q x ≡ false → list_any (same q) (filter (λ y. not (same x y)) ys) ≡ list_any (same q) ys
  any_kept x q [] e = refl
  any_kept x q (y ∷ ys) e = go (same x y) refl (any_kept x q ys e)
    where
      go : (b : Bool) → same x y ≡ b → list_any (same q) (filter (λ z. not (same x z)) ys) ≡ list_any (same q) ys
          → list_any (same q) (cond (not b) (y ∷ filter (λ z. not (same x z)) ys) (filter (λ z. not (same x z)) ys))
          ≡ (same q y || list_any (same q) ys)
      go true t more = more ∙ sym ((λ i. (ap (same q) (sym (exact x y t)) ∙ e) i || list_any (same q) ys))
      go false t more = λ i. same q y || more i

  pub any-distinct : (q : X) (xs : List X) → list_any (same q) (distinct same xs) ≡ list_any (same q) xs
  any-distinct q [] = refl
  any-distinct q (x ∷ xs) = go (same q x) refl (any-distinct q xs)
    where
      go : (b : Bool) → same q x ≡ b → list_any (same q) (distinct same xs) ≡ list_any (same q) xs
          → (b || list_any (same q) (filter (λ y. not (same x y)) (distinct same xs))) ≡ (b || list_any (same q) xs)
      go true e more = refl
      go false e more = any_kept x q (distinct same xs) e ∙ more

  -- the distinct values of a multiset do not depend on how it was arranged
  pub distinct_along : (xs ys : List X) → IsPermutation xs ys → IsPermutation (distinct same xs) (distinct same ys)
  distinct_along xs ys moved =
      same_members (distinct same ys) (distinct same xs) (IsDistinct-distinct ys) (IsDistinct-distinct xs)
      (λ q. any-distinct q ys ∙ sym (list_any-IsPermutation (same q) xs ys moved) ∙ sym (any-distinct q xs))
