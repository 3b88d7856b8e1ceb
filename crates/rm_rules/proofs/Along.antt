-- What holds along each permutation.
use Rattle.std.proofs.Common.{◌≡◌, ℕ, zero, suc, ◌<◌, Bool, true, false, cond, List, [], ◌∷◌, ◌++◌, filter, flat_map, length, get_or, set, swap, refl, ap, ◌∙◌, arith, append_assoc, IsPermutation}
use Rattle.std.proofs.lemmas.List.Sorted.{IsPermutation-refl, IsPermutation-keeps, IsPermutation-trans, IsPermutation-append_left, IsPermutation-append_right, IsPermutation-append_comm}

-- a relation that goes under a head and over an exchange of two heads holds along every permutation
module _ {X : Type 0} (R : List X → List X → Type 0) (same : (xs : List X) → R xs xs) (skip : (x : X) (xs ys : List X) → R xs ys → R (x ∷ xs) (x ∷ ys))
    (turn : (x y : X) (xs : List X) → R (x ∷ y ∷ xs) (y ∷ x ∷ xs)) (chain : (xs ys zs : List X) → R xs ys → R ys zs → R xs zs) where
  -- the head and a place behind it
  with_head : (d x : X) (xs : List X) (j : ℕ) → j < length xs → R (x ∷ xs) (get_or xs j d ∷ set xs j x)
  with_head d x [] j within = absurd (omega arith)
  with_head d x (y ∷ xs) zero within = turn x y xs
  with_head d x (y ∷ xs) (suc j) within =
      chain _ _ _ (turn x y xs) (chain _ _ _ (skip y _ _ (with_head d x xs j (omega arith))) (turn y (get_or xs j d) (set xs j x)))

  -- two places
  exchanged : (d : X) (xs : List X) (i j : ℕ) → i < length xs → j < length xs → R xs (set (set xs i (get_or xs j d)) j (get_or xs i d))
  exchanged d [] i j in_i in_j = absurd (omega arith)
  exchanged d (x ∷ xs) zero zero in_i in_j = same (x ∷ xs)
  exchanged d (x ∷ xs) zero (suc j) in_i in_j = with_head d x xs j (omega arith)
  exchanged d (x ∷ xs) (suc i) zero in_i in_j = with_head d x xs i (omega arith)
  exchanged d (x ∷ xs) (suc i) (suc j) in_i in_j = skip x _ _ (exchanged d xs i j (omega arith) (omega arith))

  swapped : (xs : List X) (i j : ℕ) → i < length xs → j < length xs → R xs (swap xs i j)
  swapped [] i j in_i in_j = same []
  swapped (x ∷ xs) i j in_i in_j = exchanged x (x ∷ xs) i j in_i in_j

  pub along_permutation : (xs ys : List X) → IsPermutation xs ys → R xs ys
  along_permutation xs = IsPermutation-keeps xs (R xs) (same xs) (λ l i j in_i in_j h. chain xs l _ h (swapped l i j in_i in_j))

-- a function that no exchange of two heads changes is the same along a permutation
pub same_along : {X S : Type 0} (f : List X → S) → ((x : X) (xs ys : List X) → f xs ≡ f ys → f (x ∷ xs) ≡ f (x ∷ ys))
    → ((x y : X) (xs : List X) → f (x ∷ y ∷ xs) ≡ f (y ∷ x ∷ xs))
    → (xs ys : List X) → IsPermutation xs ys → f xs ≡ f ys
same_along f skip turn = along_permutation (λ xs ys. f xs ≡ f ys) (λ xs. refl) skip turn (λ xs ys zs h k. h ∙ k)

pub filter_as_flat_map : {A : Type 0} (p : A → Bool) (xs : List A) → filter p xs ≡ flat_map (λ x. cond (p x) (x ∷ []) []) xs
filter_as_flat_map p [] = refl
filter_as_flat_map p (x ∷ xs) =
    elim (p x) as (λ b. cond b (x ∷ filter p xs) (filter p xs) ≡ cond b (x ∷ []) [] ++ flat_map (λ y. cond (p y) (y ∷ []) []) xs)
    [ true ↦ ap (λ l. x ∷ l) (filter_as_flat_map p xs) | false ↦ filter_as_flat_map p xs ]

pub IsPermutation-flat_map : {A B : Type 0} (f : A → List B) (xs ys : List A) → IsPermutation xs ys → IsPermutation (flat_map f xs) (flat_map f ys)
IsPermutation-flat_map f = along_permutation (λ xs ys. IsPermutation (flat_map f xs) (flat_map f ys))
    (λ xs. IsPermutation-refl _)
    (λ x xs ys h. IsPermutation-append_right (f x) _ _ h)
    (λ x y xs. rw (← append_assoc (f x), ← append_assoc (f y)) (IsPermutation-append_left (flat_map f xs) _ _ (IsPermutation-append_comm (f x) (f y))))
    (λ xs ys zs. IsPermutation-trans _ _ _)

pub IsPermutation-filter : {A : Type 0} (p : A → Bool) (xs ys : List A) → IsPermutation xs ys → IsPermutation (filter p xs) (filter p ys)
IsPermutation-filter p xs ys h = rw (filter_as_flat_map p xs, filter_as_flat_map p ys) (IsPermutation-flat_map _ xs ys h)

pub two_heads : {X : Type 0} (x y : X) (xs : List X) → IsPermutation (x ∷ y ∷ xs) (y ∷ x ∷ xs)
two_heads x y xs = IsPermutation-append_left xs (x ∷ y ∷ []) (y ∷ x ∷ []) (IsPermutation-append_comm (x ∷ []) (y ∷ []))
