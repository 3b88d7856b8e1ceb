-- What passes a test in a list in which one at most does.
use Rattle.std.proofs.Common.{◌≡◌, ◌≤◌, ◌<◌, ℕ, ◌+◌, suc, Bool, true, false, nat_eq, cond, not, ltb, Some, None, List, [], ◌∷◌, ◌++◌, length, map, take_while, find, count_by, position, refl, ap, sym, ◌∙◌, arith, length-append}
use Rattle.std.specs.List.{position_or_len}
use Rattle.std.proofs.lemmas.Bool.Decides.{nat_tests}
use Rattle.std.proofs.lemmas.List.{take_at}
use Rattle.std.proofs.lemmas.List.Sums.{sum_by-cons}
use Rattle.rm_rules.specs.State.{without}
use Rattle.rm_rules.proofs.Places.{before-found}
use Rattle.rm_rules.proofs.Taken.{counted_among, sum_without}

-- a number is itself
pub is-itself : (n : ℕ) → nat_eq n n ≡ true
is-itself n = grind (arith, nat_tests)

-- those before it do not pass
apart-turn : {A : Type 0} (test : A → Bool) (x : A) (xs : List A) (b : Bool) → test x ≡ b → 1 ≤ count_by test xs → count_by test (x ∷ xs) ≤ 1 → b ≡ false
apart-turn test x xs true e some few =
    absurd (omega (arith, some, few, sum_by-cons (λ y. cond (test y) 1 0) x xs, ap {B = ℕ} (λ (c : Bool). cond c 1 0) e))
apart-turn test x xs false e some few = refl

apart : {A : Type 0} (test : A → Bool) (front rest : List A) (x w : A) → test w ≡ true → count_by test (x ∷ front ++ w ∷ rest) ≤ 1 → test x ≡ false
apart test front rest x w here few = apart-turn test x (front ++ w ∷ rest) (test x) refl (counted_among test front rest w here) few

fewer : {A : Type 0} (test : A → Bool) (x : A) (xs : List A) → count_by test (x ∷ xs) ≤ 1 → count_by test xs ≤ 1
fewer test x xs few = omega (arith, few, sum_by-cons (λ y. cond (test y) 1 0) x xs)

-- it is found
pub find-single : {A : Type 0} (test : A → Bool) (front rest : List A) (w : A) → test w ≡ true → count_by test (front ++ w ∷ rest) ≤ 1
    → find test (front ++ w ∷ rest) ≡ Some w
find-single test [] rest w here few = ap (λ c. cond c (Some w) (find test rest)) here
find-single test (x ∷ front) rest w here few =
    ap (λ c. cond c (Some x) (find test (front ++ w ∷ rest))) (apart test front rest x w here few)
    ∙ find-single test front rest w here (fewer test x (front ++ w ∷ rest) few)

-- and taken out
pub without-single : {A : Type 0} (test : A → Bool) (front rest : List A) (w : A) → test w ≡ true → count_by test (front ++ w ∷ rest) ≤ 1
    → without test (front ++ w ∷ rest) ≡ front ++ rest
without-single test [] rest w here few = ap (λ c. cond c rest (w ∷ without test rest)) here
without-single test (x ∷ front) rest w here few =
    ap (λ c. cond c (front ++ w ∷ rest) (x ∷ without test (front ++ w ∷ rest))) (apart test front rest x w here few)
    ∙ ap (λ xs. x ∷ xs) (without-single test front rest w here (fewer test x (front ++ w ∷ rest) few))

-- its place is behind those before it
place-single : {A : Type 0} (test : A → Bool) (front rest : List A) (w : A) → test w ≡ true → count_by test (front ++ w ∷ rest) ≤ 1
    → position_or_len test (front ++ w ∷ rest) ≡ length front
place-single test [] rest w here few = ap (λ c. cond (not c) (1 + position_or_len test rest) 0) here
place-single test (x ∷ front) rest w here few =
    let next : 1 + position_or_len test (front ++ w ∷ rest) ≡ suc (length front) = omega (arith, place-single test front rest w here (fewer test x (front ++ w ∷ rest) few)) in
    ap (λ c. cond (not c) (1 + position_or_len test (front ++ w ∷ rest)) 0) (apart test front rest x w here few) ∙ next

pub position-single : {A : Type 0} (test : A → Bool) (front rest : List A) (w : A) → test w ≡ true → count_by test (front ++ w ∷ rest) ≤ 1
    → position test (front ++ w ∷ rest) ≡ Some (length front)
position-single test front rest w here few =
    let at = place-single test front rest w here few in
    let within : position_or_len test (front ++ w ∷ rest) < length (front ++ w ∷ rest) = omega (arith, at, length-append front (w ∷ rest)) in
    let e : ltb (position_or_len test (front ++ w ∷ rest)) (length (front ++ w ∷ rest)) ≡ true = grind (arith, nat_tests) in
    ap (λ c. cond c (Some (position_or_len test (front ++ w ∷ rest))) None) e ∙ ap Some at

pub before-single : {A : Type 0} (test : A → Bool) (front rest : List A) (w : A) → test w ≡ true → count_by test (front ++ w ∷ rest) ≤ 1
    → take_while (λ x. not (test x)) (front ++ w ∷ rest) ≡ front
before-single test front rest w here few =
    before-found test (front ++ w ∷ rest) (length front) (position-single test front rest w here few) ∙ take_at front (w ∷ rest) (length front) refl

-- a test of what a list is mapped to
pub without-map : {A B : Type 0} (f : A → B) (test : B → Bool) (xs : List A) → map f (without (λ x. test (f x)) xs) ≡ without test (map f xs)
without-map f test [] = refl
without-map f test (x ∷ xs) = elim (test (f x)) as (λ b. map f (cond b xs (x ∷ without (λ y. test (f y)) xs)) ≡ cond b (map f xs) (f x ∷ without test (map f xs))) [
  | true ↦ refl
  | false ↦ ap (λ ys. f x ∷ ys) (without-map f test xs)
]

-- two tests take out the same, where what the one finds is all that passes the other
same-turn : {A : Type 0} (p q : A → Bool) (x y : A) (xs : List A) (b : Bool) → p x ≡ b → cond b (Some x) (find p xs) ≡ Some y → q y ≡ true → count_by q (x ∷ xs) ≤ 1
    → (find p xs ≡ Some y → without p xs ≡ without q xs) → cond b xs (x ∷ without p xs) ≡ cond (q x) xs (x ∷ without q xs)
same-turn p q x y xs true e found passes few rest =
    let same : y ≡ x = cc in
    let here : q x ≡ true = ap q (sym same) ∙ passes in
    sym (ap (λ c. cond c xs (x ∷ without q xs)) here)
same-turn p q x y xs false e found passes few rest =
    let one : cond (q y) 1 0 ≡ 1 = ap {B = ℕ} (λ (c : Bool). cond c 1 0) passes in
    let some : 1 ≤ count_by q xs = omega (arith, one, sum_without (λ z. cond (q z) 1 0) p y xs found) in
    let other : q x ≡ false = apart-turn q x xs (q x) refl some few in
    ap (λ ys. x ∷ ys) (rest found) ∙ sym (ap (λ c. cond c xs (x ∷ without q xs)) other)

pub without-same : {A : Type 0} (p q : A → Bool) (y : A) (xs : List A) → find p xs ≡ Some y → q y ≡ true → count_by q xs ≤ 1 → without p xs ≡ without q xs
without-same p q y [] found passes few = let none : None ≡ Some y = found in absurd (cc)
without-same p q y (x ∷ xs) found passes few =
    same-turn p q x y xs (p x) refl found passes few (λ f. without-same p q y xs f passes (fewer q x xs few))
