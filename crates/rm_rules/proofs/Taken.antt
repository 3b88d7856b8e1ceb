-- A list without the first that passes a test: sums, lengths and counts.
use Rattle.std.proofs.Common.{◌≡◌, ℕ, ◌+◌, ◌≤◌, Bool, true, false, ◌&&◌, ◌||◌, not, cond, List, [], ◌∷◌, ◌++◌, length, Option, Some, None, refl, sym, ap, ◌∙◌, arith, sum_by, count_by}
use Rattle.std.specs.List.{find, list_all}
use Rattle.std.proofs.lemmas.List.Sums.{sum_by-cons}
use Rattle.std.proofs.lemmas.Bool.{false≢true}
use Rattle.rm_base.specs.Ranges.{passes_if_set}
use Rattle.rm_rules.specs.State.{without}

-- the sum without the one that is found, and that one
sum_without-turn : {A : Type 0} (f : A → ℕ) (test : A → Bool) (x y : A) (xs : List A) (b : Bool) → cond b (Some x) (find test xs) ≡ Some y
    → (find test xs ≡ Some y → sum_by f (without test xs) + f y ≡ sum_by f xs) → sum_by f (cond b xs (x ∷ without test xs)) + f y ≡ sum_by f (x ∷ xs)
sum_without-turn f test x y xs true found rest =
    let same : x ≡ y = cc in
    omega (arith, sum_by-cons f x xs, ap f same)
sum_without-turn f test x y xs false found rest = omega (arith, rest found, sum_by-cons f x xs, sum_by-cons f x (without test xs))

pub sum_without : {A : Type 0} (f : A → ℕ) (test : A → Bool) (y : A) (xs : List A) → find test xs ≡ Some y → sum_by f (without test xs) + f y ≡ sum_by f xs
sum_without f test y [] found = let none : None ≡ Some y = found in absurd (cc)
sum_without f test y (x ∷ xs) found = sum_without-turn f test x y xs (test x) found (sum_without f test y xs)

length_without-turn : {A : Type 0} (test : A → Bool) (x y : A) (xs : List A) (b : Bool) → cond b (Some x) (find test xs) ≡ Some y
    → (find test xs ≡ Some y → length (without test xs) + 1 ≡ length xs) → length (cond b xs (x ∷ without test xs)) + 1 ≡ length (x ∷ xs)
length_without-turn test x y xs true found rest = omega arith
length_without-turn test x y xs false found rest = omega (arith, rest found)

pub length_without : {A : Type 0} (test : A → Bool) (y : A) (xs : List A) → find test xs ≡ Some y → length (without test xs) + 1 ≡ length xs
length_without test y [] found = let none : None ≡ Some y = found in absurd (cc)
length_without test y (x ∷ xs) found = length_without-turn test x y xs (test x) found (length_without test y xs)

-- what is found passes the test
passes-turn : {A : Type 0} (test : A → Bool) (x y : A) (xs : List A) (b : Bool) → test x ≡ b → cond b (Some x) (find test xs) ≡ Some y
    → (find test xs ≡ Some y → test y ≡ true) → test y ≡ true
passes-turn test x y xs true e found rest = let same : x ≡ y = cc in ap test (sym same) ∙ e
passes-turn test x y xs false e found rest = rest found

pub found_passes : {A : Type 0} (test : A → Bool) (y : A) (xs : List A) → find test xs ≡ Some y → test y ≡ true
found_passes test y [] found = let none : None ≡ Some y = found in absurd (cc)
found_passes test y (x ∷ xs) found = passes-turn test x y xs (test x) refl found (found_passes test y xs)

-- where some pass, one is found
found-turn : {A : Type 0} (test : A → Bool) (x : A) (xs : List A) (b : Bool) → test x ≡ b → 1 ≤ count_by test (x ∷ xs)
    → (1 ≤ count_by test xs → (y : A) × (find test xs ≡ Some y)) → (y : A) × (cond b (Some x) (find test xs) ≡ Some y)
found-turn test x xs true e some rest = (x, refl)
found-turn test x xs false e some rest = rest (omega (arith, sum_by-cons (λ z. cond (test z) 1 0) x xs, ap {B = ℕ} (λ (c : Bool). cond c 1 0) e))

pub found_counted : {A : Type 0} (test : A → Bool) (xs : List A) → 1 ≤ count_by test xs → (y : A) × (find test xs ≡ Some y)
found_counted test [] some = absurd (omega arith)
found_counted test (x ∷ xs) some = found-turn test x xs (test x) refl some (found_counted test xs)

-- both sides of `&&`
pub and_left : (a b : Bool) → (a && b) ≡ true → a ≡ true
and_left true b h = refl
and_left false b h = h

pub and_right : (a b : Bool) → (a && b) ≡ true → b ≡ true
and_right true b h = h
and_right false b h = absurd (false≢true h)

pub and_both : (a b : Bool) → a ≡ true → b ≡ true → (a && b) ≡ true
and_both a b h k = ap (λ c. c && b) h ∙ k

-- what passes one test passes a wider one
pub all_wider : {A : Type 0} (p q : A → Bool) (xs : List A) → ((x : A) → p x ≡ true → q x ≡ true) → list_all p xs ≡ true → list_all q xs ≡ true
all_wider p q [] wider all = refl
all_wider p q (x ∷ xs) wider all =
    and_both (q x) _ (wider x (and_left (p x) (list_all p xs) all)) (all_wider p q xs wider (and_right (p x) (list_all p xs) all))

pub set_wider : {A : Type 0} (p q : A → Bool) (o : Option A) → ((x : A) → p x ≡ true → q x ≡ true) → passes_if_set p o ≡ true → passes_if_set q o ≡ true
set_wider p q None wider passes = refl
set_wider p q (Some x) wider passes = wider x passes

-- a test that all pass, all pass without one, and with one more
pub all_without : {A : Type 0} (p test : A → Bool) (xs : List A) → list_all p xs ≡ true → list_all p (without test xs) ≡ true
all_without p test [] all = refl
all_without {A} p test (x ∷ xs) all =
    let rest = all_without p test xs (and_right (p x) (list_all p xs) all) in
    elim (test x) as (λ b. list_all p (cond b xs (x ∷ without test xs)) ≡ true) [
      | true ↦ and_right (p x) (list_all p xs) all
      | false ↦ and_both (p x) _ (and_left (p x) (list_all p xs) all) rest
    ]

pub all_push : {A : Type 0} (p : A → Bool) (xs : List A) (y : A) → list_all p xs ≡ true → p y ≡ true → list_all p (xs ++ y ∷ []) ≡ true
all_push p [] y all here = and_both (p y) true here refl
all_push p (x ∷ xs) y all here = and_both (p x) _ (and_left (p x) (list_all p xs) all) (all_push p xs y (and_right (p x) (list_all p xs) all) here)

-- what all pass, one of them passes
pub all_among : {A : Type 0} (p : A → Bool) (front rest : List A) (y : A) → list_all p (front ++ y ∷ rest) ≡ true → p y ≡ true
all_among p [] rest y all = and_left (p y) (list_all p rest) all
all_among p (x ∷ front) rest y all = all_among p front rest y (and_right (p x) _ all)

-- what is counted among these is counted
pub counted_among : {A : Type 0} (test : A → Bool) (front rest : List A) (y : A) → test y ≡ true → 1 ≤ count_by test (front ++ y ∷ rest)
counted_among test [] rest y here = omega (arith, sum_by-cons (λ z. cond (test z) 1 0) y rest, ap {B = ℕ} (λ (c : Bool). cond c 1 0) here)
counted_among test (x ∷ front) rest y here = omega (arith, counted_among test front rest y here, sum_by-cons (λ z. cond (test z) 1 0) x (front ++ y ∷ rest))

-- what all pass, what is found among them passes
pub all_found : {A : Type 0} (p q : A → Bool) (xs : List A) (y : A) → list_all p xs ≡ true → find q xs ≡ Some y → p y ≡ true
all_found p q [] y all found = let none : None ≡ Some y = found in absurd (cc)
all_found p q (x ∷ xs) y all found =
    let here : p x ≡ true = and_left (p x) (list_all p xs) all in
    let turn : (b : Bool) → cond b (Some x) (find q xs) ≡ Some y → p y ≡ true =
    λ b. elim b as (λ c. cond c (Some x) (find q xs) ≡ Some y → p y ≡ true) [
      | true ↦ λ (e : Some x ≡ Some y). let same : x ≡ y = cc in ap p (sym same) ∙ here
      | false ↦ all_found p q xs y (and_right (p x) (list_all p xs) all)
    ] in
    turn (q x) found

-- the first of two holds where the second does not
pub or_first : (a b : Bool) → b ≡ false → (a || b) ≡ true → a ≡ true
or_first true b h e = refl
or_first false b h e = sym h ∙ e

-- both sides of `||`
pub or_left_false : (a b : Bool) → (a || b) ≡ false → a ≡ false
or_left_false true b h = h
or_left_false false b h = refl

pub or_right_false : (a b : Bool) → (a || b) ≡ false → b ≡ false
or_right_false true b h = absurd (false≢true (sym h))
or_right_false false b h = h

pub or_both_false : (a b : Bool) → a ≡ false → b ≡ false → (a || b) ≡ false
or_both_false a b h k = ap (λ c. c || b) h ∙ k

pub not_false : (a : Bool) → not a ≡ true → a ≡ false
not_false true h = sym h
not_false false h = refl

pub not_true : (a : Bool) → not a ≡ false → a ≡ true
not_true true h = refl
not_true false h = sym h

-- where one alone passes, it is what is found
single-turn : {A : Type 0} (test : A → Bool) (x y w : A) (front rest : List A) (b : Bool) → test x ≡ b → test w ≡ true
    → count_by test (x ∷ front ++ w ∷ rest) ≤ 1 → cond b (Some x) (find test (front ++ w ∷ rest)) ≡ Some y
    → (count_by test (front ++ w ∷ rest) ≤ 1 → find test (front ++ w ∷ rest) ≡ Some y → w ≡ y) → w ≡ y
single-turn test x y w front rest true e passes few found more =
    absurd (omega (arith, few, counted_among test front rest w passes, sum_by-cons (λ z. cond (test z) 1 0) x (front ++ w ∷ rest), ap {B = ℕ} (λ (c : Bool). cond c 1 0) e))
single-turn test x y w front rest false e passes few found more =
    more (omega (arith, few, sum_by-cons (λ z. cond (test z) 1 0) x (front ++ w ∷ rest))) found

pub found_single : {A : Type 0} (test : A → Bool) (front rest : List A) (w y : A) → test w ≡ true → count_by test (front ++ w ∷ rest) ≤ 1
    → find test (front ++ w ∷ rest) ≡ Some y → w ≡ y
found_single test [] rest w y passes few found =
    let first : cond (test w) (Some w) (find test rest) ≡ Some w = ap (λ b. cond b (Some w) (find test rest)) passes in
    let both : Some w ≡ Some y = sym first ∙ found in
    cc
found_single test (x ∷ front) rest w y passes few found =
    single-turn test x y w front rest (test x) refl passes few found (found_single test front rest w y passes)

-- no more are counted without one
count_without-turn : {A : Type 0} (p test : A → Bool) (x : A) (xs : List A) (b : Bool) → count_by p (without test xs) ≤ count_by p xs
    → count_by p (cond b xs (x ∷ without test xs)) ≤ count_by p (x ∷ xs)
count_without-turn p test x xs true rest = omega (arith, sum_by-cons (λ z. cond (p z) 1 0) x xs)
count_without-turn p test x xs false rest = omega (arith, rest, sum_by-cons (λ z. cond (p z) 1 0) x xs, sum_by-cons (λ z. cond (p z) 1 0) x (without test xs))

pub count_without : {A : Type 0} (p test : A → Bool) (xs : List A) → count_by p (without test xs) ≤ count_by p xs
count_without p test [] = omega arith
count_without p test (x ∷ xs) = count_without-turn p test x xs (test x) (count_without p test xs)
