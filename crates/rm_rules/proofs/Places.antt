-- The first place in a list at which a test passes, what stands there, and what is done there.
use Rattle.std.proofs.Common.{◌≡◌, ◌≤◌, ◌<◌, ℕ, ◌+◌, suc, Bool, true, false, cond, not, ltb, Option, Some, None, List, [], ◌∷◌, length, get_or, take, take_while, find, refl, ap, sym, ◌∙◌, arith, remove, position, set}
use Rattle.std.specs.List.{position_or_len}
use Rattle.std.proofs.lemmas.Bool.Decides.{nat_tests}
use Rattle.rm_rules.specs.State.{without, changed_first}

-- what a place that was found is
found-turn : (b : Bool) (n i : ℕ) → cond b (Some n) None ≡ Some i → n ≡ i
found-turn true n i e = cc
found-turn false n i e = absurd (cc)

absent-turn : (b : Bool) (n : ℕ) → let o : Option ℕ = None in cond b (Some n) o ≡ o → b ≡ false
absent-turn true n e = absurd (cc)
absent-turn false n e = refl

within-turn : (b : Bool) (n i : ℕ) → cond b (Some n) None ≡ Some i → b ≡ true
within-turn true n i e = refl
within-turn false n i e = absurd (cc)

pub position-within : {A : Type 0} (test : A → Bool) (xs : List A) (i : ℕ) → position test xs ≡ Some i → position_or_len test xs < length xs
position-within test xs i found =
    let e : ltb (position_or_len test xs) (length xs) ≡ true = within-turn (ltb (position_or_len test xs) (length xs)) (position_or_len test xs) i found in
    grind (arith, nat_tests)

pub position-is : {A : Type 0} (test : A → Bool) (xs : List A) (i : ℕ) → position test xs ≡ Some i → position_or_len test xs ≡ i
position-is test xs i found = found-turn (ltb (position_or_len test xs) (length xs)) (position_or_len test xs) i found

pub position-past : {A : Type 0} (test : A → Bool) (xs : List A) → let o : Option ℕ = None in position test xs ≡ o → length xs ≤ position_or_len test xs
position-past test xs absent =
    let past : ltb (position_or_len test xs) (length xs) ≡ false = absent-turn (ltb (position_or_len test xs) (length xs)) (position_or_len test xs) absent in
    grind (arith, nat_tests)

first-turn : {A : Type 0} (test : A → Bool) (x : A) (xs : List A) (b : Bool) → (position_or_len test xs < length xs → without test xs ≡ remove xs (position_or_len test xs))
    → cond (not b) (1 + position_or_len test xs) 0 < length (x ∷ xs) → cond b xs (x ∷ without test xs) ≡ remove (x ∷ xs) (cond (not b) (1 + position_or_len test xs) 0)
first-turn test x xs true rest within = refl
first-turn test x xs false rest within =
    let e : 1 + position_or_len test xs ≡ suc (position_or_len test xs) = omega arith in
    rw e (ap (λ ys. x ∷ ys) (rest (omega arith)))

without-first : {A : Type 0} (test : A → Bool) (xs : List A) → position_or_len test xs < length xs → without test xs ≡ remove xs (position_or_len test xs)
without-first test [] within = absurd (omega arith)
without-first test (x ∷ xs) within = first-turn test x xs (test x) (without-first test xs) within

none-turn : {A : Type 0} (test : A → Bool) (x : A) (xs : List A) (b : Bool) → (length xs ≤ position_or_len test xs → without test xs ≡ xs)
    → length (x ∷ xs) ≤ cond (not b) (1 + position_or_len test xs) 0 → cond b xs (x ∷ without test xs) ≡ x ∷ xs
none-turn test x xs true rest past = absurd (omega arith)
none-turn test x xs false rest past = ap (λ ys. x ∷ ys) (rest (omega arith))

without-none : {A : Type 0} (test : A → Bool) (xs : List A) → length xs ≤ position_or_len test xs → without test xs ≡ xs
without-none test [] past = refl
without-none test (x ∷ xs) past = none-turn test x xs (test x) (without-none test xs) past

find-turn : {A : Type 0} (test : A → Bool) (x : A) (xs : List A) (d : A) (b : Bool) → (position_or_len test xs < length xs → find test xs ≡ Some (get_or xs (position_or_len test xs) d))
    → cond (not b) (1 + position_or_len test xs) 0 < length (x ∷ xs) → cond b (Some x) (find test xs) ≡ Some (get_or (x ∷ xs) (cond (not b) (1 + position_or_len test xs) 0) d)
find-turn test x xs d true rest within = refl
find-turn test x xs d false rest within =
    let e : 1 + position_or_len test xs ≡ suc (position_or_len test xs) = omega arith in
    rw e (rest (omega arith))

find-first : {A : Type 0} (test : A → Bool) (xs : List A) (d : A) → position_or_len test xs < length xs → find test xs ≡ Some (get_or xs (position_or_len test xs) d)
find-first test [] d within = absurd (omega arith)
find-first test (x ∷ xs) d within = find-turn test x xs d (test x) (find-first test xs d) within

find-none-turn : {A : Type 0} (test : A → Bool) (x : A) (xs : List A) (b : Bool) → (length xs ≤ position_or_len test xs → find test xs ≡ None)
    → length (x ∷ xs) ≤ cond (not b) (1 + position_or_len test xs) 0 → cond b (Some x) (find test xs) ≡ None
find-none-turn test x xs true rest past = absurd (omega arith)
find-none-turn test x xs false rest past = rest (omega arith)

find-none : {A : Type 0} (test : A → Bool) (xs : List A) → length xs ≤ position_or_len test xs → find test xs ≡ None
find-none test [] past = refl
find-none test (x ∷ xs) past = find-none-turn test x xs (test x) (find-none test xs) past

-- what was found stands there
pub without-found : {A : Type 0} (test : A → Bool) (xs : List A) (i : ℕ) → position test xs ≡ Some i → without test xs ≡ remove xs i
without-found test xs i found = without-first test xs (position-within test xs i found) ∙ ap (λ n. remove xs n) (position-is test xs i found)

pub find-found : {A : Type 0} (test : A → Bool) (xs : List A) (i : ℕ) (x : A) → position test xs ≡ Some i → x ≡ get_or xs i x → find test xs ≡ Some x
find-found test xs i x found at =
    find-first test xs x (position-within test xs i found) ∙ ap (λ n. Some (get_or xs n x)) (position-is test xs i found) ∙ ap Some (sym at)

-- nothing was found, and nothing is taken out
pub without-absent : {A : Type 0} (test : A → Bool) (xs : List A) → let o : Option ℕ = None in position test xs ≡ o → without test xs ≡ xs
without-absent test xs absent = without-none test xs (position-past test xs absent)

pub find-absent : {A : Type 0} (test : A → Bool) (xs : List A) → let o : Option ℕ = None in position test xs ≡ o → find test xs ≡ None
find-absent test xs absent = find-none test xs (position-past test xs absent)

-- what stands before the one that was found
pub before-found : {A : Type 0} (test : A → Bool) (xs : List A) (i : ℕ) → position test xs ≡ Some i → take_while (λ x. not (test x)) xs ≡ take i xs
before-found test xs i found = ap (λ n. take n xs) (position-is test xs i found)

changed-turn : {A : Type 0} (test : A → Bool) (act : A → A) (x : A) (xs : List A) (d : A) (b : Bool)
    → (position_or_len test xs < length xs → changed_first test act xs ≡ set xs (position_or_len test xs) (act (get_or xs (position_or_len test xs) d)))
    → cond (not b) (1 + position_or_len test xs) 0 < length (x ∷ xs)
    → cond b (act x ∷ xs) (x ∷ changed_first test act xs) ≡ set (x ∷ xs) (cond (not b) (1 + position_or_len test xs) 0) (act (get_or (x ∷ xs) (cond (not b) (1 + position_or_len test xs) 0) d))
changed-turn test act x xs d true rest within = refl
changed-turn test act x xs d false rest within =
    let e : 1 + position_or_len test xs ≡ suc (position_or_len test xs) = omega arith in
    rw e (ap (λ ys. x ∷ ys) (rest (omega arith)))

changed-first : {A : Type 0} (test : A → Bool) (act : A → A) (xs : List A) (d : A) → position_or_len test xs < length xs
    → changed_first test act xs ≡ set xs (position_or_len test xs) (act (get_or xs (position_or_len test xs) d))
changed-first test act [] d within = absurd (omega arith)
changed-first test act (x ∷ xs) d within = changed-turn test act x xs d (test x) (changed-first test act xs d) within

pub changed-found : {A : Type 0} (test : A → Bool) (act : A → A) (xs : List A) (d : A) (i : ℕ) → position test xs ≡ Some i → changed_first test act xs ≡ set xs i (act (get_or xs i d))
changed-found test act xs d i found =
    changed-first test act xs d (position-within test xs i found) ∙ ap (λ (k : ℕ). set xs k (act (get_or xs k d))) (position-is test xs i found)

changed-none-turn : {A : Type 0} (test : A → Bool) (act : A → A) (x : A) (xs : List A) (b : Bool) → (length xs ≤ position_or_len test xs → changed_first test act xs ≡ xs)
    → length (x ∷ xs) ≤ cond (not b) (1 + position_or_len test xs) 0 → cond b (act x ∷ xs) (x ∷ changed_first test act xs) ≡ x ∷ xs
changed-none-turn test act x xs true rest past = absurd (omega arith)
changed-none-turn test act x xs false rest past = ap (λ ys. x ∷ ys) (rest (omega arith))

changed-none : {A : Type 0} (test : A → Bool) (act : A → A) (xs : List A) → length xs ≤ position_or_len test xs → changed_first test act xs ≡ xs
changed-none test act [] past = refl
changed-none test act (x ∷ xs) past = changed-none-turn test act x xs (test x) (changed-none test act xs) past

pub changed-absent : {A : Type 0} (test : A → Bool) (act : A → A) (xs : List A) → let o : Option ℕ = None in position test xs ≡ o → changed_first test act xs ≡ xs
changed-absent test act xs absent =
    changed-none test act xs (position-past test xs absent)
