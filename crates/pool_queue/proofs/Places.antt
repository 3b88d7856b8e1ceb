-- Where in a list a test passes.
use Rattle.std.proofs.Common.{◌≡◌, ◌≤◌, ◌<◌, ℕ, ◌+◌, zero, suc, Bool, true, false, ◌||◌, cond, not, ltb, Option, Some, None, List, [], ◌∷◌, length, get_or, find, refl, ap, ◌∙◌, arith, position, is_some}
use Rattle.std.specs.List.{position_or_len, list_all, list_any}
use Rattle.std.proofs.lemmas.Bool.Decides.{nat_tests}
use Rattle.rm_rules.proofs.Taken.{and_left, and_right}

-- where some element passes, there is a first place
present-turn : {A : Type 0} (test : A → Bool) (x : A) (xs : List A) (b : Bool) → (list_any test xs ≡ true → position_or_len test xs < length xs)
    → (b || list_any test xs) ≡ true → cond (not b) (1 + position_or_len test xs) 0 < length (x ∷ xs)
present-turn test x xs true rest some = omega arith
present-turn test x xs false rest some = omega (arith, rest some)

present-within : {A : Type 0} (test : A → Bool) (xs : List A) → list_any test xs ≡ true → position_or_len test xs < length xs
present-within test [] some = absurd (cc)
present-within test (x ∷ xs) some = present-turn test x xs (test x) (present-within test xs) some

pub position-present : {A : Type 0} (test : A → Bool) (xs : List A) → list_any test xs ≡ true → position test xs ≡ Some (position_or_len test xs)
position-present test xs some =
    let within : position_or_len test xs < length xs = present-within test xs some in
    let e : ltb (position_or_len test xs) (length xs) ≡ true = grind (arith, nat_tests) in
    ap (λ b. cond b (Some (position_or_len test xs)) None) e

-- and only there
absent-turn : {A : Type 0} (test : A → Bool) (x : A) (xs : List A) (b : Bool) → (list_any test xs ≡ false → length xs ≤ position_or_len test xs)
    → (b || list_any test xs) ≡ false → length (x ∷ xs) ≤ cond (not b) (1 + position_or_len test xs) 0
absent-turn test x xs true rest none = absurd (cc)
absent-turn test x xs false rest none = omega (arith, rest none)

absent-past : {A : Type 0} (test : A → Bool) (xs : List A) → list_any test xs ≡ false → length xs ≤ position_or_len test xs
absent-past test [] none = omega arith
absent-past test (x ∷ xs) none = absent-turn test x xs (test x) (absent-past test xs) none

some-turn : {A : Type 0} (test : A → Bool) (xs : List A) (b : Bool) → list_any test xs ≡ b → is_some (position test xs) ≡ b
some-turn test xs true some = ap (λ (o : Option ℕ). is_some o) (position-present test xs some)
some-turn test xs false none =
    let past : length xs ≤ position_or_len test xs = absent-past test xs none in
    let e : ltb (position_or_len test xs) (length xs) ≡ false = grind (arith, nat_tests) in
    ap (λ (b : Bool). is_some (cond b (Some (position_or_len test xs)) None)) e

pub is_some-position : {A : Type 0} (test : A → Bool) (xs : List A) → is_some (position test xs) ≡ list_any test xs
is_some-position test xs = some-turn test xs (list_any test xs) refl

-- what holds of all, or of none, holds of the one that stands here
pub all-at : {A : Type 0} (test : A → Bool) (xs : List A) (i : ℕ) (x : A) → i < length xs → x ≡ get_or xs i x → list_all test xs ≡ true → test x ≡ true
all-at test [] i x within at all = absurd (omega arith)
all-at test (y ∷ ys) zero x within at all = ap test at ∙ and_left (test y) (list_all test ys) all
all-at test (y ∷ ys) (suc i) x within at all = all-at test ys i x (omega arith) at (and_right (test y) (list_all test ys) all)

none-first : {A : Type 0} (b : Bool) (x : A) (o : Option A) → cond b (Some x) o ≡ None → b ≡ false
none-first true x o e = absurd (cc)
none-first false x o e = refl

none-rest : {A : Type 0} (b : Bool) (x : A) (o : Option A) → cond b (Some x) o ≡ None → o ≡ None
none-rest true x o e = absurd (cc)
none-rest false x o e = e

pub none-at : {A : Type 0} (test : A → Bool) (xs : List A) (i : ℕ) (x : A) → i < length xs → x ≡ get_or xs i x → find test xs ≡ None → test x ≡ false
none-at test [] i x within at none = absurd (omega arith)
none-at test (y ∷ ys) zero x within at none = ap test at ∙ none-first (test y) y (find test ys) none
none-at test (y ∷ ys) (suc i) x within at none = none-at test ys i x (omega arith) at (none-rest (test y) y (find test ys) none)
