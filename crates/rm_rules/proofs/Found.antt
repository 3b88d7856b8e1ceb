-- What is found in lists that are put together, of which something is taken, or of which one item alone passes.
use Rattle.std.proofs.Common.{◌≡◌, ℕ, ◌≤◌, Bool, true, false, cond, List, [], ◌∷◌, ◌++◌, Some, None, Option, ◌⊎◌, inl, inr, refl, sym, ap, ◌∙◌, subst, arith, count_by}
use Rattle.std.specs.Option.{is_some, option_or}
use Rattle.std.specs.List.{find}
use Rattle.std.proofs.lemmas.List.Sums.{sum_by-cons}
use Rattle.std.proofs.lemmas.List.Folds.{find-append}
use Rattle.rm_rules.specs.State.{without}
use Rattle.rm_rules.proofs.Taken.{found_passes, found_counted, found_single, counted_among, sum_without}

-- what is not found in front is found behind
behind-turn : {A : Type 0} (test : A → Bool) (x y : A) (xs ys : List A) (b : Bool) → cond b (Some x) (find test xs) ≡ None → cond b (Some x) (find test (xs ++ ys)) ≡ Some y
    → (find test xs ≡ None → find test (xs ++ ys) ≡ Some y → find test ys ≡ Some y) → find test ys ≡ Some y
behind-turn test x y xs ys true none found rest = absurd (cc)
behind-turn test x y xs ys false none found rest = rest none found

pub found-behind : {A : Type 0} (test : A → Bool) (y : A) (xs ys : List A) → find test xs ≡ None → find test (xs ++ ys) ≡ Some y → find test ys ≡ Some y
found-behind test y [] ys none found = found
found-behind test y (x ∷ xs) ys none found = behind-turn test x y xs ys (test x) none found (found-behind test y xs ys)

-- what is found in front is found, and what is found is in front or the last
front-turn : {A : Type 0} (test : A → Bool) (x y : A) (xs ys : List A) (b : Bool) → cond b (Some x) (find test xs) ≡ Some y
    → (find test xs ≡ Some y → find test (xs ++ ys) ≡ Some y) → cond b (Some x) (find test (xs ++ ys)) ≡ Some y
front-turn test x y xs ys true found rest = found
front-turn test x y xs ys false found rest = rest found

pub found-front : {A : Type 0} (test : A → Bool) (y : A) (xs ys : List A) → find test xs ≡ Some y → find test (xs ++ ys) ≡ Some y
found-front test y [] ys found = let none : None ≡ Some y = found in absurd (cc)
found-front test y (x ∷ xs) ys found = front-turn test x y xs ys (test x) found (found-front test y xs ys)

last-turn : {A : Type 0} (test : A → Bool) (x y z : A) (xs : List A) (b : Bool) → cond b (Some x) (find test (xs ++ z ∷ [])) ≡ Some y
    → (find test (xs ++ z ∷ []) ≡ Some y → (find test xs ≡ Some y) ⊎ (y ≡ z)) → (cond b (Some x) (find test xs) ≡ Some y) ⊎ (y ≡ z)
last-turn test x y z xs true found rest = inl found
last-turn test x y z xs false found rest = rest found

one-turn : {A : Type 0} (y z : A) (b : Bool) → cond b (Some z) None ≡ Some y → y ≡ z
one-turn y z true found = cc
one-turn y z false found = absurd (cc)

pub found-push : {A : Type 0} (test : A → Bool) (y z : A) (xs : List A) → find test (xs ++ z ∷ []) ≡ Some y → (find test xs ≡ Some y) ⊎ (y ≡ z)
found-push test y z [] found = inr (one-turn y z (test z) found)
found-push test y z (x ∷ xs) found = last-turn test x y z xs (test x) found (found-push test y z xs)

-- where none is found, none is taken out
unfound-turn : {A : Type 0} (test : A → Bool) (x : A) (xs : List A) (b : Bool) → cond b (Some x) (find test xs) ≡ None → (find test xs ≡ None → without test xs ≡ xs)
    → cond b xs (x ∷ without test xs) ≡ x ∷ xs
unfound-turn test x xs true absent rest = absurd (cc)
unfound-turn test x xs false absent rest = ap (λ l. x ∷ l) (rest absent)

pub without-unfound : {A : Type 0} (test : A → Bool) (xs : List A) → find test xs ≡ None → without test xs ≡ xs
without-unfound test [] absent = refl
without-unfound test (x ∷ xs) absent = unfound-turn test x xs (test x) absent (without-unfound test xs)

-- where no item passes both tests, what the one takes out changes nothing that the other finds
apart-turn : {A : Type 0} (test other : A → Bool) (x : A) (xs : List A) (b : Bool) → (b ≡ true → other x ≡ false) → find other (without test xs) ≡ find other xs
    → find other (cond b xs (x ∷ without test xs)) ≡ cond (other x) (Some x) (find other xs)
apart-turn test other x xs true apart rest = sym (ap (λ b. cond b (Some x) (find other xs)) (apart refl))
apart-turn test other x xs false apart rest = ap (λ o. cond (other x) (Some x) o) rest

pub find-without : {A : Type 0} (test other : A → Bool) (xs : List A) → ((x : A) → test x ≡ true → other x ≡ false) → find other (without test xs) ≡ find other xs
find-without test other [] apart = refl
find-without test other (x ∷ xs) apart = apart-turn test other x xs (test x) (apart x) (find-without test other xs apart)

-- where what is found stands
split-turn : {A : Type 0} (test : A → Bool) (x y : A) (xs : List A) (b : Bool) → cond b (Some x) (find test xs) ≡ Some y
    → (find test xs ≡ Some y → (front : List A) × ((rest : List A) × (xs ≡ front ++ y ∷ rest))) → (front : List A) × ((rest : List A) × (x ∷ xs ≡ front ++ y ∷ rest))
split-turn test x y xs true found more = let same : x ≡ y = cc in ([], (xs, ap (λ z. z ∷ xs) same))
split-turn test x y xs false found more = let there = more found in (x ∷ there.0, (there.1.0, ap (λ l. x ∷ l) there.1.1))

pub found-split : {A : Type 0} (test : A → Bool) (y : A) (xs : List A) → find test xs ≡ Some y → (front : List A) × ((rest : List A) × (xs ≡ front ++ y ∷ rest))
found-split test y [] found = let none : None ≡ Some y = found in absurd (cc)
found-split test y (x ∷ xs) found = split-turn test x y xs (test x) found (found-split test y xs)

-- so where one alone passes a test, two that pass it are one
pub found-same : {A : Type 0} (test other : A → Bool) (y z : A) (xs : List A) → find test xs ≡ Some y → other y ≡ true → count_by other xs ≤ 1 → find other xs ≡ Some z → y ≡ z
found-same {A} test other y z xs found passes few there =
    let split = found-split test y xs found in
    found_single other split.0 split.1.0 y z passes
    (subst (λ (l : List A). count_by other l ≤ 1) split.1.1 few) (subst (λ (l : List A). find other l ≡ Some z) split.1.1 there)

-- where none passes, none is found
none-turn : {A : Type 0} (test : A → Bool) (x : A) (xs : List A) (b : Bool) → test x ≡ b → count_by test (x ∷ xs) ≡ 0 → (count_by test xs ≡ 0 → find test xs ≡ None)
    → cond b (Some x) (find test xs) ≡ None
none-turn test x xs true e none rest = absurd (omega (arith, none, sum_by-cons (λ z. cond (test z) 1 0) x xs, ap {B = ℕ} (λ b. cond b 1 0) e))
none-turn test x xs false e none rest = rest (omega (arith, none, sum_by-cons (λ z. cond (test z) 1 0) x xs, ap {B = ℕ} (λ b. cond b 1 0) e))

pub none-counted : {A : Type 0} (test : A → Bool) (xs : List A) → count_by test xs ≡ 0 → find test xs ≡ None
none-counted test [] none = refl
none-counted test (x ∷ xs) none = none-turn test x xs (test x) refl none (none-counted test xs)

-- where one passes at most, none is found once it is taken out
lone-turn : {A : Type 0} (test : A → Bool) (xs : List A) (o : Option A) → find test xs ≡ o → count_by test xs ≤ 1 → find test (without test xs) ≡ None
lone-turn test xs None absent few = ap (find test) (without-unfound test xs absent) ∙ absent
lone-turn test xs (Some y) found few =
    let one : cond {A = ℕ} (test y) 1 0 ≡ 1 = ap {B = ℕ} (λ b. cond b 1 0) (found_passes test y xs found) in
    none-counted test (without test xs) (omega (arith, few, one, sum_without (λ z. cond (test z) 1 0) test y xs found))

pub none-left : {A : Type 0} (test : A → Bool) (xs : List A) → count_by test xs ≤ 1 → find test (without test xs) ≡ None
none-left test xs few = lone-turn test xs (find test xs) refl few

-- so where one passes or none, one is found or none
pub is_some-find : {A : Type 0} (test : A → Bool) (xs : List A) (b : Bool) → count_by test xs ≡ cond b 1 0 → is_some (find test xs) ≡ b
is_some-find test xs true one = let there = found_counted test xs (omega (arith, one)) in ap is_some there.1
is_some-find test xs false none = ap is_some (none-counted test xs none)

-- what one test finds, another that it alone passes finds too, and finds no more once it is taken out
pub found-other : {A : Type 0} (test other : A → Bool) (y : A) (xs : List A) → find test xs ≡ Some y → other y ≡ true → count_by other xs ≤ 1 → find other xs ≡ Some y
found-other {A} test other y xs found passes few =
    let split = found-split test y xs found in
    let some : 1 ≤ count_by other xs = subst (λ (l : List A). 1 ≤ count_by other l) (sym split.1.1) (counted_among other split.0 split.1.0 y passes) in
    let there = found_counted other xs some in
    there.1 ∙ ap (λ z. Some z) (sym (found-same test other y there.0 xs found passes few there.1))

pub gone-other : {A : Type 0} (test other : A → Bool) (y : A) (xs : List A) → find test xs ≡ Some y → other y ≡ true → count_by other xs ≤ 1 → find other (without test xs) ≡ None
gone-other test other y xs found passes few =
    let one : cond {A = ℕ} (other y) 1 0 ≡ 1 = ap {B = ℕ} (λ b. cond b 1 0) passes in
    none-counted other (without test xs) (omega (arith, few, one, sum_without (λ z. cond (other z) 1 0) test y xs found))

-- where it does not pass the other test, that finds what it found
beside-turn : {A : Type 0} (test other : A → Bool) (x y : A) (xs : List A) (b : Bool) → cond b (Some x) (find test xs) ≡ Some y → other y ≡ false
    → (find test xs ≡ Some y → find other (without test xs) ≡ find other xs) → find other (cond b xs (x ∷ without test xs)) ≡ cond (other x) (Some x) (find other xs)
beside-turn test other x y xs true found apart rest = let same : x ≡ y = cc in sym (ap (λ b. cond b (Some x) (find other xs)) (ap other same ∙ apart))
beside-turn test other x y xs false found apart rest = ap (λ o. cond (other x) (Some x) o) (rest found)

pub find-beside : {A : Type 0} (test other : A → Bool) (y : A) (xs : List A) → find test xs ≡ Some y → other y ≡ false → find other (without test xs) ≡ find other xs
find-beside test other y [] found apart = refl
find-beside test other y (x ∷ xs) found apart = beside-turn test other x y xs (test x) found apart (λ more. find-beside test other y xs more apart)

-- and with it put last, each test that one item at most passes finds what it found
put-turn : {A : Type 0} (test other : A → Bool) (y : A) (xs : List A) (b : Bool) → other y ≡ b → find test xs ≡ Some y → count_by other xs ≤ 1
    → option_or (find other (without test xs)) (cond b (Some y) None) ≡ find other xs
put-turn test other y xs true e found few =
    ap (λ o. option_or o (Some y)) (gone-other test other y xs found e few) ∙ sym (found-other test other y xs found e few)
put-turn {A} test other y xs false e found few = or-none (find other (without test xs)) ∙ find-beside test other y xs found e where
  or-none : (o : Option A) → option_or o None ≡ o
  or-none None = refl
  or-none (Some x) = refl

pub find-put : {A : Type 0} (test other : A → Bool) (y : A) (xs : List A) → find test xs ≡ Some y → count_by other xs ≤ 1
    → find other (without test xs ++ y ∷ []) ≡ find other xs
find-put test other y xs found few = find-append other (without test xs) (y ∷ []) ∙ put-turn test other y xs (other y) refl found few
