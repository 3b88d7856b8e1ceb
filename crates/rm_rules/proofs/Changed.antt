-- A list in which the first that passes a test is changed, and one in which an item comes or leaves.
use Rattle.std.proofs.Common.{◌≡◌, ℕ, ◌+◌, Bool, true, false, cond, eqb, List, [], ◌∷◌, ◌++◌, length, Some, None, Option, refl, sym, ap, ◌∙◌, subst, arith, sum_by, count_by, map}
use Rattle.std.specs.Prelude.{option_map}
use Rattle.std.specs.Option.{is_some}
use Rattle.std.specs.List.{find, list_all}
use Rattle.std.proofs.lemmas.Bool.{eqb-true, eq-eqb}
use Rattle.std.proofs.lemmas.List.Sums.{sum_by-cons, sum_by_push}
use Rattle.std.proofs.lemmas.List.{length_push}
use Rattle.rm_base.specs.Ranges.{passes_if_set}
use Rattle.rm_rules.specs.State.{without, changed_first}
use Rattle.rm_rules.specs.Healthy.{one_if}
use Rattle.rm_rules.proofs.Taken.{sum_without, length_without, found_passes, and_left, and_right, and_both, all_without, all_push}
use Rattle.rm_rules.proofs.Found.{without-unfound}

-- the sum with what is found changed
sum-turn : {A : Type 0} (f : A → ℕ) (test : A → Bool) (act : A → A) (x y : A) (xs : List A) (b : Bool) → cond b (Some x) (find test xs) ≡ Some y
    → (find test xs ≡ Some y → sum_by f (changed_first test act xs) + f y ≡ sum_by f xs + f (act y))
    → sum_by f (cond b (act x ∷ xs) (x ∷ changed_first test act xs)) + f y ≡ sum_by f (x ∷ xs) + f (act y)
sum-turn f test act x y xs true found rest =
    let same : x ≡ y = cc in
    omega (arith, sum_by-cons f x xs, sum_by-cons f (act x) xs, ap f same, ap (λ z. f (act z)) same)
sum-turn f test act x y xs false found rest = omega (arith, rest found, sum_by-cons f x xs, sum_by-cons f x (changed_first test act xs))

pub sum-changed : {A : Type 0} (f : A → ℕ) (test : A → Bool) (act : A → A) (y : A) (xs : List A) → find test xs ≡ Some y
    → sum_by f (changed_first test act xs) + f y ≡ sum_by f xs + f (act y)
sum-changed f test act y [] found = let none : None ≡ Some y = found in absurd (cc)
sum-changed f test act y (x ∷ xs) found = sum-turn f test act x y xs (test x) found (sum-changed f test act y xs)

-- what the change leaves as it was sums up as before
pub sum-kept : {A : Type 0} (f : A → ℕ) (test : A → Bool) (act : A → A) (xs : List A) → ((x : A) → f (act x) ≡ f x) → sum_by f (changed_first test act xs) ≡ sum_by f xs
sum-kept f test act [] same = refl
sum-kept {A} f test act (x ∷ xs) same =
    elim (test x) as (λ b. sum_by f (cond b (act x ∷ xs) (x ∷ changed_first test act xs)) ≡ sum_by f (x ∷ xs)) [
      | true ↦ omega (arith, same x, sum_by-cons f x xs, sum_by-cons f (act x) xs)
      | false ↦ omega (arith, sum-kept f test act xs same, sum_by-cons f x xs, sum_by-cons f x (changed_first test act xs))
    ]

pub length-changed : {A : Type 0} (test : A → Bool) (act : A → A) (xs : List A) → length (changed_first test act xs) ≡ length xs
length-changed test act [] = refl
length-changed {A} test act (x ∷ xs) =
    elim (test x) as (λ b. length (cond b (act x ∷ xs) (x ∷ changed_first test act xs)) ≡ length (x ∷ xs)) [
      | true ↦ refl
      | false ↦ omega (arith, length-changed test act xs)
    ]

-- what the change keeps, all keep
pub all-changed : {A : Type 0} (p test : A → Bool) (act : A → A) (xs : List A) → ((x : A) → p x ≡ true → p (act x) ≡ true) → list_all p xs ≡ true
    → list_all p (changed_first test act xs) ≡ true
all-changed p test act [] keeps all = refl
all-changed {A} p test act (x ∷ xs) keeps all =
    let here : p x ≡ true = and_left (p x) (list_all p xs) all in
    let more : list_all p xs ≡ true = and_right (p x) (list_all p xs) all in
    elim (test x) as (λ b. list_all p (cond b (act x ∷ xs) (x ∷ changed_first test act xs)) ≡ true) [
      | true ↦ and_both (p (act x)) _ (keeps x here) more
      | false ↦ and_both (p x) _ here (all-changed p test act xs keeps more)
    ]

-- what is found is what was changed
found-turn : {A : Type 0} (test : A → Bool) (act : A → A) (x : A) (xs : List A) (b : Bool) → test x ≡ b → test (act x) ≡ test x
    → find test (changed_first test act xs) ≡ option_map act (find test xs)
    → find test (cond b (act x ∷ xs) (x ∷ changed_first test act xs)) ≡ option_map act (cond b (Some x) (find test xs))
found-turn test act x xs true e kept rest = ap (λ c. cond c (Some (act x)) (find test xs)) (kept ∙ e)
found-turn test act x xs false e kept rest = ap (λ c. cond c (Some x) (find test (changed_first test act xs))) e ∙ rest

pub found-changed : {A : Type 0} (test : A → Bool) (act : A → A) (xs : List A) → ((x : A) → test (act x) ≡ test x)
    → find test (changed_first test act xs) ≡ option_map act (find test xs)
found-changed test act [] kept = refl
found-changed test act (x ∷ xs) kept = found-turn test act x xs (test x) refl (kept x) (found-changed test act xs kept)

-- what another test finds, it finds as before
other-turn : {A : Type 0} (test other : A → Bool) (act : A → A) (x : A) (xs : List A) (b : Bool) → (b ≡ true → other x ≡ false) → other (act x) ≡ other x
    → find other (changed_first test act xs) ≡ find other xs → find other (cond b (act x ∷ xs) (x ∷ changed_first test act xs)) ≡ find other (x ∷ xs)
other-turn test other act x xs true apart kept rest =
    ap (λ c. cond c (Some (act x)) (find other xs)) (kept ∙ apart refl) ∙ sym (ap (λ c. cond c (Some x) (find other xs)) (apart refl))
other-turn test other act x xs false apart kept rest = ap (λ o. cond (other x) (Some x) o) rest

pub other-changed : {A : Type 0} (test other : A → Bool) (act : A → A) (xs : List A) → ((x : A) → test x ≡ true → other x ≡ false) → ((x : A) → other (act x) ≡ other x)
    → find other (changed_first test act xs) ≡ find other xs
other-changed test other act [] apart kept = refl
other-changed test other act (x ∷ xs) apart kept = other-turn test other act x xs (test x) (apart x) (kept x) (other-changed test other act xs apart kept)

-- what is taken out is gone, however it was changed
gone-turn : {A : Type 0} (test : A → Bool) (act : A → A) (x : A) (xs : List A) (b : Bool) → test x ≡ b → test (act x) ≡ test x
    → without test (changed_first test act xs) ≡ without test xs → without test (cond b (act x ∷ xs) (x ∷ changed_first test act xs)) ≡ cond b xs (x ∷ without test xs)
gone-turn test act x xs true e kept rest = ap (λ c. cond c xs (act x ∷ without test xs)) (kept ∙ e)
gone-turn test act x xs false e kept rest = ap (λ c. cond c (changed_first test act xs) (x ∷ without test (changed_first test act xs))) e ∙ ap (λ l. x ∷ l) rest

pub without-changed : {A : Type 0} (test : A → Bool) (act : A → A) (xs : List A) → ((x : A) → test (act x) ≡ test x)
    → without test (changed_first test act xs) ≡ without test xs
without-changed test act [] kept = refl
without-changed test act (x ∷ xs) kept = gone-turn test act x xs (test x) refl (kept x) (without-changed test act xs kept)

-- in place of an item another of its key
changed_one-turn : {A : Type 0} (p test : A → Bool) (act : A → A) (x y : A) (xs : List A) (b : Bool) → cond b (Some x) (find test xs) ≡ Some y → p (act y) ≡ true
    → list_all p (x ∷ xs) ≡ true → (find test xs ≡ Some y → list_all p (changed_first test act xs) ≡ true) → list_all p (cond b (act x ∷ xs) (x ∷ changed_first test act xs)) ≡ true
changed_one-turn p test act x y xs true found here all rest =
    let same : x ≡ y = cc in
    and_both (p (act x)) _ (ap (λ z. p (act z)) same ∙ here) (and_right (p x) (list_all p xs) all)
changed_one-turn p test act x y xs false found here all rest = and_both (p x) _ (and_left (p x) (list_all p xs) all) (rest found)

all-changed_one : {A : Type 0} (p test : A → Bool) (act : A → A) (y : A) (xs : List A) → find test xs ≡ Some y → p (act y) ≡ true → list_all p xs ≡ true
    → list_all p (changed_first test act xs) ≡ true
all-changed_one p test act y [] found here all = refl
all-changed_one p test act y (x ∷ xs) found here all =
    changed_one-turn p test act x y xs (test x) found here all (λ more. all-changed_one p test act y xs more here (and_right (p x) (list_all p xs) all))

-- a change of which a reading is the same changes nothing that is read
pub map-changed : {A B : Type 0} (f : A → B) (test : A → Bool) (act : A → A) (xs : List A) → ((x : A) → f (act x) ≡ f x) → map f (changed_first test act xs) ≡ map f xs
map-changed f test act [] same = refl
map-changed {A} f test act (x ∷ xs) same =
    elim (test x) as (λ b. map f (cond b (act x ∷ xs) (x ∷ changed_first test act xs)) ≡ map f (x ∷ xs)) [
      | true ↦ ap (λ y. y ∷ map f xs) (same x)
      | false ↦ ap (λ ys. f x ∷ ys) (map-changed f test act xs same)
    ]

-- of an item that is there, or of none
abbrev pub of_one : {A : Type 0} → (A → ℕ) → Option A → ℕ
of_one f None = 0
of_one f (Some y) = f y

-- A list in which the item of this key is there or not, and one in which it is there or not then; beside it nothing
-- changes.
pub record Turns {A : Type 0} (key : A → ℕ) (n : ℕ) (had has : Option A) (xs ys : List A) : Type 0 where
  pub sums : (f : A → ℕ) → sum_by f ys + of_one f had ≡ sum_by f xs + of_one f has
  pub lengths : length ys + one_if (is_some had) ≡ length xs + one_if (is_some has)
  pub had_key : passes_if_set (λ y. eqb (key y) n) had ≡ true
  pub has_key : passes_if_set (λ y. eqb (key y) n) has ≡ true
  pub all : (p : A → Bool) → list_all p xs ≡ true → passes_if_set p has ≡ true → list_all p ys ≡ true

pub turns-stay : {A : Type 0} (key : A → ℕ) (n : ℕ) (xs : List A) → Turns key n None None xs xs
turns-stay key n xs = record { sums = λ f. refl; lengths = refl; had_key = refl; has_key = refl; all = λ p all here. all }

pub turns-leave : {A : Type 0} (key : A → ℕ) (n : ℕ) (y : A) (xs : List A) → find (λ x. eqb (key x) n) xs ≡ Some y
    → Turns key n (Some y) None xs (without (λ x. eqb (key x) n) xs)
turns-leave key n y xs found = record {
  sums = λ f. omega (arith, sum_without f (λ x. eqb (key x) n) y xs found);
  lengths = omega (arith, length_without (λ x. eqb (key x) n) y xs found);
  had_key = found_passes (λ x. eqb (key x) n) y xs found;
  has_key = refl;
  all = λ p all here. all_without p (λ x. eqb (key x) n) xs all;
}

pub turns-come : {A : Type 0} (key : A → ℕ) (n : ℕ) (y : A) (xs : List A) → key y ≡ n → Turns key n None (Some y) xs (xs ++ y ∷ [])
turns-come key n y xs of = record {
  sums = λ f. omega (arith, sum_by_push f xs y);
  lengths = omega (arith, length_push xs y);
  had_key = refl;
  has_key = eq-eqb (key y) n of;
  all = λ p all here. all_push p xs y all here;
}

pub turns-change : {A : Type 0} (key : A → ℕ) (n : ℕ) (act : A → A) (y : A) (xs : List A) → find (λ x. eqb (key x) n) xs ≡ Some y → ((x : A) → key (act x) ≡ key x)
    → Turns key n (Some y) (Some (act y)) xs (changed_first (λ x. eqb (key x) n) act xs)
turns-change key n act y xs found keeps =
    let of : eqb (key y) n ≡ true = found_passes (λ x. eqb (key x) n) y xs found in
    record {
      sums = λ f. omega (arith, sum-changed f (λ x. eqb (key x) n) act y xs found);
      lengths = omega (arith, length-changed (λ x. eqb (key x) n) act xs);
      had_key = of;
      has_key = ap (λ k. eqb k n) (keeps y) ∙ of;
      all = λ p all here. all-changed_one p (λ x. eqb (key x) n) act y xs found here all;
    }

-- one leaves, and another of its key comes
pub turns-again : {A : Type 0} (key : A → ℕ) (n : ℕ) (y z : A) (xs : List A) → find (λ x. eqb (key x) n) xs ≡ Some y → key z ≡ n
    → Turns key n (Some y) (Some z) xs (without (λ x. eqb (key x) n) xs ++ z ∷ [])
turns-again key n y z xs found of =
    let rest = without (λ x. eqb (key x) n) xs in
    record {
      sums = λ f. omega (arith, sum_without f (λ x. eqb (key x) n) y xs found, sum_by_push f rest z);
      lengths = omega (arith, length_without (λ x. eqb (key x) n) y xs found, length_push rest z);
      had_key = found_passes (λ x. eqb (key x) n) y xs found;
      has_key = eq-eqb (key z) n of;
      all = λ p all here. all_push p rest z (all_without p (λ x. eqb (key x) n) xs all) here;
    }

-- the item of this key leaves, where there is one
pub turns-without : {A : Type 0} (key : A → ℕ) (n : ℕ) (xs : List A) → Turns key n (find (λ x. eqb (key x) n) xs) None xs (without (λ x. eqb (key x) n) xs)
turns-without {A} key n xs = turn (find (λ x. eqb (key x) n) xs) refl where
  turn : (o : Option A) → find (λ x. eqb (key x) n) xs ≡ o → Turns key n o None xs (without (λ x. eqb (key x) n) xs)
  turn None absent = subst (Turns key n None None xs) (sym (without-unfound (λ x. eqb (key x) n) xs absent)) (turns-stay key n xs)
  turn (Some y) found = turns-leave key n y xs found

neither : (b : Bool) → cond {A = ℕ} b 0 0 ≡ 0
neither true = refl
neither false = refl

-- how many of a key there are then
keyed-turn : {A : Type 0} (key : A → ℕ) (n m : ℕ) (o : Option A) → passes_if_set (λ y. eqb (key y) n) o ≡ true
    → of_one (λ y. cond (eqb (key y) m) 1 0) o ≡ cond (eqb n m) (one_if (is_some o)) 0
keyed-turn key n m None of = sym (neither (eqb n m))
keyed-turn key n m (Some y) of = ap {B = ℕ} (λ k. cond (eqb k m) 1 0) (eqb-true (key y) n of)

pub counts-turned : {A : Type 0} (key : A → ℕ) (n m : ℕ) (had has : Option A) (xs ys : List A) → Turns key n had has xs ys
    → count_by (λ x. eqb (key x) m) ys + cond (eqb n m) (one_if (is_some had)) 0 ≡ count_by (λ x. eqb (key x) m) xs + cond (eqb n m) (one_if (is_some has)) 0
counts-turned key n m had has xs ys t =
    omega (arith, t.sums (λ x. cond (eqb (key x) m) 1 0), keyed-turn key n m had t.had_key, keyed-turn key n m has t.has_key)
