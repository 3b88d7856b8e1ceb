-- A query that is taken out of the running ones, and found by its number.
use Rattle.std.proofs.Common.{◌≡◌, ◌≤◌, ◌<◌, ℕ, ◌+◌, Bool, true, false, ◌||◌, not, cond, ltb, Some, None, List, [], ◌∷◌, length, position, refl, ap, sym, ◌∙◌, arith, count_by}
use Rattle.std.specs.List.{position_or_len, list_any}
use Rattle.std.proofs.lemmas.Bool.Decides.{nat_tests}
use Rattle.std.proofs.lemmas.List.Sums.{sum_by-cons}
use Rattle.rm_base.specs.declared.name.Name.{Name}
use Rattle.rm_base.specs.Name.{same_name, general}
use Rattle.rm_base.proofs.Names.{same_name-sym}
use Rattle.rm_rules.specs.declared.state.Reserve.{Reserve}
use Rattle.rm_rules.specs.Holdings.{reserve_names}
use Rattle.rm_rules.specs.State.{without}
use Rattle.rm_rules.proofs.Taken.{or_both_false}
use Rattle.accounts.specs.Accounts.{has_name}
use Rattle.rm_rules.specs.DropPool.{is_reserve_of}

-- where some pass, there is a first place
present-turn : {A : Type 0} (test : A → Bool) (x : A) (xs : List A) (b : Bool) → (list_any test xs ≡ true → position_or_len test xs < length xs)
    → (b || list_any test xs) ≡ true → cond (not b) (1 + position_or_len test xs) 0 < length (x ∷ xs)
present-turn test x xs true rest some = omega arith
present-turn test x xs false rest some = omega (arith, rest some)

present-within : {A : Type 0} (test : A → Bool) (xs : List A) → list_any test xs ≡ true → position_or_len test xs < length xs
present-within test [] some = absurd (cc)
present-within test (x ∷ xs) some = present-turn test x xs (test x) (present-within test xs) some

pub position-present : {A : Type 0} (test : A → Bool) (xs : List A) → list_any test xs ≡ true → position test xs ≡ Some (position_or_len test xs)
position-present test xs some =
    let within : position_or_len test xs < length xs = present-within test xs some in
    let e : ltb (position_or_len test xs) (length xs) ≡ true = grind (arith, nat_tests) in
    ap (λ b. cond b (Some (position_or_len test xs)) None) e

-- where one at most passes, none is left without it
none-turn : {A : Type 0} (test : A → Bool) (x : A) (xs : List A) (b : Bool) → test x ≡ b → count_by test (x ∷ xs) ≤ 0 → (count_by test xs ≤ 0 → list_any test xs ≡ false)
    → (b || list_any test xs) ≡ false
none-turn test x xs true e few rest = absurd (omega (arith, few, sum_by-cons (λ z. cond (test z) 1 0) x xs, ap {B = ℕ} (λ (c : Bool). cond c 1 0) e))
none-turn test x xs false e few rest = rest (omega (arith, few, sum_by-cons (λ z. cond (test z) 1 0) x xs))

none-counted : {A : Type 0} (test : A → Bool) (xs : List A) → count_by test xs ≤ 0 → list_any test xs ≡ false
none-counted test [] few = refl
none-counted test (x ∷ xs) few = none-turn test x xs (test x) refl few (none-counted test xs)

left-turn : {A : Type 0} (test : A → Bool) (x : A) (xs : List A) (b : Bool) → test x ≡ b → count_by test (x ∷ xs) ≤ 1
    → (count_by test xs ≤ 1 → list_any test (without test xs) ≡ false) → list_any test (cond b xs (x ∷ without test xs)) ≡ false
left-turn test x xs true e few rest =
    none-counted test xs (omega (arith, few, sum_by-cons (λ z. cond (test z) 1 0) x xs, ap {B = ℕ} (λ (c : Bool). cond c 1 0) e))
left-turn test x xs false e few rest =
    or_both_false (test x) _ e (rest (omega (arith, few, sum_by-cons (λ z. cond (test z) 1 0) x xs)))

pub none-left : {A : Type 0} (test : A → Bool) (xs : List A) → count_by test xs ≤ 1 → list_any test (without test xs) ≡ false
none-left test [] few = refl
none-left test (x ∷ xs) few = left-turn test x xs (test x) refl few (none-left test xs)

-- a pool that is there and is not GENERAL has a reserve
pub has-reserve : (pool : Name) (es : List Reserve) → list_any (same_name pool) (reserve_names es) ≡ list_any (is_reserve_of pool) es
has-reserve pool [] = refl
has-reserve pool (e ∷ es) = let here = same_name-sym pool e.pool in let rest = has-reserve pool es in λ j. here j || rest j

pub reserve-present : (pool : Name) (es : List Reserve) → has_name es pool ≡ true → same_name pool general ≡ false → list_any (is_reserve_of pool) es ≡ true
reserve-present pool es there user =
    sym (has-reserve pool es) ∙ ap (λ b. b || list_any (same_name pool) (reserve_names es)) (sym user) ∙ there
