-- Of distinct names each stands in one place.
use Rattle.std.proofs.Common.{◌≡◌, ◌<◌, ◌≤◌, ℕ, ◌+◌, suc, zero, Bool, true, false, not, cond, ltb, Option, Some, None, List, [], ◌∷◌, length, get_or, map, position, refl, sym, ap, subst, ◌∙◌, arith}
use Rattle.std.specs.List.{list_any, position_or_len}
use Rattle.std.proofs.lemmas.Bool.Decides.{nat_tests}
use Rattle.std.proofs.lemmas.List.Sums.{position_or_len_is}
use Rattle.rm_base.specs.declared.name.Name.{Name}
use Rattle.rm_base.specs.Name.{same_name}
use Rattle.rm_base.proofs.Names.{same_name-eq, same_name-sym}
use Rattle.rm_rules.specs.Sound.{are_distinct}
use Rattle.rm_rules.proofs.Taken.{and_left, and_right, or_left_false, or_right_false, not_false}

-- a name that is none of these is that of no row of theirs
none-at : {A : Type 0} (name : A → Name) (n : Name) (xs : List A) (i : ℕ) (d : A) → list_any (same_name n) (map name xs) ≡ false → i < length xs → same_name n (name (get_or xs i d)) ≡ false
none-at name n [] i d none within = absurd (omega (arith, within))
none-at name n (x ∷ xs) zero d none within = or_left_false (same_name n (name x)) (list_any (same_name n) (map name xs)) none
none-at name n (x ∷ xs) (suc i) d none within = none-at name n xs i d (or_right_false (same_name n (name x)) (list_any (same_name n) (map name xs)) none) (omega (arith, within))

-- before the row of a name stands none of the same name
pub before-differs : {A : Type 0} (name : A → Name) (m : Name) (xs : List A) (i k : ℕ) (d : A) → are_distinct (map name xs) ≡ true → i < length xs → same_name (name (get_or xs i d)) m ≡ true → k < i
    → same_name (name (get_or xs k d)) m ≡ false
before-differs name m [] i k d distinct within is before = absurd (omega (arith, within))
before-differs name m (x ∷ xs) zero k d distinct within is before = absurd (omega (arith, before))
before-differs name m (x ∷ xs) (suc i) zero d distinct within is before =
    let others = not_false _ (and_left (not (list_any (same_name (name x)) (map name xs))) (are_distinct (map name xs)) distinct) in
    subst (λ (n : Name). same_name (name x) n ≡ false) (same_name-eq (name (get_or xs i d)) m is) (none-at name (name x) xs i d others (omega (arith, within)))
before-differs name m (x ∷ xs) (suc i) (suc k) d distinct within is before =
    before-differs name m xs i k d (and_right (not (list_any (same_name (name x)) (map name xs))) (are_distinct (map name xs)) distinct) (omega (arith, within)) is (omega (arith, before))

some-turn : (i n : ℕ) → i < n → cond (ltb i n) (Some i) None ≡ Some i
some-turn i n within = let h : ltb i n ≡ true = grind (arith, nat_tests) in ap (λ b. cond b (Some i) None) h

pub place-is : {A : Type 0} (name : A → Name) (m : Name) (xs : List A) (i : ℕ) (d : A) → are_distinct (map name xs) ≡ true → i < length xs → same_name (name (get_or xs i d)) m ≡ true
    → position (λ x. same_name (name x) m) xs ≡ Some i
place-is name m xs i d distinct within is =
    let place = position_or_len_is (λ x. same_name (name x) m) xs i d (omega (arith, within)) (λ k before. before-differs name m xs i k d distinct within is before) (λ _. is) in
    ap (λ k. cond (ltb k (length xs)) (Some k) None) place ∙ some-turn i (length xs) within

-- and one that is none of them stands nowhere
none-turn : (n : ℕ) → (let o : Option ℕ = None in cond (ltb n n) (Some n) None ≡ o)
none-turn n = let h : ltb n n ≡ false = grind (arith, nat_tests) in ap (λ b. cond b (Some n) None) h

apart : (n m a : Name) → same_name m n ≡ true → same_name n a ≡ false → same_name a m ≡ false
apart n m a same other = same_name-sym a m ∙ subst (λ (x : Name). same_name x a ≡ false) (sym (same_name-eq m n same)) other

pub place-none : {A : Type 0} (name : A → Name) (n m : Name) (xs : List A) → list_any (same_name n) (map name xs) ≡ false → same_name m n ≡ true
    → (let o : Option ℕ = None in position (λ x. same_name (name x) m) xs ≡ o)
place-none name n m [] none same = refl
place-none name n m (x ∷ xs) none same =
    let rows = x ∷ xs in
    let place = position_or_len_is (λ y. same_name (name y) m) rows (length rows) x (omega arith)
    (λ k before. apart n m (name (get_or rows k x)) same (none-at name n rows k x none before)) (λ past. absurd (omega (arith, past))) in
    ap (λ k. cond (ltb k (length rows)) (Some k) None) place ∙ none-turn (length rows)
