-- How many arrivals stand in the lists.
use Rattle.std.proofs.Common.{◌≡◌, ◌≤◌, ◌<◌, ℕ, ◌+◌, zero, suc, Bool, true, false, ◌||◌, cond, Option, Some, None, List, [], ◌∷◌, ◌++◌, length, get_or, count_by, position, is_some, remove, drop, refl, ap, sym, ◌∙◌, arith, set}
use Rattle.std.specs.Prelude.{ℤ}
use Rattle.std.specs.Int.Signed.{lt_z}
use Rattle.std.specs.List.{list_any}
use Rattle.std.proofs.lemmas.List.{at_drop_more}
use Rattle.std.proofs.lemmas.List.Sums.{sum_by-cons}
use Rattle.rm_base.specs.declared.name.Name.{Name}
use Rattle.rm_rules.specs.State.{changed_first}
use Rattle.pool_queue.specs.declared.lines.Arrived.{Arrived}
use Rattle.pool_queue.specs.declared.lines.Line.{Line}
use Rattle.rm_rules.proofs.Places.{changed-found}
use Rattle.pool_queue.specs.Lines.{put_by_number, merge, merged, queries, is_line, with_block, joined, AreEmpty, count_below}
use Rattle.pool_queue.proofs.Places.{is_some-position}

put-turn : (a x : Arrived) (xs : List Arrived) (b : Bool) → length (put_by_number a xs) ≡ suc (length xs) → length (cond b (a ∷ x ∷ xs) (x ∷ put_by_number a xs)) ≡ suc (length (x ∷ xs))
put-turn a x xs true rest = refl
put-turn a x xs false rest = ap (λ (n : ℕ). suc n) rest

length-put : (a : Arrived) (xs : List Arrived) → length (put_by_number a xs) ≡ suc (length xs)
length-put a [] = refl
length-put a (x ∷ xs) = put-turn a x xs (lt_z a.number x.number) (length-put a xs)

pub length-merge : (xs ys : List Arrived) → length (merge xs ys) ≡ length xs + length ys
length-merge [] ys = omega arith
length-merge (x ∷ xs) ys = omega (arith, length-put x (merge xs ys), length-merge xs ys)

-- a list is no longer than all together
pub line-within : (ls : List Line) (i : ℕ) (l : Line) → i < length ls → l ≡ get_or ls i l → length l.waiters ≤ length (merged ls)
line-within [] i l within at = absurd (omega arith)
line-within (x ∷ ls) zero l within at = omega (arith, length-merge x.waiters (merged ls), ap (λ (y : Line). length y.waiters) at)
line-within (x ∷ ls) (suc i) l within at = omega (arith, length-merge x.waiters (merged ls), line-within ls i l (omega (arith, within)) at)

-- so many pass a test
counted-turn : {A : Type 0} (test : A → Bool) (x : A) (xs : List A) (b : Bool) → test x ≡ b → count_by test xs ≤ length xs → count_by test (x ∷ xs) ≤ length (x ∷ xs)
counted-turn test x xs true e rest = omega (arith, rest, sum_by-cons (λ y. cond (test y) 1 0) x xs, ap {B = ℕ} (λ (c : Bool). cond c 1 0) e)
counted-turn test x xs false e rest = omega (arith, rest, sum_by-cons (λ y. cond (test y) 1 0) x xs, ap {B = ℕ} (λ (c : Bool). cond c 1 0) e)

pub counted-within : {A : Type 0} (test : A → Bool) (xs : List A) → count_by test xs ≤ length xs
counted-within test [] = omega arith
counted-within test (x ∷ xs) = counted-turn test x xs (test x) refl (counted-within test xs)

pub count_below-within : (n : ℤ) (ls : List Line) → count_below n ls ≤ length (merged ls)
count_below-within n [] = omega arith
count_below-within n (l ∷ ls) =
    omega (arith, counted-within (λ (a : Arrived). lt_z a.number n) l.waiters, count_below-within n ls, length-merge l.waiters (merged ls))

pub counts-more : (n : ℤ) (ls : List Line) (i : ℕ) (l : Line) → i < length ls → l ≡ get_or ls i l
    → count_by (λ (a : Arrived). lt_z a.number n) l.waiters + count_below n (drop (i + 1) ls) ≡ count_below n (drop i ls)
counts-more n ls i l within at =
    ap (λ (x : Line). count_by (λ (a : Arrived). lt_z a.number n) x.waiters + count_below n (drop (i + 1) ls)) at ∙ sym (at_drop_more (count_below n) ls i l within)

-- a block joins the list that is there, or a new one
present-turn : (front : Bool) (pool : Name) (block : List Arrived) (l : Line) (ls : List Line) (b : Bool)
    → (list_any (is_line pool) ls ≡ true → joined front pool block ls ≡ changed_first (is_line pool) (with_block front block) ls) → (b || list_any (is_line pool) ls) ≡ true
    → cond b (with_block front block l ∷ ls) (l ∷ joined front pool block ls) ≡ cond b (with_block front block l ∷ ls) (l ∷ changed_first (is_line pool) (with_block front block) ls)
present-turn front pool block l ls true rest some = refl
present-turn front pool block l ls false rest some = ap (λ (xs : List Line). l ∷ xs) (rest some)

joined-present : (front : Bool) (pool : Name) (block : List Arrived) (ls : List Line) → list_any (is_line pool) ls ≡ true
    → joined front pool block ls ≡ changed_first (is_line pool) (with_block front block) ls
joined-present front pool block [] some = absurd (cc)
joined-present front pool block (l ∷ ls) some = present-turn front pool block l ls (is_line pool l) (joined-present front pool block ls) some

absent-turn : (front : Bool) (pool : Name) (block : List Arrived) (l : Line) (ls : List Line) (b : Bool)
    → (list_any (is_line pool) ls ≡ false → joined front pool block ls ≡ ls ++ record { pool = pool; waiters = block } ∷ []) → (b || list_any (is_line pool) ls) ≡ false
    → cond b (with_block front block l ∷ ls) (l ∷ joined front pool block ls) ≡ (l ∷ ls) ++ record { pool = pool; waiters = block } ∷ []
absent-turn front pool block l ls true rest none = absurd (cc)
absent-turn front pool block l ls false rest none = ap (λ (xs : List Line). l ∷ xs) (rest none)

joined-absent : (front : Bool) (pool : Name) (block : List Arrived) (ls : List Line) → list_any (is_line pool) ls ≡ false
    → joined front pool block ls ≡ ls ++ record { pool = pool; waiters = block } ∷ []
joined-absent front pool block [] none = refl
joined-absent front pool block (l ∷ ls) none = absent-turn front pool block l ls (is_line pool l) (joined-absent front pool block ls) none

pub joined-new : (front : Bool) (pool : Name) (block : List Arrived) (ls : List Line) → let o : Option ℕ = None in position (is_line pool) ls ≡ o
    → ls ++ record { pool = pool; waiters = block } ∷ [] ≡ joined front pool block ls
joined-new front pool block ls none =
    sym (joined-absent front pool block ls (sym (is_some-position (is_line pool) ls) ∙ ap (λ (o : Option ℕ). is_some o) none))

pub joined-found : (front : Bool) (pool : Name) (block : List Arrived) (ls : List Line) (i : ℕ) (l : Line) → position (is_line pool) ls ≡ Some i → l ≡ get_or ls i l
    → set ls i (with_block front block l) ≡ joined front pool block ls
joined-found front pool block ls i l found at =
    let some : list_any (is_line pool) ls ≡ true = sym (is_some-position (is_line pool) ls) ∙ ap (λ (o : Option ℕ). is_some o) found in
    ap (λ (x : Line). set ls i (with_block front block x)) at
    ∙ sym (changed-found (is_line pool) (with_block front block) ls l i found)
    ∙ sym (joined-present front pool block ls some)

pub empty-push : (ls : List (List Arrived)) (l : List Arrived) → AreEmpty ls → l ≡ [] → AreEmpty (ls ++ l ∷ [])
empty-push [] l all here = (here, tt)
empty-push (x ∷ ls) l all here = (all.0, empty-push ls l all.1 here)

pub empty-at : (ls : List (List Arrived)) (i : ℕ) (l : List Arrived) → i < length ls → l ≡ get_or ls i l → AreEmpty ls → l ≡ []
empty-at [] i l within at all = absurd (omega arith)
empty-at (x ∷ ls) zero l within at all = at ∙ all.0
empty-at (x ∷ ls) (suc i) l within at all = empty-at ls i l (omega (arith, within)) at all.1

pub empty-remove : (ls : List (List Arrived)) (i : ℕ) → i < length ls → AreEmpty ls → AreEmpty (remove ls i)
empty-remove [] i within all = absurd (omega arith)
empty-remove (x ∷ ls) zero within all = all.1
empty-remove (x ∷ ls) (suc i) within all = (all.0, empty-remove ls i (omega (arith, within)) all.1)

pub length-queries : (xs : List Arrived) → length (queries xs) ≡ length xs
length-queries [] = refl
length-queries (x ∷ xs) = omega (arith, length-queries xs)
