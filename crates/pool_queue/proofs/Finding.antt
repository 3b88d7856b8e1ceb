-- The first that passes a test, list by list.
use Rattle.std.proofs.Common.{◌≡◌, ◌<◌, ℕ, ◌+◌, Bool, true, false, not, cond, Option, Some, None, List, [], ◌∷◌, length, filter, find, drop, get_or, refl, ap, sym, ◌∙◌}
use Rattle.std.specs.Prelude.{option_map}
use Rattle.std.specs.Int.Signed.{lt_z}
use Rattle.std.proofs.lemmas.List.{at_drop_more}
use Rattle.rm_rules.specs.declared.state.Waiter.{Waiter}
use Rattle.pool_queue.specs.declared.lines.Arrived.{Arrived}
use Rattle.pool_queue.specs.declared.lines.Line.{Line}
use Rattle.pool_queue.specs.Lines.{merged, queries, is_of, is_elsewhere, AreAbove, IsRising, IsSplit, IsOrdered, earlier, first_of_lines}
use Rattle.pool_queue.proofs.Order.{over-over, not_over-not_over}
use Rattle.pool_queue.proofs.Merging.{below-not_below, above-filter, rising-filter}

-- of three arrivals the first
pub earlier-none : (o : Option Arrived) → earlier None o ≡ o
earlier-none None = refl
earlier-none (Some a) = refl

three-turn : (x y z : Arrived) (a b : Bool) → lt_z y.number x.number ≡ a → lt_z z.number y.number ≡ b
    → earlier (cond a (Some y) (Some x)) (Some z) ≡ earlier (Some x) (cond b (Some z) (Some y))
three-turn x y z true true first second =
    ap (λ c. cond c (Some z) (Some y)) second ∙ sym (ap (λ c. cond c (Some z) (Some x)) (over-over z.number y.number x.number second first))
three-turn x y z true false first second = ap (λ c. cond c (Some z) (Some y)) second ∙ sym (ap (λ c. cond c (Some y) (Some x)) first)
three-turn x y z false true first second = refl
three-turn x y z false false first second =
    ap (λ c. cond c (Some z) (Some x)) (not_over-not_over z.number y.number x.number second first) ∙ sym (ap (λ c. cond c (Some y) (Some x)) first)

pub earlier-earlier : (a b c : Option Arrived) → earlier (earlier a b) c ≡ earlier a (earlier b c)
earlier-earlier a b None = refl
earlier-earlier a None (Some z) = refl
earlier-earlier None (Some y) (Some z) = sym (earlier-none (earlier (Some y) (Some z)))
earlier-earlier (Some x) (Some y) (Some z) = three-turn x y z (lt_z y.number x.number) (lt_z z.number y.number) refl refl

pub lines-more : (test : Arrived → Bool) (first : Option Arrived) (ls : List Line) (i : ℕ) (l : Line) → i < length ls → l ≡ get_or ls i l
    → earlier (earlier first (find test l.waiters)) (first_of_lines test (drop (i + 1) ls)) ≡ earlier first (first_of_lines test (drop i ls))
lines-more test first ls i l within at =
    earlier-earlier first (find test l.waiters) (first_of_lines test (drop (i + 1) ls))
    ∙ ap (λ (x : Line). earlier first (earlier (find test x.waiters) (first_of_lines test (drop (i + 1) ls)))) at
    ∙ sym (ap (λ (o : Option Arrived). earlier first o) (at_drop_more (first_of_lines test) ls i l within))

-- one that is below all others
below-turn : (x y : Arrived) (rest : Option Arrived) (b : Bool) → lt_z x.number y.number ≡ true → earlier (Some x) rest ≡ Some x → earlier (Some x) (cond b (Some y) rest) ≡ Some x
below-turn x y rest true below so_far = ap (λ c. cond c (Some y) (Some x)) (below-not_below x.number y.number below)
below-turn x y rest false below so_far = so_far

first-below : (test : Arrived → Bool) (x : Arrived) (ys : List Arrived) → AreAbove x.number ys → earlier (Some x) (find test ys) ≡ Some x
first-below test x [] above = refl
first-below test x (y ∷ ys) above = below-turn x y (find test ys) (test y) above.0 (first-below test x ys above.1)

second-turn : (x y : Arrived) (rest : Option Arrived) (b : Bool) → lt_z x.number y.number ≡ true → earlier rest (Some x) ≡ Some x → earlier (cond b (Some y) rest) (Some x) ≡ Some x
second-turn x y rest true below so_far = ap (λ c. cond c (Some x) (Some y)) below
second-turn x y rest false below so_far = so_far

second-below : (test : Arrived → Bool) (x : Arrived) (ys : List Arrived) → AreAbove x.number ys → earlier (find test ys) (Some x) ≡ Some x
second-below test x [] above = refl
second-below test x (y ∷ ys) above = second-turn x y (find test ys) (test y) above.0 (second-below test x ys above.1)

-- among those of a pool and among the others
parts-turn : (p test : Arrived → Bool) (x : Arrived) (xs : List Arrived) (b c : Bool) → test x ≡ c → AreAbove x.number xs
    → earlier (find test (filter p xs)) (find test (filter (λ y. not (p y)) xs)) ≡ find test xs
    → earlier (find test (cond b (x ∷ filter p xs) (filter p xs))) (find test (cond (not b) (x ∷ filter (λ y. not (p y)) xs) (filter (λ y. not (p y)) xs))) ≡ cond c (Some x) (find test xs)
parts-turn p test x xs true true passes above rest =
    ap (λ c. earlier (cond c (Some x) (find test (filter p xs))) (find test (filter (λ y. not (p y)) xs))) passes
    ∙ first-below test x (filter (λ y. not (p y)) xs) (above-filter (λ y. not (p y)) x.number xs above)
parts-turn p test x xs true false passes above rest =
    ap (λ c. earlier (cond c (Some x) (find test (filter p xs))) (find test (filter (λ y. not (p y)) xs))) passes ∙ rest
parts-turn p test x xs false true passes above rest =
    ap (λ c. earlier (find test (filter p xs)) (cond c (Some x) (find test (filter (λ y. not (p y)) xs)))) passes
    ∙ second-below test x (filter p xs) (above-filter p x.number xs above)
parts-turn p test x xs false false passes above rest =
    ap (λ c. earlier (find test (filter p xs)) (cond c (Some x) (find test (filter (λ y. not (p y)) xs)))) passes ∙ rest

find-parts : (p test : Arrived → Bool) (xs : List Arrived) → IsRising xs → earlier (find test (filter p xs)) (find test (filter (λ y. not (p y)) xs)) ≡ find test xs
find-parts p test [] rises = refl
find-parts p test (x ∷ xs) rises = parts-turn p test x xs (p x) (test x) refl rises.0 (find-parts p test xs rises.1)

pub find-lines : (test : Arrived → Bool) (ls : List Line) (whole : List Arrived) → IsSplit ls whole → IsRising whole → first_of_lines test ls ≡ find test whole
find-lines test [] whole split rises = sym (ap (λ (xs : List Arrived). find test xs) split)
find-lines test (l ∷ ls) whole split rises =
    let rest = find-lines test ls (filter (is_elsewhere l.pool) whole) split.1 (rising-filter (is_elsewhere l.pool) whole rises) in
    let here = split.0 in
    (λ i. earlier (find test (here i)) (rest i)) ∙ find-parts (is_of l.pool) test whole rises

pub first-found : (test : Arrived → Bool) (ls : List Line) → IsOrdered ls → first_of_lines test ls ≡ find test (merged ls)
first-found test ls ordered = find-lines test ls (merged ls) ordered.split ordered.rising

-- with and without numbers
queries-turn : (x : Arrived) (found : Option Arrived) (b : Bool) → option_map (λ (a : Arrived). a.waiter) (cond b (Some x) found) ≡ cond b (Some x.waiter) (option_map (λ (a : Arrived). a.waiter) found)
queries-turn x found true = refl
queries-turn x found false = refl

pub find-queries : (test : Waiter → Bool) (xs : List Arrived) → option_map (λ (a : Arrived). a.waiter) (find (λ (a : Arrived). test a.waiter) xs) ≡ find test (queries xs)
find-queries test [] = refl
find-queries test (x ∷ xs) =
    queries-turn x (find (λ (a : Arrived). test a.waiter) xs) (test x.waiter) ∙ ap (λ (o : Option Waiter). cond (test x.waiter) (Some x.waiter) o) (find-queries test xs)

pub first-query : (test : Waiter → Bool) (ls : List Line) → IsOrdered ls → option_map (λ (a : Arrived). a.waiter) (first_of_lines (λ (a : Arrived). test a.waiter) ls) ≡ find test (queries (merged ls))
first-query test ls ordered =
    ap (λ (o : Option Arrived). option_map (λ (a : Arrived). a.waiter) o) (first-found (λ (a : Arrived). test a.waiter) ls ordered) ∙ find-queries test (merged ls)
