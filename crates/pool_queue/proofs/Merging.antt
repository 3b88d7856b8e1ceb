-- The lists of the pools, merged, are the one list from which they were split.
use Rattle.std.proofs.Common.{◌≡◌, ◌≤◌, ◌<◌, ◌-◌, take, ℕ, ◌+◌, zero, suc, Bool, true, false, not, cond, List, [], ◌∷◌, ◌++◌, length, filter, drop, get_or, refl, ap, sym, subst, ◌∙◌, arith, append-nil, append_assoc}
use Rattle.std.specs.Prelude.{ℤ}
use Rattle.std.specs.Int.Signed.{lt_z}
use Rattle.std.proofs.lemmas.Int.{ints}
use Rattle.std.proofs.lemmas.List.{drop_all, take_all, length-drop}
use Rattle.std.proofs.Math.Seq.{drop-cons}
use Rattle.pool_queue.specs.declared.lines.Arrived.{Arrived}
use Rattle.pool_queue.specs.declared.lines.Line.{Line}
use Rattle.pool_queue.specs.Lines.{put_by_number, merge, merged, is_of, is_elsewhere, AreAbove, IsRising, IsSplit, IsOrdered}

-- numbers
pub below-below : (a b c : ℤ) → lt_z a b ≡ true → lt_z b c ≡ true → lt_z a c ≡ true
below-below a b c first second = grind (arith, ints)

pub below-not_below : (a b : ℤ) → lt_z a b ≡ true → lt_z b a ≡ false
below-not_below a b below = grind (arith, ints)

-- what passes a test is in the same order
above-turn : (n : ℤ) (x : Arrived) (xs : List Arrived) (b : Bool) → lt_z n x.number ≡ true → AreAbove n xs → AreAbove n (cond b (x ∷ xs) xs)
above-turn n x xs true first rest = (first, rest)
above-turn n x xs false first rest = rest

pub above-filter : (test : Arrived → Bool) (n : ℤ) (xs : List Arrived) → AreAbove n xs → AreAbove n (filter test xs)
above-filter test n [] above = tt
above-filter test n (x ∷ xs) above = above-turn n x (filter test xs) (test x) above.0 (above-filter test n xs above.1)

rising-turn : (x : Arrived) (xs : List Arrived) (b : Bool) → AreAbove x.number xs → IsRising xs → IsRising (cond b (x ∷ xs) xs)
rising-turn x xs true above rest = (above, rest)
rising-turn x xs false above rest = rest

pub rising-filter : (test : Arrived → Bool) (xs : List Arrived) → IsRising xs → IsRising (filter test xs)
rising-filter test [] rises = tt
rising-filter test (x ∷ xs) rises = rising-turn x (filter test xs) (test x) (above-filter test x.number xs rises.0) (rising-filter test xs rises.1)

pub above-further : (n m : ℤ) (xs : List Arrived) → lt_z n m ≡ true → AreAbove m xs → AreAbove n xs
above-further n m [] below above = tt
above-further n m (x ∷ xs) below above = (below-below n m x.number below above.0, above-further n m xs below above.1)

-- an arrival below all others goes in front
put-below : (a : Arrived) (xs : List Arrived) → AreAbove a.number xs → put_by_number a xs ≡ a ∷ xs
put-below a [] above = refl
put-below a (x ∷ xs) above = ap (λ c. cond c (a ∷ x ∷ xs) (x ∷ put_by_number a xs)) above.0

merge-below : (x : Arrived) (xs ys : List Arrived) → AreAbove x.number xs → merge xs (x ∷ ys) ≡ x ∷ merge xs ys
merge-below x [] ys above = refl
merge-below x (a ∷ xs) ys above =
    ap (λ (l : List Arrived). put_by_number a l) (merge-below x xs ys above.1)
    ∙ ap (λ c. cond c (a ∷ x ∷ merge xs ys) (x ∷ put_by_number a (merge xs ys))) (below-not_below x.number a.number above.0)

-- those that pass a test and those that do not, merged, are all
parts-turn : (test : Arrived → Bool) (x : Arrived) (xs : List Arrived) (b : Bool) → AreAbove x.number xs
    → merge (filter test xs) (filter (λ y. not (test y)) xs) ≡ xs
    → merge (cond b (x ∷ filter test xs) (filter test xs)) (cond (not b) (x ∷ filter (λ y. not (test y)) xs) (filter (λ y. not (test y)) xs)) ≡ x ∷ xs
parts-turn test x xs true above rest = ap (λ (l : List Arrived). put_by_number x l) rest ∙ put-below x xs above
parts-turn test x xs false above rest =
    merge-below x (filter test xs) (filter (λ y. not (test y)) xs) (above-filter test x.number xs above) ∙ ap (λ (l : List Arrived). x ∷ l) rest

pub merge-parts : (test : Arrived → Bool) (xs : List Arrived) → IsRising xs → merge (filter test xs) (filter (λ y. not (test y)) xs) ≡ xs
merge-parts test [] rises = refl
merge-parts test (x ∷ xs) rises = parts-turn test x xs (test x) rises.0 (merge-parts test xs rises.1)

-- so the lists, merged, are the one list
pub merged-split : (ls : List Line) (whole : List Arrived) → IsSplit ls whole → IsRising whole → merged ls ≡ whole
merged-split [] whole split rises = sym split
merged-split (l ∷ ls) whole split rises =
    let rest = merged-split ls (filter (is_elsewhere l.pool) whole) split.1 (rising-filter (is_elsewhere l.pool) whole rises) in
    let here = split.0 in
    (λ i. merge (here i) (rest i)) ∙ merge-parts (is_of l.pool) whole rises

pub ordered-from_split : (ls : List Line) (whole : List Arrived) → IsSplit ls whole → IsRising whole → IsOrdered ls
ordered-from_split ls whole split rises =
    let same = sym (merged-split ls whole split rises) in
    record { rising = subst (λ (w : List Arrived). IsRising w) same rises; split = subst (λ (w : List Arrived). IsSplit ls w) same split }

-- one step of a merge of two lists
all-above-put-turn : (n : ℤ) (a x : Arrived) (xs rest : List Arrived) (b : Bool) → lt_z n a.number ≡ true → AreAbove n (x ∷ xs) → AreAbove n rest → AreAbove n (cond b (a ∷ x ∷ xs) (x ∷ rest))
all-above-put-turn n a x xs rest true first above put = (first, above)
all-above-put-turn n a x xs rest false first above put = (above.0, put)

above-put : (n : ℤ) (a : Arrived) (xs : List Arrived) → lt_z n a.number ≡ true → AreAbove n xs → AreAbove n (put_by_number a xs)
above-put n a [] first above = (first, tt)
above-put n a (x ∷ xs) first above = all-above-put-turn n a x xs (put_by_number a xs) (lt_z a.number x.number) first above (above-put n a xs first above.1)

above-merge : (n : ℤ) (xs ys : List Arrived) → AreAbove n xs → AreAbove n ys → AreAbove n (merge xs ys)
above-merge n [] ys first second = second
above-merge n (x ∷ xs) ys first second = above-put n x (merge xs ys) first.0 (above-merge n xs ys first.1 second)

pub merge-first : (x y : Arrived) (xs ys : List Arrived) → IsRising (x ∷ xs) → IsRising (y ∷ ys) → lt_z x.number y.number ≡ true → merge (x ∷ xs) (y ∷ ys) ≡ x ∷ merge xs (y ∷ ys)
merge-first x y xs ys first second below =
    put-below x (merge xs (y ∷ ys)) (above-merge x.number xs (y ∷ ys) first.0 (below, above-further x.number y.number ys below second.0))

not_below-above : (a b c : ℤ) → lt_z a c ≡ false → lt_z a b ≡ true → lt_z b c ≡ false
not_below-above a b c first second = grind (arith, ints)

merge-not_above : (x : Arrived) (xs ys : List Arrived) (m : ℤ) → lt_z m x.number ≡ false → AreAbove m xs → merge xs (x ∷ ys) ≡ x ∷ merge xs ys
merge-not_above x [] ys m over above = refl
merge-not_above x (a ∷ xs) ys m over above =
    ap (λ (l : List Arrived). put_by_number a l) (merge-not_above x xs ys m over above.1)
    ∙ ap (λ c. cond c (a ∷ x ∷ merge xs ys) (x ∷ put_by_number a (merge xs ys))) (not_below-above m a.number x.number over above.0)

pub merge-second : (x y : Arrived) (xs ys : List Arrived) → IsRising (x ∷ xs) → lt_z x.number y.number ≡ false → merge (x ∷ xs) (y ∷ ys) ≡ y ∷ merge (x ∷ xs) ys
merge-second x y xs ys first over =
    ap (λ (l : List Arrived). put_by_number x l) (merge-not_above y xs ys x.number over first.0)
    ∙ ap (λ c. cond c (x ∷ y ∷ merge xs ys) (y ∷ put_by_number x (merge xs ys))) over

pub merge-nil : (xs : List Arrived) → IsRising xs → merge xs [] ≡ xs
merge-nil [] rises = refl
merge-nil (x ∷ xs) rises = ap (λ (l : List Arrived). put_by_number x l) (merge-nil xs rises.1) ∙ put-below x xs rises.0

pub rising-drop : (i : ℕ) (xs : List Arrived) → IsRising xs → IsRising (drop i xs)
rising-drop zero xs rises = rises
rising-drop (suc i) [] rises = tt
rising-drop (suc i) (x ∷ xs) rises = rising-drop i xs rises.1

-- each list rises, and so do the last lists, merged
pub line-rising : (ls : List Line) (i : ℕ) (l : Line) (whole : List Arrived) → i < length ls → l ≡ get_or ls i l → IsSplit ls whole → IsRising whole → IsRising l.waiters
line-rising [] i l whole within at split rises = absurd (omega arith)
line-rising (x ∷ ls) zero l whole within at split rises =
    subst (λ (y : Line). IsRising y.waiters) (sym at) (subst (λ (xs : List Arrived). IsRising xs) (sym split.0) (rising-filter (is_of x.pool) whole rises))
line-rising (x ∷ ls) (suc i) l whole within at split rises =
    line-rising ls i l (filter (is_elsewhere x.pool) whole) (omega (arith, within)) at split.1 (rising-filter (is_elsewhere x.pool) whole rises)

pub last-rising : (i : ℕ) (ls : List Line) (whole : List Arrived) → IsSplit ls whole → IsRising whole → IsRising (merged (drop i ls))
last-rising zero ls whole split rises = subst (λ (xs : List Arrived). IsRising xs) (sym (merged-split ls whole split rises)) rises
last-rising (suc i) [] whole split rises = tt
last-rising (suc i) (l ∷ ls) whole split rises =
    last-rising i ls (filter (is_elsewhere l.pool) whole) split.1 (rising-filter (is_elsewhere l.pool) whole rises)

-- the turns of a merge in place
drop-here : (xs : List Arrived) (i : ℕ) (x : Arrived) → i < length xs → x ≡ get_or xs i x → drop i xs ≡ x ∷ drop (i + 1) xs
drop-here xs i x within at =
    let next : suc i ≡ i + 1 = omega arith in
    drop-cons xs i x within ∙ ap (λ (z : Arrived). z ∷ drop (suc i) xs) (sym at) ∙ ap (λ (k : ℕ). x ∷ drop k xs) next

read-same : (xs : List Arrived) (i : ℕ) (x y : Arrived) → i < length xs → x ≡ get_or xs i x → y ≡ get_or xs i y → x ≡ y
read-same [] i x y within at_x at_y = absurd (omega arith)
read-same (z ∷ xs) zero x y within at_x at_y = at_x ∙ sym at_y
read-same (z ∷ xs) (suc i) x y within at_x at_y = read-same xs i x y (omega (arith, within)) at_x at_y

pub step-first : (both first second whole : List Arrived) (i j : ℕ) (x y z : Arrived) → i < length first → j < length second → x ≡ get_or first i x → y ≡ get_or second j y → z ≡ get_or first i z
    → IsRising first → IsRising second → lt_z x.number y.number ≡ true → both ++ merge (drop i first) (drop j second) ≡ whole → (both ++ z ∷ []) ++ merge (drop (i + 1) first) (drop j second) ≡ whole
step-first both first second whole i j x y z in_first in_second at_x at_y at_z first_rises second_rises below so_far =
    let here = drop-here first i x in_first at_x in
    let there = drop-here second j y in_second at_y in
    let same = read-same first i z x in_first at_z at_x in
    let rest = drop (i + 1) first in
    let more = drop (j + 1) second in
    let step = merge-first x y rest more (subst (λ (l : List Arrived). IsRising l) here (rising-drop i first first_rises)) (subst (λ (l : List Arrived). IsRising l) there (rising-drop j second second_rises)) below in
    append_assoc both (z ∷ []) (merge rest (drop j second))
    ∙ (λ k. both ++ (same k ∷ merge rest (there k)))
    ∙ ap (λ (l : List Arrived). both ++ l) (sym step)
    ∙ (λ k. both ++ merge (sym here k) (sym there k))
    ∙ so_far

pub step-second : (both first second whole : List Arrived) (i j : ℕ) (x y z : Arrived) → i < length first → j < length second → x ≡ get_or first i x → y ≡ get_or second j y → z ≡ get_or second j z
    → IsRising first → lt_z x.number y.number ≡ false → both ++ merge (drop i first) (drop j second) ≡ whole → (both ++ z ∷ []) ++ merge (drop i first) (drop (j + 1) second) ≡ whole
step-second both first second whole i j x y z in_first in_second at_x at_y at_z first_rises over so_far =
    let here = drop-here first i x in_first at_x in
    let there = drop-here second j y in_second at_y in
    let same = read-same second j z y in_second at_z at_y in
    let rest = drop (i + 1) first in
    let more = drop (j + 1) second in
    let step = merge-second x y rest more (subst (λ (l : List Arrived). IsRising l) here (rising-drop i first first_rises)) over in
    append_assoc both (z ∷ []) (merge (drop i first) more)
    ∙ (λ k. both ++ (same k ∷ merge (here k) more))
    ∙ ap (λ (l : List Arrived). both ++ l) (sym step)
    ∙ (λ k. both ++ merge (sym here k) (sym there k))
    ∙ so_far

pub end-second : (both first second whole : List Arrived) (i j : ℕ) → length second ≤ j → IsRising first → both ++ merge (drop i first) (drop j second) ≡ whole → (both ++ drop i first) ++ drop j second ≡ whole
end-second both first second whole i j past rises so_far =
    let none = drop_all j second past in
    ap (λ (l : List Arrived). (both ++ drop i first) ++ l) none
    ∙ append-nil (both ++ drop i first)
    ∙ ap (λ (l : List Arrived). both ++ l) (sym (merge-nil (drop i first) (rising-drop i first rises)))
    ∙ sym (ap (λ (l : List Arrived). both ++ merge (drop i first) l) none)
    ∙ so_far

pub end-first : (both first second whole : List Arrived) (i j : ℕ) → length first ≤ i → both ++ merge (drop i first) (drop j second) ≡ whole → (both ++ drop i first) ++ drop j second ≡ whole
end-first both first second whole i j past so_far =
    let none = drop_all i first past in
    ap (λ (l : List Arrived). (both ++ l) ++ drop j second) none
    ∙ ap (λ (l : List Arrived). l ++ drop j second) (append-nil both)
    ∙ sym (ap (λ (l : List Arrived). both ++ merge l (drop j second)) none)
    ∙ so_far

pub rest-all : (xs : List Arrived) (i : ℕ) → take (length xs - i) (drop i xs) ≡ drop i xs
rest-all xs i = take_all (length xs - i) (drop i xs) (omega (arith, length-drop i xs))
