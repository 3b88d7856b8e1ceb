-- The arrivals are numbered anew, in their order.
use Rattle.std.proofs.Common.{◌≡◌, ◌≤◌, ◌<◌, ℕ, ◌+◌, zero, suc, Bool, true, false, cond, Option, Some, List, [], ◌∷◌, ◌++◌, length, get_or, set, take, drop, map, filter, find, nat_eq, count_by, refl, ap, sym, subst, ◌∙◌, arith, append_assoc, length-append}
use Rattle.std.specs.Prelude.{ℤ, pos, ◌+ℤ◌}
use Rattle.std.specs.Int.Signed.{lt_z}
use Rattle.std.proofs.lemmas.Int.{ints}
use Rattle.std.proofs.lemmas.Bool.Decides.{nat_tests}
use Rattle.std.proofs.lemmas.List.{take_more_set, drop-set-lt, at_drop_more}
use Rattle.std.proofs.lemmas.List.Sums.{sum_by-cons, sum_by-append}
use Rattle.std.proofs.Math.Seq.{drop-cons}
use Rattle.rm_rules.specs.declared.state.Waiter.{Waiter}
use Rattle.pool_queue.specs.declared.lines.Arrived.{Arrived}
use Rattle.pool_queue.specs.declared.lines.Line.{Line}
use Rattle.pool_queue.specs.Numbers.{numbers_of, rank, ranked, ranked_line}
use Rattle.pool_queue.specs.Lines.{merged, queries, is_of, is_elsewhere, AreAbove, IsRising, IsSplit, IsOrdered, AreFilled, AreWithin, AreCounted, IsSameQueue, count_below}
use Rattle.pool_queue.proofs.Merging.{merged-split, ordered-from_split}
use Rattle.pool_queue.proofs.Counts.{length-merge}
use Rattle.pool_queue.proofs.Keeping.{rising-counted, within-counted}
use Rattle.pool_queue.proofs.Leaving.{count-lines, none-lower, not_itself}

-- one more of a list that is mapped in place
pub map-more : {A : Type 0} (f : A → A) (xs : List A) (i : ℕ) (x y : A) → i < length xs → x ≡ get_or xs i x → y ≡ f x
    → take (i + 1) (set xs i y) ++ map f (drop (i + 1) (set xs i y)) ≡ take i xs ++ map f (drop i xs)
map-more {A} f xs i x y within at made =
    let front = take_more_set xs i y within in
    let after : drop (i + 1) (set xs i y) ≡ drop (i + 1) xs = drop-set-lt (i + 1) xs i y (omega arith) in
    let next : suc i ≡ i + 1 = omega arith in
    let here : drop i xs ≡ x ∷ drop (i + 1) xs =
    drop-cons xs i x within ∙ ap (λ (z : A). z ∷ drop (suc i) xs) (sym at) ∙ ap (λ (k : ℕ). x ∷ drop k xs) next in
    (λ j. front j ++ map f (after j))
    ∙ append_assoc (take i xs) (y ∷ []) (map f (drop (i + 1) xs))
    ∙ (λ j. take i xs ++ (made j ∷ map f (drop (i + 1) xs)))
    ∙ sym (ap (λ (l : List A). take i xs ++ map f l) here)

-- the numbers that are written down
pub length-numbers : (ls : List Line) → length (numbers_of ls) ≡ length (merged ls)
length-numbers [] = refl
length-numbers (l ∷ ls) =
    omega (arith, length-append (map (λ (a : Arrived). a.number) l.waiters) (numbers_of ls), length-mapped l.waiters, length-numbers ls, length-merge l.waiters (merged ls))
  where
    length-mapped : (xs : List Arrived) → length (map (λ (a : Arrived). a.number) xs) ≡ length xs
    length-mapped [] = refl
    length-mapped (x ∷ xs) = omega (arith, length-mapped xs)

length-mapped : (xs : List Arrived) → length (map (λ (a : Arrived). a.number) xs) ≡ length xs
length-mapped [] = refl
length-mapped (x ∷ xs) = omega (arith, length-mapped xs)

pub numbers-within : (ls : List Line) (i : ℕ) (l : Line) → i < length ls → l ≡ get_or ls i l → length l.waiters ≤ length (numbers_of (drop i ls))
numbers-within ls i l within at =
    let here : length (numbers_of (drop i ls)) ≡ length (map (λ (a : Arrived). a.number) l.waiters ++ numbers_of (drop (i + 1) ls)) =
    ap (λ (ns : List ℤ). length ns) (at_drop_more numbers_of ls i l within) ∙ sym (ap (λ (x : Line). length (map (λ (a : Arrived). a.number) x.waiters ++ numbers_of (drop (i + 1) ls))) at) in
    omega (arith, here, length-append (map (λ (a : Arrived). a.number) l.waiters) (numbers_of (drop (i + 1) ls)), length-mapped l.waiters)

-- how many are lower
rank-map-turn : (n : ℤ) (x : Arrived) (xs : List Arrived) → count_by (λ (m : ℤ). lt_z m n) (map (λ (a : Arrived). a.number) xs) ≡ count_by (λ (a : Arrived). lt_z a.number n) xs
    → count_by (λ (m : ℤ). lt_z m n) (map (λ (a : Arrived). a.number) (x ∷ xs)) ≡ count_by (λ (a : Arrived). lt_z a.number n) (x ∷ xs)
rank-map-turn n x xs rest =
    omega (
      arith,
      sum_by-cons (λ (m : ℤ). cond (lt_z m n) 1 0) x.number (map (λ (a : Arrived). a.number) xs),
      sum_by-cons (λ (a : Arrived). cond (lt_z a.number n) 1 0) x xs,
      rest,
    )

rank-map : (n : ℤ) (xs : List Arrived) → count_by (λ (m : ℤ). lt_z m n) (map (λ (a : Arrived). a.number) xs) ≡ count_by (λ (a : Arrived). lt_z a.number n) xs
rank-map n [] = refl
rank-map n (x ∷ xs) = rank-map-turn n x xs (rank-map n xs)

rank-lines : (n : ℤ) (ls : List Line) → count_by (λ (m : ℤ). lt_z m n) (numbers_of ls) ≡ count_below n ls
rank-lines n [] = refl
rank-lines n (l ∷ ls) =
    omega (
      arith,
      sum_by-append (λ (m : ℤ). cond (lt_z m n) 1 0) (map (λ (a : Arrived). a.number) l.waiters) (numbers_of ls),
      rank-map n l.waiters,
      rank-lines n ls,
    )

rank-is : (ls : List Line) (a : Arrived) → IsOrdered ls → rank (numbers_of ls) a ≡ count_by (λ (x : Arrived). lt_z x.number a.number) (merged ls)
rank-is ls a ordered = rank-lines a.number ls ∙ count-lines a.number ls (merged ls) ordered.split

above-among : (n : ℤ) (front xs : List Arrived) (x : Arrived) → AreAbove n (front ++ x ∷ xs) → lt_z n x.number ≡ true
above-among n [] xs x above = above.0
above-among n (y ∷ front) xs x above = above-among n front xs x above.1

lower-front : (front xs : List Arrived) (x : Arrived) → IsRising (front ++ x ∷ xs) → count_by (λ (a : Arrived). lt_z a.number x.number) (front ++ x ∷ xs) ≡ length front
lower-front [] xs x rises =
    omega (
      arith,
      sum_by-cons (λ (a : Arrived). cond (lt_z a.number x.number) 1 0) x xs,
      ap {B = ℕ} (λ (c : Bool). cond c 1 0) (not_itself x.number),
      none-lower x.number xs rises.0,
    )
lower-front (y ∷ front) xs x rises =
    omega (
      arith,
      sum_by-cons (λ (a : Arrived). cond (lt_z a.number x.number) 1 0) y (front ++ x ∷ xs),
      ap {B = ℕ} (λ (c : Bool). cond c 1 0) (above-among y.number front xs x rises.0),
      lower-front front xs x rises.1,
    )

-- so the new numbers follow one another
counted-ranks : (ls : List Line) (front xs : List Arrived) → IsOrdered ls → merged ls ≡ front ++ xs → AreCounted (pos (length front)) (map (ranked (numbers_of ls)) xs)
counted-ranks ls front [] ordered whole = tt
counted-ranks ls front (x ∷ xs) ordered whole =
    let here : rank (numbers_of ls) x ≡ length front =
    rank-is ls x ordered
    ∙ ap (λ (l : List Arrived). count_by (λ (a : Arrived). lt_z a.number x.number) l) whole
    ∙ lower-front front xs x (subst (λ (l : List Arrived). IsRising l) whole ordered.rising) in
    let more = counted-ranks ls (front ++ x ∷ []) xs ordered (whole ∙ sym (append_assoc front (x ∷ []) xs)) in
    let next : pos (length (front ++ x ∷ [])) ≡ pos (length front) +ℤ pos 1 = next-place front x in
    (ap (λ (n : ℕ). pos n) here, subst (λ (n : ℤ). AreCounted n (map (ranked (numbers_of ls)) xs)) next more)
  where
    next-place : (front : List Arrived) (x : Arrived) → pos (length (front ++ x ∷ [])) ≡ pos (length front) +ℤ pos 1
    next-place front x = ap (λ (n : ℕ). pos n) (length-append front (x ∷ []))

-- and each list is as before
ranked-turn : (ns : List ℤ) (p : Waiter → Bool) (x : Arrived) (xs : List Arrived) (b : Bool)
    → map (ranked ns) (filter (λ (a : Arrived). p a.waiter) xs) ≡ filter (λ (a : Arrived). p a.waiter) (map (ranked ns) xs)
    → map (ranked ns) (cond b (x ∷ filter (λ (a : Arrived). p a.waiter) xs) (filter (λ (a : Arrived). p a.waiter) xs))
    ≡ cond b (ranked ns x ∷ filter (λ (a : Arrived). p a.waiter) (map (ranked ns) xs)) (filter (λ (a : Arrived). p a.waiter) (map (ranked ns) xs))
ranked-turn ns p x xs true rest = ap (λ (l : List Arrived). ranked ns x ∷ l) rest
ranked-turn ns p x xs false rest = rest

ranked-filter : (ns : List ℤ) (p : Waiter → Bool) (xs : List Arrived) → map (ranked ns) (filter (λ (a : Arrived). p a.waiter) xs) ≡ filter (λ (a : Arrived). p a.waiter) (map (ranked ns) xs)
ranked-filter ns p [] = refl
ranked-filter ns p (x ∷ xs) = ranked-turn ns p x xs (p x.waiter) (ranked-filter ns p xs)

split-ranked : (ns : List ℤ) (ls : List Line) (whole : List Arrived) → IsSplit ls whole → IsSplit (map (ranked_line ns) ls) (map (ranked ns) whole)
split-ranked ns [] whole split = ap (λ (xs : List Arrived). map (ranked ns) xs) split
split-ranked ns (l ∷ ls) whole split = (
  ap (λ (xs : List Arrived). map (ranked ns) xs) split.0 ∙ ranked-filter ns (λ w. is_of l.pool (record { number = pos 0; waiter = w })) whole,
  subst (λ (xs : List Arrived). IsSplit (map (ranked_line ns) ls) xs) (ranked-filter ns (λ w. is_elsewhere l.pool (record { number = pos 0; waiter = w })) whole)
      (split-ranked ns ls (filter (is_elsewhere l.pool) whole) split.1),
)

queries-ranked : (ns : List ℤ) (xs : List Arrived) → queries (map (ranked ns) xs) ≡ queries xs
queries-ranked ns [] = refl
queries-ranked ns (x ∷ xs) = ap (λ (l : List Waiter). x.waiter ∷ l) (queries-ranked ns xs)

length-ranked : (ns : List ℤ) (xs : List Arrived) → length (map (ranked ns) xs) ≡ length xs
length-ranked ns [] = refl
length-ranked ns (x ∷ xs) = omega (arith, length-ranked ns xs)

lists-ranked : (ns : List ℤ) (ls : List Line) → length (map (ranked_line ns) ls) ≡ length ls
lists-ranked ns [] = refl
lists-ranked ns (l ∷ ls) = omega (arith, lists-ranked ns ls)

filled-ranked : (ns : List ℤ) (ls : List Line) → AreFilled ls → AreFilled (map (ranked_line ns) ls)
filled-ranked ns [] all = tt
filled-ranked ns (l ∷ ls) all = (omega (arith, length-ranked ns l.waiters, all.0), filled-ranked ns ls all.1)

pub record IsAnew (old new : List Line) : Type 0 where
  pub same : IsSameQueue old new
  pub ordered : IsOrdered new
  pub within : AreWithin (pos 0) (pos (length (merged old))) (merged new)

pub numbering : (ls : List Line) → IsOrdered ls → IsAnew ls (map (ranked_line (numbers_of ls)) ls)
numbering ls ordered =
    let ns = numbers_of ls in
    let new = map (ranked_line ns) ls in
    let counted = counted-ranks ls [] (merged ls) ordered refl in
    let rises = rising-counted (pos 0) (map (ranked ns) (merged ls)) counted in
    let split = split-ranked ns ls (merged ls) ordered.split in
    let whole = merged-split new (map (ranked ns) (merged ls)) split rises in
    let within : AreWithin (pos 0) (pos 0 +ℤ pos (length (map (ranked ns) (merged ls)))) (map (ranked ns) (merged ls)) =
    within-counted (pos 0) (map (ranked ns) (merged ls)) counted in
    record {
      same = record {
        waiting = ap (λ (xs : List Arrived). queries xs) whole ∙ queries-ranked ns (merged ls);
        lists = lists-ranked ns ls;
        filled = filled-ranked ns ls;
      };
      ordered = ordered-from_split new (map (ranked ns) (merged ls)) split rises;
      within = subst (λ (xs : List Arrived). AreWithin (pos 0) (pos (length (merged ls))) xs) (sym whole)
          (subst (λ (n : ℤ). AreWithin (pos 0) n (map (ranked ns) (merged ls))) (up-to (length (map (ranked ns) (merged ls))) (length (merged ls)) (length-ranked ns (merged ls))) within);
    }
  where
    up-to : (n m : ℕ) → n ≡ m → pos 0 +ℤ pos n ≡ pos m
    up-to n m same = omega (arith, ints, same)

-- the arrival behind so many of all
pub record IsAt (found : Option Arrived) (xs : List Arrived) (j : ℕ) : Type 0 where
  pub one : Arrived
  pub is : found ≡ Some one
  pub at : one ≡ get_or xs j one

same-number : (n k : ℕ) → n ≡ k → nat_eq n k ≡ true
same-number n k same = grind (arith, nat_tests)

other-number : (n k j : ℕ) → k ≡ n + suc j → nat_eq n k ≡ false
other-number n k j same = grind (arith, nat_tests)

pub find-behind : (ls : List Line) (k j : ℕ) (front xs : List Arrived) → IsOrdered ls → merged ls ≡ front ++ xs → k ≡ length front + j → j < length xs
    → IsAt (find (λ (a : Arrived). nat_eq (count_below a.number ls) k) xs) xs j
find-behind ls k j front [] ordered whole place within = absurd (omega arith)
find-behind ls k zero front (x ∷ xs) ordered whole place within =
    let here : count_below x.number ls ≡ length front =
    count-lines x.number ls (merged ls) ordered.split
    ∙ ap (λ (l : List Arrived). count_by (λ (a : Arrived). lt_z a.number x.number) l) whole
    ∙ lower-front front xs x (subst (λ (l : List Arrived). IsRising l) whole ordered.rising) in
    let test = same-number (count_below x.number ls) k (omega (arith, here, place)) in
    record {
      one = x;
      is = ap (λ c. cond c (Some x) (find (λ (a : Arrived). nat_eq (count_below a.number ls) k) xs)) test;
      at = refl;
    }
find-behind ls k (suc j) front (x ∷ xs) ordered whole place within =
    let here : count_below x.number ls ≡ length front =
    count-lines x.number ls (merged ls) ordered.split
    ∙ ap (λ (l : List Arrived). count_by (λ (a : Arrived). lt_z a.number x.number) l) whole
    ∙ lower-front front xs x (subst (λ (l : List Arrived). IsRising l) whole ordered.rising) in
    let test = other-number (count_below x.number ls) k j (omega (arith, here, place)) in
    let rest = find-behind ls k j (front ++ x ∷ []) xs ordered (whole ∙ sym (append_assoc front (x ∷ []) xs)) (omega (arith, length-append front (x ∷ []), place)) (omega (arith, within)) in
    record {
      one = rest.one;
      is = ap (λ c. cond c (Some x) (find (λ (a : Arrived). nat_eq (count_below a.number ls) k) xs)) test ∙ rest.is;
      at = rest.at;
    }

pub get-queries : (xs : List Arrived) (k : ℕ) (d : Arrived) → get_or (queries xs) k d.waiter ≡ (get_or xs k d).waiter
get-queries [] k d = refl
get-queries (x ∷ xs) zero d = refl
get-queries (x ∷ xs) (suc k) d = get-queries xs k d
