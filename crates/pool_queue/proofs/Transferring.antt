-- The queries of a pool that is gone become GENERAL's.
use Rattle.std.proofs.Common.{◌≡◌, ◌≤◌, ◌<◌, ℕ, ◌+◌, zero, suc, Bool, true, false, not, cond, Option, Some, None, List, [], ◌∷◌, ◌++◌, length, get_or, set, take, drop, map, filter, find, refl, ap, sym, subst, ◌∙◌, arith, append-nil, append_assoc}
use Rattle.std.specs.Prelude.{ℤ, pos, neg_ℤ, ◌+ℤ◌, ◌≤ℤ◌}
use Rattle.std.specs.Int.Signed.{lt_z}
use Rattle.std.proofs.lemmas.Int.{ints}
use Rattle.std.proofs.lemmas.List.{map-append, take_more_set, drop-set-lt}
use Rattle.std.proofs.lemmas.List.Filters.{length-filter_both}
use Rattle.std.proofs.Math.Seq.{drop-cons}
use Rattle.rm_base.specs.declared.name.Name.{Name}
use Rattle.rm_base.specs.Name.{general}
use Rattle.rm_base.proofs.Names.{same_name-refl}
use Rattle.rm_rules.specs.declared.state.Waiter.{Waiter}
use Rattle.rm_rules.specs.DropPool.{waits_in, as_generals, transferred}
use Rattle.pool_queue.specs.declared.lines.Arrived.{Arrived}
use Rattle.pool_queue.specs.declared.lines.Line.{Line}
use Rattle.rm_rules.specs.State.{without}
use Rattle.pool_queue.specs.declared.numbers.Numbers.{Numbers}
use Rattle.pool_queue.specs.Numbers.{given, with_given}
use Rattle.pool_queue.specs.Lines.{merged, queries, is_of, is_elsewhere, is_line, joined, placed, IsOrdered, AreFilled, AreWithin, AreCounted, HasRoom}
use Rattle.pool_queue.specs.Transfer.{as_generals_from}
use Rattle.pool_queue.proofs.Splits.{AllPass, all-elsewhere, line-of, split-without, waiters_in}
use Rattle.pool_queue.proofs.Merging.{merged-split, ordered-from_split, rising-filter}
use Rattle.pool_queue.proofs.Keeping.{IsPlaced, placing-behind, placing-in_front, filled-joined, filled-without, within-filter, length-placed, room-behind, room-in_front}

pub length-generals : (n : ℤ) (xs : List Arrived) → length (as_generals_from n xs) ≡ length xs
length-generals n [] = refl
length-generals n (x ∷ xs) = omega (arith, length-generals (n +ℤ pos 1) xs)

pub counted-generals : (n : ℤ) (xs : List Arrived) → AreCounted n (as_generals_from n xs)
counted-generals n [] = tt
counted-generals n (x ∷ xs) = (refl, counted-generals (n +ℤ pos 1) xs)

pub all-generals : (n : ℤ) (xs : List Arrived) → AllPass (is_of general) (as_generals_from n xs)
all-generals n [] = tt
all-generals n (x ∷ xs) = (same_name-refl general, all-generals (n +ℤ pos 1) xs)

queries-generals : (n : ℤ) (xs : List Arrived) → queries (as_generals_from n xs) ≡ map as_generals (queries xs)
queries-generals n [] = refl
queries-generals n (x ∷ xs) = ap (λ (l : List Waiter). as_generals x.waiter ∷ l) (queries-generals (n +ℤ pos 1) xs)

of-turn : (p : Waiter → Bool) (x : Arrived) (xs : List Arrived) (b : Bool) → queries (filter (λ (a : Arrived). p a.waiter) xs) ≡ filter p (queries xs)
    → queries (cond b (x ∷ filter (λ (a : Arrived). p a.waiter) xs) (filter (λ (a : Arrived). p a.waiter) xs)) ≡ cond b (x.waiter ∷ filter p (queries xs)) (filter p (queries xs))
of-turn p x xs true rest = ap (λ (l : List Waiter). x.waiter ∷ l) rest
of-turn p x xs false rest = rest

pub filter-queries : (p : Waiter → Bool) (xs : List Arrived) → queries (filter (λ (a : Arrived). p a.waiter) xs) ≡ filter p (queries xs)
filter-queries p [] = refl
filter-queries p (x ∷ xs) = of-turn p x xs (p x.waiter) (filter-queries p xs)

pub transferred-placed : (front : Bool) (pool : Name) (n : ℤ) (whole : List Arrived)
    → queries (placed front (as_generals_from n (filter (is_of pool) whole)) (filter (is_elsewhere pool) whole)) ≡ transferred (queries whole) pool front
transferred-placed true pool n whole =
    let those = queries-generals n (filter (is_of pool) whole) ∙ ap (λ (ws : List Waiter). map as_generals ws) (filter-queries (waits_in pool) whole) in
    let others = filter-queries (λ w. not (waits_in pool w)) whole in
    map-append (λ (a : Arrived). a.waiter) (as_generals_from n (filter (is_of pool) whole)) (filter (is_elsewhere pool) whole) ∙ (λ i. those i ++ others i)
transferred-placed false pool n whole =
    let those = queries-generals n (filter (is_of pool) whole) ∙ ap (λ (ws : List Waiter). map as_generals ws) (filter-queries (waits_in pool) whole) in
    let others = filter-queries (λ w. not (waits_in pool w)) whole in
    map-append (λ (a : Arrived). a.waiter) (filter (is_elsewhere pool) whole) (as_generals_from n (filter (is_of pool) whole)) ∙ (λ i. others i ++ those i)

none-placed : (front : Bool) (others : List Arrived) → placed front [] others ≡ others
none-placed true others = refl
none-placed false others = append-nil others

pub transferred-none : (front : Bool) (pool : Name) (whole : List Arrived) → filter (is_of pool) whole ≡ [] → queries whole ≡ transferred (queries whole) pool front
transferred-none front pool whole none =
    let zero_z : ℤ = pos 0 in
    sym (ap (λ (xs : List Arrived). queries xs) (none-placed front (filter (is_elsewhere pool) whole) ∙ all-elsewhere pool whole none))
    ∙ sym (ap (λ (xs : List Arrived). queries (placed front (as_generals_from zero_z xs) (filter (is_elsewhere pool) whole))) none)
    ∙ transferred-placed front pool zero_z whole

-- one more of the list
next-number : (n : ℤ) (i : ℕ) → (n +ℤ pos i) +ℤ pos 1 ≡ n +ℤ pos (i + 1)
next-number n i = omega (arith, ints)

pub generals-more : (n : ℤ) (i : ℕ) (xs : List Arrived) (x y : Arrived) → i < length xs → x ≡ get_or xs i x → y ≡ record { number = n +ℤ pos i; waiter = as_generals x.waiter }
    → take (i + 1) (set xs i y) ++ as_generals_from (n +ℤ pos (i + 1)) (drop (i + 1) (set xs i y)) ≡ take i xs ++ as_generals_from (n +ℤ pos i) (drop i xs)
generals-more n i xs x y within at made =
    let one : ℤ = pos 1 in
    let front = take_more_set xs i y within in
    let after : drop (i + 1) (set xs i y) ≡ drop (i + 1) xs = drop-set-lt (i + 1) xs i y (omega arith) in
    let next : suc i ≡ i + 1 = omega arith in
    let here : drop i xs ≡ x ∷ drop (i + 1) xs =
    drop-cons xs i x within ∙ ap (λ (z : Arrived). z ∷ drop (suc i) xs) (sym at) ∙ ap (λ (k : ℕ). x ∷ drop k xs) next in
    (λ j. front j ++ as_generals_from (n +ℤ pos (i + 1)) (after j))
    ∙ append_assoc (take i xs) (y ∷ []) (as_generals_from (n +ℤ pos (i + 1)) (drop (i + 1) xs))
    ∙ (λ j. take i xs ++ (made j ∷ as_generals_from (sym (next-number n i) j) (drop (i + 1) xs)))
    ∙ sym (ap (λ (l : List Arrived). take i xs ++ as_generals_from (n +ℤ pos i) l) here)

-- the list of a pool that is gone joins GENERAL's
abbrev pub block_of : Bool → Line → Numbers → List Arrived
block_of front l n = as_generals_from (given front (length l.waiters) n).least l.waiters

abbrev pub numbers_after : Bool → Line → Numbers → Numbers
numbers_after front l n = with_given front (given front (length l.waiters) n) n

placing : (front : Bool) (l : Line) (ls : List Line) (n : Numbers) → IsOrdered ls → AreWithin n.least n.next (merged ls) → lt_z n.next n.least ≡ false
    → IsPlaced front (block_of front l n) ls (joined front general (block_of front l n) ls) (numbers_after front l n).least (numbers_after front l n).next
placing true l ls n ordered within rises =
    let k = length l.waiters in
    let first = n.least +ℤ neg_ℤ (pos k) in
    let ends : first +ℤ pos (length (as_generals_from first l.waiters)) ≡ n.least = less-more n.least k (length (as_generals_from first l.waiters)) (length-generals first l.waiters) in
    placing-in_front general (as_generals_from first l.waiters) ls first n.least n.next (all-generals first l.waiters) ordered within (counted-generals first l.waiters) ends rises
  where
    less-more : (n : ℤ) (k m : ℕ) → m ≡ k → (n +ℤ neg_ℤ (pos k)) +ℤ pos m ≡ n
    less-more n k m same = omega (arith, ints, same)
placing false l ls n ordered within rises =
    subst (λ (k : ℕ). IsPlaced false (as_generals_from n.next l.waiters) ls (joined false general (as_generals_from n.next l.waiters) ls) n.least (n.next +ℤ pos k)) (length-generals n.next l.waiters)
    (placing-behind general (as_generals_from n.next l.waiters) ls n.least n.next (all-generals n.next l.waiters) ordered within (counted-generals n.next l.waiters) rises)

pub record IsMoved (front : Bool) (from : Name) (old new : List Line) (n : Numbers) : Type 0 where
  pub items : queries (merged new) ≡ transferred (queries (merged old)) from front
  pub ordered : IsOrdered new
  pub filled : AreFilled new
  pub within : AreWithin n.least n.next (merged new)
  pub count : length (merged new) ≡ length (merged old)

pub moving : (front : Bool) (from : Name) (ls : List Line) (l : Line) (n : Numbers) → IsOrdered ls → AreFilled ls → AreWithin n.least n.next (merged ls) → lt_z n.next n.least ≡ false
    → find (is_line from) ls ≡ Some l → 1 ≤ length l.waiters
    → IsMoved front from ls (joined front general (block_of front l n) (without (is_line from) ls)) (numbers_after front l n)
moving front from ls l n ordered filled within rises found some =
    let whole = merged ls in
    let rest = filter (is_elsewhere from) whole in
    let left = without (is_line from) ls in
    let split = split-without from ls whole ordered.split in
    let rest_rises = rising-filter (is_elsewhere from) whole ordered.rising in
    let same : merged left ≡ rest = merged-split left rest split rest_rises in
    let those : l.waiters ≡ filter (is_of from) whole = ap (λ (o : Option Line). waiters_in o) (sym found) ∙ line-of from ls whole ordered.split in
    let first = (given front (length l.waiters) n).least in
    let block = block_of front l n in
    let inside = subst (λ (xs : List Arrived). AreWithin n.least n.next xs) (sym same) (within-filter (is_elsewhere from) n.least n.next whole within) in
    let put = placing front l left n (ordered-from_split left rest split rest_rises) inside rises in
    let both = length-filter_both (is_of from) (is_elsewhere from) (λ x. refl) whole in
    record {
      items = ap (λ (xs : List Arrived). queries xs) put.whole
          ∙ (λ i. queries (placed front (as_generals_from first (those i)) (same i)))
          ∙ transferred-placed front from first whole;
      ordered = put.ordered;
      filled = filled-joined front general block left (omega (arith, length-generals first l.waiters, some)) (filled-without (is_line from) ls filled);
      within = put.within;
      count = omega (
        arith,
        ap (λ (xs : List Arrived). length xs) put.whole,
        length-placed front block (merged left),
        length-generals first l.waiters,
        ap (λ (xs : List Arrived). length xs) those,
        ap (λ (xs : List Arrived). length xs) same,
        both,
      );
    }

pub nobody : (front : Bool) (from : Name) (ls : List Line) → IsOrdered ls → (let o : Option Line = None in find (is_line from) ls ≡ o) → queries (merged ls) ≡ transferred (queries (merged ls)) from front
nobody front from ls ordered none =
    transferred-none front from (merged ls) (sym (line-of from ls (merged ls) ordered.split) ∙ ap (λ (o : Option Line). waiters_in o) none)

-- room for those that move
pub room-given : (front : Bool) (k n : ℕ) (least next : ℤ) → k ≤ n → HasRoom n n least next → HasRoom (cond front k 0) (cond front 0 k) least next
room-given true k n least next few room = record { low = omega (arith, ints, room.low, few); high = omega (arith, ints, room.high); rising = room.rising }
room-given false k n least next few room = record { low = omega (arith, ints, room.low); high = omega (arith, ints, room.high, few); rising = room.rising }

pub room-of_given : (front : Bool) (k : ℕ) (n : Numbers) → HasRoom (cond front k 0) (cond front 0 k) n.least n.next → HasRoom 0 0 (given front k n).least (given front k n).next
room-of_given true k n room = record { low = omega (arith, ints, room.low); high = omega (arith, ints, room.high, not_under n.next n.least room.rising); rising = given-rising n.least k }
  where
    given-rising : (least : ℤ) (k : ℕ) → lt_z least (least +ℤ neg_ℤ (pos k)) ≡ false
    given-rising least k = grind (arith, ints)

    not_under : (a b : ℤ) → lt_z a b ≡ false → b ≤ℤ a
    not_under a b e = grind (arith, ints)
room-of_given false k n room = record { low = omega (arith, ints, room.low, not_under n.next n.least room.rising); high = omega (arith, ints, room.high); rising = given-rising n.next k }
  where
    given-rising : (next : ℤ) (k : ℕ) → lt_z (next +ℤ pos k) next ≡ false
    given-rising next k = grind (arith, ints)

    not_under : (a b : ℤ) → lt_z a b ≡ false → b ≤ℤ a
    not_under a b e = grind (arith, ints)

pub room-after : (front : Bool) (k : ℕ) (n : Numbers) → HasRoom (cond front k 0) (cond front 0 k) n.least n.next
    → HasRoom 0 0 (with_given front (given front k n) n).least (with_given front (given front k n) n).next
room-after true k n room = room-in_front k (n.least +ℤ neg_ℤ (pos k)) n.least n.next (less-more n.least k) room
  where
    less-more : (n : ℤ) (k : ℕ) → (n +ℤ neg_ℤ (pos k)) +ℤ pos k ≡ n
    less-more n k = omega (arith, ints)
room-after false k n room = room-behind k n.least n.next room

pub line-filled : (ls : List Line) (i : ℕ) (l : Line) → i < length ls → l ≡ get_or ls i l → AreFilled ls → 1 ≤ length l.waiters
line-filled [] i l within at all = absurd (omega arith)
line-filled (x ∷ ls) zero l within at all = omega (arith, all.0, ap (λ (y : Line). length y.waiters) at)
line-filled (x ∷ ls) (suc i) l within at all = line-filled ls i l (omega (arith, within)) at all.1

pub length-left : (from : Name) (ls : List Line) (l : Line) → IsOrdered ls → find (is_line from) ls ≡ Some l → length (merged (without (is_line from) ls)) + length l.waiters ≡ length (merged ls)
length-left from ls l ordered found =
    let whole = merged ls in
    let rest = filter (is_elsewhere from) whole in
    let same = merged-split (without (is_line from) ls) rest (split-without from ls whole ordered.split) (rising-filter (is_elsewhere from) whole ordered.rising) in
    let those : l.waiters ≡ filter (is_of from) whole = ap (λ (o : Option Line). waiters_in o) (sym found) ∙ line-of from ls whole ordered.split in
    omega (
      arith,
      ap (λ (xs : List Arrived). length xs) same,
      ap (λ (xs : List Arrived). length xs) those,
      length-filter_both (is_of from) (is_elsewhere from) (λ x. refl) whole,
    )
