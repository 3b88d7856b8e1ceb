-- What the queue keeps of its lists.
use Rattle.std.proofs.Common.{◌≡◌, ◌≤◌, ◌<◌, ℕ, ◌+◌, zero, suc, Bool, true, false, cond, nat_eq, List, [], ◌∷◌, ◌++◌, length, get_or, set, remove, filter, refl, ap, sym, subst, ◌∙◌, arith, length-append}
use Rattle.std.specs.Prelude.{ℤ, pos, ◌+ℤ◌}
use Rattle.std.specs.Int.Signed.{lt_z}
use Rattle.std.proofs.lemmas.Int.{ints}
use Rattle.std.proofs.lemmas.Bool.Decides.{nat_tests}
use Rattle.rm_base.specs.declared.name.Name.{Name}
use Rattle.rm_rules.specs.State.{without}
use Rattle.pool_queue.specs.declared.lines.Arrived.{Arrived}
use Rattle.pool_queue.specs.declared.lines.Line.{Line}
use Rattle.pool_queue.specs.Lines.{merged, is_of, is_line, AreAbove, IsRising, IsSplit, IsOrdered, placed, with_block, joined, AreFilled, AreWithin, AreCounted, HasRoom, without_empty}
use Rattle.pool_queue.proofs.Merging.{merged-split, ordered-from_split}
use Rattle.pool_queue.proofs.Splits.{AllPass, split-joined, split-closed}
use Rattle.pool_queue.proofs.Counts.{length-merge}

-- an empty list that goes
pub closed-then : (ls : List Line) (i : ℕ) (l : Line) → i < length ls → l ≡ get_or ls i l → length l.waiters ≡ 0 → remove ls i ≡ without_empty i ls
closed-then [] i l within at none = absurd (omega arith)
closed-then (x ∷ ls) zero l within at none =
    let e : nat_eq (length x.waiters) 0 ≡ true = ap (λ (y : Line). nat_eq (length y.waiters) 0) (sym at) ∙ ap (λ (n : ℕ). nat_eq n 0) none in
    sym (ap (λ c. cond c ls (x ∷ ls)) e)
closed-then (x ∷ ls) (suc i) l within at none = ap (λ (xs : List Line). x ∷ xs) (closed-then ls i l (omega (arith, within)) at none)

not_zero : (n : ℕ) → 1 ≤ n → nat_eq n 0 ≡ false
not_zero n some = grind (arith, nat_tests)

pub closed-else : (ls : List Line) (i : ℕ) (l : Line) → i < length ls → l ≡ get_or ls i l → 1 ≤ length l.waiters → ls ≡ without_empty i ls
closed-else [] i l within at some = absurd (omega arith)
closed-else (x ∷ ls) zero l within at some =
    let e : nat_eq (length x.waiters) 0 ≡ false = ap (λ (y : Line). nat_eq (length y.waiters) 0) (sym at) ∙ not_zero (length l.waiters) some in
    sym (ap (λ c. cond c ls (x ∷ ls)) e)
closed-else (x ∷ ls) (suc i) l within at some = ap (λ (xs : List Line). x ∷ xs) (closed-else ls i l (omega (arith, within)) at some)

pub same-at : (ls : List Line) (i : ℕ) (x y : Line) → i < length ls → x ≡ get_or ls i x → y ≡ get_or ls i y → x ≡ y
same-at [] i x y within at_x at_y = absurd (omega arith)
same-at (l ∷ ls) zero x y within at_x at_y = at_x ∙ sym at_y
same-at (l ∷ ls) (suc i) x y within at_x at_y = same-at ls i x y (omega (arith, within)) at_x at_y

pub no_length : (xs : List Arrived) → length xs ≡ 0 → xs ≡ []
no_length [] none = refl
no_length (x ∷ xs) none = absurd (omega (arith, none))

zero-from : (n : ℕ) → nat_eq n 0 ≡ true → n ≡ 0
zero-from n e = grind (arith, nat_tests)

some-from : (n : ℕ) → nat_eq n 0 ≡ false → 1 ≤ n
some-from n e = grind (arith, nat_tests)

closed-turn : (l : Line) (ls : List Line) (whole : List Arrived) (b : Bool) → nat_eq (length l.waiters) 0 ≡ b → IsSplit (l ∷ ls) whole → IsSplit (cond b ls (l ∷ ls)) whole
closed-turn l ls whole true none split =
    split-closed (l ∷ ls) zero l whole (omega arith) refl (no_length l.waiters (zero-from (length l.waiters) none)) split
closed-turn l ls whole false some split = split

pub split-without_empty : (i : ℕ) (ls : List Line) (whole : List Arrived) → IsSplit ls whole → IsSplit (without_empty i ls) whole
split-without_empty i [] whole split = split
split-without_empty zero (l ∷ ls) whole split = closed-turn l ls whole (nat_eq (length l.waiters) 0) refl split
split-without_empty (suc i) (l ∷ ls) whole split = (split.0, split-without_empty i ls (filter _ whole) split.1)

-- no list is empty
filled-turn : (l : Line) (ls : List Line) (b : Bool) → nat_eq (length l.waiters) 0 ≡ b → AreFilled ls → AreFilled (cond b ls (l ∷ ls))
filled-turn l ls true none rest = rest
filled-turn l ls false some rest = (some-from (length l.waiters) some, rest)

pub filled-without_empty : (ls : List Line) (i : ℕ) (l : Line) → AreFilled ls → AreFilled (without_empty i (set ls i l))
filled-without_empty [] i l all = tt
filled-without_empty (x ∷ ls) zero l all = filled-turn l ls (nat_eq (length l.waiters) 0) refl all.1
filled-without_empty (x ∷ ls) (suc i) l all = (all.0, filled-without_empty ls i l all.1)

without-turn : (l : Line) (ls : List Line) (rest : List Line) (b : Bool) → AreFilled (l ∷ ls) → AreFilled rest → AreFilled (cond b ls (l ∷ rest))
without-turn l ls rest true all left = all.1
without-turn l ls rest false all left = (all.0, left)

pub filled-without : (test : Line → Bool) (ls : List Line) → AreFilled ls → AreFilled (without test ls)
filled-without test [] all = tt
filled-without test (l ∷ ls) all = without-turn l ls (without test ls) (test l) all (filled-without test ls all.1)

pub length-placed : (front : Bool) (block others : List Arrived) → length (placed front block others) ≡ length block + length others
length-placed true block others = length-append block others
length-placed false block others = omega (arith, length-append others block)

filled-joined-turn : (front : Bool) (pool : Name) (block : List Arrived) (l : Line) (ls : List Line) (b : Bool) → 1 ≤ length block → AreFilled (l ∷ ls) → AreFilled (joined front pool block ls)
    → AreFilled (cond b (with_block front block l ∷ ls) (l ∷ joined front pool block ls))
filled-joined-turn front pool block l ls true some all rest = (omega (arith, length-placed front block l.waiters, some), all.1)
filled-joined-turn front pool block l ls false some all rest = (all.0, rest)

pub filled-joined : (front : Bool) (pool : Name) (block : List Arrived) (ls : List Line) → 1 ≤ length block → AreFilled ls → AreFilled (joined front pool block ls)
filled-joined front pool block [] some all = (some, tt)
filled-joined front pool block (l ∷ ls) some all = filled-joined-turn front pool block l ls (is_line pool l) some all (filled-joined front pool block ls some all.1)

pub filled-within : (ls : List Line) → AreFilled ls → length ls ≤ length (merged ls)
filled-within [] all = omega arith
filled-within (l ∷ ls) all = omega (arith, all.0, filled-within ls all.1, length-merge l.waiters (merged ls))

-- numbers within two others
within-turn : (low high : ℤ) (x : Arrived) (xs : List Arrived) (b : Bool) → lt_z x.number low ≡ false → lt_z x.number high ≡ true → AreWithin low high xs → AreWithin low high (cond b (x ∷ xs) xs)
within-turn low high x xs true above below rest = (above, below, rest)
within-turn low high x xs false above below rest = rest

pub within-filter : (test : Arrived → Bool) (low high : ℤ) (xs : List Arrived) → AreWithin low high xs → AreWithin low high (filter test xs)
within-filter test low high [] all = tt
within-filter test low high (x ∷ xs) all = within-turn low high x (filter test xs) (test x) all.0 all.1 (within-filter test low high xs all.2)

not_below-wider : (n low other : ℤ) → lt_z n low ≡ false → lt_z low other ≡ false → lt_z n other ≡ false
not_below-wider n low other h g = grind (arith, ints)

below-wider : (n high other : ℤ) → lt_z n high ≡ true → lt_z other high ≡ false → lt_z n other ≡ true
below-wider n high other h g = grind (arith, ints)

pub within-wider : (low high under over : ℤ) (xs : List Arrived) → lt_z low under ≡ false → lt_z over high ≡ false → AreWithin low high xs → AreWithin under over xs
within-wider low high under over [] down up all = tt
within-wider low high under over (x ∷ xs) down up all =
    (not_below-wider x.number low under all.0 down, below-wider x.number high over all.1 up, within-wider low high under over xs down up all.2)

pub within-append : (low high : ℤ) (xs ys : List Arrived) → AreWithin low high xs → AreWithin low high ys → AreWithin low high (xs ++ ys)
within-append low high [] ys first second = second
within-append low high (x ∷ xs) ys first second = (first.0, first.1, within-append low high xs ys first.2 second)

-- one list behind another
above-append : (n : ℤ) (xs ys : List Arrived) → AreAbove n xs → AreAbove n ys → AreAbove n (xs ++ ys)
above-append n [] ys first second = second
above-append n (x ∷ xs) ys first second = (first.0, above-append n xs ys first.1 second)

above-next : (n seam m : ℤ) → lt_z n seam ≡ true → lt_z m seam ≡ false → lt_z n m ≡ true
above-next n seam m h g = grind (arith, ints)

above-within : (n seam high : ℤ) (ys : List Arrived) → lt_z n seam ≡ true → AreWithin seam high ys → AreAbove n ys
above-within n seam high [] below all = tt
above-within n seam high (y ∷ ys) below all = (above-next n seam y.number below all.0, above-within n seam high ys below all.2)

pub rising-append : (low seam high : ℤ) (xs ys : List Arrived) → IsRising xs → IsRising ys → AreWithin low seam xs → AreWithin seam high ys → IsRising (xs ++ ys)
rising-append low seam high [] ys first second under over = second
rising-append low seam high (x ∷ xs) ys first second under over =
    (above-append x.number xs ys first.0 (above-within x.number seam high ys under.1 over), rising-append low seam high xs ys first.1 second under.2 over)

-- a block that joins
pub record IsJoined (front : Bool) (block : List Arrived) (old new : List Line) : Type 0 where
  pub whole : merged new ≡ placed front block (merged old)
  pub ordered : IsOrdered new

pub joining : (front : Bool) (pool : Name) (block : List Arrived) (ls : List Line) → AllPass (is_of pool) block → IsOrdered ls → IsRising (placed front block (merged ls))
    → IsJoined front block ls (joined front pool block ls)
joining front pool block ls all ordered rises =
    let split = split-joined front pool block ls (merged ls) all ordered.split in
    record {
      whole = merged-split (joined front pool block ls) (placed front block (merged ls)) split rises;
      ordered = ordered-from_split (joined front pool block ls) (placed front block (merged ls)) split rises;
    }

-- numbers that follow one another
counted-next : (n : ℤ) (k : ℕ) → (n +ℤ pos 1) +ℤ pos k ≡ n +ℤ pos (suc k)
counted-next n k = omega (arith, ints)

counted-none : (n : ℤ) → lt_z n n ≡ false
counted-none n = grind (arith, ints)

counted-step : (n : ℤ) (k : ℕ) → lt_z n (n +ℤ pos (suc k)) ≡ true
counted-step n k = grind (arith, ints)

counted-after : (n : ℤ) → lt_z (n +ℤ pos 1) n ≡ false
counted-after n = grind (arith, ints)

counted-over : (n : ℤ) (k : ℕ) → lt_z (n +ℤ pos k) n ≡ false
counted-over n k = grind (arith, ints)

above-counted : (n m : ℤ) (xs : List Arrived) → lt_z n m ≡ true → AreCounted m xs → AreAbove n xs
above-counted n m [] below all = tt
above-counted n m (x ∷ xs) below all =
    (ap (λ (k : ℤ). lt_z n k) all.0 ∙ below, above-counted n (m +ℤ pos 1) xs (above-next n m (m +ℤ pos 1) below (counted-after m)) all.1)

pub rising-counted : (n : ℤ) (xs : List Arrived) → AreCounted n xs → IsRising xs
rising-counted n [] all = tt
rising-counted n (x ∷ xs) all =
    (above-counted x.number (n +ℤ pos 1) xs (ap (λ (k : ℤ). lt_z k (n +ℤ pos 1)) all.0 ∙ counted-step n 0) all.1, rising-counted (n +ℤ pos 1) xs all.1)

pub within-counted : (n : ℤ) (xs : List Arrived) → AreCounted n xs → AreWithin n (n +ℤ pos (length xs)) xs
within-counted n [] all = tt
within-counted n (x ∷ xs) all =
    let rest : AreWithin (n +ℤ pos 1) (n +ℤ pos (suc (length xs))) xs =
    subst (λ (k : ℤ). AreWithin (n +ℤ pos 1) k xs) (counted-next n (length xs)) (within-counted (n +ℤ pos 1) xs all.1) in (
      ap (λ (k : ℤ). lt_z k n) all.0 ∙ counted-none n,
      ap (λ (k : ℤ). lt_z k (n +ℤ pos (suc (length xs)))) all.0 ∙ counted-step n (length xs),
      within-wider (n +ℤ pos 1) (n +ℤ pos (suc (length xs))) n (n +ℤ pos (suc (length xs))) xs (counted-after n) (counted-none (n +ℤ pos (suc (length xs)))) rest,
    )

-- a block that joins behind all, and one in front of all
pub record IsPlaced (front : Bool) (block : List Arrived) (old new : List Line) (least next : ℤ) : Type 0 where
  pub whole : merged new ≡ placed front block (merged old)
  pub ordered : IsOrdered new
  pub within : AreWithin least next (merged new)

pub placing-behind : (pool : Name) (block : List Arrived) (ls : List Line) (least next : ℤ) → AllPass (is_of pool) block → IsOrdered ls → AreWithin least next (merged ls)
    → AreCounted next block → lt_z next least ≡ false → IsPlaced false block ls (joined false pool block ls) least (next +ℤ pos (length block))
placing-behind pool block ls least next all ordered within counted rises =
    let more = within-counted next block counted in
    let over = next +ℤ pos (length block) in
    let join = joining false pool block ls all ordered (rising-append least next over (merged ls) block ordered.rising (rising-counted next block counted) within more) in
    let first = within-wider least next least over (merged ls) (counted-none least) (counted-over next (length block)) within in
    let second = within-wider next over least over block rises (counted-none over) more in
    record {
      whole = join.whole;
      ordered = join.ordered;
      within = subst (λ (xs : List Arrived). AreWithin least over xs) (sym join.whole) (within-append least over (merged ls) block first second);
    }

pub placing-in_front : (pool : Name) (block : List Arrived) (ls : List Line) (first least next : ℤ) → AllPass (is_of pool) block → IsOrdered ls → AreWithin least next (merged ls)
    → AreCounted first block → first +ℤ pos (length block) ≡ least → lt_z next least ≡ false → IsPlaced true block ls (joined true pool block ls) first next
placing-in_front pool block ls first least next all ordered within counted ends rises =
    let more = subst (λ (k : ℤ). AreWithin first k block) ends (within-counted first block counted) in
    let join = joining true pool block ls all ordered (rising-append first least next block (merged ls) (rising-counted first block counted) ordered.rising more within) in
    let below : lt_z least first ≡ false = subst (λ (k : ℤ). lt_z k first ≡ false) ends (counted-over first (length block)) in
    let front = within-wider first least first next block (counted-none first) rises more in
    let rest = within-wider least next first next (merged ls) below (counted-none next) within in
    record {
      whole = join.whole;
      ordered = join.ordered;
      within = subst (λ (xs : List Arrived). AreWithin first next xs) (sym join.whole) (within-append first next block (merged ls) front rest);
    }

-- room that is used
pub room-behind : (count : ℕ) (least next : ℤ) → HasRoom 0 count least next → HasRoom 0 0 least (next +ℤ pos count)
room-behind count least next room = record {
  low = room.low;
  high = omega (arith, ints, room.high);
  rising = not_below-wider (next +ℤ pos count) next least (counted-over next count) room.rising;
}

pub room-in_front : (count : ℕ) (first least next : ℤ) → first +ℤ pos count ≡ least → HasRoom count 0 least next → HasRoom 0 0 first next
room-in_front count first least next ends room =
    let below : lt_z least first ≡ false = subst (λ (k : ℤ). lt_z k first ≡ false) ends (counted-over first count) in
    record {
      low = omega (arith, ints, room.low, ends);
      high = room.high;
      rising = not_below-wider next least first room.rising below;
    }
