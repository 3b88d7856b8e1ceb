-- The lists of the pools, and the order in which the queries joined.
use Rattle.std.specs.Prelude.{◌≡◌, ◌≤◌, ◌==◌, zero, suc, length, ℕ, ℤ, pos, neg_ℤ, ◌+ℤ◌, ◌≤ℤ◌, ◌^◌, Bool, true, false, ◌||◌, not, ◌+◌, Option, Some, None, find, count_by, List, [], ◌∷◌, ◌++◌, map, filter, if◌then◌else◌}
use Rattle.std.specs.Int.Signed.{lt_z}
use Rattle.rm_base.specs.declared.name.Name.{Name}
use Rattle.rm_base.specs.Name.{same_name}
use Rattle.rm_rules.specs.declared.state.Waiter.{Waiter}
use Rattle.rm_rules.specs.DropPool.{waits_in}
use Rattle.pool_queue.specs.declared.lines.Arrived.{Arrived}
use Rattle.pool_queue.specs.declared.lines.Line.{Line}

-- an arrival among others that stand by their numbers: before the first of a greater number
abbrev pub put_by_number : Arrived → List Arrived → List Arrived
put_by_number a [] = a ∷ []
put_by_number a (b ∷ bs) = if lt_z a.number b.number then a ∷ b ∷ bs else b ∷ put_by_number a bs

-- two lists of arrivals, merged by their numbers
abbrev pub merge : List Arrived → List Arrived → List Arrived
merge [] bs = bs
merge (a ∷ rest) bs = put_by_number a (merge rest bs)

-- the lists of all pools, merged by the numbers of arrival
abbrev pub merged : List Line → List Arrived
merged [] = []
merged (l ∷ ls) = merge l.waiters (merged ls)

-- the waiting queries without their numbers
abbrev pub queries : List Arrived → List Waiter
queries arrived = map (λ a. a.waiter) arrived

-- the query waits in the pool, or in another
abbrev pub is_of : Name → Arrived → Bool
is_of pool a = waits_in pool a.waiter

abbrev pub is_elsewhere : Name → Arrived → Bool
is_elsewhere pool a = not (waits_in pool a.waiter)

-- the list is the pool's
abbrev pub is_line : Name → Line → Bool
is_line pool l = same_name l.pool pool

-- the number is below those of all these
abbrev pub AreAbove : ℤ → List Arrived → Type 0
AreAbove n [] = Unit {0}
AreAbove n (a ∷ rest) = (lt_z n a.number ≡ true) × AreAbove n rest

-- the numbers rise
abbrev pub IsRising : List Arrived → Type 0
IsRising [] = Unit {0}
IsRising (a ∷ rest) = AreAbove a.number rest × IsRising rest

-- each list has those of its pool, in their order, and none is left
abbrev pub IsSplit : List Line → List Arrived → Type 0
IsSplit [] whole = whole ≡ []
IsSplit (l ∷ ls) whole = (l.waiters ≡ filter (is_of l.pool) whole) × IsSplit ls (filter (is_elsewhere l.pool) whole)

-- the numbers rise in the order in which the queries joined, and each stands in its pool's list
pub record IsOrdered (ls : List Line) : Type 0 where
  pub rising : IsRising (merged ls)
  pub split : IsSplit ls (merged ls)

-- a block of arrivals before or behind others
abbrev pub placed : Bool → List Arrived → List Arrived → List Arrived
placed front block others = if front then block ++ others else others ++ block

abbrev pub with_block : Bool → List Arrived → Line → Line
with_block front block l = record { pool = l.pool; waiters = placed front block l.waiters }

-- the lists, with a block that joins the pool's list, which may be a new one
abbrev pub joined : Bool → Name → List Arrived → List Line → List Line
joined front pool block [] = record { pool = pool; waiters = block } ∷ []
joined front pool block (l ∷ ls) = if is_line pool l then with_block front block l ∷ ls else l ∷ joined front pool block ls

-- the arrival has another number
abbrev pub has_other_number : ℤ → Arrived → Bool
has_other_number n a = lt_z a.number n || lt_z n a.number

-- the list without those that fail the test
abbrev pub with_kept : (Arrived → Bool) → Line → Line
with_kept keep l = record { pool = l.pool; waiters = filter keep l.waiters }

-- no list has any arrival
abbrev pub AreEmpty : List (List Arrived) → Type 0
AreEmpty [] = Unit {0}
AreEmpty (l ∷ ls) = (l ≡ []) × AreEmpty ls

-- of two arrivals, that of the lower number
abbrev pub earlier : Option Arrived → Option Arrived → Option Arrived
earlier first None = first
earlier None (Some second) = Some second
earlier (Some first) (Some second) = if lt_z second.number first.number then Some second else Some first

-- the first that passes the test, in any of the lists
abbrev pub first_of_lines : (Arrived → Bool) → List Line → Option Arrived
first_of_lines test [] = None
first_of_lines test (l ∷ ls) = earlier (find test l.waiters) (first_of_lines test ls)

-- how many in the lists have lower numbers
abbrev pub count_below : ℤ → List Line → ℕ
count_below n [] = 0
count_below n (l ∷ ls) = count_by (λ a. lt_z a.number n) l.waiters + count_below n ls

-- each list has at least one
abbrev pub AreFilled : List Line → Type 0
AreFilled [] = Unit {0}
AreFilled (l ∷ ls) = (1 ≤ length l.waiters) × AreFilled ls

-- the numbers are not below the first and below the second
abbrev pub AreWithin : ℤ → ℤ → List Arrived → Type 0
AreWithin low high [] = Unit {0}
AreWithin low high (a ∷ rest) = (lt_z a.number low ≡ false) × (lt_z a.number high ≡ true) × AreWithin low high rest

-- the lists, without the one in this place if it is empty
abbrev pub without_empty : ℕ → List Line → List Line
without_empty i [] = []
without_empty zero (l ∷ ls) = if length l.waiters == 0 then ls else l ∷ ls
without_empty (suc i) (l ∷ ls) = l ∷ without_empty i ls

-- below the first number and from the second on there is room for so many more
pub record HasRoom (below above : ℕ) (least next : ℤ) : Type 0 where
  pub low : (neg_ℤ (pos (2 ^ 62)) +ℤ pos below) ≤ℤ least
  pub high : (next +ℤ pos above) ≤ℤ pos (2 ^ 62)
  pub rising : lt_z next least ≡ false

-- the same queries wait in the same order, in as many lists
pub record IsSameQueue (old new : List Line) : Type 0 where
  pub waiting : queries (merged new) ≡ queries (merged old)
  pub lists : length new ≡ length old
  pub filled : AreFilled old → AreFilled new

-- the numbers are this one and those that follow it, one by one
abbrev pub AreCounted : ℤ → List Arrived → Type 0
AreCounted n [] = Unit {0}
AreCounted n (a ∷ rest) = (a.number ≡ n) × AreCounted (n +ℤ pos 1) rest
