-- The numbers of arrival that are given.
use Rattle.std.specs.Prelude.{ℕ, ℤ, pos, neg_ℤ, ◌+ℤ◌, Bool, if◌then◌else◌, List, [], ◌++◌, ◌∷◌, map, count_by}
use Rattle.std.specs.Int.Signed.{lt_z}
use Rattle.pool_queue.specs.declared.lines.Arrived.{Arrived}
use Rattle.pool_queue.specs.declared.lines.Line.{Line}
use Rattle.pool_queue.specs.declared.numbers.Numbers.{Numbers}

-- the numbers of so many arrivals in front of all others, or behind them
abbrev pub given : Bool → ℕ → Numbers → Numbers
given front count n =
    if front then record { least = n.least +ℤ neg_ℤ (pos count); next = n.least }
    else record { least = n.next; next = n.next +ℤ pos count }

-- the numbers, and those that were given in front of them, or behind them
abbrev pub with_given : Bool → Numbers → Numbers → Numbers
with_given front more n = if front then record { least = more.least; next = n.next } else record { least = n.least; next = more.next }

-- the numbers in the lists
abbrev pub numbers_of : List Line → List ℤ
numbers_of [] = []
numbers_of (l ∷ ls) = map (λ a. a.number) l.waiters ++ numbers_of ls

-- how many of the numbers are lower
abbrev pub rank : List ℤ → Arrived → ℕ
rank numbers a = count_by (λ n. lt_z n a.number) numbers

-- the arrival, numbered by how many have lower numbers
abbrev pub ranked : List ℤ → Arrived → Arrived
ranked numbers a = record { number = pos (rank numbers a); waiter = a.waiter }

-- the list of a pool, numbered so
abbrev pub ranked_line : List ℤ → Line → Line
ranked_line numbers l = record { pool = l.pool; waiters = map (ranked numbers) l.waiters }
