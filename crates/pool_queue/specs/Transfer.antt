-- How the waiting queries of a pool that is gone become GENERAL's.
use Rattle.std.specs.Prelude.{ℤ, pos, ◌+ℤ◌, List, [], ◌∷◌}
use Rattle.rm_rules.specs.DropPool.{as_generals}
use Rattle.pool_queue.specs.declared.lines.Arrived.{Arrived}

-- the arrivals as GENERAL's, with this number and those that follow it
abbrev pub as_generals_from : ℤ → List Arrived → List Arrived
as_generals_from n [] = []
as_generals_from n (a ∷ rest) = record { number = n; waiter = as_generals a.waiter } ∷ as_generals_from (n +ℤ pos 1) rest
