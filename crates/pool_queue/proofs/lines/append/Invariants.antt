use Rattle.std.proofs.Common.{◌≡◌, ◌++◌, take}
use Rattle.pool_queue.proofs.lines.append.Given as goal

abbrev pub invariant-loop-i : goal.invariant-loop-i
invariant-loop-i l = l.first ≡ l.initial.first ++ take l.i l.second
