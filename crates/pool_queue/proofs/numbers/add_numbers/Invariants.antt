use Rattle.std.proofs.Common.{◌≡◌, ◌++◌, take, map}
use Rattle.pool_queue.proofs.numbers.add_numbers.Given as goal

abbrev pub invariant-loop-a : goal.invariant-loop-a
invariant-loop-a l = l.given ≡ l.initial.given ++ map (λ a. a.number) (take l.a-index l.waiters)
