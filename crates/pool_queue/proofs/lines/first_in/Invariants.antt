use Rattle.std.proofs.Common.{◌≡◌, drop, find}
use Rattle.pool_queue.proofs.lines.first_in.Given as goal

abbrev pub invariant-loop-a : goal.invariant-loop-a
invariant-loop-a g l = find (λ a. g.T.Test.passes l.test a.waiter) (drop l.a-index l.waiters) ≡ find (λ a. g.T.Test.passes l.test a.waiter) l.waiters
