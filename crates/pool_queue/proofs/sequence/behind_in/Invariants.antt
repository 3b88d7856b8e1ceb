use Rattle.std.proofs.Common.{◌≡◌, nat_eq, drop, find}
use Rattle.pool_queue.specs.Lines.{count_below}
use Rattle.pool_queue.proofs.sequence.behind_in.Given as goal

abbrev pub invariant-loop-a : goal.invariant-loop-a
invariant-loop-a l = find (λ a. nat_eq (count_below a.number l.lines) l.count) (drop l.a-index l.waiters) ≡ find (λ a. nat_eq (count_below a.number l.lines) l.count) l.waiters
