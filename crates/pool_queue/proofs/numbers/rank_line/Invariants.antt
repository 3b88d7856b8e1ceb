use Rattle.std.proofs.Common.{◌≡◌, ◌++◌, length, take, drop, map}
use Rattle.pool_queue.specs.Numbers.{ranked}
use Rattle.pool_queue.proofs.numbers.rank_line.Given as goal

abbrev pub invariant-loop-i : goal.invariant-loop-i
invariant-loop-i l = record {
  pool : l.line.pool ≡ l.initial.line.pool;
  count : length l.line.waiters ≡ length l.initial.line.waiters;
  items : take l.i l.line.waiters ++ map (ranked l.given) (drop l.i l.line.waiters) ≡ map (ranked l.given) l.initial.line.waiters;
}
