use Rattle.std.proofs.Common.{◌≡◌, ◌++◌, length, take, drop, pos, ◌+ℤ◌}
use Rattle.pool_queue.specs.Transfer.{as_generals_from}
use Rattle.pool_queue.proofs.transfer.make_generals.Given as goal

abbrev pub invariant-loop-i : goal.invariant-loop-i
invariant-loop-i l = record {
  count : length l.block ≡ length l.initial.block;
  items : take l.i l.block ++ as_generals_from (l.given.least +ℤ pos l.i) (drop l.i l.block) ≡ as_generals_from l.given.least l.initial.block;
}
