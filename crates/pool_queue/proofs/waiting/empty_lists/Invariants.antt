use Rattle.std.proofs.Common.{◌≡◌, length}
use Rattle.pool_queue.specs.Lines.{AreEmpty}
use Rattle.pool_queue.proofs.waiting.empty_lists.Given as goal

abbrev pub invariant-loop : goal.invariant-loop
invariant-loop l = record {
  count : length l.lists ≡ l.counter;
  empty : AreEmpty l.lists;
}
