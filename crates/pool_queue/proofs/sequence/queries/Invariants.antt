use Rattle.std.proofs.Common.{◌≡◌, take}
use Rattle.pool_queue.specs.Lines.{queries}
use Rattle.pool_queue.proofs.sequence.queries.Given as goal

abbrev pub invariant-loop-a : goal.invariant-loop-a
invariant-loop-a l = l.waiting.items ≡ queries (take l.a-index l.a-items)
