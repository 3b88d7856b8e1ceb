use Rattle.std.proofs.Common.{◌≡◌, ◌+◌, drop}
use Rattle.pool_queue.specs.Lines.{count_below}
use Rattle.pool_queue.proofs.lines.count_below.Given as goal

abbrev pub invariant-loop-line : goal.invariant-loop-line
invariant-loop-line l = l.count + count_below l.than.number (drop l.line-index l.lines) ≡ count_below l.than.number l.lines
