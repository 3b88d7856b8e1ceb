use Rattle.std.proofs.Common.{◌≡◌, ◌++◌, drop}
use Rattle.pool_queue.specs.Numbers.{numbers_of}
use Rattle.pool_queue.proofs.numbers.list_numbers.Given as goal

abbrev pub invariant-loop-line : goal.invariant-loop-line
invariant-loop-line l = l.given ++ numbers_of (drop l.line-index l.lines) ≡ numbers_of l.lines
