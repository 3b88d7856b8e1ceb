use Rattle.std.proofs.Common.{◌≡◌, drop}
use Rattle.pool_queue.specs.Lines.{earlier, first_of_lines}
use Rattle.pool_queue.proofs.lines.first_such.Given as goal

abbrev pub invariant-loop-line : goal.invariant-loop-line
invariant-loop-line g l = earlier l.first (first_of_lines (λ a. g.T.Test.passes l.test a.waiter) (drop l.line-index l.lines)) ≡ first_of_lines (λ a. g.T.Test.passes l.test a.waiter) l.lines
