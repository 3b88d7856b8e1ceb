use Rattle.std.proofs.Common.{◌≡◌, nat_eq, drop}
use Rattle.pool_queue.specs.Lines.{earlier, first_of_lines, count_below}
use Rattle.pool_queue.proofs.sequence.behind.Given as goal

abbrev pub invariant-loop-line : goal.invariant-loop-line
invariant-loop-line l =
    earlier l.first (first_of_lines (λ a. nat_eq (count_below a.number l.lines) l.count) (drop l.line-index l.lines))
    ≡ first_of_lines (λ a. nat_eq (count_below a.number l.lines) l.count) l.lines
