use Rattle.std.proofs.Common.{◌≡◌, ◌+◌, ◌≤◌, take}
use Rattle.std.specs.Prelude.{◌+ℤ◌}
use Rattle.rm_rules.specs.Grouping.{int_sum}
use Rattle.workload.specs.Summary.{first_column}
use Rattle.workload.proofs.tally.add_first_column.Given as goal

abbrev pub invariant-loop-row : goal.invariant-loop-row
invariant-loop-row l = record {
  sum : l.total.sum ≡ l.initial.total.sum +ℤ int_sum (first_column (take l.row-index l.rows));
  count : l.total.count ≤ l.initial.total.count + l.row-index;
}
