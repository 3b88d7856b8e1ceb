use Rattle.std.proofs.Common.{◌≡◌, ◌+◌, drop}
use Rattle.pool_sql.specs.Amount.{digit_count}
use Rattle.pool_sql.proofs.amount.digit_count.Given as goal

abbrev pub invariant-loop-i : goal.invariant-loop-i
invariant-loop-i l = l.i + digit_count (drop l.i l.text) ≡ digit_count l.text
