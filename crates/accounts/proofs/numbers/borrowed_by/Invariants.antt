use Rattle.std.proofs.Common.{◌≡◌, sum_by, take}
use Rattle.accounts.specs.Numbers.{borrowed}
use Rattle.accounts.proofs.numbers.borrowed_by.Given as goal

abbrev pub invariant-loop-usage : goal.invariant-loop-usage
invariant-loop-usage l = l.sum ≡ sum_by borrowed (take l.usage-index l.usages)
