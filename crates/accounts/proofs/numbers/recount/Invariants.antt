use Rattle.std.proofs.Common.{◌≡◌, ◌≤◌, ◌++◌, length, take, drop}
use Rattle.accounts.specs.Numbers.{recounted}
use Rattle.accounts.specs.Sizes.{held}
use Rattle.accounts.proofs.numbers.recount.Given as goal

abbrev pub invariant-loop-i : goal.invariant-loop-i
invariant-loop-i l = record {
  count : length l.accounts ≡ length l.initial.accounts;
  fits : l.before ≤ held (take l.i l.grants);
  items : take l.i l.accounts ++ recounted l.pool l.size l.before (drop l.i l.grants) (drop l.i l.accounts) ≡ recounted l.pool l.size 0 l.grants l.initial.accounts;
}
