use Rattle.std.proofs.Common.{◌≡◌, ◌++◌, length, take, drop}
use Rattle.accounts.specs.Numbers.{usages_resized}
use Rattle.accounts.proofs.numbers.resize.Given as goal

abbrev pub invariant-loop-i : goal.invariant-loop-i
invariant-loop-i l = record {
  count : length l.usages ≡ length l.initial.usages;
  items : take l.i l.usages ++ usages_resized (drop l.i l.reserves) (drop l.i l.usages) ≡ usages_resized l.reserves l.initial.usages;
}
