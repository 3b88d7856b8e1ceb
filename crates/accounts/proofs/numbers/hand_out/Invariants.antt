use Rattle.std.proofs.Common.{◌≡◌, ◌++◌, [], length, take, drop}
use Rattle.accounts.specs.Numbers.{accounts_at}
use Rattle.accounts.proofs.numbers.hand_out.Given as goal

abbrev pub invariant-loop-i : goal.invariant-loop-i
invariant-loop-i l = record {
  count : length l.accounts ≡ length l.initial.accounts;
  items : take l.i l.accounts ++ accounts_at l.reserves (take l.i l.grants) (drop l.i l.grants) ≡ accounts_at l.reserves [] l.grants;
}
