use Rattle.std.proofs.Common.{◌≡◌, ◌≤◌, ◌++◌, take, drop}
use Rattle.rm_rules.specs.Shuffle.{grown_reserves}
use Rattle.rm_rules.specs.Holdings.{reserve_names}
use Rattle.accounts.proofs.sizes.grow.Given as goal

abbrev pub invariant-loop-i : goal.invariant-loop-i
invariant-loop-i l = record {
  less : l.spare ≤ l.free;
  names : reserve_names l.reserves ≡ reserve_names l.initial.reserves;
  sizes : take l.i l.reserves ++ grown_reserves l.definitions l.grants l.spare (drop l.i l.reserves) ≡ grown_reserves l.definitions l.grants l.free l.initial.reserves;
}
