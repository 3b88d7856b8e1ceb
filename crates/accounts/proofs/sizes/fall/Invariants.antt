use Rattle.std.proofs.Common.{◌≡◌, ◌++◌, take, drop}
use Rattle.rm_rules.specs.Holdings.{reserve_names}
use Rattle.accounts.specs.Sizes.{fallen_reserves}
use Rattle.accounts.proofs.sizes.fall.Given as goal

abbrev pub invariant-loop-i : goal.invariant-loop-i
invariant-loop-i l = record {
  names : reserve_names l.reserves ≡ reserve_names l.initial.reserves;
  sizes : take l.i l.reserves ++ fallen_reserves l.definitions l.grants (drop l.i l.reserves) ≡ fallen_reserves l.definitions l.grants l.initial.reserves;
}
