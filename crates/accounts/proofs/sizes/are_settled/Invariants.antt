use Rattle.std.proofs.Common.{◌≡◌, true, take}
use Rattle.std.specs.List.{list_all}
use Rattle.accounts.specs.Sizes.{is_settled}
use Rattle.accounts.proofs.sizes.are_settled.Given as goal

abbrev pub invariant-loop-i : goal.invariant-loop-i
invariant-loop-i l = list_all (is_settled l.definitions) (take l.i l.reserves) ≡ true
