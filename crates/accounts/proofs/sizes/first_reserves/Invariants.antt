use Rattle.std.proofs.Common.{◌≡◌, map, take}
use Rattle.rm_rules.specs.Holdings.{reserve}
use Rattle.accounts.proofs.sizes.first_reserves.Given as goal

abbrev pub invariant-loop-row : goal.invariant-loop-row
invariant-loop-row l = l.reserves ≡ map (λ r. reserve (r, r.memory)) (take l.row-index l.row-items)
