use Rattle.rm_rules.proofs.Shuffling.{shuffled-bytes}
use Rattle.accounts.proofs.Standing.{names-stand, pools-stand, kept-stand, added-stand}
use Rattle.accounts.proofs.laws.pools_agree.Goals as goal

pub returns : goal.returns
returns c = record { names = names-stand; known = pools-stand; kept = kept-stand; added = added-stand; shuffled = shuffled-bytes }
