use Rattle.rm_rules.proofs.Chains.{behind-short}
use Rattle.rm_rules.proofs.cascades.chains_end.Goals as goal

pub returns : goal.returns
returns c = λ d pool sound. behind-short d pool sound
