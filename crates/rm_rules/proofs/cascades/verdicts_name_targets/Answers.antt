use Rattle.rm_rules.proofs.Verdicts.{verdict-target}
use Rattle.rm_rules.proofs.cascades.verdicts_name_targets.Goals as goal

pub returns : goal.returns
returns c = λ d r session_cap running to e. verdict-target d r session_cap running to e
