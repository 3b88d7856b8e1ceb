use Rattle.rm_rules.proofs.Chains.{target-there, target-time, target-moves}
use Rattle.rm_rules.proofs.cascades.targets_take_over.Goals as goal

pub returns-clause-there : goal.returns-clause-there
returns-clause-there c = λ d pool running moves to sound found. target-there d pool running moves to sound found

pub returns-clause-time : goal.returns-clause-time
returns-clause-time c = λ d pool running moves to found. target-time d pool running moves to found

pub returns-clause-moves : goal.returns-clause-moves
returns-clause-moves c = λ d pool running moves to found. target-moves d pool running moves to found
