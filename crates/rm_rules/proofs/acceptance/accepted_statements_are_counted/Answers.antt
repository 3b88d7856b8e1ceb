use Rattle.rm_rules.proofs.AcceptanceLaws.{accepted-counted}
use Rattle.rm_rules.proofs.acceptance.accepted_statements_are_counted.Goals as goal

pub returns-clause-changes : goal.returns-clause-changes
returns-clause-changes c = λ d statement new h. (accepted-counted d statement new h).changes

pub returns-clause-machine : goal.returns-clause-machine
returns-clause-machine c = λ d statement new h. let counted = accepted-counted d statement new h in (counted.memory, counted.cores)
