use Rattle.rm_rules.proofs.AcceptanceLaws.{accepted-sound}
use Rattle.rm_rules.proofs.acceptance.accepted_statements_keep_soundness.Goals as goal

pub returns : goal.returns
returns c = λ d statement new sound formed h. accepted-sound d statement new sound formed h
