use Rattle.rm_rules.proofs.Submitting.{submit-step}
use Rattle.rm_rules.proofs.history.lone_queries_are_admitted_at_once.Goals as goal

pub returns : goal.returns
returns c = submit-step
