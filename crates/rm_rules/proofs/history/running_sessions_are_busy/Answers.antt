use Rattle.rm_rules.proofs.Runs.{submit-step}
use Rattle.rm_rules.proofs.history.running_sessions_are_busy.Goals as goal

pub returns : goal.returns
returns c = submit-step
