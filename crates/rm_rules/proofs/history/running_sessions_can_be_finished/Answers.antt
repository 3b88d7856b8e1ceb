use Rattle.rm_rules.proofs.Runs.{finish-step}
use Rattle.rm_rules.proofs.history.running_sessions_can_be_finished.Goals as goal

pub returns : goal.returns
returns c = finish-step
