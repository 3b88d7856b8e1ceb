use Rattle.rm_rules.proofs.Runs.{runs-on, runs-among}
use Rattle.rm_rules.proofs.history.running_sessions_go_on.Goals as goal

pub returns : goal.returns
returns c = record { step = runs-on; others = runs-among }
