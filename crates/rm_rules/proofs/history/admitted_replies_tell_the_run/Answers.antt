use Rattle.rm_rules.proofs.Runs.{told-step}
use Rattle.rm_rules.proofs.history.admitted_replies_tell_the_run.Goals as goal

pub returns : goal.returns
returns c = told-step
