use Rattle.rm_rules.proofs.Foreign.{foreign-step}
use Rattle.rm_rules.proofs.history.events_leave_the_sessions_of_others.Goals as goal

pub returns : goal.returns
returns c = foreign-step
