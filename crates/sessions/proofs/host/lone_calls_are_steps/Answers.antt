use Rattle.sessions.proofs.HostLaws.{called-alone}
use Rattle.sessions.proofs.host.lone_calls_are_steps.Goals as goal

pub returns : goal.returns
returns c = called-alone
