use Rattle.sessions.proofs.SessionLaws.{running-called, running-sees}
use Rattle.sessions.proofs.session.running_queries_go_on.Goals as goal

pub returns : goal.returns
returns c = record { calls = running-called; looks = running-sees }
