use Rattle.sessions.proofs.SessionLaws.{open-called, open-sees}
use Rattle.sessions.proofs.session.sessions_stay_open.Goals as goal

pub returns : goal.returns
returns c = record { calls = open-called; looks = λ old new number. open-sees old new number }
