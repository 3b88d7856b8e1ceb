use Rattle.sessions.proofs.ShownLaws.{holdings-seen, deadline-seen, healthy-seen}
use Rattle.sessions.proofs.shown.snapshots_tell_the_state.Goals as goal

pub returns : goal.returns
returns c = record { bytes = holdings-seen; deadlines = deadline-seen; seen = healthy-seen }
