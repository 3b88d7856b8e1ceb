use Rattle.rm_rules.proofs.Histories.{journal-most}
use Rattle.rm_rules.proofs.history.journals_stay_within_their_room.Goals as goal

pub returns : goal.returns
returns c = journal-most
