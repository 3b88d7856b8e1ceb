use Rattle.rm_rules.proofs.Laws.{legal-more, replay-more, replay-journal}
use Rattle.rm_rules.proofs.history.histories_go_on.Goals as goal

pub returns : goal.returns
returns c = record { legal = legal-more; replays = replay-more; journal = replay-journal }
