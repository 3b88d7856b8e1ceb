use Rattle.rm_rules.proofs.Laws.{conserved-after-each}
use Rattle.rm_rules.proofs.history.conserved_after_each_event.Goals as goal

pub returns : goal.returns
returns c = conserved-after-each
