use Rattle.rm_rules.proofs.Forces.{force-step}
use Rattle.rm_rules.proofs.history.force_rises_with_the_total.Goals as goal

pub returns : goal.returns
returns c = force-step
