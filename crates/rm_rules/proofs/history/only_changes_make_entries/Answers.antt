use Rattle.rm_rules.proofs.Laws.{quiet-step}
use Rattle.rm_rules.proofs.Loud.{loud-step}
use Rattle.rm_rules.proofs.history.only_changes_make_entries.Goals as goal

pub returns : goal.returns
returns c = record { entry = loud-step; none = quiet-step }
