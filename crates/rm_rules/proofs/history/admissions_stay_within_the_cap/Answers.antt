use Rattle.rm_rules.proofs.Within.{used-within-cap}
use Rattle.rm_rules.proofs.history.admissions_stay_within_the_cap.Goals as goal

pub returns : goal.returns
returns c = used-within-cap
