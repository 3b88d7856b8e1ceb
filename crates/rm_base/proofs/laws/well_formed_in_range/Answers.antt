use Rattle.rm_base.proofs.WellFormed.{well_formed-in_range}
use Rattle.rm_base.proofs.laws.well_formed_in_range.Goals as goal

pub returns : goal.returns
returns c = well_formed-in_range
