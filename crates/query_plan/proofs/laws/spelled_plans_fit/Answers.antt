use Rattle.query_plan.proofs.Fits.{spelled-fits}
use Rattle.query_plan.proofs.laws.spelled_plans_fit.Goals as goal

pub returns : goal.returns
returns c = spelled-fits
