use Rattle.query_plan.proofs.Texts.{text-one_plan}
use Rattle.query_plan.proofs.laws.one_plan.Goals as goal

pub returns : goal.returns
returns c = text-one_plan
