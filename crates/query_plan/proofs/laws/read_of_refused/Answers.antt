use Rattle.query_plan.proofs.Texts.{read_of-refused}
use Rattle.query_plan.proofs.laws.read_of_refused.Goals as goal

pub returns : goal.returns
returns c = read_of-refused
