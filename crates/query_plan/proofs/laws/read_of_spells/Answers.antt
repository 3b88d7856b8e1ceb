use Rattle.query_plan.proofs.Texts.{read_of-spells}
use Rattle.query_plan.proofs.laws.read_of_spells.Goals as goal

pub returns : goal.returns
returns c = read_of-spells
