use Rattle.query_plan.proofs.Texts.{text-refused_spells_none}
use Rattle.query_plan.proofs.laws.refused_spells_none.Goals as goal

pub returns : goal.returns
returns c = text-refused_spells_none
