use Rattle.pool_sql.proofs.Texts.{text-refused_spells_none}
use Rattle.pool_sql.proofs.laws.refused_spells_none.Goals as goal

pub returns : goal.returns
returns c = text-refused_spells_none
