use Rattle.pool_sql.proofs.Texts.{read_of-spells}
use Rattle.pool_sql.proofs.laws.read_of_spells.Goals as goal

pub returns : goal.returns
returns c = read_of-spells
