use Rattle.pool_sql.proofs.Texts.{read_of-refused}
use Rattle.pool_sql.proofs.laws.read_of_refused.Goals as goal

pub returns : goal.returns
returns c = read_of-refused
