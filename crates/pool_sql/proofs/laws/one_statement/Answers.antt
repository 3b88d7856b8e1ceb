use Rattle.pool_sql.proofs.Texts.{text-one_statement}
use Rattle.pool_sql.proofs.laws.one_statement.Goals as goal

pub returns : goal.returns
returns c = text-one_statement
