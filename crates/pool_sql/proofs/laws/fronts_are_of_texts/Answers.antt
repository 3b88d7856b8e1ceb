use Rattle.pool_sql.proofs.Texts.{front-text}
use Rattle.pool_sql.proofs.laws.fronts_are_of_texts.Goals as goal

pub returns : goal.returns
returns c = front-text
