use Rattle.pool_sql.proofs.Texts.{text-one_refusal}
use Rattle.pool_sql.proofs.laws.one_refusal.Goals as goal

pub returns : goal.returns
returns c = text-one_refusal
