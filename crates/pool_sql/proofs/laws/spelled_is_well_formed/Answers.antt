use Rattle.pool_sql.specs.Printed.{statement_text}
use Rattle.pool_sql.proofs.Prints.{well_formed-spells}
use Rattle.pool_sql.proofs.Texts.{spells-well_formed}
use Rattle.pool_sql.proofs.laws.spelled_is_well_formed.Goals as goal

pub returns : goal.returns
returns c = λ st. (λ is. spells-well_formed is.0 st is.1, λ is. (statement_text st, well_formed-spells st is))
