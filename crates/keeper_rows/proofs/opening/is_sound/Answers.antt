use Rattle.keeper_rows.proofs.OpeningLemmas.{is-test}
use Rattle.keeper_rows.proofs.opening.is_sound.Goals as goal

pub returns-clause-tested : goal.returns-clause-tested
returns-clause-tested c = is-test c.args.definitions.now c.sound.result c.sound.ensures
