use Rattle.rm_base.proofs.Spelled.{named}
use Rattle.rm_base.proofs.name.Name.of.Goals as goal

pub returns-clause-name : goal.returns-clause-name
returns-clause-name c = named c.args.text.now c.spelled.result c.spelled.ensures.valid c.spelled.ensures.text
