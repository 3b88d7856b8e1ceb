use Rattle.std.proofs.Common.{◌∙◌, ap}
use Rattle.rm_rules.specs.Definitions.{planned}
use Rattle.system_tables.proofs.shares.row_planned.Goals as goal

pub returns : goal.returns
returns c = c.planned.ensures.value ∙ ap (planned c.args.definitions.now) c.requires.named
