use Rattle.std.proofs.Common.{◌∙◌, ap}
use Rattle.rm_rules.specs.Budget.{threshold}
use Rattle.system_tables.proofs.shares.row_threshold.Goals as goal

pub returns : goal.returns
returns c = c.threshold.ensures.value ∙ ap (threshold c.args.definitions.now) c.requires.named
