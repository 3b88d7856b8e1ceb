use Rattle.std.proofs.Common.{◌∙◌, ap}
use Rattle.rm_rules.specs.Budget.{budget}
use Rattle.system_tables.proofs.shares.row_budget.Goals as goal

pub returns : goal.returns
returns c = c.budget.ensures.value ∙ ap (budget c.args.definitions.now) c.requires.named
