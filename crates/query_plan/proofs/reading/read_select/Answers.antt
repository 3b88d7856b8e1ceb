use Rattle.query_plan.proofs.Texts.{answer-plan, answer-refused, error-refused, raw_of-raw}
use Rattle.query_plan.proofs.reading.read_select.Goals as goal

pub resolved-requires : goal.resolved-requires
resolved-requires c = raw_of-raw c.args.catalog.now c.args.text.now c.in-Ok.raw c.in-Ok.ensures

pub returns-in-Ok-clause-plan : goal.returns-in-Ok-clause-plan
returns-in-Ok-clause-plan c =
    answer-plan c.args.catalog.now c.args.text.now c.in-Ok.raw c.resolved.result c.in-Ok.ensures c.resolved.ensures

pub returns-in-Ok-clause-refused : goal.returns-in-Ok-clause-refused
returns-in-Ok-clause-refused c =
    answer-refused c.args.catalog.now c.args.text.now c.in-Ok.raw c.resolved.result c.in-Ok.ensures c.resolved.ensures

pub returns-in-Err-clause-refused : goal.returns-in-Err-clause-refused
returns-in-Err-clause-refused c = error-refused c.args.catalog.now c.args.text.now c.in-Err.error c.in-Err.ensures
