use Rattle.grouping.proofs.BatchLemmas.{last_behind}
use Rattle.grouping.proofs.batch.is_behind.Goals as goal

pub returns : goal.returns
returns c order kept more same is past =
    last_behind order c.args.keys.now kept c.args.front.now c.args.row.now c.index-front-front.result more c.is_before.result same is c.index-front-front.is c.is_before.ensures past
