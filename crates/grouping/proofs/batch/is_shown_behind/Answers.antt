use Rattle.rm_rules.specs.Meaning.{shown}
use Rattle.tuples.specs.Tuple.{tuple_values}
use Rattle.grouping.proofs.BatchLemmas.{last_behind}
use Rattle.grouping.proofs.batch.is_shown_behind.Goals as goal

pub returns : goal.returns
returns c order kept more same is past =
    last_behind order c.args.keys.now kept c.args.front.now (shown c.args.items.now (tuple_values c.args.tuple)) c.index-front-front.result more c.is_shown_before.result same is c.index-front-front.is c.is_shown_before.ensures past
