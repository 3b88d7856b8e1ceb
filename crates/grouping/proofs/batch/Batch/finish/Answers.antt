use Rattle.std.proofs.Common.{ap, ◌∙◌}
use Rattle.rm_rules.specs.Ordering.{in_order}
use Rattle.grouping.specs.Batching.{Batched}
use Rattle.grouping.proofs.BatchLemmas.{takes_end}
use Rattle.grouping.proofs.batch.Batch.finish.Goals as goal

pub returns : goal.returns
returns c order rows takes =
    c.put_in_order.ensures ∙ ap (λ (b : Batched). in_order b.order b.kept) c.self.view_is ∙ takes_end c.args.self order rows takes
