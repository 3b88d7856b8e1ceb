use Rattle.std.proofs.Common.{◌≡◌, ◌++◌, ◌∷◌, [], ◌∙◌}
use Rattle.grouping.proofs.Least.{firm_more, most_more}
use Rattle.grouping.proofs.batch.Batch.keep.Goals as goal

pub invariant_of-self-else-prune : goal.invariant_of-self-else-prune
invariant_of-self-else-prune c =
    let old = c.self.inside in
    let is : c.prune.new.rows.items ≡ old.kept.items ++ c.args.row ∷ [] = c.prune.ensures.others c.if-prune.false ∙ c.in_ok-push.ensures.items in (
      c.self.invariant.0,
      c.self.invariant.1,
      (λ firm. firm_more old.order old.kept.items c.prune.new.rows.items c.args.row is (c.self.invariant.3 firm) (c.self.invariant.2 firm)),
      (λ firm. most_more old.order old.kept.items c.prune.new.rows.items c.args.row is (c.self.invariant.3 firm)),
    )
