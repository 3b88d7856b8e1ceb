use Rattle.std.proofs.Common.{rules, ap, ◌∙◌, ◌≡◌, slice_set}
use Rattle.std.proofs.lemmas.List.Edits.{map_over_more}
use Rattle.tuples.specs.Tuple.{tuple_values}
use Rattle.grouping.specs.Tallying.{added}
use Rattle.grouping.proofs.tallies.add_all.Goals as goal

pub loop-tally-preserved : goal.loop-tally-preserved
loop-tally-preserved c =
    let e : c.add.new.self ≡ added c.tally-item.result (tuple_values c.args.tuple) = search rules in
    ap (λ t. slice_set c.loop-tally.tallies c.loop-tally.tally-index t) e
    ∙ map_over_more (λ t. added t (tuple_values c.args.tuple)) c.args.tallies.now c.loop-tally.tallies c.loop-tally.tally-index c.tally-item.result (search rules) c.loop-tally.invariant (search rules)
