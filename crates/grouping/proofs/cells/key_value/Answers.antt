use Rattle.std.proofs.Common.{rules, ◌∙◌}
use Rattle.grouping.proofs.FinishLemmas.{key_step}
use Rattle.grouping.proofs.cells.key_value.Goals as goal

pub loop-place-preserved : goal.loop-place-preserved
loop-place-preserved c = key_step c.loop-place.place c.args.keys.now c.args.key.now c.args.c (search rules) (search rules) ∙ c.loop-place.invariant
