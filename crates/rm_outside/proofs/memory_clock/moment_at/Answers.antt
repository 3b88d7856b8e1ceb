use Rattle.std.proofs.Common.{arith, min, slice_index_or, ap, ◌∙◌}
use Rattle.rm_outside.proofs.ClockLemmas.{at_end}
use Rattle.rm_outside.proofs.memory_clock.moment_at.Goals as goal

-- src/memory_clock.rt:71:1
pub returns : goal.returns
returns c =
    c.index-moments-min.is
    ∙ ap (λ k. slice_index_or c.args.moments.now k c.index-moments-min.result) (c.min.ensures ∙ ap (min c.args.n) c.in-Some.ensures.1)
    ∙ at_end c.args.moments.now c.args.n c.index-moments-min.result (omega (arith, c.in-Some.ensures.0))
