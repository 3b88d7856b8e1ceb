use Rattle.std.proofs.Common.{ap, arith}
use Rattle.std.proofs.lemmas.List.Sums.{sum_by_more_le}
use Rattle.rm_rules.specs.declared.state.Holding.{Holding}
use Rattle.accounts.proofs.numbers.recount.Goals as goal

pub before_next-before-requires : goal.before_next-before-requires
before_next-before-requires c =
    omega (
      arith,
      c.requires.granted,
      c.loop-i.invariant.fits,
      c.loop-i-test.true,
      sum_by_more_le (λ (g : Holding). g.bytes) c.args.grants.now c.loop-i.i c.index-grants-i.result c.loop-i-test.true,
      ap (λ (g : Holding). g.bytes) c.index-grants-i.is,
    )
