use Rattle.std.proofs.Common.{ap, arith}
use Rattle.accounts.specs.declared.numbers.Usage.{Usage}
use Rattle.accounts.proofs.Usages.{unused-is}
use Rattle.accounts.proofs.holdings.Accounts.need.Goals as goal

pub returns-clause-value : goal.returns-clause-value
returns-clause-value c =
    omega (
      arith,
      c.min.ensures,
      c.saturating_sub-unused.ensures,
      c.actual.ensures,
      ap (λ (u : Usage). u.own) c.usage.ensures.value,
      unused-is c.args.self.now c.args.pool,
    )
