use Rattle.std.proofs.Common.{◌∷◌, [], ◌++◌, sym, ap, subst, ◌∙◌}
use Rattle.accounts.specs.declared.numbers.Usage.{Usage}
use Rattle.accounts.specs.Kept.{IsBalanced, seen_holdings}
use Rattle.accounts.specs.Numbers.{numbers_of}
use Rattle.accounts.proofs.Keeping.{kept_with_pool}
use Rattle.accounts.proofs.Pools.{numbers-added}
use Rattle.accounts.proofs.Seen.{pool-seen}
use Rattle.accounts.proofs.Usages.{kept-seen}
use Rattle.accounts.proofs.holdings.Accounts.add_pool.Goals as goal

pub invariant_of-self : goal.invariant_of-self
invariant_of-self c =
    let a = c.args.self.now in
    let k = subst IsBalanced c.self.view_is c.self.invariant.balanced in
    let kept = kept-seen c.self.inside.kept (seen_holdings c.self.inside) a c.self.invariant.numbers c.self.view_is in
    let same = pool-seen (seen_holdings c.self.inside) a c.add-2.new.self c.args.pool c.self.view_is c.add-2.ensures in
    record {
      balanced = subst IsBalanced (sym same) (kept_with_pool a c.args.pool k c.requires.absent);
      numbers = numbers-added a c.self.inside.kept c.args.pool c.add.new.self k c.requires.absent kept
          (c.add.ensures ∙ ap (λ (u : Usage). c.self.inside.kept.usages ++ u ∷ []) c.none.ensures)
          ∙ ap numbers_of (sym same);
    }
