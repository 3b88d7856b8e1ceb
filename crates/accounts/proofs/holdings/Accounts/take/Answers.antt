use Rattle.std.proofs.Common.{◌≡◌, length, sym, ap, subst, ◌∙◌, arith}
use Rattle.accounts.specs.declared.numbers.Usage.{Usage}
use Rattle.accounts.specs.Kept.{IsBalanced, seen_holdings}
use Rattle.accounts.specs.Numbers.{numbers_of}
use Rattle.accounts.proofs.Keeping.{kept_taken}
use Rattle.accounts.proofs.Seen.{taken-seen}
use Rattle.accounts.proofs.Usages.{kept-seen, IsPlace, taken-most, numbers-taken, put-length}
use Rattle.accounts.proofs.holdings.Accounts.take.Goals as goal

pub overflow_add-usage : goal.overflow_add-usage
overflow_add-usage c =
    let a = c.args.self.now in
    let p : IsPlace a c.self.inside.kept c.args.pool c.place_of_reserve-place.result c.size_at-size.result c.usage_at-usage.result = record {
      balanced = subst IsBalanced c.self.view_is c.self.invariant.balanced;
      kept = kept-seen c.self.inside.kept (seen_holdings c.self.inside) a c.self.invariant.numbers c.self.view_is;
      at = sym c.place_of_reserve-place.ensures.value;
      there = c.requires.known;
      size_is = c.size_at-size.ensures;
      usage_is = c.usage_at-usage.ensures;
    } in
    let k = kept_taken a c.args.query c.args.pool c.args.grant p.balanced c.requires.absent c.requires.known c.requires.fits in
    omega (arith, taken-most a c.self.inside.kept c.args.query c.args.pool c.args.grant c.place_of_reserve-place.result c.size_at-size.result c.usage_at-usage.result p k)

pub set_usage-requires-clause-used : goal.set_usage-requires-clause-used
set_usage-requires-clause-used c =
    let a = c.args.self.now in
    let p : IsPlace a c.self.inside.kept c.args.pool c.place_of_reserve-place.result c.size_at-size.result c.usage_at-usage.result = record {
      balanced = subst IsBalanced c.self.view_is c.self.invariant.balanced;
      kept = kept-seen c.self.inside.kept (seen_holdings c.self.inside) a c.self.invariant.numbers c.self.view_is;
      at = sym c.place_of_reserve-place.ensures.value;
      there = c.requires.known;
      size_is = c.size_at-size.ensures;
      usage_is = c.usage_at-usage.ensures;
    } in
    let k = kept_taken a c.args.query c.args.pool c.args.grant p.balanced c.requires.absent c.requires.known c.requires.fits in
    omega (
      arith,
      taken-most a c.self.inside.kept c.args.query c.args.pool c.args.grant c.place_of_reserve-place.result c.size_at-size.result c.usage_at-usage.result p k,
      ap (λ (u : Usage). u.used) c.made-now.ensures,
    )

pub add-requires : goal.add-requires
add-requires c =
    let a = c.args.self.now in
    let kept = kept-seen c.self.inside.kept (seen_holdings c.self.inside) a c.self.invariant.numbers c.self.view_is in
    let same : length c.set_usage.new.self.accounts ≡ length a.grants =
    put-length a c.self.inside.kept c.set_usage.new.self c.place_of_reserve-place.result c.made-now.result kept c.set_usage.ensures in
    (omega arith, omega (arith, same, c.requires.room))

pub invariant_of-self : goal.invariant_of-self
invariant_of-self c =
    let a = c.args.self.now in
    let p : IsPlace a c.self.inside.kept c.args.pool c.place_of_reserve-place.result c.size_at-size.result c.usage_at-usage.result = record {
      balanced = subst IsBalanced c.self.view_is c.self.invariant.balanced;
      kept = kept-seen c.self.inside.kept (seen_holdings c.self.inside) a c.self.invariant.numbers c.self.view_is;
      at = sym c.place_of_reserve-place.ensures.value;
      there = c.requires.known;
      size_is = c.size_at-size.ensures;
      usage_is = c.usage_at-usage.ensures;
    } in
    let k = kept_taken a c.args.query c.args.pool c.args.grant p.balanced c.requires.absent c.requires.known c.requires.fits in
    let same = taken-seen (seen_holdings c.self.inside) a c.add-2.new.self c.args.query c.args.pool c.args.grant c.self.view_is c.add-2.ensures in
    record {
      balanced = subst IsBalanced (sym same) k;
      numbers = numbers-taken a c.self.inside.kept c.set_usage.new.self c.args.query c.args.pool c.args.grant c.place_of_reserve-place.result c.size_at-size.result c.usage_at-usage.result
          c.made-now.result c.account_made-account.result c.add.new.self p k c.made-now.ensures c.set_usage.ensures c.account_made-account.ensures c.add.ensures
          ∙ ap numbers_of (sym same);
    }
