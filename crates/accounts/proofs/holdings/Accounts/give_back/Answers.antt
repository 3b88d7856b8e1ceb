use Rattle.std.proofs.Common.{◌≡◌, ◌<◌, ◌+◌, List, length, remove, sym, ap, subst, ◌∙◌, arith}
use Rattle.std.proofs.lemmas.List.Edits.{length-remove}
use Rattle.rm_base.specs.declared.entry.Account.{Account}
use Rattle.rm_rules.specs.declared.state.Holding.{Holding}
use Rattle.rm_rules.specs.Holdings.{Holdings}
use Rattle.rm_rules.proofs.Places.{position-within, position-is}
use Rattle.accounts.specs.Accounts.{is_of}
use Rattle.accounts.specs.Kept.{IsBalanced, seen_holdings}
use Rattle.accounts.specs.Numbers.{numbers_of, recounted}
use Rattle.accounts.specs.Sizes.{held}
use Rattle.accounts.proofs.Keeping.{kept_given_back}
use Rattle.accounts.proofs.Seen.{given-seen, given-absent, grant-found, grant-absent}
use Rattle.accounts.proofs.Usages.{kept-seen, IsPlace, place-of-grant, grant-here, given-used, put-length, numbers-given}
use Rattle.accounts.proofs.holdings.Accounts.give_back.Goals as goal

pub overflow_sub-usage : goal.overflow_sub-usage
overflow_sub-usage c =
    let a = c.args.self.now in
    let g = c.index-rows-place.result in
    let p : IsPlace a c.self.inside.kept g.pool c.place_of_reserve-home.result c.size_at-size.result c.usage_at-usage.result =
    place-of-grant (seen_holdings c.self.inside) a c.self.inside.kept c.rows.result.now c.args.query c.in-Some.place g c.place_of_reserve-home.result c.size_at-size.result c.usage_at-usage.result
    c.self.invariant.balanced c.self.invariant.numbers c.self.view_is c.rows.ensures.rows (sym c.in-Some.ensures.value) c.index-rows-place.is
    c.place_of_reserve-home.ensures.value c.size_at-size.ensures c.usage_at-usage.ensures in
    let at = grant-here (seen_holdings c.self.inside) a c.rows.result.now c.in-Some.place g c.self.view_is c.rows.ensures.rows c.index-rows-place.is in
    let now = given-used a c.self.inside.kept c.args.query c.in-Some.place g c.place_of_reserve-home.result c.size_at-size.result c.usage_at-usage.result p (sym c.in-Some.ensures.value) at in
    now.0

pub overflow_sub-usage-in-Some : goal.overflow_sub-usage-in-Some
overflow_sub-usage-in-Some c =
    let a = c.args.self.now in
    let g = c.index-rows-place.result in
    let p : IsPlace a c.self.inside.kept g.pool c.place_of_reserve-home.result c.size_at-size.result c.usage_at-usage.result =
    place-of-grant (seen_holdings c.self.inside) a c.self.inside.kept c.rows.result.now c.args.query c.in-Some.place g c.place_of_reserve-home.result c.size_at-size.result c.usage_at-usage.result
    c.self.invariant.balanced c.self.invariant.numbers c.self.view_is c.rows.ensures.rows (sym c.in-Some.ensures.value) c.index-rows-place.is
    c.place_of_reserve-home.ensures.value c.size_at-size.ensures c.usage_at-usage.ensures in
    let at = grant-here (seen_holdings c.self.inside) a c.rows.result.now c.in-Some.place g c.self.view_is c.rows.ensures.rows c.index-rows-place.is in
    let now = given-used a c.self.inside.kept c.args.query c.in-Some.place g c.place_of_reserve-home.result c.size_at-size.result c.usage_at-usage.result p (sym c.in-Some.ensures.value) at in
    now.1

pub remove-requires : goal.remove-requires
remove-requires c =
    let a = c.args.self.now in
    let found = sym c.in-Some.ensures.value in
    let kept = kept-seen c.self.inside.kept (seen_holdings c.self.inside) a c.self.invariant.numbers c.self.view_is in
    let long : length c.set_usage.new.self.accounts ≡ length a.grants =
    put-length a c.self.inside.kept c.set_usage.new.self c.place_of_reserve-home.result c.made-now.result kept c.set_usage.ensures in
    let within : c.in-Some.place < length a.grants =
    omega (arith, position-within (is_of c.args.query) a.grants c.in-Some.place found, position-is (is_of c.args.query) a.grants c.in-Some.place found) in
    (omega arith, omega (arith, long, within))

pub recount-requires-clause-beside : goal.recount-requires-clause-beside
recount-requires-clause-beside c =
    let a = c.args.self.now in
    let found = sym c.in-Some.ensures.value in
    let kept = kept-seen c.self.inside.kept (seen_holdings c.self.inside) a c.self.invariant.numbers c.self.view_is in
    let long : length c.set_usage.new.self.accounts ≡ length a.grants =
    put-length a c.self.inside.kept c.set_usage.new.self c.place_of_reserve-home.result c.made-now.result kept c.set_usage.ensures in
    let within : c.in-Some.place < length a.grants =
    omega (arith, position-within (is_of c.args.query) a.grants c.in-Some.place found, position-is (is_of c.args.query) a.grants c.in-Some.place found) in
    let inside : length c.self.inside.grants ≡ length a.grants = ap (λ (h : Holdings). length h.grants) c.self.view_is in
    let less : length c.remove.new.self + 1 ≡ length c.set_usage.new.self.accounts =
    ap (λ (l : List Account). length l + 1) c.remove.ensures.rest ∙ length-remove c.set_usage.new.self.accounts c.in-Some.place (omega (arith, long, within)) in
    let fewer : length c.rows-in-Some.result.now + 1 ≡ length c.self.inside.grants =
    ap (λ (l : List Holding). length l + 1) (c.rows-in-Some.ensures.rows ∙ c.remove-in-Some.ensures.rest) ∙ length-remove c.self.inside.grants c.in-Some.place (omega (arith, inside, within)) in
    omega (arith, long, inside, less, fewer)

pub recount-requires-clause-granted : goal.recount-requires-clause-granted
recount-requires-clause-granted c =
    let same = given-seen (seen_holdings c.self.inside) c.args.self.now c.remove-in-Some.new.self c.args.query c.in-Some.place c.self.view_is c.remove-in-Some.ensures.rest (sym c.in-Some.ensures.value) in
    let k = kept_given_back c.args.self.now c.args.query (subst IsBalanced c.self.view_is c.self.invariant.balanced) in
    omega (
      arith,
      k.granted,
      k.in_force_most,
      ap (λ (l : List Holding). held l) c.rows-in-Some.ensures.rows,
      ap (λ (h : Holdings). held h.grants) same,
    )

pub invariant_of-self : goal.invariant_of-self
invariant_of-self c =
    let a = c.args.self.now in
    let g = c.index-rows-place.result in
    let p : IsPlace a c.self.inside.kept g.pool c.place_of_reserve-home.result c.size_at-size.result c.usage_at-usage.result =
    place-of-grant (seen_holdings c.self.inside) a c.self.inside.kept c.rows.result.now c.args.query c.in-Some.place g c.place_of_reserve-home.result c.size_at-size.result c.usage_at-usage.result
    c.self.invariant.balanced c.self.invariant.numbers c.self.view_is c.rows.ensures.rows (sym c.in-Some.ensures.value) c.index-rows-place.is
    c.place_of_reserve-home.ensures.value c.size_at-size.ensures c.usage_at-usage.ensures in
    let at = grant-here (seen_holdings c.self.inside) a c.rows.result.now c.in-Some.place g c.self.view_is c.rows.ensures.rows c.index-rows-place.is in
    let same = given-seen (seen_holdings c.self.inside) c.args.self.now c.remove-in-Some.new.self c.args.query c.in-Some.place c.self.view_is c.remove-in-Some.ensures.rest (sym c.in-Some.ensures.value) in
    let rest : c.remove-in-Some.new.self ≡ remove a.grants c.in-Some.place =
    c.remove-in-Some.ensures.rest ∙ ap (λ (h : Holdings). remove h.grants c.in-Some.place) c.self.view_is in
    let counted : c.recount.new.accounts ≡ recounted g.pool c.size_at-size.result 0 c.remove-in-Some.new.self c.remove.new.self =
    c.recount.ensures ∙ ap (λ (l : List Holding). recounted g.pool c.size_at-size.result 0 l c.remove.new.self) c.rows-in-Some.ensures.rows in
    record {
      balanced = subst IsBalanced (sym same) (kept_given_back a c.args.query p.balanced);
      numbers = numbers-given a c.self.inside.kept c.set_usage.new.self c.args.query c.in-Some.place g c.place_of_reserve-home.result c.size_at-size.result c.usage_at-usage.result
          c.made-now.result c.remove-in-Some.new.self c.remove.new.self c.recount.new.accounts p (sym c.in-Some.ensures.value) at c.made-now.ensures c.set_usage.ensures
          rest c.remove.ensures.rest counted
          ∙ ap numbers_of (sym same);
    }

pub returns-in-Some-clause-state : goal.returns-in-Some-clause-state
returns-in-Some-clause-state c =
    given-seen (seen_holdings c.self.inside) c.args.self.now c.remove-in-Some.new.self c.args.query c.in-Some.place c.self.view_is c.remove-in-Some.ensures.rest (sym c.in-Some.ensures.value)

pub returns-in-Some-clause-grant : goal.returns-in-Some-clause-grant
returns-in-Some-clause-grant c =
    grant-found c.args.self.now c.rows.result.now c.args.query c.in-Some.place c.index-rows-place.result (c.rows.ensures.rows ∙ ap (λ (h : Holdings). h.grants) c.self.view_is) (sym c.in-Some.ensures.value) c.index-rows-place.is

pub returns-in-None-clause-state : goal.returns-in-None-clause-state
returns-in-None-clause-state c = given-absent c.args.self.now c.args.query (sym c.in-None.ensures.value)

pub returns-in-None-clause-grant : goal.returns-in-None-clause-grant
returns-in-None-clause-grant c = grant-absent c.args.self.now.grants c.args.query (sym c.in-None.ensures.value)
