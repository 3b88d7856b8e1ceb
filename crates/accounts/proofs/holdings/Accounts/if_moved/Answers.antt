use Rattle.std.proofs.Common.{rules, ◌≡◌, ◌+◌, ◌-◌, ℕ, Option, Some, find, refl, sym, ap, subst, ◌∙◌, arith}
use Rattle.std.specs.List.{position_or_len}
use Rattle.std.specs.Option.{IsSome}
use Rattle.rm_base.specs.declared.name.Name.{Name}
use Rattle.rm_rules.specs.Holdings.{Holdings}
use Rattle.rm_rules.specs.State.{without}
use Rattle.rm_rules.specs.Accounting.{used, running_in, actual_of, lent, free, need}
use Rattle.rm_rules.proofs.Places.{find-found}
use Rattle.rm_rules.proofs.Taken.{found_passes}
use Rattle.accounts.specs.declared.numbers.Numbers.{Numbers}
use Rattle.accounts.specs.declared.numbers.Usage.{Usage}
use Rattle.accounts.specs.Accounts.{is_of, grant_of, given_back}
use Rattle.accounts.specs.Kept.{IsBalanced, seen_holdings}
use Rattle.accounts.specs.Numbers.{usage_made, borrowed}
use Rattle.accounts.proofs.Keeping.{kept_given_back, same-number}
use Rattle.accounts.proofs.Moving.{position-present}
use Rattle.accounts.proofs.Seen.{grant-found}
use Rattle.accounts.proofs.Usages.{kept-seen, grant-here, query-found, lent-given, unused-is}
use Rattle.accounts.proofs.holdings.Accounts.if_moved.Goals as goal

pub unwrap-place-requires : goal.unwrap-place-requires
unwrap-place-requires c =
    let at : c.place_of.result ≡ Some (position_or_len (is_of c.args.query) c.args.self.now.grants) =
    c.place_of.ensures.value ∙ position-present (is_of c.args.query) c.args.self.now.grants c.requires.runs in
    let P : Option ℕ → Type 0 = λ o. IsSome o in
    subst P (sym at) (search rules)

pub usage_beside-requires : goal.usage_beside-requires
usage_beside-requires c =
    let a = c.args.self.now in
    let query = c.args.query in
    let gs = a.grants in
    let g = c.index-rows-place.result in
    let found = sym c.place_of.ensures.value ∙ c.unwrap-place.ensures in
    let at = grant-here (seen_holdings c.self.inside) a c.rows.result.now c.unwrap-place.result g c.self.view_is c.rows.ensures.rows c.index-rows-place.is in
    let some : find (is_of query) gs ≡ Some g = find-found (is_of query) gs c.unwrap-place.result g found at in
    query-found gs query g some

pub usage_beside-there-requires : goal.usage_beside-there-requires
usage_beside-there-requires c =
    let a = c.args.self.now in
    let query = c.args.query in
    let gs = a.grants in
    let g = c.index-rows-place.result in
    let found = sym c.place_of.ensures.value ∙ c.unwrap-place.ensures in
    let at = grant-here (seen_holdings c.self.inside) a c.rows.result.now c.unwrap-place.result g c.self.view_is c.rows.ensures.rows c.index-rows-place.is in
    let some : find (is_of query) gs ≡ Some g = find-found (is_of query) gs c.unwrap-place.result g found at in
    query-found gs query g some

pub overflow_sub-returned : goal.overflow_sub-returned
overflow_sub-returned c =
    let a = c.args.self.now in
    let query = c.args.query in
    let gs = a.grants in
    let g = c.index-rows-place.result in
    let found = sym c.place_of.ensures.value ∙ c.unwrap-place.ensures in
    let at = grant-here (seen_holdings c.self.inside) a c.rows.result.now c.unwrap-place.result g c.self.view_is c.rows.ensures.rows c.index-rows-place.is in
    let some : find (is_of query) gs ≡ Some g = find-found (is_of query) gs c.unwrap-place.result g found at in
    let k = subst IsBalanced c.self.view_is c.self.invariant.balanced in
    let kept = kept-seen c.self.inside.kept (seen_holdings c.self.inside) a c.self.invariant.numbers c.self.view_is in
    let number : g.query ≡ query = same-number g.query query (found_passes (is_of query) g gs some) in
    let beside : Name → ℕ → Usage = λ p n. usage_made (actual_of a p) (used p (without (is_of n) gs)) (running_in p (without (is_of n) gs)) in
    let home : c.borrowed-home.result ≡ borrowed (usage_made (actual_of a g.pool) (used g.pool gs) (running_in g.pool gs)) =
    c.borrowed-home.ensures.value ∙ ap borrowed c.usage.ensures.value in
    let left : c.borrowed-left.result ≡ borrowed (beside g.pool query) =
    c.borrowed-left.ensures.value ∙ ap borrowed (c.usage_beside.ensures.value ∙ ap (beside g.pool) number) in
    let l = lent-given a query g k some in
    omega (arith, home, left, l.less)

pub overflow_sub-result-2 : goal.overflow_sub-result-2
overflow_sub-result-2 c =
    let a = c.args.self.now in
    let query = c.args.query in
    let gs = a.grants in
    let g = c.index-rows-place.result in
    let found = sym c.place_of.ensures.value ∙ c.unwrap-place.ensures in
    let at = grant-here (seen_holdings c.self.inside) a c.rows.result.now c.unwrap-place.result g c.self.view_is c.rows.ensures.rows c.index-rows-place.is in
    let some : find (is_of query) gs ≡ Some g = find-found (is_of query) gs c.unwrap-place.result g found at in
    let k = subst IsBalanced c.self.view_is c.self.invariant.balanced in
    let kept = kept-seen c.self.inside.kept (seen_holdings c.self.inside) a c.self.invariant.numbers c.self.view_is in
    let number : g.query ≡ query = same-number g.query query (found_passes (is_of query) g gs some) in
    let beside : Name → ℕ → Usage = λ p n. usage_made (actual_of a p) (used p (without (is_of n) gs)) (running_in p (without (is_of n) gs)) in
    let home : c.borrowed-home.result ≡ borrowed (usage_made (actual_of a g.pool) (used g.pool gs) (running_in g.pool gs)) =
    c.borrowed-home.ensures.value ∙ ap borrowed c.usage.ensures.value in
    let left : c.borrowed-left.result ≡ borrowed (beside g.pool query) =
    c.borrowed-left.ensures.value ∙ ap borrowed (c.usage_beside.ensures.value ∙ ap (beside g.pool) number) in
    let l = lent-given a query g k some in
    omega (arith, home, left, l.lends, ap (λ (n : Numbers). n.lent) kept)

pub returns-clause-value : goal.returns-clause-value
returns-clause-value c =
    let a = c.args.self.now in
    let query = c.args.query in
    let gs = a.grants in
    let g = c.index-rows-place.result in
    let found = sym c.place_of.ensures.value ∙ c.unwrap-place.ensures in
    let at = grant-here (seen_holdings c.self.inside) a c.rows.result.now c.unwrap-place.result g c.self.view_is c.rows.ensures.rows c.index-rows-place.is in
    let some : find (is_of query) gs ≡ Some g = find-found (is_of query) gs c.unwrap-place.result g found at in
    let k = subst IsBalanced c.self.view_is c.self.invariant.balanced in
    let kept = kept-seen c.self.inside.kept (seen_holdings c.self.inside) a c.self.invariant.numbers c.self.view_is in
    let number : g.query ≡ query = same-number g.query query (found_passes (is_of query) g gs some) in
    let beside : Name → ℕ → Usage = λ p n. usage_made (actual_of a p) (used p (without (is_of n) gs)) (running_in p (without (is_of n) gs)) in
    let home : c.borrowed-home.result ≡ borrowed (usage_made (actual_of a g.pool) (used g.pool gs) (running_in g.pool gs)) =
    c.borrowed-home.ensures.value ∙ ap borrowed c.usage.ensures.value in
    let left : c.borrowed-left.result ≡ borrowed (beside g.pool query) =
    c.borrowed-left.ensures.value ∙ ap borrowed (c.usage_beside.ensures.value ∙ ap (beside g.pool) number) in
    let l = lent-given a query g k some in
    let pool = c.args.pool in
    let now : Holdings = given_back a query in
    let then = kept_given_back a query k in
    let there : c.usage_beside-there.result ≡ beside pool query = c.usage_beside-there.ensures.value ∙ ap (beside pool) number in
    let bytes : g.bytes ≡ grant_of gs query = grant-found a gs query c.unwrap-place.result g refl found at in
    let needs : g.bytes - c.min.result ≡ need now pool g.bytes =
    omega (arith, c.min.ensures, c.saturating_sub-unused.ensures, c.actual.ensures, ap (λ (u : Usage). u.own) there, unused-is now pool) in
    let needed : g.bytes - c.min.result ≡ need now pool (grant_of gs query) = needs ∙ ap (λ (n : ℕ). need now pool n) bytes in
    let lends : c.self.inside.kept.lent - (c.borrowed-home.result - c.borrowed-left.result) ≡ lent now =
    omega (arith, home, left, l.lent_less, l.less, l.lends, ap (λ (n : Numbers). n.lent) kept) in
    let frees : c.self.inside.kept.free + (c.borrowed-home.result - c.borrowed-left.result) ≡ free now =
    omega (arith, home, left, l.lent_less, l.less, l.lends, k.within, then.within, ap (λ (n : Numbers). n.free) kept) in
    let use_there = ap (λ (u : Usage). u.used) there in
    let run_there = ap (λ (u : Usage). u.running) there in
    λ j. record { need = needed j; free = frees j; used = use_there j; lent = lends j; running = run_there j }
