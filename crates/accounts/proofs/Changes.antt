-- The numbers after a change of one pool's queries.
use Rattle.std.proofs.Common.{◌≡◌, ◌≤◌, ◌<◌, ℕ, ◌+◌, ◌-◌, zero, suc, Bool, true, false, cond, Option, Some, None, List, [], ◌∷◌, ◌++◌, length, map, set, get_or, position, find, refl, ap, sym, subst, ◌∙◌, arith, sum_by}
use Rattle.std.specs.List.{list_any}
use Rattle.std.proofs.lemmas.List.{length-map, get_or-map}
use Rattle.std.proofs.lemmas.List.Sums.{sum_by_push, sum_by-set}
use Rattle.rm_base.specs.declared.name.Name.{Name}
use Rattle.rm_base.specs.Name.{same_name, general}
use Rattle.rm_base.proofs.Names.{same_name-refl, same_name-eq, same_name-sym}
use Rattle.rm_rules.specs.declared.state.Holding.{Holding}
use Rattle.rm_rules.specs.declared.state.Reserve.{Reserve}
use Rattle.rm_rules.specs.Holdings.{Holdings, reserve_names}
use Rattle.rm_rules.specs.State.{without}
use Rattle.rm_rules.specs.Accounting.{held_in, used, running_in, debt, of_reserve, lent, free, taken_up}
use Rattle.rm_rules.specs.Sound.{are_distinct}
use Rattle.rm_rules.specs.DropPool.{is_reserve_of}
use Rattle.rm_rules.proofs.Bytes.{apart, apart-rest}
use Rattle.rm_rules.proofs.Places.{position-within, position-is, find-found, find-absent}
use Rattle.rm_rules.proofs.Pools.{sum_by-map}
use Rattle.rm_rules.proofs.Taken.{or_left_false, or_right_false, found_passes, sum_without}
use Rattle.accounts.specs.declared.numbers.Numbers.{Numbers}
use Rattle.accounts.specs.declared.numbers.Usage.{Usage}
use Rattle.accounts.specs.Accounts.{has_name, is_of}
use Rattle.accounts.specs.Numbers.{usage_made, no_usage, usage_of, general_reserve, numbers_of, size_at, borrowed, usage_at, put_usage, with_usage, size_in}
use Rattle.accounts.proofs.Moving.{position-present, reserve-present}

-- where the pool's reserve stands; GENERAL has none
abbrev pub Stands : List Reserve → Name → Option ℕ → Type 0
Stands es pool None = pool ≡ general
Stands es pool (Some i) = (i < length es) × ((get_or es i general_reserve).pool ≡ pool)

get-same : (es : List Reserve) (i : ℕ) (d e : Reserve) → i < length es → get_or es i d ≡ get_or es i e
get-same [] i d e within = absurd (omega arith)
get-same (x ∷ xs) zero d e within = refl
get-same (x ∷ xs) (suc i) d e within = get-same xs i d e (omega arith)

general-turn : (es : List Reserve) (pool : Name) (b : Bool) → same_name pool general ≡ b → (let o : Option ℕ = None in position (is_reserve_of pool) es ≡ o) → has_name es pool ≡ true
    → same_name pool general ≡ true
general-turn es pool true e at there = e
general-turn es pool false e at there = let some = position-present (is_reserve_of pool) es (reserve-present pool es there e) in absurd (cc)

pub found-at : (es : List Reserve) (pool : Name) (i : ℕ) → position (is_reserve_of pool) es ≡ Some i → find (is_reserve_of pool) es ≡ Some (get_or es i general_reserve)
found-at es pool i at =
    let within : i < length es = omega (arith, position-within (is_reserve_of pool) es i at, position-is (is_reserve_of pool) es i at) in
    find-found (is_reserve_of pool) es i (get_or es i general_reserve) at (get-same es i general_reserve (get_or es i general_reserve) within)

pub stands-found : (es : List Reserve) (pool : Name) (i : ℕ) → position (is_reserve_of pool) es ≡ Some i → Stands es pool (Some i)
stands-found es pool i at =
    let within : i < length es = omega (arith, position-within (is_reserve_of pool) es i at, position-is (is_reserve_of pool) es i at) in
    (within, same_name-eq (get_or es i general_reserve).pool pool (found_passes (is_reserve_of pool) (get_or es i general_reserve) es (found-at es pool i at)))

pub stands : (es : List Reserve) (pool : Name) (o : Option ℕ) → position (is_reserve_of pool) es ≡ o → has_name es pool ≡ true → Stands es pool o
stands es pool None at there = same_name-eq pool general (general-turn es pool (same_name pool general) refl at there)
stands es pool (Some i) at there = stands-found es pool i at

pub size-stands : (es : List Reserve) (pool : Name) (o : Option ℕ) → position (is_reserve_of pool) es ≡ o → size_at es o ≡ size_in es pool
size-stands es pool None at = sym (ap (of_reserve (λ (e : Reserve). e.size)) (find-absent (is_reserve_of pool) es at))
size-stands es pool (Some i) at = sym (ap (of_reserve (λ (e : Reserve). e.size)) (found-at es pool i at))

-- only queries of this pool change
pub record OnlyIn (pool : Name) (old new : List Holding) : Type 0 where
  pub use_same : (p : Name) → same_name p pool ≡ false → used p new ≡ used p old
  pub run_same : (p : Name) → same_name p pool ≡ false → running_in p new ≡ running_in p old

abbrev one_in : Name → Holding → ℕ
one_in p g = cond (same_name g.pool p) 1 0

held-else : (p : Name) (g : Holding) → same_name p g.pool ≡ false → held_in p g ≡ 0
held-else p g other = ap {B = ℕ} (λ b. cond b g.bytes 0) (same_name-sym g.pool p ∙ other)

one-else : (p : Name) (g : Holding) → same_name p g.pool ≡ false → one_in p g ≡ 0
one-else p g other = ap {B = ℕ} (λ b. cond b 1 0) (same_name-sym g.pool p ∙ other)

pub held-here : (g : Holding) → held_in g.pool g ≡ g.bytes
held-here g = ap {B = ℕ} (λ b. cond b g.bytes 0) (same_name-refl g.pool)

one-here : (g : Holding) → one_in g.pool g ≡ 1
one-here g = ap {B = ℕ} (λ b. cond b 1 0) (same_name-refl g.pool)

pub only-push : (gs : List Holding) (g : Holding) → OnlyIn g.pool gs (gs ++ g ∷ [])
only-push gs g = record {
  use_same = λ p other. omega (arith, sum_by_push (held_in p) gs g, held-else p g other);
  run_same = λ p other. omega (arith, sum_by_push (one_in p) gs g, one-else p g other);
}

pub used-more : (gs : List Holding) (g : Holding) → used g.pool (gs ++ g ∷ []) ≡ used g.pool gs + g.bytes
used-more gs g = omega (arith, sum_by_push (held_in g.pool) gs g, held-here g)

pub running-more : (gs : List Holding) (g : Holding) → running_in g.pool (gs ++ g ∷ []) ≡ running_in g.pool gs + 1
running-more gs g = omega (arith, sum_by_push (one_in g.pool) gs g, one-here g)

pub only-without : (gs : List Holding) (query : ℕ) (g : Holding) → find (is_of query) gs ≡ Some g → OnlyIn g.pool gs (without (is_of query) gs)
only-without gs query g found = record {
  use_same = λ p other. omega (arith, sum_without (held_in p) (is_of query) g gs found, held-else p g other);
  run_same = λ p other. omega (arith, sum_without (one_in p) (is_of query) g gs found, one-else p g other);
}

pub used-less : (gs : List Holding) (query : ℕ) (g : Holding) → find (is_of query) gs ≡ Some g → used g.pool (without (is_of query) gs) + g.bytes ≡ used g.pool gs
used-less gs query g found = omega (arith, sum_without (held_in g.pool) (is_of query) g gs found, held-here g)

pub running-less : (gs : List Holding) (query : ℕ) (g : Holding) → find (is_of query) gs ≡ Some g → running_in g.pool (without (is_of query) gs) + 1 ≡ running_in g.pool gs
running-less gs query g found = omega (arith, sum_without (one_in g.pool) (is_of query) g gs found, one-here g)

-- the usages: that in one place changes
usage-same : (pool : Name) (old new : List Holding) (e : Reserve) → OnlyIn pool old new → same_name e.pool pool ≡ false → usage_of new e ≡ usage_of old e
usage-same pool old new e only other = let u = only.use_same e.pool other in let r = only.run_same e.pool other in λ j. usage_made e.size (u j) (r j)

usages-same : (pool : Name) (old new : List Holding) (es : List Reserve) → OnlyIn pool old new → list_any (same_name pool) (reserve_names es) ≡ false
    → map (usage_of new) es ≡ map (usage_of old) es
usages-same pool old new [] only none = refl
usages-same pool old new (e ∷ es) only none =
    let here = usage-same pool old new e only (same_name-sym e.pool pool ∙ or_left_false (same_name pool e.pool) _ none) in
    let rest = usages-same pool old new es only (or_right_false (same_name pool e.pool) _ none) in
    λ j. here j ∷ rest j

pub not-named : (n : Name) (es : List Reserve) (i : ℕ) → list_any (same_name n) (reserve_names es) ≡ false → i < length es → same_name n (get_or es i general_reserve).pool ≡ false
not-named n [] i none within = absurd (omega arith)
not-named n (e ∷ es) zero none within = or_left_false (same_name n e.pool) _ none
not-named n (e ∷ es) (suc i) none within = not-named n es i (or_right_false (same_name n e.pool) _ none) (omega arith)

usages-set : (old new : List Holding) (es : List Reserve) (i : ℕ) → are_distinct (reserve_names es) ≡ true → i < length es → OnlyIn (get_or es i general_reserve).pool old new
    → map (usage_of new) es ≡ set (map (usage_of old) es) i (usage_of new (get_or es i general_reserve))
usages-set old new [] i distinct within only = absurd (omega arith)
usages-set old new (e ∷ es) zero distinct within only =
    ap (λ (us : List Usage). usage_of new e ∷ us) (usages-same e.pool old new es only (apart e.pool (reserve_names es) distinct))
usages-set old new (e ∷ es) (suc i) distinct within only =
    let here = usage-same (get_or es i general_reserve).pool old new e only (not-named e.pool es i (apart e.pool (reserve_names es) distinct) (omega arith)) in
    let rest = usages-set old new es i (apart-rest e.pool (reserve_names es) distinct) (omega arith) only in
    λ j. here j ∷ rest j

-- the pool's usage, as it is kept
abbrev pub usage_for : List Reserve → Name → Option ℕ → List Holding → Usage
usage_for es pool o gs = usage_made (size_at es o) (used pool gs) (running_in pool gs)

pub usage-stands : (h : Holdings) (pool : Name) (o : Option ℕ) → Stands h.reserves pool o → usage_at (numbers_of h) o ≡ usage_for h.reserves pool o h.grants
usage-stands h pool None is = ap (λ (n : Name). usage_made 0 (used n h.grants) (running_in n h.grants)) (sym is)
usage-stands h pool (Some i) is =
    get_or-map (usage_of h.grants) h.reserves i general_reserve no_usage is.0
    ∙ ap (λ (n : Name). usage_made (get_or h.reserves i general_reserve).size (used n h.grants) (running_in n h.grants)) is.1

abbrev pub with_grants : Holdings → List Holding → Holdings
with_grants h gs = record h { grants = gs }

pub usage-put : (h : Holdings) (new : List Holding) (pool : Name) (o : Option ℕ) → are_distinct (general ∷ reserve_names h.reserves) ≡ true → Stands h.reserves pool o → OnlyIn pool h.grants new
    → (let after : Numbers = record (numbers_of h) { usages = map (usage_of new) h.reserves; general = usage_of new general_reserve } in
    put_usage (numbers_of h) o (usage_for h.reserves pool o new) ≡ after)
usage-put h new pool None distinct is only =
    let others = usages-same pool h.grants new h.reserves only (subst (λ (n : Name). list_any (same_name n) (reserve_names h.reserves) ≡ false) (sym is) (apart general (reserve_names h.reserves) distinct)) in
    let own : usage_made 0 (used pool new) (running_in pool new) ≡ usage_of new general_reserve = ap (λ (n : Name). usage_made 0 (used n new) (running_in n new)) is in
    let made : List Usage → Usage → Numbers = λ us u. record (numbers_of h) { usages = us; general = u } in
    λ j. made (sym others j) (own j)
usage-put h new pool (Some i) distinct is only =
    let e = get_or h.reserves i general_reserve in
    let here : OnlyIn e.pool h.grants new = subst (λ (n : Name). OnlyIn n h.grants new) (sym is.1) only in
    let own : usage_for h.reserves pool (Some i) new ≡ usage_of new e = ap (λ (n : Name). usage_made e.size (used n new) (running_in n new)) (sym is.1) in
    let us : set (map (usage_of h.grants) h.reserves) i (usage_for h.reserves pool (Some i) new) ≡ map (usage_of new) h.reserves =
    ap (λ (u : Usage). set (map (usage_of h.grants) h.reserves) i u) own ∙ sym (usages-set h.grants new h.reserves i (apart-rest general (reserve_names h.reserves) distinct) is.0 here) in
    let lone = usage-same e.pool h.grants new general_reserve here (not-named general h.reserves i (apart general (reserve_names h.reserves) distinct) is.0) in
    let made : List Usage → Usage → Numbers = λ xs u. record (numbers_of h) { usages = xs; general = u } in
    λ j. made (us j) (sym lone j)

-- the debts
debts-are : (gs : List Holding) (es : List Reserve) → sum_by (debt gs) es ≡ sum_by borrowed (map (usage_of gs) es)
debts-are gs es = sym (sum_by-map borrowed (usage_of gs) es)

pub lent-change : (h : Holdings) (new : List Holding) (pool : Name) (o : Option ℕ) → are_distinct (general ∷ reserve_names h.reserves) ≡ true → Stands h.reserves pool o → OnlyIn pool h.grants new
    → lent (with_grants h new) + borrowed (usage_for h.reserves pool o h.grants) ≡ lent h + borrowed (usage_for h.reserves pool o new)
lent-change h new pool None distinct is only =
    let others = usages-same pool h.grants new h.reserves only (subst (λ (n : Name). list_any (same_name n) (reserve_names h.reserves) ≡ false) (sym is) (apart general (reserve_names h.reserves) distinct)) in
    omega (
      arith,
      debts-are new h.reserves,
      debts-are h.grants h.reserves,
      ap (sum_by borrowed) others,
      ap (λ (n : Name). used n new) is,
      ap (λ (n : Name). used n h.grants) is,
    )
lent-change h new pool (Some i) distinct is only =
    let e = get_or h.reserves i general_reserve in
    let here : OnlyIn e.pool h.grants new = subst (λ (n : Name). OnlyIn n h.grants new) (sym is.1) only in
    let us = map (usage_of h.grants) h.reserves in
    let inside : i < length us = omega (arith, is.0, length-map h.reserves (usage_of h.grants)) in
    let old : borrowed (get_or us i no_usage) ≡ borrowed (usage_for h.reserves pool (Some i) h.grants) = ap borrowed (usage-stands h pool (Some i) is) in
    let now : borrowed (usage_of new e) ≡ borrowed (usage_for h.reserves pool (Some i) new) = ap (λ (n : Name). borrowed (usage_made e.size (used n new) (running_in n new))) is.1 in
    let lone : used general new ≡ used general h.grants = here.use_same general (not-named general h.reserves i (apart general (reserve_names h.reserves) distinct) is.0) in
    omega (
      arith,
      debts-are new h.reserves,
      debts-are h.grants h.reserves,
      ap (sum_by borrowed) (usages-set h.grants new h.reserves i (apart-rest general (reserve_names h.reserves) distinct) is.0 here),
      sum_by-set borrowed us i (usage_of new e) no_usage inside,
      old,
      now,
      lone,
    )

pub borrowed-most : (h : Holdings) (pool : Name) (o : Option ℕ) → Stands h.reserves pool o → borrowed (usage_for h.reserves pool o h.grants) ≤ lent h
borrowed-most h pool None is = omega (arith, ap (λ (n : Name). used n h.grants) is)
borrowed-most h pool (Some i) is =
    let us = map (usage_of h.grants) h.reserves in
    let inside : i < length us = omega (arith, is.0, length-map h.reserves (usage_of h.grants)) in
    omega (
      arith,
      debts-are h.grants h.reserves,
      sum_by-set borrowed us i no_usage no_usage inside,
      ap borrowed (usage-stands h pool (Some i) is),
    )

-- all numbers but the accounts
pub changed : (h : Holdings) (new : List Holding) (pool : Name) (o : Option ℕ) → are_distinct (general ∷ reserve_names h.reserves) ≡ true → Stands h.reserves pool o → OnlyIn pool h.grants new
    → taken_up h ≤ h.in_force → taken_up (with_grants h new) ≤ h.in_force
    → (let after : Numbers = record (numbers_of (with_grants h new)) { accounts = (numbers_of h).accounts } in
    with_usage (numbers_of h) o (usage_for h.reserves pool o new) ≡ after)
changed h new pool o distinct is only within then =
    let put = usage-put h new pool o distinct is only in
    let before : borrowed (usage_at (numbers_of h) o) ≡ borrowed (usage_for h.reserves pool o h.grants) = ap borrowed (usage-stands h pool o is) in
    let u = usage_for h.reserves pool o new in
    let lends : (lent h - borrowed (usage_at (numbers_of h) o)) + borrowed u ≡ lent (with_grants h new) =
    omega (arith, before, lent-change h new pool o distinct is only, borrowed-most h pool o is) in
    let frees : (free h + borrowed (usage_at (numbers_of h) o)) - borrowed u ≡ free (with_grants h new) =
    omega (arith, before, lent-change h new pool o distinct is only, borrowed-most h pool o is, within, then) in
    let made : Numbers → ℕ → ℕ → Numbers = λ n l f. record n { lent = l; free = f } in
    λ j. made (put j) (lends j) (frees j)
