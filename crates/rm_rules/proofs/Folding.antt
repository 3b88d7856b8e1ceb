-- What is left of the bytes where a pool is folded into GENERAL.
use Rattle.std.proofs.Common.{◌≡◌, ◌≤◌, ℕ, ◌+◌, Bool, true, false, ◌||◌, not, cond, Some, List, [], ◌∷◌, map, find, refl, ap, sym, subst, ◌∙◌, arith, sum_by}
use Rattle.std.specs.List.{list_any, list_all}
use Rattle.std.proofs.lemmas.List.Sums.{sum_by-cons}
use Rattle.rm_base.specs.declared.name.Name.{Name}
use Rattle.rm_base.specs.Name.{same_name, general}
use Rattle.rm_base.proofs.Names.{same_name-refl, same_name-eq, same_name-sym}
use Rattle.rm_rules.specs.declared.state.Holding.{Holding}
use Rattle.rm_rules.specs.declared.state.Reserve.{Reserve}
use Rattle.rm_rules.specs.Holdings.{Holdings, reserve_names}
use Rattle.rm_rules.specs.State.{without}
use Rattle.rm_rules.specs.Accounting.{held_in, used, debt, taken_up}
use Rattle.rm_rules.specs.Sound.{are_distinct}
use Rattle.rm_rules.proofs.Taken.{and_left, and_right, and_both, or_left_false, or_right_false, or_both_false, not_false, sum_without, found_passes}
use Rattle.rm_rules.specs.DropPool.{in_place, is_reserve_of, holding_beside, folded}

abbrev pub named : Name → List Reserve → Bool
named n es = list_any (same_name n) (reserve_names es)

-- GENERAL, or a pool that has a reserve
abbrev pub has_reserve : List Reserve → Name → Bool
has_reserve es n = list_any (same_name n) (general ∷ reserve_names es)

abbrev pub left : Name → List Reserve → List Reserve
left pool es = without (is_reserve_of pool) es

abbrev pub handed : Name → List Holding → List Holding
handed pool gs = map (holding_beside pool) gs

-- what a name is not among, it is not among without the pool
apart-turn : (n pool : Name) (e : Reserve) (es : List Reserve) (b : Bool) → named n (e ∷ es) ≡ false → named n (left pool es) ≡ false
    → named n (cond b es (e ∷ left pool es)) ≡ false
apart-turn n pool e es true apart rest = or_right_false (same_name n e.pool) _ apart
apart-turn n pool e es false apart rest = or_both_false (same_name n e.pool) _ (or_left_false (same_name n e.pool) _ apart) rest

pub still-apart : (n pool : Name) (es : List Reserve) → named n es ≡ false → named n (left pool es) ≡ false
still-apart n pool [] apart = refl
still-apart n pool (e ∷ es) apart =
    apart-turn n pool e es (same_name e.pool pool) apart (still-apart n pool es (or_right_false (same_name n e.pool) _ apart))

distinct-turn : (pool : Name) (e : Reserve) (es : List Reserve) (b : Bool) → are_distinct (reserve_names (e ∷ es)) ≡ true
    → are_distinct (reserve_names (left pool es)) ≡ true → are_distinct (reserve_names (cond b es (e ∷ left pool es))) ≡ true
distinct-turn pool e es true distinct rest = and_right (not (named e.pool es)) _ distinct
distinct-turn pool e es false distinct rest =
    let apart = not_false _ (and_left (not (named e.pool es)) (are_distinct (reserve_names es)) distinct) in
    and_both (not (named e.pool (left pool es))) _ (ap not (still-apart e.pool pool es apart)) rest

pub still-distinct : (pool : Name) (es : List Reserve) → are_distinct (reserve_names es) ≡ true → are_distinct (reserve_names (left pool es)) ≡ true
still-distinct pool [] distinct = refl
still-distinct pool (e ∷ es) distinct =
    distinct-turn pool e es (same_name e.pool pool) distinct (still-distinct pool es (and_right (not (named e.pool es)) _ distinct))

-- of distinct names the pool's is gone
gone-turn : (pool : Name) (e : Reserve) (es : List Reserve) (b : Bool) → same_name e.pool pool ≡ b → are_distinct (reserve_names (e ∷ es)) ≡ true
    → named pool (left pool es) ≡ false → named pool (cond b es (e ∷ left pool es)) ≡ false
gone-turn pool e es true here distinct rest =
    subst (λ (n : Name). named n es ≡ false) (same_name-eq e.pool pool here) (not_false _ (and_left (not (named e.pool es)) (are_distinct (reserve_names es)) distinct))
gone-turn pool e es false here distinct rest = or_both_false (same_name pool e.pool) _ (same_name-sym pool e.pool ∙ here) rest

pub gone : (pool : Name) (es : List Reserve) → are_distinct (reserve_names es) ≡ true → named pool (left pool es) ≡ false
gone pool [] distinct = refl
gone pool (e ∷ es) distinct =
    gone-turn pool e es (same_name e.pool pool) refl distinct (gone pool es (and_right (not (named e.pool es)) _ distinct))

-- another pool stays
or-more : (a b c : Bool) → (b ≡ true → c ≡ true) → (a || b) ≡ true → (a || c) ≡ true
or-more true b c more some = refl
or-more false b c more some = more some

stays-turn : (n pool : Name) (e : Reserve) (es : List Reserve) (b : Bool) → same_name e.pool pool ≡ b → same_name n pool ≡ false
    → (named n es ≡ true → named n (left pool es) ≡ true) → named n (e ∷ es) ≡ true → named n (cond b es (e ∷ left pool es)) ≡ true
stays-turn n pool e es true here other rest there =
    let away : same_name n e.pool ≡ false = ap (same_name n) (same_name-eq e.pool pool here) ∙ other in
    ap (λ c. c || named n es) (sym away) ∙ there
stays-turn n pool e es false here other rest there = or-more (same_name n e.pool) (named n es) (named n (left pool es)) rest there

stays : (n pool : Name) (es : List Reserve) → same_name n pool ≡ false → named n es ≡ true → named n (left pool es) ≡ true
stays n pool [] other there = there
stays n pool (e ∷ es) other there = stays-turn n pool e es (same_name e.pool pool) refl other (stays n pool es other) there

-- each query runs in a pool that is left
known-turn : (pool : Name) (g : Holding) (es : List Reserve) (b : Bool) → same_name g.pool pool ≡ b → has_reserve es g.pool ≡ true
    → has_reserve (left pool es) (cond b general g.pool) ≡ true
known-turn pool g es true here there = ap (λ c. c || named general (left pool es)) (same_name-refl general)
known-turn pool g es false here there = or-more (same_name g.pool general) (named g.pool es) (named g.pool (left pool es)) (stays g.pool pool es here) there

pub known-left : (pool : Name) (es : List Reserve) (gs : List Holding) → list_all (λ g. has_reserve es g.pool) gs ≡ true
    → list_all (λ g. has_reserve (left pool es) g.pool) (handed pool gs) ≡ true
known-left pool es [] known = refl
known-left pool es (g ∷ gs) known =
    and_both (has_reserve (left pool es) (in_place pool g.pool)) _
    (known-turn pool g es (same_name g.pool pool) refl (and_left (has_reserve es g.pool) _ known))
    (known-left pool es gs (and_right (has_reserve es g.pool) _ known))

-- what does not ask for the pool stays
pub sum-handed : (f : Holding → ℕ) (pool : Name) (gs : List Holding)
    → ((g : Holding) (b : Bool) → f (record g { pool = cond b general g.pool }) ≡ f g) → sum_by f (handed pool gs) ≡ sum_by f gs
sum-handed f pool [] same = refl
sum-handed f pool (g ∷ gs) same =
    omega (
      arith,
      sum_by-cons f (holding_beside pool g) (handed pool gs),
      sum_by-cons f g gs,
      same g (same_name g.pool pool),
      sum-handed f pool gs same,
    )

pub bytes-same : (g : Holding) (b : Bool) → (record g { pool = cond b general g.pool }).bytes ≡ g.bytes
bytes-same g true = refl
bytes-same g false = refl

-- other pools use as much as before
other-turn : (p pool : Name) (g : Holding) (b : Bool) → same_name g.pool pool ≡ b → same_name p pool ≡ false → same_name p general ≡ false
    → held_in p (record g { pool = cond b general g.pool }) ≡ held_in p g
other-turn p pool g true here other user =
    let away : same_name g.pool p ≡ false = ap (λ (n : Name). same_name n p) (same_name-eq g.pool pool here) ∙ same_name-sym pool p ∙ other in
    let apart : same_name general p ≡ false = same_name-sym general p ∙ user in
    ap (λ c. cond c g.bytes 0) apart ∙ sym (ap (λ c. cond c g.bytes 0) away)
other-turn p pool g false here other user = refl

other-used : (p pool : Name) (gs : List Holding) → same_name p pool ≡ false → same_name p general ≡ false → used p (handed pool gs) ≡ used p gs
other-used p pool [] other user = refl
other-used p pool (g ∷ gs) other user =
    omega (
      arith,
      sum_by-cons (held_in p) (holding_beside pool g) (handed pool gs),
      sum_by-cons (held_in p) g gs,
      other-turn p pool g (same_name g.pool pool) refl other user,
      other-used p pool gs other user,
    )

-- GENERAL uses what the pool used, beside its own
general-turn : (pool : Name) (g : Holding) (b : Bool) → same_name g.pool pool ≡ b → same_name pool general ≡ false
    → held_in general (record g { pool = cond b general g.pool }) ≡ held_in general g + held_in pool g
general-turn pool g true here user =
    let away : same_name g.pool general ≡ false = ap (λ (n : Name). same_name n general) (same_name-eq g.pool pool here) ∙ user in
    let now : cond (same_name general general) g.bytes 0 ≡ g.bytes = ap {B = ℕ} (λ c. cond c g.bytes 0) (same_name-refl general) in
    omega (arith, now, ap {B = ℕ} (λ c. cond c g.bytes 0) away, ap {B = ℕ} (λ c. cond c g.bytes 0) here)
general-turn pool g false here user = omega (arith, ap {B = ℕ} (λ c. cond c g.bytes 0) here)

general-used : (pool : Name) (gs : List Holding) → same_name pool general ≡ false → used general (handed pool gs) ≡ used general gs + used pool gs
general-used pool [] user = refl
general-used pool (g ∷ gs) user =
    omega (
      arith,
      sum_by-cons (held_in general) (holding_beside pool g) (handed pool gs),
      sum_by-cons (held_in general) g gs,
      sum_by-cons (held_in pool) g gs,
      general-turn pool g (same_name g.pool pool) refl user,
      general-used pool gs user,
    )

-- and the debts of other pools are as before
other-debts : (pool : Name) (gs : List Holding) (es : List Reserve) → named pool es ≡ false → named general es ≡ false
    → sum_by (debt (handed pool gs)) es ≡ sum_by (debt gs) es
other-debts pool gs [] away user = refl
other-debts pool gs (e ∷ es) away user =
    let here = same_name-sym e.pool pool ∙ or_left_false (same_name pool e.pool) _ away in
    let own = same_name-sym e.pool general ∙ or_left_false (same_name general e.pool) _ user in
    omega (
      arith,
      sum_by-cons (debt (handed pool gs)) e es,
      sum_by-cons (debt gs) e es,
      other-used e.pool pool gs here own,
      other-debts pool gs es (or_right_false (same_name pool e.pool) _ away) (or_right_false (same_name general e.pool) _ user),
    )

-- What is reserved and lent is no more than before: the pool's bytes come back, and GENERAL lends its queries those of
-- them that they used.
pub folded-within : (h : Holdings) (pool : Name) (e : Reserve) → are_distinct (general ∷ reserve_names h.reserves) ≡ true → same_name pool general ≡ false
    → find (is_reserve_of pool) h.reserves ≡ Some e → taken_up (folded h pool) ≤ taken_up h
folded-within h pool e distinct user found =
    let es = h.reserves in
    let own = and_right (not (named general es)) (are_distinct (reserve_names es)) distinct in
    let apart : named general es ≡ false = not_false _ (and_left (not (named general es)) (are_distinct (reserve_names es)) distinct) in
    let is : e.pool ≡ pool = same_name-eq e.pool pool (found_passes (is_reserve_of pool) e es found) in
    omega (
      arith,
      sum_without (λ (x : Reserve). x.size) (is_reserve_of pool) e es found,
      sum_without (debt h.grants) (is_reserve_of pool) e es found,
      ap (λ (n : Name). used n h.grants) is,
      general-used pool h.grants user,
      other-debts pool h.grants (left pool es) (gone pool es own) (still-apart general pool es apart),
    )
