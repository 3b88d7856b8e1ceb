-- The bytes of a state, and what a query that begins or ends to run does to use, debts and GENERAL's use.
use Rattle.std.proofs.Common.{◌≡◌, ℕ, ◌+◌, ◌-◌, ◌≤◌, Bool, true, false, not, cond, List, [], ◌∷◌, ◌++◌, length, Some, find, refl, sym, ap, ◌∙◌, subst, arith, sum_by, min, map}
use Rattle.std.specs.List.{list_all, list_any}
use Rattle.std.proofs.lemmas.List.Sums.{sum_by-cons, sum_by_push}
use Rattle.rm_base.specs.declared.rows.PoolRow.{PoolRow}
use Rattle.rm_base.specs.declared.name.Name.{Name}
use Rattle.rm_base.specs.Name.{same_name, general}
use Rattle.rm_base.proofs.Names.{same_name-eq, same_name-sym}
use Rattle.rm_rules.specs.declared.state.Holding.{Holding}
use Rattle.rm_rules.specs.declared.state.Reserve.{Reserve}
use Rattle.rm_rules.specs.declared.state.Runner.{Runner}
use Rattle.rm_rules.specs.Definitions.{user_pools}
use Rattle.rm_rules.specs.State.{State}
use Rattle.rm_rules.specs.Holdings.{Holdings, holdings, reserves_of, holdings_of, reserve_names}
use Rattle.rm_rules.specs.Accounting.{held_in, used, debt, unused, of_reserve, lent, need}
use Rattle.rm_rules.specs.Sound.{IsSound, has_pool, are_distinct}
use Rattle.rm_rules.specs.Healthy.{AreSized, AreThere}
use Rattle.rm_rules.proofs.Taken.{and_left, and_right, and_both, or_left_false, or_right_false, not_false}
use Rattle.rm_rules.proofs.Pools.{names, worth, is_called, pool_names}

-- No two reserves have one name, none is GENERAL's, and each query runs in GENERAL or in a pool with a reserve.
pub record AreNamed (h : Holdings) : Type 0 where
  pub distinct : are_distinct (general ∷ reserve_names h.reserves) ≡ true
  pub known : list_all (λ g. list_any (same_name g.pool) (general ∷ reserve_names h.reserves)) h.grants ≡ true

pub apart : (n : Name) (ns : List Name) → are_distinct (n ∷ ns) ≡ true → list_any (same_name n) ns ≡ false
apart n ns distinct = not_false _ (and_left _ (are_distinct ns) distinct)

pub apart-rest : (n : Name) (ns : List Name) → are_distinct (n ∷ ns) ≡ true → are_distinct ns ≡ true
apart-rest n ns distinct = and_right (not (list_any (same_name n) ns)) _ distinct

-- rows with sizes have the names of the rows, and those sizes
pub reserve_names-of : (rows : List PoolRow) (sizes : List ℕ) → length sizes ≡ length rows → reserve_names (reserves_of rows sizes) ≡ names rows
reserve_names-of [] sizes e = refl
reserve_names-of (r ∷ rs) [] e = absurd (omega arith)
reserve_names-of (r ∷ rs) (n ∷ ns) e = let same : length ns ≡ length rs = omega arith in ap (λ l. r.name ∷ l) (reserve_names-of rs ns same)

pub sizes-of : (rows : List PoolRow) (sizes : List ℕ) → length sizes ≡ length rows → map (λ e. e.size) (reserves_of rows sizes) ≡ sizes
sizes-of [] [] e = refl
sizes-of [] (n ∷ ns) e = absurd (omega arith)
sizes-of (r ∷ rs) [] e = absurd (omega arith)
sizes-of (r ∷ rs) (n ∷ ns) e = let same : length ns ≡ length rs = omega arith in ap (λ l. n ∷ l) (sizes-of rs ns same)

-- and reserves with the names of rows are those rows with their sizes
pub reserves-again : (rows : List PoolRow) (es : List Reserve) → reserve_names es ≡ names rows → reserves_of rows (map (λ e. e.size) es) ≡ es
reserves-again [] [] e = refl
reserves-again [] (x ∷ xs) e = let none : x.pool ∷ reserve_names xs ≡ [] = e in absurd (cc)
reserves-again (r ∷ rs) [] e = let none : [] ≡ r.name ∷ names rs = e in absurd (cc)
reserves-again (r ∷ rs) (x ∷ xs) e =
    let first : x.pool ≡ r.name = cc in
    let rest : reserve_names xs ≡ names rs = cc in
    let here : Reserve = record { pool = r.name; size = x.size } in
    let same : here ≡ x = ap (λ (n : Name). let y : Reserve = record { pool = n; size = x.size } in y) (sym first) in
    ap (λ l. here ∷ l) (reserves-again rs xs rest) ∙ ap (λ y. y ∷ xs) same

-- what all running queries pass, all that they hold passes
holdings-all : (test : Name → Bool) (running : List Runner) → list_all (λ r. test r.pool) running ≡ true → list_all (λ g. test g.pool) (holdings running) ≡ true
holdings-all test [] all = refl
holdings-all test (r ∷ rs) all =
    let rest = holdings-all test rs (and_right (test r.pool) (list_all (λ x. test x.pool) rs) all) in
    and_both (test r.pool) _ (and_left (test r.pool) (list_all (λ x. test x.pool) rs) all) rest

-- a pool is there just where it is named
names-all : (s : State) → IsSound s.definitions → AreSized s.definitions s.actual s.counters
    → names s.definitions.pools ≡ general ∷ reserve_names (holdings_of s).reserves
names-all s sound sized =
    let pools = s.definitions.pools in
    pool_names pools sound.general_first ∙ ap (λ l. general ∷ l) (sym (reserve_names-of (user_pools pools) s.actual sized.sizes))

pub named-pool : (s : State) → IsSound s.definitions → AreSized s.definitions s.actual s.counters
    → (n : Name) → has_pool s.definitions n ≡ list_any (same_name n) (general ∷ reserve_names (holdings_of s).reserves)
named-pool s sound sized n = is_called s.definitions.pools n ∙ ap (list_any (same_name n)) (names-all s sound sized)

-- the bytes of a state with sound definitions are named
pub named : (s : State) → IsSound s.definitions → AreSized s.definitions s.actual s.counters → AreThere s.definitions s.sessions s.waiting s.running → AreNamed (holdings_of s)
named s sound sized there = record {
  distinct = subst (λ l. are_distinct l ≡ true) (names-all s sound sized) sound.pools_distinct;
  known = holdings-all (λ n. list_any (same_name n) (general ∷ reserve_names (holdings_of s).reserves)) s.running
      ((λ i. list_all (λ (r : Runner). sym (named-pool s sound sized r.pool) i) s.running) ∙ there.runs);
}

-- the bytes with one grant more
abbrev pub with_grant : Holdings → Holding → Holdings
with_grant h g = record h { grants = h.grants ++ g ∷ [] }

-- the use of a pool with it
pub used-push : (p : Name) (grants : List Holding) (g : Holding) → used p (grants ++ g ∷ []) ≡ used p grants + held_in p g
used-push p grants g = sum_by_push (held_in p) grants g

held_here : (p : Name) (g : Holding) → same_name g.pool p ≡ true → held_in p g ≡ g.bytes
held_here p g h = ap {B = ℕ} (λ b. cond b g.bytes 0) h

held_elsewhere : (p : Name) (g : Holding) → same_name g.pool p ≡ false → held_in p g ≡ 0
held_elsewhere p g h = ap {B = ℕ} (λ b. cond b g.bytes 0) h

-- the debts of other pools stay
debts-other : (grants : List Holding) (g : Holding) (es : List Reserve) → list_any (same_name g.pool) (reserve_names es) ≡ false
    → sum_by (debt (grants ++ g ∷ [])) es ≡ sum_by (debt grants) es
debts-other grants g [] h = refl
debts-other grants g (e ∷ es) h =
    let rest = debts-other grants g es (or_right_false (same_name g.pool e.pool) _ h) in
    let same : used e.pool (grants ++ g ∷ []) ≡ used e.pool grants =
    omega (arith, used-push e.pool grants g, held_elsewhere e.pool g (or_left_false (same_name g.pool e.pool) _ h)) in
    sum_by-cons (debt (grants ++ g ∷ [])) e es ∙ omega (arith, rest, same) ∙ sym (sum_by-cons (debt grants) e es)

debts-turn : (grants : List Holding) (g : Holding) (e : Reserve) (es : List Reserve) (b : Bool) → same_name e.pool g.pool ≡ b
    → list_any (same_name e.pool) (reserve_names es) ≡ false
    → sum_by (debt (grants ++ g ∷ [])) es ≤ sum_by (debt grants) es + (g.bytes - min g.bytes (worth (unused grants) es g.pool))
    → sum_by (debt (grants ++ g ∷ [])) (e ∷ es) ≤ sum_by (debt grants) (e ∷ es) + (g.bytes - min g.bytes (worth (unused grants) (e ∷ es) g.pool))
debts-turn grants g e es true here others rest =
    let same : e.pool ≡ g.pool = same_name-eq e.pool g.pool here in
    let free : list_any (same_name g.pool) (reserve_names es) ≡ false = subst (λ n. list_any (same_name n) (reserve_names es) ≡ false) same others in
    let unused_here : worth (unused grants) (e ∷ es) g.pool ≡ unused grants e = rw (here, worth) refl in
    omega (
      arith,
      unused_here,
      debts-other grants g es free,
      used-push e.pool grants g,
      held_here e.pool g (same_name-sym g.pool e.pool ∙ here),
      sum_by-cons (debt (grants ++ g ∷ [])) e es,
      sum_by-cons (debt grants) e es,
    )
debts-turn grants g e es false here others rest =
    let unused_there : worth (unused grants) (e ∷ es) g.pool ≡ worth (unused grants) es g.pool = rw (here, worth) refl in
    omega (
      arith,
      rest,
      unused_there,
      used-push e.pool grants g,
      held_elsewhere e.pool g (same_name-sym g.pool e.pool ∙ here),
      sum_by-cons (debt (grants ++ g ∷ [])) e es,
      sum_by-cons (debt grants) e es,
    )

-- the debts with one grant more: they grow by what it needs of GENERAL's bytes at most
debts-push : (grants : List Holding) (g : Holding) (es : List Reserve) → are_distinct (reserve_names es) ≡ true
    → sum_by (debt (grants ++ g ∷ [])) es ≤ sum_by (debt grants) es + (g.bytes - min g.bytes (worth (unused grants) es g.pool))
debts-push grants g [] distinct = omega arith
debts-push grants g (e ∷ es) distinct =
    debts-turn grants g e es (same_name e.pool g.pool) refl (apart e.pool (reserve_names es) distinct) (debts-push grants g es (apart-rest e.pool (reserve_names es) distinct))

-- a name that no reserve has is worth nothing
absent-worth : (f : Reserve → ℕ) (p : Name) (es : List Reserve) → list_any (same_name p) (reserve_names es) ≡ false → worth f es p ≡ 0
absent-worth f p [] h = refl
absent-worth f p (e ∷ es) h =
    ap (λ b. of_reserve f (cond b (Some e) (find (λ x. same_name x.pool p) es))) (same_name-sym e.pool p ∙ or_left_false (same_name p e.pool) _ h)
    ∙ absent-worth f p es (or_right_false (same_name p e.pool) _ h)

-- GENERAL's use with one grant more
lent-turn : (h : Holdings) (g : Holding) (b : Bool) → same_name g.pool general ≡ b → are_distinct (general ∷ reserve_names h.reserves) ≡ true
    → lent (with_grant h g) ≤ lent h + need h g.pool g.bytes
lent-turn h g true here distinct =
    let absent : list_any (same_name g.pool) (reserve_names h.reserves) ≡ false =
    subst (λ n. list_any (same_name n) (reserve_names h.reserves) ≡ false) (sym (same_name-eq g.pool general here)) (apart general (reserve_names h.reserves) distinct) in
    omega (
      arith,
      debts-other h.grants g h.reserves absent,
      absent-worth (unused h.grants) g.pool h.reserves absent,
      used-push general h.grants g,
      held_here general g here,
    )
lent-turn h g false here distinct =
    omega (
      arith,
      debts-push h.grants g h.reserves (apart-rest general (reserve_names h.reserves) distinct),
      used-push general h.grants g,
      held_elsewhere general g here,
    )

pub lent-push : (h : Holdings) (g : Holding) → are_distinct (general ∷ reserve_names h.reserves) ≡ true → lent (with_grant h g) ≤ lent h + need h g.pool g.bytes
lent-push h g distinct = lent-turn h g (same_name g.pool general) refl distinct

-- with one grant more GENERAL lends no less
pub debts-more : (grants : List Holding) (g : Holding) (es : List Reserve) → sum_by (debt grants) es ≤ sum_by (debt (grants ++ g ∷ [])) es
debts-more grants g [] = omega arith
debts-more grants g (e ∷ es) =
    omega (arith, debts-more grants g es, used-push e.pool grants g, sum_by-cons (debt (grants ++ g ∷ [])) e es, sum_by-cons (debt grants) e es)

pub lent-more : (h : Holdings) (g : Holding) → lent h ≤ lent (with_grant h g)
lent-more h g = omega (arith, debts-more h.grants g h.reserves, used-push general h.grants g)

-- where every pool uses no more, GENERAL lends no more
debts-less : (old new : List Holding) (es : List Reserve) → ((p : Name) → used p new ≤ used p old) → sum_by (debt new) es ≤ sum_by (debt old) es
debts-less old new [] less = omega arith
debts-less old new (e ∷ es) less = omega (arith, debts-less old new es less, less e.pool, sum_by-cons (debt new) e es, sum_by-cons (debt old) e es)

pub lent-less : (h : Holdings) (new : List Holding) → ((p : Name) → used p new ≤ used p h.grants)
    → (let u : Holdings = record h { grants = new } in lent u ≤ lent h)
lent-less h new less = omega (arith, debts-less h.grants new h.reserves less, less general)

-- where no pool uses any bytes, nothing is lent
debts-none : (grants : List Holding) (es : List Reserve) → ((p : Name) → used p grants ≡ 0) → sum_by (debt grants) es ≡ 0
debts-none grants [] none = refl
debts-none grants (e ∷ es) none = omega (arith, sum_by-cons (debt grants) e es, none e.pool, debts-none grants es none)

pub lent-none : (h : Holdings) → ((p : Name) → used p h.grants ≡ 0) → lent h ≡ 0
lent-none h none = omega (arith, none general, debts-none h.grants h.reserves none)
