-- The quantity is conserved wherever the bytes are covered, and what is admitted is within its pool's cap.
use Rattle.std.specs.Prelude.{◌≡◌, ℕ, ◌+◌, ◌-◌, ◌≤◌, Bool, true, false, ◌&&◌, List, [], ◌∷◌, ◌++◌, Option, Some, None, find, min, sum_by, refl}
use Rattle.std.specs.List.{list_all, list_any}
use Rattle.std.proofs.Common.{sym, ap, ◌∙◌, subst, arith}
use Rattle.std.proofs.lemmas.List.Sums.{sum_by-cons, sum_by_push}
use Rattle.rm_base.specs.declared.definitions.Definitions.{Definitions}
use Rattle.rm_base.specs.declared.entry.Account.{Account}
use Rattle.rm_base.specs.declared.name.Name.{Name}
use Rattle.rm_base.specs.Name.{same_name, general}
use Rattle.rm_base.proofs.Names.{same_name-eq}
use Rattle.rm_rules.specs.declared.state.Holding.{Holding}
use Rattle.rm_rules.specs.declared.state.Reserve.{Reserve}
use Rattle.rm_rules.specs.State.{State}
use Rattle.rm_rules.specs.Holdings.{Holdings, holdings_of, reserve_names}
use Rattle.rm_rules.specs.Accounting.{held_in, used, own, debt, unused, of_reserve, own_of, actual_of, lent, granted, unused_reserves, taken_up, account_behind, accounts_behind, accounts}
use Rattle.rm_rules.specs.Sound.{IsSound}
use Rattle.rm_rules.specs.Healthy.{AreSized, AreThere, AreCovered}
use Rattle.rm_rules.specs.Conserved.{own_in, from_general, AreConserved, IsConserved}
use Rattle.rm_rules.proofs.Pools.{in_pool, worth, split_by_pools, others_agree, worth_of_all, sum_by-map}
use Rattle.rm_rules.proofs.Bytes.{AreNamed, named, apart, apart-rest}

-- a sum over items, each in a pool that is named, is GENERAL's part and the parts of the others
split : {A : Type 0} (h : Holdings) (pool : A → Name) (f : A → ℕ) (xs : List A) → AreNamed h
    → list_all (λ x. list_any (same_name (pool x)) (general ∷ reserve_names h.reserves)) xs ≡ true
    → sum_by f xs ≡ sum_by (in_pool pool f general) xs + sum_by (λ p. sum_by (in_pool pool f p) xs) (reserve_names h.reserves)
split h pool f xs named known =
    split_by_pools pool f (general ∷ reserve_names h.reserves) xs named.distinct known
    ∙ sum_by-cons (λ p. sum_by (in_pool pool f p) xs) general (reserve_names h.reserves)

-- for each reserve, used and unused bytes are its size and its debt
balance : (grants : List Holding) (es : List Reserve)
    → sum_by (λ e. used e.pool grants) es + sum_by (unused grants) es ≡ sum_by (λ e. e.size) es + sum_by (debt grants) es
balance grants [] = refl
balance grants (e ∷ es) =
    omega (
      arith,
      sum_by-cons (λ (x : Reserve). used x.pool grants) e es,
      sum_by-cons (unused grants) e es,
      sum_by-cons (λ (x : Reserve). x.size) e es,
      sum_by-cons (debt grants) e es,
      balance grants es,
    )

-- and the used bytes are own bytes and debt
own-debt : (grants : List Holding) (es : List Reserve)
    → sum_by (own grants) es + sum_by (debt grants) es ≡ sum_by (λ e. used e.pool grants) es
own-debt grants [] = refl
own-debt grants (e ∷ es) =
    omega (
      arith,
      sum_by-cons (λ (x : Reserve). used x.pool grants) e es,
      sum_by-cons (own grants) e es,
      sum_by-cons (debt grants) e es,
      own-debt grants es,
    )

-- what the queries hold is what GENERAL's hold and what the pools of the reserves use
granted_split : (h : Holdings) → AreNamed h → granted h ≡ used general h.grants + sum_by (λ e. used e.pool h.grants) h.reserves
granted_split h named =
    split h (λ (g : Holding). g.pool) (λ (g : Holding). g.bytes) h.grants named named.known
    ∙ ap (λ n. used general h.grants + n) (sum_by-map (λ p. used p h.grants) (λ (e : Reserve). e.pool) h.reserves)

-- what is granted and unused is what is reserved and lent
granted-unused : (h : Holdings) → AreNamed h → granted h + unused_reserves h ≡ taken_up h
granted-unused h named = omega (arith, granted_split h named, balance h.grants h.reserves)

-- while what is reserved and lent is in force, so is what is granted
pub granted-within : (h : Holdings) → AreNamed h → taken_up h ≤ h.in_force → granted h ≤ h.in_force
granted-within h named within = omega (arith, granted-unused h named, within)

-- each account is its query's grant
account_whole : (h : Holdings) (before : List Holding) (g : Holding) (b : Bool) → same_name g.pool general ≡ b
    → (account_behind h before g).own + (account_behind h before g).borrowed ≡ g.bytes
account_whole h before g true e = rw e (omega arith)
account_whole h before g false e = rw e (omega arith)

-- an account's own bytes, in the sum over another pool than GENERAL
account_own : (h : Holdings) (p : Name) (before : List Holding) (g : Holding) (b : Bool) → same_name p general ≡ false → same_name g.pool p ≡ b
    → own_in p (account_behind h before g) ≡ min (held_in p g) (own_of h p - used p before)
account_own h p before g true other e =
    let same : g.pool ≡ p = same_name-eq g.pool p e in
    let here : same_name g.pool general ≡ false = subst (λ q. same_name q general ≡ false) (sym same) other in
    rw (e, here) (ap (λ q. min g.bytes (own_of h q - used q before)) same)
account_own h p before g false other e = rw e (omega arith)

accounts_own : (h : Holdings) (p : Name) (before rest : List Holding) → same_name p general ≡ false
    → sum_by (own_in p) (accounts_behind h before rest) ≡ min (used p rest) (own_of h p - used p before)
accounts_own h p before [] other = omega arith
accounts_own h p before (g ∷ gs) other =
    omega (
      arith,
      sum_by-cons (own_in p) (account_behind h before g) (accounts_behind h (before ++ g ∷ []) gs),
      account_own h p before g (same_name g.pool p) other refl,
      accounts_own h p (before ++ g ∷ []) gs other,
      sum_by_push (held_in p) before g,
      sum_by-cons (held_in p) g gs,
    )

-- the own bytes of a pool are within its use, and within its size
worth_turn : (grants : List Holding) (e : Reserve) (es : List Reserve) (p : Name) (b : Bool) → same_name e.pool p ≡ b
    → worth (own grants) es p ≤ used p grants → worth (own grants) (e ∷ es) p ≤ used p grants
worth_turn grants e es p true is behind =
    let same : used e.pool grants ≡ used p grants = ap (λ q. used q grants) (same_name-eq e.pool p is) in
    let here : own grants e ≤ used p grants = omega (arith, same) in
    rw (is, worth) here
worth_turn grants e es p false is behind = rw (is, worth) behind

worth-used : (grants : List Holding) (es : List Reserve) (p : Name) → worth (own grants) es p ≤ used p grants
worth-used grants [] p = omega arith
worth-used grants (e ∷ es) p = worth_turn grants e es p (same_name e.pool p) refl (worth-used grants es p)

own-found : (grants : List Holding) (o : Option Reserve) → of_reserve (own grants) o ≤ of_reserve (λ e. e.size) o
own-found grants None = omega arith
own-found grants (Some e) = omega arith

own_of-actual : (h : Holdings) (p : Name) → own_of h p ≤ actual_of h p
own_of-actual h p = own-found h.grants (find (λ e. same_name e.pool p) h.reserves)

own_bytes-all : (h : Holdings) (p : Name) → same_name p general ≡ false → sum_by (own_in p) (accounts h) ≡ own_of h p
own_bytes-all h p other =
    let within : own_of h p ≤ used p h.grants = worth-used h.grants h.reserves p in
    let nothing : used p [] ≡ 0 = refl in
    omega (arith, accounts_own h p [] h.grants other, within, nothing)

-- an account's pool is its query's
accounts_known : (h : Holdings) (test : Name → Bool) (before rest : List Holding) → list_all (λ a. test a.pool) (accounts_behind h before rest) ≡ list_all (λ g. test g.pool) rest
accounts_known h test before [] = refl
accounts_known h test before (g ∷ gs) = ap (λ b. test g.pool && b) (accounts_known h test (before ++ g ∷ []) gs)

-- GENERAL's part of an account, and its own bytes
account_general : (h : Holdings) (before : List Holding) (g : Holding) (b : Bool) → same_name g.pool general ≡ b
    → (from_general (account_behind h before g) + (account_behind h before g).own ≡ g.bytes + held_in general g)
    × (own_in general (account_behind h before g) ≡ held_in general g)
account_general h before g true e = rw e (omega arith, refl)
account_general h before g false e = rw e (omega arith, refl)

accounts_general : (h : Holdings) (before rest : List Holding)
    → (sum_by from_general (accounts_behind h before rest) + sum_by (λ a. a.own) (accounts_behind h before rest) ≡ sum_by (λ g. g.bytes) rest + used general rest)
    × (sum_by (own_in general) (accounts_behind h before rest) ≡ used general rest)
accounts_general h before [] = (refl, refl)
accounts_general h before (g ∷ gs) =
    let a = account_behind h before g in
    let more = accounts_behind h (before ++ g ∷ []) gs in
    let here = account_general h before g (same_name g.pool general) refl in
    let behind = accounts_general h (before ++ g ∷ []) gs in (
      omega (arith, sum_by-cons from_general a more, sum_by-cons (λ (x : Account). x.own) a more, sum_by-cons (λ (x : Holding). x.bytes) g gs, sum_by-cons (held_in general) g gs, here.0, behind.0),
      omega (arith, sum_by-cons (own_in general) a more, sum_by-cons (held_in general) g gs, here.1, behind.1),
    )

-- the own bytes in all accounts
own_split : (h : Holdings) → AreNamed h → sum_by (λ a. a.own) (accounts h) ≡ used general h.grants + sum_by (own h.grants) h.reserves
own_split h named =
    let ns = reserve_names h.reserves in
    let there = accounts_known h (λ n. list_any (same_name n) (general ∷ ns)) [] h.grants ∙ named.known in
    let parts = split h (λ (a : Account). a.pool) (λ (a : Account). a.own) (accounts h) named there in
    let each = others_agree (λ p. sum_by (own_in p) (accounts h)) (own_of h) ns (apart general ns named.distinct) (own_bytes-all h) in
    let whole = worth_of_all (own h.grants) h.reserves (apart-rest general ns named.distinct) in
    omega (arith, parts, (accounts_general h [] h.grants).1, each, whole)

-- what is borrowed, and what GENERAL's queries hold, is what GENERAL lends
borrowed-lent : (h : Holdings) → AreNamed h → sum_by from_general (accounts h) ≡ lent h
borrowed-lent h named =
    omega (arith, (accounts_general h [] h.grants).0, own_split h named, granted_split h named, own-debt h.grants h.reserves)

pub are-conserved : (d : Definitions) (h : Holdings) → AreNamed h → AreCovered d h → AreConserved d h
are-conserved d h named covered =
    record {
      adds_up = omega (arith, granted-unused h named, covered.held.within);
      never_negative = covered.held.within;
      accounts_whole = λ before rest g _. account_whole h before g (same_name g.pool general) refl;
      own_bytes = own_bytes-all h;
      own_within = own_of-actual h;
      borrowed_bytes = borrowed-lent h named;
      lent_within = omega (arith, covered.held.within);
      total_in_force = covered.in_force_least;
      full_above_total = covered.full_above_total;
    }

pub conserved : (s : State) → IsSound s.definitions → AreSized s.definitions s.actual s.counters → AreThere s.definitions s.sessions s.waiting s.running
    → AreCovered s.definitions (holdings_of s) → IsConserved s
conserved s sound sized there covered = are-conserved s.definitions (holdings_of s) (named s sound sized there) covered
