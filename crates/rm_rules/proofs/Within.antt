-- What is admitted is within its pool's cap, and stays so while others are admitted after it.
use Rattle.std.proofs.Common.{◌≡◌, ℕ, ◌+◌, ◌≤◌, Bool, true, false, cond, eqb, List, [], ◌∷◌, ◌++◌, Some, None, refl, sym, ap, ◌∙◌, subst, arith, append_assoc, append-nil}
use Rattle.std.specs.Prelude.{nat_le}
use Rattle.std.specs.List.{find, list_all}
use Rattle.std.proofs.lemmas.Bool.{leb-true, le-leb}
use Rattle.std.proofs.lemmas.List.{map_push}
use Rattle.rm_base.specs.declared.definitions.Definitions.{Definitions}
use Rattle.rm_base.specs.declared.name.Name.{Name}
use Rattle.rm_base.specs.Name.{same_name}
use Rattle.rm_base.proofs.Names.{same_name-refl, same_name-eq}
use Rattle.rm_rules.specs.declared.state.Holding.{Holding}
use Rattle.rm_rules.specs.declared.state.Waiter.{Waiter}
use Rattle.rm_rules.specs.declared.state.Runner.{Runner}
use Rattle.rm_rules.specs.Definitions.{pool_row}
use Rattle.rm_rules.specs.Budget.{threshold}
use Rattle.rm_rules.specs.Ask.{cap}
use Rattle.rm_rules.specs.State.{State, without_runner}
use Rattle.rm_rules.specs.Holdings.{Holdings, holding, holdings, holdings_of}
use Rattle.rm_rules.specs.Accounting.{held_in, used, running_in}
use Rattle.rm_rules.specs.Fit.{has_place, poolfit, judged}
use Rattle.rm_rules.specs.Moving.{holdings_without, allows_grant, takes, moved, moved_on}
use Rattle.rm_rules.specs.Admission.{ask_of, first_entitled, started, admitted}
use Rattle.rm_rules.specs.Settle.{settled}
use Rattle.rm_rules.specs.Grants.{runner_called}
use Rattle.rm_rules.proofs.Taken.{and_left, and_right, all_push, all_found, all_wider}
use Rattle.rm_rules.proofs.Bytes.{used-push}
use Rattle.rm_rules.proofs.Queue.{first_entitled_fits}
use Rattle.rm_rules.proofs.Found.{found-behind}
use Rattle.rm_rules.proofs.Settling.{settled-keeps}

-- the use of a pool with one query more
used-more : (p : Name) (running : List Runner) (r : Runner) → used p (holdings (running ++ r ∷ [])) ≡ used p (holdings running) + held_in p (holding r)
used-more p running r = ap (used p) (map_push holding running r) ∙ used-push p (holdings running) (holding r)

-- what fits in a pool leaves its use within its cap
fits-cap : (d : Definitions) (h : Holdings) (pool : Name) (bytes : ℕ) → (judged d h pool bytes).fits ≡ true → used pool h.grants + bytes ≤ cap d (pool_row d pool)
fits-cap d h pool bytes fits =
    let row = pool_row d pool in
    let lets_in = and_left (poolfit d h pool bytes) _ fits in
    let behind = and_right (has_place row (running_in pool h.grants)) _ lets_in in
    leb-true (used pool h.grants + bytes) (cap d row) (and_right (nat_le (used pool h.grants) (threshold d row)) _ behind)

-- so it is right after an admission, and where a query moved on to the pool
pub used-within-cap : (s : State) (w : Waiter) → first_entitled s ≡ Some w
    → used w.pool (holdings (admitted s w).running) ≤ cap s.definitions (pool_row s.definitions w.pool)
used-within-cap s w picked =
    let grant : held_in w.pool (holding (started s w)) ≡ ask_of s.definitions w =
    ap {B = ℕ} (λ b. cond b (ask_of s.definitions w) 0) (same_name-refl w.pool) in
    omega (arith, used-more w.pool s.running (started s w), grant, fits-cap s.definitions (holdings_of s) w.pool (ask_of s.definitions w) (first_entitled_fits s w picked).1)

pub moved-within-cap : (s : State) (r : Runner) (pool : Name) → takes s r pool ≡ true
    → used pool (holdings (moved_on s r pool).running) ≤ cap s.definitions (pool_row s.definitions pool)
moved-within-cap s r pool taken =
    let left = holdings_without s r.session in
    let grant : held_in pool (holding (moved s.clock pool r)) ≡ r.grant = ap {B = ℕ} (λ b. cond b r.grant 0) (same_name-refl pool) in
    let fits = and_left (judged s.definitions left pool r.grant).fits (allows_grant s.definitions pool r.grant) taken in
    omega (arith, used-more pool (without_runner r.session s.running) (moved s.clock pool r), grant, fits-cap s.definitions left pool r.grant fits)

-- the use of the query's pool is within its cap
abbrev pub is_within : Definitions → List Holding → Runner → Bool
is_within d grants r = nat_le (used r.pool grants) (cap d (pool_row d r.pool))

-- an admission uses nothing of other pools, and leaves its own within its cap
stays-turn : (s : State) (w : Waiter) (p : Name) (b : Bool) → same_name w.pool p ≡ b → first_entitled s ≡ Some w
    → used p (holdings s.running) ≤ cap s.definitions (pool_row s.definitions p)
    → used p (holdings (admitted s w).running) ≤ cap s.definitions (pool_row s.definitions p)
stays-turn s w p true here picked was =
    subst (λ n. used n (holdings (admitted s w).running) ≤ cap s.definitions (pool_row s.definitions n)) (same_name-eq w.pool p here) (used-within-cap s w picked)
stays-turn s w p false here picked was =
    let nothing : held_in p (holding (started s w)) ≡ 0 = ap {B = ℕ} (λ b. cond b (ask_of s.definitions w) 0) here in
    omega (arith, used-more p s.running (started s w), nothing, was)

-- so a pool that is within its cap stays so while others are admitted
pub stays-within : (s : State) (p : Name) → used p (holdings s.running) ≤ cap s.definitions (pool_row s.definitions p)
    → used p (holdings (settled s).running) ≤ cap (settled s).definitions (pool_row (settled s).definitions p)
stays-within s p was =
    settled-keeps (λ t. used p (holdings t.running) ≤ cap t.definitions (pool_row t.definitions p))
    (λ t w end among h. h) (λ t h. h) (λ t w picked h. stays-turn t w p (same_name w.pool p) refl picked h) s was

within-admitted : (s : State) (w : Waiter) (more : List Runner) → first_entitled s ≡ Some w → list_all (is_within s.definitions (holdings s.running)) more ≡ true
    → list_all (is_within s.definitions (holdings (admitted s w).running)) (more ++ started s w ∷ []) ≡ true
within-admitted s w more picked all =
    let d = s.definitions in
    let then = holdings (admitted s w).running in
    all_push (is_within d then) more (started s w)
    (all_wider (is_within d (holdings s.running)) (is_within d then) more
    (λ r was.
    le-leb (used r.pool then) (cap d (pool_row d r.pool))
    (stays-turn s w r.pool (same_name w.pool r.pool) refl picked (leb-true (used r.pool (holdings s.running)) (cap d (pool_row d r.pool)) was))
    )
    all)
    (le-leb (used w.pool then) (cap d (pool_row d w.pool)) (used-within-cap s w picked))

-- Others run behind those that ran, each within the cap of its pool.
pub record HasMore (old new : State) : Type 0 where
  pub definitions : new.definitions ≡ old.definitions
  pub more : List Runner
  pub split : new.running ≡ old.running ++ more
  pub within : list_all (is_within new.definitions (holdings new.running)) more ≡ true

more-admitted : (old s : State) (w : Waiter) → first_entitled s ≡ Some w → HasMore old s → HasMore old (admitted s w)
more-admitted old s w picked h = record {
  definitions = h.definitions;
  more = h.more ++ started s w ∷ [];
  split = ap (λ l. l ++ started s w ∷ []) h.split ∙ append_assoc old.running h.more (started s w ∷ []);
  within = within-admitted s w h.more picked h.within;
}

-- so after settling each query that runs since is within the cap of its pool
pub more-settled : (s : State) → HasMore s (settled s)
more-settled s =
    settled-keeps (HasMore s)
    (λ t w end among h. record { definitions = h.definitions; more = h.more; split = h.split; within = h.within })
    (λ t h. record { definitions = h.definitions; more = h.more; split = h.split; within = h.within })
    (λ t w picked h. more-admitted s t w picked h)
    s (record { definitions = refl; more = []; split = sym (append-nil s.running); within = refl })

-- a query that runs since is one of these
pub within-settled : (s : State) (query : ℕ) (r : Runner) → runner_called s.running query ≡ None → runner_called (settled s).running query ≡ Some r
    → used r.pool (holdings (settled s).running) ≤ cap s.definitions (pool_row s.definitions r.pool)
within-settled s query r none found =
    let h = more-settled s in
    let test = λ (x : Runner). eqb x.query query in
    let behind : find test h.more ≡ Some r =
    found-behind test r s.running h.more none (subst (λ (l : List Runner). find test l ≡ Some r) h.split found) in
    let within = all_found (is_within (settled s).definitions (holdings (settled s).running)) test h.more r h.within behind in
    subst (λ d. used r.pool (holdings (settled s).running) ≤ cap d (pool_row d r.pool)) h.definitions
    (leb-true (used r.pool (holdings (settled s).running)) (cap (settled s).definitions (pool_row (settled s).definitions r.pool)) within)
