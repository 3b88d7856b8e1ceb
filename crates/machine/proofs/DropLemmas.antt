-- What the fields of a machine are once a pool was dropped.
use Rattle.std.proofs.Common.{◌≡◌, ◌<◌, ◌≤◌, ℕ, ◌+◌, suc, Bool, true, false, cond, not, Option, Some, None, List, [], ◌∷◌, length, Ok, IsOk, refl, sym, ap, ◌∙◌, subst, arith, position, remove, map}
use Rattle.std.specs.List.{position_or_len}
use Rattle.std.proofs.lemmas.Bool.{false≢true}
use Rattle.rm_base.specs.declared.definitions.Definitions.{Definitions}
use Rattle.rm_base.specs.declared.entry.EndCounts.{EndCounts}
use Rattle.rm_base.specs.declared.name.Name.{Name}
use Rattle.rm_base.specs.declared.rows.PoolRow.{PoolRow}
use Rattle.rm_base.specs.declared.statement.Statement.TheVariants.{DropPool}
use Rattle.rm_base.specs.declared.refusal.Refusal.{Refusal}
use Rattle.rm_base.specs.Name.{same_name, general}
use Rattle.rm_base.proofs.Names.{same_name-sym}
use Rattle.rm_rules.specs.declared.state.Reserve.{Reserve}
use Rattle.rm_rules.specs.declared.state.Runner.{Runner}
use Rattle.rm_rules.specs.declared.state.Session.{Session}
use Rattle.rm_rules.specs.declared.state.Waiter.{Waiter}
use Rattle.rm_rules.specs.Definitions.{user_pools}
use Rattle.rm_rules.specs.State.{State, without}
use Rattle.rm_rules.specs.Holdings.{Holdings, holdings_of, reserves_of}
use Rattle.rm_rules.specs.Refusals.{unless_refused}
use Rattle.rm_rules.specs.Tables.{without_row}
use Rattle.rm_rules.specs.Acceptance.{counted, accepted}
use Rattle.rm_rules.specs.DropPool.{drop_pool_refusal, without_place, without_pool, session_beside, runner_beside, transferred, goes_before, is_reserve_of, folded, dropped}
use Rattle.rm_rules.specs.Sound.{IsSound, has_pool, are_distinct}
use Rattle.rm_rules.specs.Healthy.{AreSized}
use Rattle.rm_rules.proofs.DropLaws.{drop-free}
use Rattle.rm_rules.proofs.AcceptanceLaws.{accepted-left}
use Rattle.rm_rules.proofs.Pools.{names, pool_names}
use Rattle.rm_rules.proofs.Bytes.{apart-rest, sizes-of}
use Rattle.rm_rules.proofs.Dropping.{length-placed, reserves-placed, bytes-dropped}
use Rattle.rm_rules.proofs.Places.{position-within, position-is, position-past}
use Rattle.machine.specs.declared.machine.Machine.TheInside.{Inside}
use Rattle.machine.specs.Inside.{seen_state, IsTied}

-- the place of the pool
abbrev place : Name → List PoolRow → ℕ
place pool rs = position_or_len (λ r. same_name r.name pool) rs

first-turn : {A : Type 0} (r : PoolRow) (rs : List PoolRow) (pool : Name) (x : A) (xs : List A) (b : Bool)
    → (place pool rs < length rs → without_place rs pool xs ≡ remove xs (place pool rs)) → cond (not b) (1 + place pool rs) 0 < length (r ∷ rs)
    → cond b xs (x ∷ without_place rs pool xs) ≡ remove (x ∷ xs) (cond (not b) (1 + place pool rs) 0)
first-turn r rs pool x xs true rest within = refl
first-turn r rs pool x xs false rest within =
    let e : 1 + place pool rs ≡ suc (place pool rs) = omega arith in
    rw e (ap (λ ys. x ∷ ys) (rest (omega arith)))

place-first : {A : Type 0} (rs : List PoolRow) (pool : Name) (xs : List A) → length xs ≡ length rs → place pool rs < length rs → without_place rs pool xs ≡ remove xs (place pool rs)
place-first [] pool xs sizes within = absurd (omega arith)
place-first (r ∷ rs) pool [] sizes within = absurd (omega (arith, sizes))
place-first (r ∷ rs) pool (x ∷ xs) sizes within = first-turn r rs pool x xs (same_name r.name pool) (place-first rs pool xs (omega (arith, sizes))) within

none-turn : {A : Type 0} (r : PoolRow) (rs : List PoolRow) (pool : Name) (x : A) (xs : List A) (b : Bool) → (length rs ≤ place pool rs → without_place rs pool xs ≡ xs)
    → length (r ∷ rs) ≤ cond (not b) (1 + place pool rs) 0 → cond b xs (x ∷ without_place rs pool xs) ≡ x ∷ xs
none-turn r rs pool x xs true rest past = absurd (omega arith)
none-turn r rs pool x xs false rest past = ap (λ ys. x ∷ ys) (rest (omega arith))

place-none : {A : Type 0} (rs : List PoolRow) (pool : Name) (xs : List A) → length xs ≡ length rs → length rs ≤ place pool rs → without_place rs pool xs ≡ xs
place-none [] pool xs sizes past = refl
place-none (r ∷ rs) pool [] sizes past = absurd (omega (arith, sizes))
place-none (r ∷ rs) pool (x ∷ xs) sizes past = none-turn r rs pool x xs (same_name r.name pool) (place-none rs pool xs (omega (arith, sizes))) past

-- the counts without those of the pool
pub without_place-found : {A : Type 0} (rs : List PoolRow) (pool : Name) (xs : List A) (i : ℕ) → length xs ≡ length rs → position (λ r. same_name r.name pool) rs ≡ Some i
    → without_place rs pool xs ≡ remove xs i
without_place-found rs pool xs i sizes found =
    place-first rs pool xs sizes (position-within (λ r. same_name r.name pool) rs i found) ∙ ap (λ k. remove xs k) (position-is (λ r. same_name r.name pool) rs i found)

pub without_place-absent : {A : Type 0} (rs : List PoolRow) (pool : Name) (xs : List A) → length xs ≡ length rs → (let o : Option ℕ = None in position (λ r. same_name r.name pool) rs ≡ o)
    → without_place rs pool xs ≡ xs
without_place-absent rs pool xs sizes absent = place-none rs pool xs sizes (position-past (λ r. same_name r.name pool) rs absent)

-- a drop that is accepted is of a pool that is there and is not GENERAL, and leaves all others
pub record LeavesOthers (d : Definitions) (pool : Name) (new : Definitions) : Type 0 where
  pub user : same_name pool general ≡ false
  pub left : new.pools ≡ without_row (λ r. r.name) pool d.pools

drop-turn : (d : Definitions) (pool : Name) (o : Option Refusal) → drop_pool_refusal d pool ≡ o → IsOk (unless_refused o (counted (without_pool d pool))) → o ≡ None
drop-turn d pool None is ok = refl
drop-turn d pool (Some r) is ok = absurd (false≢true ok)

pub drop-there : (d : Definitions) (pool : Name) → IsOk (accepted d (DropPool pool)) → (has_pool d pool ≡ true) × (same_name pool general ≡ false)
drop-there d pool ok =
    let free = drop-free d pool (drop-turn d pool (drop_pool_refusal d pool) refl ok) in
    (free.there, same_name-sym pool general ∙ free.other)

pub drop-is : (d : Definitions) (pool : Name) (new : Definitions) → accepted d (DropPool pool) ≡ Ok new → LeavesOthers d pool new
drop-is d pool new is =
    let parts = accepted-left d (DropPool pool) new is in
    let free = drop-free d pool parts.0 in
    record { user = same_name-sym pool general ∙ free.other; left = ap (λ (x : Definitions). x.pools) (sym parts.1) }

-- the sizes of the reserves that are left are those without the pool's
sizes-dropped : (m : Inside) (pool : Name) → IsTied m → IsSound m.definitions → AreSized m.definitions (seen_state m).actual m.counters
    → map (λ (e : Reserve). e.size) (without (is_reserve_of pool) m.runs.accounts.reserves) ≡ without_place (user_pools m.definitions.pools) pool (seen_state m).actual
sizes-dropped m pool h sound sized =
    let rows = user_pools m.definitions.pools in
    let ns = (seen_state m).actual in
    let distinct : are_distinct (names rows) ≡ true =
    apart-rest general (names rows) (subst (λ l. are_distinct l ≡ true) (pool_names m.definitions.pools sound.general_first) sound.pools_distinct) in
    let kept : reserves_of (without_row (λ r. r.name) pool rows) (without_place rows pool ns) ≡ without (is_reserve_of pool) m.runs.accounts.reserves =
    reserves-placed rows pool ns sized.sizes distinct ∙ ap (λ (a : Holdings). without (is_reserve_of pool) a.reserves) h.bytes in
    ap (λ es. map (λ (e : Reserve). e.size) es) (sym kept) ∙ sizes-of (without_row (λ r. r.name) pool rows) (without_place rows pool ns) (length-placed rows pool ns sized.sizes distinct)

-- what a machine is then
pub record HasDropped (m : Inside) (pool : Name) (new : Definitions) (a : Holdings) (sessions : List Session) (running : List Runner) (waiting : List Waiter) (counters : List EndCounts) : Type 0 where
  pub accounts : a ≡ folded m.runs.accounts pool
  pub sessions_are : sessions ≡ map (session_beside pool) m.sessions
  pub running_are : running ≡ map (runner_beside pool) m.runs.running
  pub waiting_are : waiting ≡ transferred m.waiting pool (goes_before m.definitions pool)
  pub counters_are : counters ≡ without_place m.definitions.pools pool m.counters

seen-dropped : (m : Inside) (pool : Name) (new : Definitions) (a : Holdings) (sessions : List Session) (running : List Runner) (waiting : List Waiter) (counters : List EndCounts)
    → HasDropped m pool new a sessions running waiting counters → IsTied m → IsSound m.definitions → AreSized m.definitions (seen_state m).actual m.counters
    → seen_state (record m { definitions = new; runs = record { accounts = a; running = running }; sessions = sessions; waiting = waiting; counters = counters }) ≡ dropped (seen_state m) pool new
seen-dropped m pool new a sessions running waiting counters h tied sound sized =
    let t = λ (f : ℕ) (ns : List ℕ) (xs : List Session) (rs : List Runner) (ws : List Waiter) (cs : List EndCounts).
    let u : State = record (seen_state m) { definitions = new; in_force = f; actual = ns; sessions = xs; running = rs; waiting = ws; counters = cs } in u in
    let f = m.runs.accounts.in_force in
    let ns = without_place (user_pools m.definitions.pools) pool (seen_state m).actual in
    let xs = map (session_beside pool) m.sessions in
    let rs = map (runner_beside pool) m.runs.running in
    let ws = transferred m.waiting pool (goes_before m.definitions pool) in
    ap (λ (x : Holdings). t x.in_force (map (λ (e : Reserve). e.size) x.reserves) sessions running waiting counters) h.accounts
    ∙ ap (λ (l : List ℕ). t f l sessions running waiting counters) (sizes-dropped m pool tied sound sized)
    ∙ ap (λ (l : List Session). t f ns l running waiting counters) h.sessions_are
    ∙ ap (λ (l : List Runner). t f ns xs l waiting counters) h.running_are
    ∙ ap (λ (l : List Waiter). t f ns xs rs l counters) h.waiting_are
    ∙ ap (λ (l : List EndCounts). t f ns xs rs ws l) h.counters_are

pub state-dropped : (m : Inside) (s : State) (pool : Name) (new : Definitions) (a : Holdings) (sessions : List Session) (running : List Runner) (waiting : List Waiter) (counters : List EndCounts)
    → seen_state m ≡ s → HasDropped m pool new a sessions running waiting counters → IsTied m → IsSound m.definitions → AreSized m.definitions (seen_state m).actual m.counters
    → seen_state (record m { definitions = new; runs = record { accounts = a; running = running }; sessions = sessions; waiting = waiting; counters = counters }) ≡ dropped s pool new
state-dropped m s pool new a sessions running waiting counters same h tied sound sized =
    seen-dropped m pool new a sessions running waiting counters h tied sound sized ∙ ap (λ (u : State). dropped u pool new) same

-- its accounts are still the bytes of the state
pub tied-dropped : (m : Inside) (pool : Name) (new : Definitions) (a : Holdings) (sessions : List Session) (running : List Runner) (waiting : List Waiter) (counters : List EndCounts)
    → HasDropped m pool new a sessions running waiting counters → LeavesOthers m.definitions pool new → IsTied m → IsSound m.definitions → AreSized m.definitions (seen_state m).actual m.counters
    → holdings_of (seen_state (record m { definitions = new; runs = record { accounts = a; running = running }; sessions = sessions; waiting = waiting; counters = counters })) ≡ a
tied-dropped m pool new a sessions running waiting counters h drops tied sound sized =
    ap holdings_of (seen-dropped m pool new a sessions running waiting counters h tied sound sized)
    ∙ bytes-dropped (seen_state m) pool new drops.left sound sized (same_name-sym general pool ∙ drops.user)
    ∙ ap (λ (x : Holdings). folded x pool) tied.bytes ∙ sym h.accounts
