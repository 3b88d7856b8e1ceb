-- Where no query runs and all sizes rest, each waiting query fits, so some head is entitled if any waits.
use Rattle.std.proofs.Common.{◌≡◌, ℕ, ◌+◌, ◌-◌, ◌≤◌, ◌<◌, Bool, true, false, ◌||◌, cond, ltb, leb, eqb, List, [], ◌∷◌, Some, None, Option, refl, sym, ap, ◌∙◌, subst, arith, sum_by, ⊎_elim}
use Rattle.std.specs.Prelude.{nat_le}
use Rattle.std.specs.Int.Signed.{lt_z}
use Rattle.std.specs.List.{list_all, list_any}
use Rattle.std.specs.Option.{unwrap_or}
use Rattle.std.proofs.lemmas.List.Sums.{sum_by-cons}
use Rattle.std.proofs.lemmas.Bool.{cases_lt, false≢true, le-leb, eqb-true, ltb-true, or_right}
use Rattle.rm_base.specs.declared.definitions.Definitions.{Definitions}
use Rattle.rm_base.specs.declared.limits.TheConstants.{MEMORY_MOST, CONCURRENCY_MOST, THRESHOLD_SECONDS_MOST, SPAN_MOST}
use Rattle.rm_base.specs.declared.name.Name.{Name}
use Rattle.rm_base.specs.declared.refusal.CapKind.{CapKind}
use Rattle.rm_base.specs.declared.refusal.CapKind.TheVariants.{Pool, Query, User}
use Rattle.rm_base.specs.declared.rows.PoolRow.{PoolRow}
use Rattle.rm_base.specs.Definitions.{default_pool_row}
use Rattle.rm_base.specs.Name.{same_name, general}
use Rattle.rm_base.specs.Ranges.{passes_if_set, is_between, is_priority, is_pool_in_range}
use Rattle.rm_base.proofs.Names.{same_name-eq, same_name-refl, same_name-sym}
use Rattle.rm_rules.specs.declared.state.Cap.{Cap}
use Rattle.rm_rules.specs.declared.state.Holding.{Holding}
use Rattle.rm_rules.specs.declared.state.Reserve.{Reserve}
use Rattle.rm_rules.specs.declared.state.Waiter.{Waiter}
use Rattle.rm_rules.specs.Definitions.{total, reserved, memory_size, memory_cap, user_pools, pool_called, pool_row}
use Rattle.rm_rules.specs.Budget.{threshold}
use Rattle.rm_rules.specs.Ask.{within, cap, narrowed, ask}
use Rattle.rm_rules.specs.State.{State}
use Rattle.rm_rules.specs.Holdings.{Holdings, holdings, holdings_of, reserve_names}
use Rattle.rm_rules.specs.Accounting.{used, running_in, unused, kept_back, unused_of, lent, free, need}
use Rattle.rm_rules.specs.Fit.{has_place, poolfit, can_lend}
use Rattle.rm_rules.specs.Admission.{ask_of, judged_for, heads_behind, heads, put_in_order, in_queue_order, priority_of, is_entitled, is_blocked, first_among, first_entitled}
use Rattle.rm_rules.specs.Sound.{IsSound, has_pool, begins_with_general, are_distinct}
use Rattle.rm_rules.specs.Healthy.{AreSized, AreThere, AreCovered}
use Rattle.rm_rules.proofs.Taken.{and_left, and_right, and_both, all_among, or_first, or_left_false, or_right_false}
use Rattle.rm_rules.proofs.Pools.{names, worth, sum_by-map}
use Rattle.rm_rules.proofs.Bytes.{apart, apart-rest, reserve_names-of, named-pool, lent-none}
use Rattle.rm_rules.proofs.Queue.{heads_wait, ordered_among}
use Rattle.rm_rules.proofs.Covering.{user_memory-most}
use Rattle.rm_rules.proofs.PoolLaws.{pool_row_in_range}
use Rattle.rm_rules.proofs.Rests.{RestsAt, AllRest, Rests}

-- each of these rows is the one that is found by its name
abbrev pub AreFound : (Name → Option PoolRow) → List PoolRow → Type 0
AreFound look [] = Unit {0}
AreFound look (r ∷ rs) = (look r.name ≡ Some r) × AreFound look rs

found-behind : (x : PoolRow) (rows rs : List PoolRow) → list_any (same_name x.name) (names rs) ≡ false → AreFound (pool_called rows) rs
    → AreFound (pool_called (x ∷ rows)) rs
found-behind x rows [] other found = tt
found-behind x rows (r ∷ rs) other found = (
  ap (λ b. cond b (Some x) (pool_called rows r.name)) (or_left_false (same_name x.name r.name) _ other) ∙ found.0,
  found-behind x rows rs (or_right_false (same_name x.name r.name) _ other) found.1,
)

-- as rows of distinct names are
pub found-own : (rows : List PoolRow) → are_distinct (names rows) ≡ true → AreFound (pool_called rows) rows
found-own [] distinct = tt
found-own (r ∷ rs) distinct = (
  ap (λ b. cond b (Some r) (pool_called rs r.name)) (same_name-refl r.name),
  found-behind r rs rs (apart r.name (names rs) distinct) (found-own rs (apart-rest r.name (names rs) distinct)),
)

pub found-user : (pools : List PoolRow) → are_distinct (names pools) ≡ true → AreFound (pool_called pools) (user_pools pools)
found-user [] distinct = tt
found-user (r ∷ rs) distinct = (found-own (r ∷ rs) distinct).1

-- so all MEMORYSIZEs of the pools but GENERAL are within what is reserved
memory-found : (d : Definitions) (rs : List PoolRow) → AreFound (pool_called d.pools) rs → sum_by (λ r. memory_size d r.name) rs ≡ sum_by (λ r. r.memory) rs
memory-found d [] found = refl
memory-found d (r ∷ rs) found =
    omega (
      arith,
      ap {B = ℕ} (λ (o : Option PoolRow). (unwrap_or o (default_pool_row r.name)).memory) found.0,
      memory-found d rs found.1,
      sum_by-cons (λ (x : PoolRow). memory_size d x.name) r rs,
      sum_by-cons (λ (x : PoolRow). x.memory) r rs,
    )

memory-reserved : (d : Definitions) (es : List Reserve) → IsSound d → reserve_names es ≡ names (user_pools d.pools)
    → sum_by (λ e. memory_size d e.pool) es ≤ reserved d
memory-reserved d es sound same =
    omega (
      arith,
      sum_by-map (memory_size d) (λ (e : Reserve). e.pool) es,
      ap (sum_by (memory_size d)) same,
      sum_by-map (memory_size d) (λ (r : PoolRow). r.name) (user_pools d.pools),
      memory-found d (user_pools d.pools) (found-user d.pools sound.pools_distinct),
      user_memory-most d.pools,
    )

-- GENERAL reserves nothing
general-turn : (d : Definitions) (pools : List PoolRow) → begins_with_general pools ≡ true → (unwrap_or (pool_called pools general) (default_pool_row general)).memory ≡ 0
general-turn d [] begins = absurd (false≢true begins)
general-turn d (r ∷ rs) begins =
    ap {B = ℕ} (λ b. (unwrap_or (cond b (Some r) (pool_called rs general)) (default_pool_row general)).memory) (and_left (same_name r.name general) _ begins)
    ∙ eqb-true r.memory 0 (and_right (same_name r.name general) _ begins)

-- where no pool uses any bytes, no pool at rest is above its MEMORYSIZE
at_most : (d : Definitions) (grants : List Holding) (spare : ℕ) (e : Reserve) → ((p : Name) → used p grants ≡ 0) → RestsAt d grants spare e → e.size ≤ memory_size d e.pool
at_most d grants spare e none rests =
    ⊎_elim (λ (over : memory_size d e.pool < e.size). absurd (omega (arith, over, rests.above over, none e.pool)))
    (λ (most : e.size ≤ memory_size d e.pool). most) (cases_lt (memory_size d e.pool) e.size)

sizes-most : (d : Definitions) (grants : List Holding) (spare : ℕ) (es : List Reserve) → ((p : Name) → used p grants ≡ 0) → AllRest d grants spare es
    → kept_back es ≤ sum_by (λ e. memory_size d e.pool) es
sizes-most d grants spare [] none rests = omega arith
sizes-most d grants spare (e ∷ es) none rests =
    omega (
      arith,
      at_most d grants spare e none rests.0,
      sizes-most d grants spare es none rests.1,
      sum_by-cons (λ (x : Reserve). x.size) e es,
      sum_by-cons (λ (x : Reserve). memory_size d x.pool) e es,
    )

-- all sizes together are below all MEMORYSIZEs by no less than one pool is below its own
room-turn : (d : Definitions) (grants : List Holding) (spare : ℕ) (p : Name) (e : Reserve) (es : List Reserve) (b : Bool) → same_name e.pool p ≡ b
    → ((q : Name) → used q grants ≡ 0) → AllRest d grants spare (e ∷ es) → list_any (same_name p) (reserve_names (e ∷ es)) ≡ true
    → (list_any (same_name p) (reserve_names es) ≡ true → memory_size d p + kept_back es ≤ worth (unused grants) es p + sum_by (λ x. memory_size d x.pool) es)
    → memory_size d p + kept_back (e ∷ es) ≤ worth (unused grants) (e ∷ es) p + sum_by (λ x. memory_size d x.pool) (e ∷ es)
room-turn d grants spare p e es true here none rests known more =
    let unused_here : worth (unused grants) (e ∷ es) p ≡ unused grants e = rw (here, worth) refl in
    omega (
      arith,
      unused_here,
      ap (memory_size d) (same_name-eq e.pool p here),
      none e.pool,
      sizes-most d grants spare es none rests.1,
      sum_by-cons (λ (x : Reserve). x.size) e es,
      sum_by-cons (λ (x : Reserve). memory_size d x.pool) e es,
    )
room-turn d grants spare p e es false here none rests known more =
    let unused_there : worth (unused grants) (e ∷ es) p ≡ worth (unused grants) es p = rw (here, worth) refl in
    let behind : list_any (same_name p) (reserve_names es) ≡ true = ap (λ b. b || list_any (same_name p) (reserve_names es)) (sym (same_name-sym p e.pool ∙ here)) ∙ known in
    omega (
      arith,
      unused_there,
      more behind,
      at_most d grants spare e none rests.0,
      sum_by-cons (λ (x : Reserve). x.size) e es,
      sum_by-cons (λ (x : Reserve). memory_size d x.pool) e es,
    )

room-left : (d : Definitions) (grants : List Holding) (spare : ℕ) (p : Name) (es : List Reserve) → ((q : Name) → used q grants ≡ 0) → AllRest d grants spare es
    → list_any (same_name p) (reserve_names es) ≡ true → memory_size d p + kept_back es ≤ worth (unused grants) es p + sum_by (λ x. memory_size d x.pool) es
room-left d grants spare p [] none rests known = absurd (false≢true known)
room-left d grants spare p (e ∷ es) none rests known =
    room-turn d grants spare p e es (same_name e.pool p) refl none rests known (room-left d grants spare p es none rests.1)

-- GENERAL has no reserve, and no MEMORYSIZE
room-pool : (d : Definitions) (h : Holdings) (p : Name) (b : Bool) → list_any (same_name p) (reserve_names h.reserves) ≡ b → IsSound d
    → (same_name p general || list_any (same_name p) (reserve_names h.reserves)) ≡ true → ((q : Name) → used q h.grants ≡ 0) → Rests d h
    → memory_size d p + kept_back h.reserves ≤ unused_of h p + sum_by (λ x. memory_size d x.pool) h.reserves
room-pool d h p true is sound known none rests = room-left d h.grants (free h) p h.reserves none rests is
room-pool d h p false is sound known none rests =
    let here : same_name p general ≡ true = or_first (same_name p general) _ is known in
    let nothing : memory_size d p ≡ 0 = ap (memory_size d) (same_name-eq p general here) ∙ general-turn d d.pools sound.general_first in
    omega (arith, nothing, sizes-most d h.grants (free h) h.reserves none rests)

-- a pool's cap is at most its MEMORYSIZE and what no pool reserves
within-most : (o : Option ℕ) (n : ℕ) → within o n ≤ n
within-most None n = omega arith
within-most (Some most) n = omega arith

cap-most : (d : Definitions) (r : PoolRow) → cap d r ≤ r.memory + (total d - reserved d)
cap-most d r = elim (same_name r.name general) as (λ b. cond b (total d - reserved d) (within r.max (r.memory + (total d - reserved d))) ≤ r.memory + (total d - reserved d)) [
  | true ↦ omega arith
  | false ↦ within-most r.max (r.memory + (total d - reserved d))
]

-- and an ask is within the cap of its pool
narrowed-most : (c : Cap) (kind : CapKind) (o : Option ℕ) → (narrowed c kind o).bytes ≤ c.bytes
narrowed-most c kind None = omega arith
narrowed-most c kind (Some bytes) =
    let turn : (b : Bool) → ltb bytes c.bytes ≡ b → (cond b (let k : Cap = record { kind = kind; bytes = bytes } in k) c).bytes ≤ c.bytes =
    λ b. elim b as (λ b. ltb bytes c.bytes ≡ b → (cond b (let k : Cap = record { kind = kind; bytes = bytes } in k) c).bytes ≤ c.bytes) [
      | true ↦ λ e. omega (arith, ltb-true bytes c.bytes e)
      | false ↦ λ e. omega arith
    ] in
    turn (ltb bytes c.bytes) refl

pub ask-most : (d : Definitions) (r : PoolRow) (user : Name) (floor : ℕ) → ask d r user floor ≤ cap d r
ask-most d r user floor =
    let c : Cap = record { kind = Pool; bytes = cap d r } in
    let mid = narrowed c Query r.query_max in
    omega (arith, narrowed-most c Query r.query_max, narrowed-most mid User (memory_cap d user))

-- so where no query runs, what a pool's cap lets in is there
need-free : (s : State) (w : Waiter) → IsSound s.definitions → AreSized s.definitions s.actual s.counters → AreCovered s.definitions (holdings_of s)
    → Rests s.definitions (holdings_of s) → ((q : Name) → used q (holdings s.running) ≡ 0) → has_pool s.definitions w.pool ≡ true
    → need (holdings_of s) w.pool (ask_of s.definitions w) ≤ free (holdings_of s)
need-free s w sound sized covered rests none known =
    let d = s.definitions in
    let h = holdings_of s in
    let row = pool_row d w.pool in
    let room = room-pool d h w.pool (list_any (same_name w.pool) (reserve_names h.reserves)) refl sound (sym (named-pool s sound sized w.pool) ∙ known) none rests in
    omega (
      arith,
      room,
      memory-reserved d h.reserves sound (reserve_names-of (user_pools d.pools) s.actual sized.sizes),
      ask-most d row w.user w.floor,
      cap-most d row,
      lent-none h none,
      sound.reserved_most,
      covered.in_force_least,
    )

-- a pool lets in one query at least
place-turn : (o : Option ℕ) → passes_if_set (is_between 1 CONCURRENCY_MOST) o ≡ true → passes_if_set (λ n. ltb 0 n) o ≡ true
place-turn None h = refl
place-turn (Some n) h = and_left (leb 1 n) _ h

has_place-none : (r : PoolRow) → is_pool_in_range r ≡ true → has_place r 0 ≡ true
has_place-none r h =
    let limit = passes_if_set (λ n. nat_le n MEMORY_MOST) in
    let count = passes_if_set (is_between 1 CONCURRENCY_MOST) in
    let n1 = and_right (nat_le r.memory MEMORY_MOST) _ h in
    let n2 = and_right (limit r.max) _ n1 in
    let n3 = and_right (limit r.query_max) _ n2 in
    let n4 = and_right (count r.parallel) _ n3 in
    let n5 = and_right (is_priority r.priority) _ n4 in
    let n6 = and_right (nat_le r.threshold_s THRESHOLD_SECONDS_MOST) _ n5 in
    let n7 = and_right (passes_if_set (λ n. nat_le n SPAN_MOST) r.queue_ms) _ n6 in
    let n8 = and_right (count r.planned) _ n7 in
    place-turn r.concurrency (and_left (count r.concurrency) _ n8)

-- each query of a pool that is there fits, where no query runs
pub fits-idle : (s : State) (w : Waiter) → IsSound s.definitions → AreSized s.definitions s.actual s.counters → AreCovered s.definitions (holdings_of s)
    → Rests s.definitions (holdings_of s) → s.running ≡ [] → has_pool s.definitions w.pool ≡ true → (judged_for s.definitions (holdings_of s) w).fits ≡ true
fits-idle s w sound sized covered rests idle known =
    let d = s.definitions in
    let h = holdings_of s in
    let row = pool_row d w.pool in
    let needed = need h w.pool (ask_of d w) in
    let none : (q : Name) → used q (holdings s.running) ≡ 0 = λ q. ap (λ l. used q (holdings l)) idle in
    let needs = need-free s w sound sized covered rests none known in
    let place : has_place row (running_in w.pool h.grants) ≡ true =
    ap (λ l. has_place row (running_in w.pool (holdings l))) idle ∙ has_place-none row (pool_row_in_range d w.pool sound) in
    let below : leb (used w.pool h.grants) (threshold d row) ≡ true = le-leb (used w.pool h.grants) (threshold d row) (omega (arith, none w.pool)) in
    let most : leb (used w.pool h.grants + ask_of d w) (cap d row) ≡ true =
    le-leb (used w.pool h.grants + ask_of d w) (cap d row) (omega (arith, none w.pool, ask-most d row w.user w.floor)) in
    let lends : leb (lent h) (threshold d (pool_row d general)) ≡ true = le-leb (lent h) (threshold d (pool_row d general)) (omega (arith, lent-none h none)) in
    let enough : leb needed (free h) ≡ true = le-leb needed (free h) needs in
    and_both (poolfit d h w.pool (ask_of d w)) _ (and_both _ _ place (and_both _ _ below most))
    (or_right (eqb needed 0) (can_lend d h needed) (and_both _ _ lends enough))

-- the first in queue order is entitled where it fits
pub first_among-here : (d : Definitions) (h : Holdings) (w : Waiter) (rest : List Waiter) → (judged_for d h w).fits ≡ true → first_among d h false (w ∷ rest) ≡ Some w
first_among-here d h w rest fits =
    let entitled : is_entitled false (judged_for d h w) ≡ true = and_both (judged_for d h w).fits _ fits (or_right (eqb (judged_for d h w).need 0) true refl) in
    ap (λ b. cond b (Some w) (first_among d h (false || is_blocked (judged_for d h w)) rest)) entitled

-- where some query waits, some head is first in queue order
placed_first : (d : Definitions) (h : Waiter) (hs : List Waiter) → (x : Waiter) × (rest : List Waiter) × (put_in_order d h hs ≡ x ∷ rest)
placed_first d h [] = (h, [], refl)
placed_first d h (y ∷ ys) =
    elim (lt_z (priority_of d h) (priority_of d y)) as (λ b. (x : Waiter) × (rest : List Waiter) × (cond b (y ∷ put_in_order d h ys) (h ∷ y ∷ ys) ≡ x ∷ rest)) [
      | true ↦ (y, put_in_order d h ys, refl)
      | false ↦ (h, y ∷ ys, refl)
    ]

idle-turn : (s : State) (ws : List Waiter) → s.waiting ≡ ws → IsSound s.definitions → AreSized s.definitions s.actual s.counters
    → AreThere s.definitions s.sessions s.waiting s.running → AreCovered s.definitions (holdings_of s) → Rests s.definitions (holdings_of s) → s.running ≡ []
    → first_entitled s ≡ None → ws ≡ []
idle-turn s [] e sound sized there covered rests idle nobody = refl
idle-turn s (w ∷ ws) e sound sized there covered rests idle nobody =
    let d = s.definitions in
    let h = holdings_of s in
    let first = placed_first d w (in_queue_order d (heads_behind (w ∷ []) ws)) in
    let x = first.0 in
    let ordered : in_queue_order d (heads s.waiting) ≡ x ∷ first.1 = ap (λ l. in_queue_order d (heads l)) e ∙ first.2 in
    let among = heads_wait [] s.waiting x (ordered_among d x (heads s.waiting) (record { front = []; rest = first.1; split = ordered })) in
    let known : has_pool d x.pool ≡ true =
    all_among (λ y. has_pool d y.pool) among.front among.rest x (subst (λ (l : List Waiter). list_all (λ y. has_pool d y.pool) l ≡ true) among.split there.waits) in
    let some : first_entitled s ≡ Some x = ap (first_among d h false) ordered ∙ first_among-here d h x first.1 (fits-idle s x sound sized covered rests idle known) in
    let both : None ≡ Some x = sym nobody ∙ some in
    absurd (cc)

-- where no query runs and no head is entitled, none waits
pub idle-none : (s : State) → IsSound s.definitions → AreSized s.definitions s.actual s.counters → AreThere s.definitions s.sessions s.waiting s.running
    → AreCovered s.definitions (holdings_of s) → Rests s.definitions (holdings_of s) → first_entitled s ≡ None → s.running ≡ [] → s.waiting ≡ []
idle-none s sound sized there covered rests nobody idle = idle-turn s s.waiting refl sound sized there covered rests idle nobody
