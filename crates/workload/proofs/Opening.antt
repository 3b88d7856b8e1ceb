-- From the start to the rested desk: the three statements and the session.
use Rattle.std.proofs.Common.{◌≡◌, ℕ, ◌+◌, ◌-◌, ◌*◌, ◌/◌, ◌≤◌, Bool, true, false, not, cond, ltb, [], ◌∷◌, ◌++◌, List, Some, None, Option, Result, Ok, refl, sym, ap, ◌∙◌, subst, arith, max, inl}
use Rattle.std.proofs.lemmas.Bool.{le-ltb}
use Rattle.std.proofs.lemmas.List.Sums.{sum_by_push}
use Rattle.rm_base.specs.declared.definitions.Definitions.{Definitions}
use Rattle.rm_base.specs.declared.entry.Entry.{Entry}
use Rattle.rm_base.specs.declared.event.Event.TheVariants.{Define, Open}
use Rattle.rm_base.specs.declared.limits.TheConstants.{MEMORY_LEAST, MEMORY_MOST, CORES_MOST, GENERAL_PART, SCRIPT_ROOM}
use Rattle.rm_base.specs.declared.name.Name.{Name}
use Rattle.rm_base.specs.declared.refusal.Refusal.{Refusal}
use Rattle.rm_base.specs.declared.refusal.Refusal.TheVariants as refusal
use Rattle.rm_base.specs.declared.reply.Reply.TheVariants as reply
use Rattle.rm_base.specs.declared.rows.PoolRow.{PoolRow}
use Rattle.rm_base.specs.declared.statement.PoolChange.{PoolChange}
use Rattle.rm_base.specs.declared.statement.Statement.TheVariants.{CreatePool}
use Rattle.rm_base.specs.Definitions.{fresh, default_pool_row}
use Rattle.rm_base.specs.Name.{dbadmin}
use Rattle.rm_base.specs.WellFormed.{IsWellFormed}
use Rattle.rm_rules.specs.declared.answer.Answer.TheVariants.{Says}
use Rattle.rm_rules.specs.declared.state.Phase.TheVariants as phase
use Rattle.rm_rules.specs.declared.state.Runner.{Runner}
use Rattle.rm_rules.specs.declared.state.Session.{Session}
use Rattle.rm_rules.specs.declared.state.Waiter.{Waiter}
use Rattle.rm_rules.specs.Acceptance.{accepted, left_by, counted}
use Rattle.rm_rules.specs.Change.{changing, defined, defining_to, opened, opening_refusal, sessions_full, tried}
use Rattle.rm_rules.specs.Definitions.{total, reserved}
use Rattle.rm_rules.specs.Healthy.{IsHealthy}
use Rattle.rm_rules.specs.PoolStatements.{chain, created_pool, with_pool, max_below_memory, general_too_small, target_missing, cascade_loop, chain_too_long, pools_full, outcome_refusal, create_pool_refusal}
use Rattle.rm_rules.specs.Refusals.{refused_if, first_refusal, unless_refused, pool_taken, changes_full}
use Rattle.rm_rules.specs.Settled.{IsSettled}
use Rattle.rm_rules.specs.Sound.{IsSound, has_user}
use Rattle.rm_rules.specs.State.{State, start, counted_entries, is_definition}
use Rattle.rm_rules.specs.Step.{Outcome, moved_to, outcome, step}
use Rattle.rm_rules.proofs.Histories.{rest-step}
use Rattle.rm_rules.proofs.Laws.{healthy-step, healthy-start, fresh-sound}
use Rattle.rm_rules.proofs.SettledLaws.{start-settled}
use Rattle.workload.specs.Pools.{w0, w1, w2, w0_change, w2_change, create_w0, create_w1, create_w2, no_timeout, workload_definitions}
use Rattle.workload.specs.Rested.{own_session, IsRested, IsLone}
use Rattle.workload.proofs.Choosing.{one_more_entry}
use Rattle.workload.proofs.Asking.{passes}

-- Nobody is there yet, and the statements so far have left these definitions.
pub record IsOpening (d : Definitions) (s : State) : Type 0 where
  pub healthy : IsHealthy s
  pub settled : IsSettled s
  pub definitions : s.definitions ≡ d
  pub room : s.room ≡ SCRIPT_ROOM
  pub sessions : s.sessions ≡ []
  pub running : s.running ≡ []
  pub waiting : s.waiting ≡ []
  pub last_session : s.last_session ≡ 0
  pub last_query : s.last_query ≡ 0
  pub journal : counted_entries s.journal ≡ 0

abbrev empty : State → State
empty s = record s { sessions = []; running = []; waiting = []; last_session = 0 }

is-empty : (d : Definitions) (s : State) → IsOpening d s → s ≡ empty s
is-empty d s h =
    ap (λ (l : List Session). let u : State = record s { sessions = l } in u) h.sessions
    ∙ ap (λ (l : List Runner). let u : State = record s { sessions = []; running = l } in u) h.running
    ∙ ap (λ (l : List Waiter). let u : State = record s { sessions = []; running = []; waiting = l } in u) h.waiting
    ∙ ap (λ (n : ℕ). let u : State = record s { sessions = []; running = []; waiting = []; last_session = n } in u) h.last_session

-- an entry of an accepted statement does not count
statement_entry : (journal : List Entry) (e : Entry) → is_definition e ≡ true → counted_entries (journal ++ e ∷ []) ≡ counted_entries journal
statement_entry journal e defines =
    omega (arith, sum_by_push (λ (x : Entry). cond (not (is_definition x)) 1 0) journal e, ap {B = ℕ} (λ c. cond (not c) 1 0) defines)

-- what an accepted statement leaves
record IsDefined (new : Definitions) (s t : State) : Type 0 where
  definitions : t.definitions ≡ new
  room : t.room ≡ s.room
  sessions : t.sessions ≡ []
  running : t.running ≡ []
  waiting : t.waiting ≡ []
  last_session : t.last_session ≡ 0
  last_query : t.last_query ≡ s.last_query
  journal : counted_entries t.journal ≡ counted_entries s.journal

define-empty : (s : State) (new : Definitions) (name : Name) (change : PoolChange) (at : ℕ) → accepted s.definitions (CreatePool name change) ≡ Ok new
    → IsDefined new s (step (empty s) 0 at (Define (CreatePool name change))).state
define-empty s new name change at is =
    let event = Define (CreatePool name change) in
    let m = moved_to (empty s) at in
    let c = changing (defined m new) (Says reply.Defined) in
    let goes : step (empty s) 0 at event ≡ outcome (empty s) false 0 event c =
    ap (λ (r : Result Definitions Refusal). outcome (empty s) false 0 event (tried m (defining_to m (CreatePool name change) r))) is in
    let left : IsDefined new s (outcome (empty s) false 0 event c).state = record {
      definitions = refl;
      room = refl;
      sessions = refl;
      running = refl;
      waiting = refl;
      last_session = refl;
      last_query = refl;
      journal = statement_entry s.journal (record { seat = 0; at = max s.clock at; event = event; reply = reply.Defined }) refl;
    } in
    subst (λ (o : Outcome). IsDefined new s o.state) (sym goes) left

define-step : (d new : Definitions) (s : State) (name : Name) (change : PoolChange) (at : ℕ) → IsOpening d s → IsWellFormed (CreatePool name change)
    → accepted d (CreatePool name change) ≡ Ok new → IsOpening new (step s 0 at (Define (CreatePool name change))).state
define-step d new s name change at h formed is =
    let event = Define (CreatePool name change) in
    let left : IsDefined new s (step s 0 at event).state =
    subst (λ (u : State). IsDefined new s (step u 0 at event).state) (sym (is-empty d s h))
    (define-empty s new name change at (ap (λ (x : Definitions). accepted x (CreatePool name change)) h.definitions ∙ is)) in
    record {
      healthy = healthy-step s 0 at event formed h.healthy;
      settled = rest-step s 0 at event h.healthy formed h.settled;
      definitions = left.definitions;
      room = left.room ∙ h.room;
      sessions = left.sessions;
      running = left.running;
      waiting = left.waiting;
      last_session = left.last_session;
      last_query = left.last_query ∙ h.last_query;
      journal = left.journal ∙ h.journal;
    }

-- why a pool may be created
may_create : (d : Definitions) (name : Name) (row : PoolRow) → (let n : Option Refusal = None in
    pool_taken d name ≡ n → max_below_memory row.max row.memory ≡ n → general_too_small (with_pool d row) ≡ n → target_missing (with_pool d row) row.cascade ≡ n
    → cascade_loop (with_pool d row).pools row ≡ n → chain_too_long (with_pool d row).pools row.name ≡ n → pools_full d ≡ n → changes_full d ≡ n → create_pool_refusal d name row ≡ n)
may_create d name row free fits small target loop long few changes =
    let new = with_pool d row in
    let most = max_below_memory row.max row.memory in
    let general_left = general_too_small new in
    let cascades = target_missing new row.cascade in
    let loops = cascade_loop new.pools row in
    let longest = chain_too_long new.pools row.name in
    passes (pool_taken d name) (outcome_refusal new row ∷ pools_full d ∷ changes_full d ∷ []) free
    ∙ passes (outcome_refusal new row) (pools_full d ∷ changes_full d ∷ [])
    (passes most (general_left ∷ cascades ∷ loops ∷ longest ∷ []) fits ∙ passes general_left (cascades ∷ loops ∷ longest ∷ []) small
    ∙ passes cascades (loops ∷ longest ∷ []) target ∙ passes loops (longest ∷ []) loop ∙ passes longest [] long)
    ∙ passes (pools_full d) (changes_full d ∷ []) few ∙ passes (changes_full d) [] changes

quarter_left : (new : Definitions) → total new ≤ GENERAL_PART * (total new - reserved new) → general_too_small new ≡ None
quarter_left new enough =
    let left = total new - reserved new in
    ap (λ b. refused_if b (refusal.GeneralTooSmall left ((total new + (GENERAL_PART - 1)) / GENERAL_PART))) (le-ltb (GENERAL_PART * left) (total new) enough)

within_max : (most memory : ℕ) → memory ≤ most → max_below_memory (Some most) memory ≡ None
within_max most memory fits = ap (λ b. refused_if b (refusal.MaxBelowMemory most memory)) (le-ltb most memory fits)

abbrev after_w0 : ℕ → ℕ → Definitions
after_w0 memory cores = counted (left_by (fresh memory cores) create_w0)

abbrev after_w1 : ℕ → ℕ → Definitions
after_w1 memory cores = counted (left_by (after_w0 memory cores) create_w1)

w0-accepted : (memory cores : ℕ) → accepted (fresh memory cores) create_w0 ≡ Ok (after_w0 memory cores)
unfolding chain
w0-accepted memory cores =
    let d = fresh memory cores in
    let row = created_pool d w0 w0_change in
    let new = with_pool d row in
    let small : total new ≤ GENERAL_PART * (total new - reserved new) = omega arith in
    ap (λ (o : Option Refusal). unless_refused o (after_w0 memory cores)) (may_create d w0 row refl refl (quarter_left new small) refl refl refl refl refl)

w1-accepted : (memory cores : ℕ) → accepted (after_w0 memory cores) create_w1 ≡ Ok (after_w1 memory cores)
unfolding chain
w1-accepted memory cores =
    let d = after_w0 memory cores in
    let row = created_pool d w1 no_timeout in
    let new = with_pool d row in
    let small : total new ≤ GENERAL_PART * (total new - reserved new) = omega arith in
    ap (λ (o : Option Refusal). unless_refused o (after_w1 memory cores)) (may_create d w1 row refl refl (quarter_left new small) refl refl refl refl refl)

w2-accepted : (memory cores : ℕ) → accepted (after_w1 memory cores) create_w2 ≡ Ok (workload_definitions memory cores)
unfolding chain
w2-accepted memory cores =
    let d = after_w1 memory cores in
    let row = created_pool d w2 w2_change in
    let new = with_pool d row in
    let small : total new ≤ GENERAL_PART * (total new - reserved new) = omega arith in
    let fits : row.memory ≤ row.memory = omega arith in
    ap (λ (o : Option Refusal). unless_refused o (workload_definitions memory cores))
    (may_create d w2 row refl (within_max row.memory row.memory fits) (quarter_left new small) refl refl refl refl refl)

-- the session opens
record IsOpened (s t : State) : Type 0 where
  definitions : t.definitions ≡ s.definitions
  room : t.room ≡ s.room
  sessions : t.sessions ≡ own_session None phase.Idle ∷ []
  running : t.running ≡ []
  waiting : t.waiting ≡ []
  last_query : t.last_query ≡ s.last_query
  journal : counted_entries t.journal ≡ counted_entries s.journal + 1

open_allowed : (s : State) → has_user s.definitions dbadmin ≡ true → s.room ≡ SCRIPT_ROOM → counted_entries s.journal ≡ 0 → opening_refusal (empty s) dbadmin ≡ None
open_allowed s there room none =
    let entries = counted_entries s.journal + 1 + 40 * 0 + 2 * 1 in
    let full : ltb s.room entries ≡ false = le-ltb s.room entries (omega (arith, room, none)) in
    let last = refused_if (ltb s.room entries) (refusal.JournalFull s.room) in
    passes (refused_if (not (has_user s.definitions dbadmin)) (refusal.NoSuchUser dbadmin)) (sessions_full (empty s) ∷ last ∷ []) (ap (λ b. refused_if (not b) (refusal.NoSuchUser dbadmin)) there)
    ∙ passes last [] (ap (λ b. refused_if b (refusal.JournalFull s.room)) full)

open-empty : (s : State) (at : ℕ) → has_user s.definitions dbadmin ≡ true → s.room ≡ SCRIPT_ROOM → counted_entries s.journal ≡ 0
    → IsOpened s (step (empty s) 0 at (Open dbadmin)).state
open-empty s at there room none =
    let event = Open dbadmin in
    let m = moved_to (empty s) at in
    let c = opened m 0 dbadmin in
    let goes : step (empty s) 0 at event ≡ outcome (empty s) false 0 event c =
    ap (λ (o : Option Refusal). outcome (empty s) false 0 event (tried m (unless_refused o c))) (open_allowed m there room none) in
    let left : IsOpened s (outcome (empty s) false 0 event c).state = record {
      definitions = refl;
      room = refl;
      sessions = refl;
      running = refl;
      waiting = refl;
      last_query = refl;
      journal = one_more_entry s.journal (record { seat = 0; at = max s.clock at; event = event; reply = reply.Opened 1 }) refl;
    } in
    subst (λ (o : Outcome). IsOpened s o.state) (sym goes) left

-- what the desk of a workload begins with
pub record HasBegun (memory cores : ℕ) (s : State) : Type 0 where
  pub lone : IsLone s
  pub definitions : s.definitions ≡ workload_definitions memory cores
  pub last_query : s.last_query ≡ 0
  pub running : s.running ≡ []

-- definitions of a workload are those of their own memory and cores
pub own-definitions : (memory cores : ℕ) (d : Definitions) → d ≡ workload_definitions memory cores → d ≡ workload_definitions d.memory d.cores
own-definitions memory cores d is = is ∙ sym (ap (λ (x : Definitions). workload_definitions x.memory x.cores) is)

open-step : (memory cores : ℕ) (s : State) (at : ℕ) → IsOpening (workload_definitions memory cores) s → HasBegun memory cores (step s 0 at (Open dbadmin)).state
open-step memory cores s at h =
    let event = Open dbadmin in
    let left : IsOpened s (step s 0 at event).state =
    subst (λ (u : State). IsOpened s (step u 0 at event).state) (sym (is-empty (workload_definitions memory cores) s h))
    (open-empty s at h.healthy.sound.dbadmin_there h.room h.journal) in
    let is : (step s 0 at event).state.definitions ≡ workload_definitions memory cores = left.definitions ∙ h.definitions in
    let rested : IsRested 1 (step s 0 at event).state = record {
      chosen = None;
      sessions = left.sessions;
      running = left.running;
      waiting = left.waiting;
      journal = omega (arith, left.journal, h.journal);
    } in
    record {
      lone = record {
        defined = own-definitions memory cores (step s 0 at event).state.definitions is;
        settled = rest-step s 0 at event h.healthy tt h.settled;
        room = left.room ∙ h.room;
        stands = inl rested;
      };
      definitions = is;
      last_query = left.last_query ∙ h.last_query;
      running = left.running;
    }

-- some text spells the statements
pub w0-formed : IsWellFormed create_w0
w0-formed = record {
  memory = omega arith;
  max = tt;
  query_max = tt;
  parallel = tt;
  priority = tt;
  threshold_s = tt;
  queue_ms = tt;
  planned = (omega arith, omega arith);
  concurrency = tt;
  cap_ms = tt;
}

pub w1-formed : IsWellFormed create_w1
w1-formed = record {
  memory = tt;
  max = tt;
  query_max = tt;
  parallel = tt;
  priority = tt;
  threshold_s = tt;
  queue_ms = tt;
  planned = tt;
  concurrency = tt;
  cap_ms = tt;
}

pub w2-formed : IsWellFormed create_w2
w2-formed = record {
  memory = omega arith;
  max = omega arith;
  query_max = tt;
  parallel = tt;
  priority = tt;
  threshold_s = tt;
  queue_ms = tt;
  planned = (omega arith, omega arith);
  concurrency = tt;
  cap_ms = tt;
}

start-opening : (memory cores : ℕ) → MEMORY_LEAST ≤ memory → memory ≤ MEMORY_MOST → 1 ≤ cores → cores ≤ CORES_MOST
    → IsOpening (fresh memory cores) (start (fresh memory cores) SCRIPT_ROOM)
start-opening memory cores memory_least memory_most cores_least cores_most =
    let sound = fresh-sound memory cores memory_least memory_most cores_least cores_most in
    record {
      healthy = healthy-start (fresh memory cores) SCRIPT_ROOM sound;
      settled = start-settled (fresh memory cores) SCRIPT_ROOM sound;
      definitions = refl;
      room = refl;
      sessions = refl;
      running = refl;
      waiting = refl;
      last_session = refl;
      last_query = refl;
      journal = refl;
    }

-- the state after the statements and the session's opening, at these moments
abbrev pub begun_with : State → ℕ → ℕ → ℕ → ℕ → State
begun_with s a b c e =
    let s0 = (step s 0 a (Define create_w0)).state in
    let s1 = (step s0 0 b (Define create_w1)).state in
    let s2 = (step s1 0 c (Define create_w2)).state in
    (step s2 0 e (Open dbadmin)).state

pub begins : (memory cores a b c e : ℕ) → MEMORY_LEAST ≤ memory → memory ≤ MEMORY_MOST → 1 ≤ cores → cores ≤ CORES_MOST
    → HasBegun memory cores (begun_with (start (fresh memory cores) SCRIPT_ROOM) a b c e)
begins memory cores a b c e memory_least memory_most cores_least cores_most =
    let s = start (fresh memory cores) SCRIPT_ROOM in
    let s0 = (step s 0 a (Define create_w0)).state in
    let s1 = (step s0 0 b (Define create_w1)).state in
    let s2 = (step s1 0 c (Define create_w2)).state in
    let h = start-opening memory cores memory_least memory_most cores_least cores_most in
    let h0 = define-step (fresh memory cores) (after_w0 memory cores) s w0 w0_change a h w0-formed (w0-accepted memory cores) in
    let h1 = define-step (after_w0 memory cores) (after_w1 memory cores) s0 w1 no_timeout b h0 w1-formed (w1-accepted memory cores) in
    let h2 = define-step (after_w1 memory cores) (workload_definitions memory cores) s1 w2 w2_change c h1 w2-formed (w2-accepted memory cores) in
    open-step memory cores s2 e h2
