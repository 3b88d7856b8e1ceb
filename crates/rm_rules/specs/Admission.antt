-- The queue and admission.
use Rattle.std.specs.Prelude.{ℕ, Bool, false, ◌&&◌, ◌||◌, ◌==◌, not, List, [], ◌∷◌, ◌++◌, Option, Some, None, length, if◌then◌else◌, ℤ}
use Rattle.std.specs.Int.Signed.{lt_z}
use Rattle.std.specs.List.{list_any}
use Rattle.rm_base.specs.declared.definitions.Definitions.{Definitions}
use Rattle.rm_base.specs.Name.{same_name}
use Rattle.rm_rules.specs.declared.state.Phase.TheVariants as phase
use Rattle.rm_rules.specs.declared.state.Waiter.{Waiter}
use Rattle.rm_rules.specs.declared.state.Runner.{Runner}
use Rattle.rm_rules.specs.declared.state.Judged.{Judged}
use Rattle.rm_rules.specs.Definitions.{pool_row}
use Rattle.rm_rules.specs.Ask.{ask}
use Rattle.rm_rules.specs.State.{State, with_phase, without_waiter}
use Rattle.rm_rules.specs.Holdings.{Holdings, holdings_of}
use Rattle.rm_rules.specs.Fit.{judged_by}
use Rattle.rm_rules.specs.Repeated.{repeated}

-- what a waiting query asks for, and how it fits
abbrev pub ask_of : Definitions → Waiter → ℕ
ask_of d w = ask d (pool_row d w.pool) w.user w.floor

abbrev pub judged_for : Definitions → Holdings → Waiter → Judged
judged_for d h w = judged_by d h w.pool w.user w.floor

-- the first of each pool among these, of which none waits in a pool that has one before
abbrev pub heads_behind : List Waiter → List Waiter → List Waiter
heads_behind before [] = []
heads_behind before (w ∷ ws) =
    if list_any (λ b. same_name b.pool w.pool) before then heads_behind (before ++ w ∷ []) ws
    else w ∷ heads_behind (before ++ w ∷ []) ws

-- the first waiting query of each pool, as they stand
abbrev pub heads : List Waiter → List Waiter
heads waiting = heads_behind [] waiting

-- the priority of the pool in which the query waits
abbrev pub priority_of : Definitions → Waiter → ℤ
priority_of d w = (pool_row d w.pool).priority

-- the query put among others that stand in queue order and joined behind it: before the first that is not above it
abbrev pub put_in_order : Definitions → Waiter → List Waiter → List Waiter
put_in_order d h [] = h ∷ []
put_in_order d h (x ∷ xs) = if lt_z (priority_of d h) (priority_of d x) then x ∷ put_in_order d h xs else h ∷ x ∷ xs

-- queue order: by priority, falling, and as they stand where priorities are equal
abbrev pub in_queue_order : Definitions → List Waiter → List Waiter
in_queue_order d [] = []
in_queue_order d (h ∷ hs) = put_in_order d h (in_queue_order d hs)

-- a head whose pool lets it in, but that GENERAL cannot serve: no head behind it may take GENERAL's bytes
abbrev pub is_blocked : Judged → Bool
is_blocked j = j.poolfit && not j.fits

-- a head is entitled where it fits and, if it needs GENERAL's bytes, no head before it is blocked
abbrev pub is_entitled : Bool → Judged → Bool
is_entitled blocked j = j.fits && (j.need == 0 || not blocked)

-- the first entitled head of these, behind others of which some is blocked or none
abbrev pub first_among : Definitions → Holdings → Bool → List Waiter → Option Waiter
first_among d h blocked [] = None
first_among d h blocked (w ∷ ws) =
    if is_entitled blocked (judged_for d h w) then Some w else first_among d h (blocked || is_blocked (judged_for d h w)) ws

-- the first entitled head of a queue in queue order
abbrev pub first_in_queue : Definitions → Holdings → List Waiter → Option Waiter
first_in_queue d h waiting = first_among d h false (in_queue_order d (heads waiting))

abbrev pub first_entitled : State → Option Waiter
first_entitled s = first_in_queue s.definitions (holdings_of s) s.waiting

-- a waiting query as it runs from now on, with its ask as its grant
abbrev pub started : State → Waiter → Runner
started s w = record {
  query = w.query;
  session = w.session;
  user = w.user;
  pool = w.pool;
  floor = w.floor;
  grant = ask_of s.definitions w;
  start = s.clock;
  ran = w.ran;
  moves = w.moves;
  leaving = None;
  cancelled = false;
}

-- the state in which this waiting query was admitted
abbrev pub admitted : State → Waiter → State
admitted s w = record s {
  sessions = with_phase w.session phase.Running s.sessions;
  running = s.running ++ started s w ∷ [];
  waiting = without_waiter w.session s.waiting;
}

-- admission: while some head is entitled, the first one is admitted
abbrev pub admission : State → State
admission s = repeated first_entitled admitted (length s.waiting) s
