-- The state of the pool machine.
use Rattle.std.specs.Prelude.{ℕ, ◌+◌, ◌-◌, ◌^◌, min, Bool, ◌==◌, ◌∷◌, List, [], Option, Some, None, option_and_then, find, map, true, false, if◌then◌else◌, not, count_by}
use Rattle.rm_base.specs.declared.definitions.Definitions.{Definitions}
use Rattle.rm_base.specs.declared.entry.EndCounts.{EndCounts}
use Rattle.rm_base.specs.declared.entry.MoveSeen.{MoveSeen}
use Rattle.rm_base.specs.declared.entry.Entry.{Entry}
use Rattle.rm_base.specs.declared.name.Name.{Name}
use Rattle.rm_base.specs.declared.rows.PoolRow.{PoolRow}
use Rattle.rm_base.specs.Name.{same_name}
use Rattle.rm_base.specs.declared.reply.End.{End}
use Rattle.rm_base.specs.declared.reply.End.TheVariants as end
use Rattle.rm_base.specs.declared.reply.Reply.{Reply}
use Rattle.rm_base.specs.declared.reply.Reply.TheVariants as reply
use Rattle.rm_rules.specs.declared.state.Phase.{Phase}
use Rattle.rm_rules.specs.declared.state.Phase.TheVariants as phase
use Rattle.rm_rules.specs.declared.state.Session.{Session}
use Rattle.rm_rules.specs.declared.state.Waiter.{Waiter}
use Rattle.rm_rules.specs.declared.state.Runner.{Runner}
use Rattle.rm_rules.specs.Definitions.{total, user_pools, default_pool}

-- Sizes are in bytes, the clock in milliseconds. `actual` has the sizes of the pools but GENERAL, in their order,
-- `counters` the ended queries of each pool, in their order, and `room` how many entries the journal may have, those
-- of accepted statements not counted.
pub record State : Type 0 where
  pub definitions : Definitions
  pub in_force : ℕ
  pub actual : List ℕ
  pub sessions : List Session
  pub running : List Runner
  pub waiting : List Waiter
  pub clock : ℕ
  pub counters : List EndCounts
  pub moves : List MoveSeen
  pub last_session : ℕ
  pub last_query : ℕ
  pub journal : List Entry
  pub room : ℕ

-- no query of a pool has ended in its queue
abbrev pub none_ended : EndCounts
none_ended = record { timedout = 0; toolarge = 0; cancelled = 0 }

-- the state at the start: the total is in force, each pool has its MEMORYSIZE, and nobody is there
abbrev pub start : Definitions → ℕ → State
start d room = record {
  definitions = d;
  in_force = total d;
  actual = map (λ r. r.memory) (user_pools d.pools);
  sessions = [];
  running = [];
  waiting = [];
  clock = 0;
  counters = map (λ _. none_ended) d.pools;
  moves = [];
  last_session = 0;
  last_query = 0;
  journal = [];
  room = room;
}

-- the open session of this number
abbrev pub session_called : List Session → ℕ → Option Session
session_called sessions number = find (λ x. x.number == number) sessions

-- the session, where this seat has opened it
abbrev pub if_opened_by : ℕ → Session → Option Session
if_opened_by seat x = if x.seat == seat then Some x else None

-- the open session of this number that the seat has opened
abbrev pub session_of : State → ℕ → ℕ → Option Session
session_of s seat number = option_and_then (if_opened_by seat) (session_called s.sessions number)

-- a session's pool: the one that it chose, else its user's default pool as the definitions are now
abbrev pub session_pool : Definitions → Session → Name
session_pool d x = elim x.pool [ Some pool ↦ pool | None ↦ default_pool d x.user ]

-- the list, with the first that passes the test changed
abbrev pub changed_first : {A : Type 0} → (A → Bool) → (A → A) → List A → List A
changed_first test act [] = []
changed_first test act (x ∷ xs) = if test x then act x ∷ xs else x ∷ changed_first test act xs

-- the sessions, with another phase, another chosen pool or another runtime cap of the one of this number
abbrev pub with_phase : ℕ → Phase → List Session → List Session
with_phase number now sessions = changed_first (λ x. x.number == number) (λ x. record x { phase = now }) sessions

abbrev pub with_choice : ℕ → Name → List Session → List Session
with_choice number pool sessions = changed_first (λ x. x.number == number) (λ x. record x { pool = Some pool }) sessions

abbrev pub with_cap : ℕ → Option ℕ → List Session → List Session
with_cap number cap sessions = changed_first (λ x. x.number == number) (λ x. record x { cap_ms = cap }) sessions

-- one more, as far as the count goes
abbrev pub one_more : ℕ → ℕ
one_more n = min (n + 1) (2 ^ 64 - 1)

-- the counts of a pool, with this end more
abbrev pub with_one_end : End → EndCounts → EndCounts
with_one_end (end.TimedOut deadline) c = record c { timedout = one_more c.timedout }
with_one_end (end.TooLarge which floor cap) c = record c { toolarge = one_more c.toolarge }
with_one_end end.Cancelled c = record c { cancelled = one_more c.cancelled }

-- the counters of these pools, with this end more of the pool of this name
abbrev pub with_end : List PoolRow → Name → End → List EndCounts → List EndCounts
with_end [] pool end counters = counters
with_end (r ∷ rs) pool end [] = []
with_end (r ∷ rs) pool end (c ∷ cs) = if same_name r.name pool then with_one_end end c ∷ cs else c ∷ with_end rs pool end cs

-- the list without the first that passes the test
abbrev pub without : {A : Type 0} → (A → Bool) → List A → List A
without test [] = []
without test (x ∷ xs) = if test x then xs else x ∷ without test xs

-- the sessions without the one of this number
abbrev pub without_session : ℕ → List Session → List Session
without_session number sessions = without (λ x. x.number == number) sessions

-- the waiting and the running queries without that of this session, which has one at most
abbrev pub without_waiter : ℕ → List Waiter → List Waiter
without_waiter session waiting = without (λ w. w.session == session) waiting

abbrev pub without_runner : ℕ → List Runner → List Runner
without_runner session running = without (λ r. r.session == session) running

-- the waiting and the running query of this session
abbrev pub waiter_of : List Waiter → ℕ → Option Waiter
waiter_of waiting session = find (λ w. w.session == session) waiting

abbrev pub runner_of : List Runner → ℕ → Option Runner
runner_of running session = find (λ r. r.session == session) running

abbrev pub is_idle : Phase → Bool
is_idle phase.Idle = true
is_idle phase.Waiting = false
is_idle phase.Running = false
is_idle (phase.Ended end) = false

abbrev pub is_running : Phase → Bool
is_running phase.Idle = false
is_running phase.Waiting = false
is_running phase.Running = true
is_running (phase.Ended end) = false

abbrev pub is_waiting : Phase → Bool
is_waiting phase.Idle = false
is_waiting phase.Waiting = true
is_waiting phase.Running = false
is_waiting (phase.Ended end) = false

-- the session's query has ended, and nobody has collected the end
abbrev pub is_ended : Phase → Bool
is_ended phase.Idle = false
is_ended phase.Waiting = false
is_ended phase.Running = false
is_ended (phase.Ended end) = true

-- the session's query waits or runs
abbrev pub is_active : Phase → Bool
is_active phase.Idle = false
is_active phase.Waiting = true
is_active phase.Running = true
is_active (phase.Ended end) = false

-- the phase of the session of this number; one that is not open has no query
abbrev pub phase_of : List Session → ℕ → Phase
phase_of sessions number = elim (session_called sessions number) [ Some x ↦ x.phase | None ↦ phase.Idle ]

-- a query is live while its session is not idle
abbrev pub live_queries : List Session → ℕ
live_queries sessions = count_by (λ x. not (is_idle x.phase)) sessions

abbrev pub active_queries : List Session → ℕ
active_queries sessions = count_by (λ x. is_active x.phase) sessions

-- the reply accepts a statement
abbrev pub is_defined : Reply → Bool
is_defined reply.Defined = true
is_defined (reply.Opened session) = false
is_defined reply.Set = false
is_defined (reply.Admitted query pool grant own borrowed) = false
is_defined (reply.Waiting query place) = false
is_defined (reply.Ended end) = false
is_defined reply.Go = false
is_defined (reply.MovedOn pool) = false
is_defined (reply.GiveWay pool) = false
is_defined (reply.CapEnded which ran cap) = false
is_defined reply.Stopping = false
is_defined (reply.Released grant) = false
is_defined reply.Cancelled = false
is_defined reply.Closed = false
is_defined (reply.Refused refusal) = false

-- an entry of an accepted statement
abbrev pub is_definition : Entry → Bool
is_definition e = is_defined e.reply

-- the journal's entries that count against its room
abbrev pub counted_entries : List Entry → ℕ
counted_entries journal = count_by (λ e. not (is_definition e)) journal
