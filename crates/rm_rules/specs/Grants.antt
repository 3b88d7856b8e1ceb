-- What an event does to the running queries' grants, and to the memory in force.
use Rattle.std.specs.Prelude.{◌≡◌, ◌≢◌, ◌⊎◌, ℕ, Bool, true, false, ◌+◌, ◌==◌, ◌<◌, ◌≤◌, List, [], ◌∷◌, ◌++◌, Option, Some, None, option_map, option_and_then, find, if◌then◌else◌}
use Rattle.rm_base.specs.declared.definitions.Definitions.{Definitions}
use Rattle.rm_base.specs.declared.entry.Entry.{Entry}
use Rattle.rm_base.specs.declared.event.Event.{Event}
use Rattle.rm_base.specs.declared.event.Event.TheVariants.{Define, Open, SetPool, SetCap, Submit, Poll, Check, GiveWay, Finish, Cancel, Close}
use Rattle.rm_base.specs.declared.name.Name.{Name}
use Rattle.rm_base.specs.declared.statement.Statement.TheVariants.{DropPool}
use Rattle.rm_base.specs.declared.reply.Reply.{Reply}
use Rattle.rm_base.specs.declared.reply.Reply.TheVariants as reply
use Rattle.rm_rules.specs.declared.state.Session.{Session}
use Rattle.rm_rules.specs.declared.state.Runner.{Runner}
use Rattle.rm_rules.specs.declared.state.Waiter.{Waiter}
use Rattle.rm_rules.specs.Definitions.{pool_row, total}
use Rattle.rm_rules.specs.Ask.{cap, ask}
use Rattle.rm_rules.specs.Admission.{started}
use Rattle.rm_rules.specs.State.{State, session_of, session_pool, without_runner, runner_of}
use Rattle.rm_rules.specs.Holdings.{holdings}
use Rattle.rm_rules.specs.Accounting.{used}
use Rattle.rm_rules.specs.Conserved.{IsConserved}
use Rattle.rm_rules.specs.DropPool.{as_generals, runner_beside}
use Rattle.rm_rules.specs.Moving.{moved, leaving_for, requeued, stopping}
use Rattle.rm_rules.specs.Step.{step}

-- the memory in force rises only where a statement raises the total
abbrev pub RaisesForce : State → State → Event → Type 0
RaisesForce old new (Define statement) = old.in_force < new.in_force → total old.definitions < total new.definitions
RaisesForce old new (Open user) = new.in_force ≤ old.in_force
RaisesForce old new (SetPool session pool) = new.in_force ≤ old.in_force
RaisesForce old new (SetCap session cap) = new.in_force ≤ old.in_force
RaisesForce old new (Submit session floor) = new.in_force ≤ old.in_force
RaisesForce old new (Poll session) = new.in_force ≤ old.in_force
RaisesForce old new (Check session) = new.in_force ≤ old.in_force
RaisesForce old new (GiveWay session) = new.in_force ≤ old.in_force
RaisesForce old new (Finish session) = new.in_force ≤ old.in_force
RaisesForce old new (Cancel by target) = new.in_force ≤ old.in_force
RaisesForce old new (Close session) = new.in_force ≤ old.in_force

-- the running and the waiting query of this number
abbrev pub runner_called : List Runner → ℕ → Option Runner
runner_called running query = find (λ r. r.query == query) running

abbrev pub waiter_called : List Waiter → ℕ → Option Waiter
waiter_called waiting query = find (λ w. w.query == query) waiting

-- what the running query of this number holds
abbrev pub grant_called : List Runner → ℕ → Option ℕ
grant_called running query = option_map (λ r. r.grant) (runner_called running query)

-- the grant that a reply says is given back
abbrev pub released : Reply → Option ℕ
released reply.Defined = None
released (reply.Opened session) = None
released reply.Set = None
released (reply.Admitted query pool grant own borrowed) = None
released (reply.Waiting query place) = None
released (reply.Ended end) = None
released reply.Go = None
released (reply.MovedOn pool) = None
released (reply.GiveWay pool) = None
released (reply.CapEnded which ran cap) = None
released reply.Stopping = None
released (reply.Released grant) = Some grant
released reply.Cancelled = None
released reply.Closed = None
released (reply.Refused refusal) = None

-- the pool to which a reply says that a query moved on
abbrev pub moved_on_to : Reply → Option Name
moved_on_to reply.Defined = None
moved_on_to (reply.Opened session) = None
moved_on_to reply.Set = None
moved_on_to (reply.Admitted query pool grant own borrowed) = None
moved_on_to (reply.Waiting query place) = None
moved_on_to (reply.Ended end) = None
moved_on_to reply.Go = None
moved_on_to (reply.MovedOn pool) = Some pool
moved_on_to (reply.GiveWay pool) = None
moved_on_to (reply.CapEnded which ran cap) = None
moved_on_to reply.Stopping = None
moved_on_to (reply.Released grant) = None
moved_on_to reply.Cancelled = None
moved_on_to reply.Closed = None
moved_on_to (reply.Refused refusal) = None

-- the reply refuses the event
abbrev pub is_refused : Reply → Bool
is_refused reply.Defined = false
is_refused (reply.Opened session) = false
is_refused reply.Set = false
is_refused (reply.Admitted query pool grant own borrowed) = false
is_refused (reply.Waiting query place) = false
is_refused (reply.Ended end) = false
is_refused reply.Go = false
is_refused (reply.MovedOn pool) = false
is_refused (reply.GiveWay pool) = false
is_refused (reply.CapEnded which ran cap) = false
is_refused reply.Stopping = false
is_refused (reply.Released grant) = false
is_refused reply.Cancelled = false
is_refused reply.Closed = false
is_refused (reply.Refused refusal) = true

-- the session whose running query an event with this reply takes its grant from: one that finishes it, or that gives way
abbrev pub freeing : Event → Reply → Option ℕ
freeing (Define statement) answer = None
freeing (Open user) answer = None
freeing (SetPool session pool) answer = None
freeing (SetCap session cap) answer = None
freeing (Submit session floor) answer = None
freeing (Poll session) answer = None
freeing (Check session) answer = None
freeing (GiveWay session) answer = if is_refused answer then None else Some session
freeing (Finish session) answer = option_map (λ grant. session) (released answer)
freeing (Cancel by target) answer = None
freeing (Close session) answer = None

-- the number of the session's running query
abbrev pub query_of : State → ℕ → Option ℕ
query_of s session = option_map (λ r. r.query) (runner_of s.running session)

-- the query from which an event with this reply takes its grant
abbrev pub freed_by : State → Event → Reply → Option ℕ
freed_by s event answer = option_and_then (query_of s) (freeing event answer)

-- the session whose running query an event with this reply moves on to another pool, behind all others
abbrev pub moving_in : Event → Reply → Option ℕ
moving_in (Define statement) answer = None
moving_in (Open user) answer = None
moving_in (SetPool session pool) answer = None
moving_in (SetCap session cap) answer = None
moving_in (Submit session floor) answer = None
moving_in (Poll session) answer = None
moving_in (Check session) answer = option_map (λ pool. session) (moved_on_to answer)
moving_in (GiveWay session) answer = None
moving_in (Finish session) answer = None
moving_in (Cancel by target) answer = None
moving_in (Close session) answer = None

-- the running queries, that of this session behind all others
abbrev pub put_last : ℕ → List Runner → List Runner
put_last session running = without_runner session running ++ elim (runner_of running session) [ Some r ↦ r ∷ [] | None ↦ [] ]

-- the running queries that an event with this reply leaves, in the order in which it leaves them
abbrev pub without_freed : Option ℕ → List Runner → List Runner
without_freed None running = running
without_freed (Some session) running = without_runner session running

abbrev pub with_moved : Option ℕ → List Runner → List Runner
with_moved None running = running
with_moved (Some session) running = put_last session running

abbrev pub still_running : State → Event → Reply → List Runner
still_running s event answer = with_moved (moving_in event answer) (without_freed (freeing event answer) s.running)

-- What a running query is, by the moment of an event with this reply that does not take its grant: it is what it was, or it
-- moved on as a check of its session replied, or it is to give way, or to stop, or its pool was dropped, and it is GENERAL's.
-- Its number and its grant stay.
pub data GoesOn (event : Event) (answer : Reply) (moment : ℕ) (r : Runner) : Runner → Type 0 where
  Stays : GoesOn event answer moment r r
  Moves : (pool : Name) → event ≡ Check r.session → answer ≡ reply.MovedOn pool → GoesOn event answer moment r (moved moment pool r)
  Leaves : (pool : Name) → event ≡ Check r.session → answer ≡ reply.GiveWay pool → GoesOn event answer moment r (leaving_for pool r)
  Stops : (by : ℕ) → event ≡ Cancel by r.session → answer ≡ reply.Cancelled → GoesOn event answer moment r (stopping r)
  Dropped : (pool : Name) → event ≡ Define (DropPool pool) → answer ≡ reply.Defined → GoesOn event answer moment r (runner_beside pool r)

-- so do all of these, in their order
pub data GoOn (event : Event) (answer : Reply) (moment : ℕ) : List Runner → List Runner → Type 0 where
  Nobody : GoOn event answer moment [] []
  Next : (r x : Runner) (rs xs : List Runner) → GoesOn event answer moment r x → GoOn event answer moment rs xs → GoOn event answer moment (r ∷ rs) (x ∷ xs)

-- what a running query is to the one who submitted it: its number and its grant, which stay while it runs
pub record Run : Type 0 where
  pub query : ℕ
  pub grant : ℕ

abbrev pub run_by : Runner → Run
run_by r = record { query = r.query; grant = r.grant }

-- the running query of the session of this number, where this seat has opened it
abbrev pub run_of : State → ℕ → ℕ → Option Run
run_of s seat session = option_and_then (λ _. option_map run_by (runner_of s.running session)) (session_of s seat session)

-- this event submitted the query
abbrev pub WasSubmitted : State → Event → Waiter → Type 0
WasSubmitted old event w = (event ≡ Submit w.session w.floor) × (w.query ≡ old.last_query + 1)

-- this event let the query give way, which ran: it waits in the pool for which it was to leave
pub record GaveWay (old : State) (event : Event) (moment : ℕ) (w : Waiter) : Type 0 where
  pub runner : Runner
  pub ran : runner_called old.running w.query ≡ Some runner
  pub event_is : event ≡ GiveWay runner.session
  pub left : runner.leaving ≡ Some w.pool
  pub is : w ≡ requeued moment w.pool runner

-- the query waited in a pool that this event drops: it is GENERAL's now
pub record WasDropped (old : State) (event : Event) (w : Waiter) : Type 0 where
  pub waiter : Waiter
  pub waited : waiter_called old.waiting w.query ≡ Some waiter
  pub event_is : event ≡ Define (DropPool waiter.pool)
  pub is : w ≡ as_generals waiter

-- the query waited, or this event submitted it, let it give way, or dropped its pool
abbrev pub HasWaited : State → Event → ℕ → Waiter → Type 0
HasWaited old event moment w =
    (waiter_called old.waiting w.query ≡ Some w) ⊎ (WasSubmitted old event w ⊎ (GaveWay old event moment w ⊎ WasDropped old event w))

-- A query that begins to run is one that waited, as it begins to run now, with its ask by the definitions in force, and with
-- it its pool's use is within the pool's cap.
pub record IsAdmitted (old new : State) (event : Event) (r : Runner) : Type 0 where
  pub waiter : Waiter
  pub waited : HasWaited old event new.clock waiter
  pub is : r ≡ started new waiter
  pub within : used r.pool (holdings new.running) ≤ cap new.definitions (pool_row new.definitions r.pool)

-- An event takes the grant of at most one query: whole, as its reply says, from one that it finishes, and from one that gives
-- way. The others run on with their grants, in their order, but for one that moves on, which stands behind them then. New
-- ones come behind all these, each an admitted query. A pool to which a query moves on stays within its cap.
pub record KeepsGrants (old new : State) (event : Event) (answer : Reply) : Type 0 where
  pub kept : (query : ℕ) (r : Runner) → runner_called old.running query ≡ Some r → freed_by old event answer ≢ Some query
      → (x : Runner) × (runner_called new.running query ≡ Some x) × GoesOn event answer new.clock r x
  pub freed : (query grant : ℕ) → freed_by old event answer ≡ Some query → released answer ≡ Some grant
      → (grant_called old.running query ≡ Some grant) × (grant_called new.running query ≡ None)
  pub whole : (session : ℕ) → freeing event answer ≡ Some session → (query : ℕ) × (freed_by old event answer ≡ Some query)
  pub order : (before more : List Runner) × (new.running ≡ before ++ more) × GoOn event answer new.clock (still_running old event answer) before
  pub admitted : (query : ℕ) (r : Runner) → runner_called new.running query ≡ Some r
      → (runner_called old.running query ≡ None) ⊎ (freed_by old event answer ≡ Some query) → IsAdmitted old new event r
  pub moved : (pool : Name) → moved_on_to answer ≡ Some pool → used pool (holdings new.running) ≤ cap new.definitions (pool_row new.definitions pool)

-- what an entry of a history does to the bytes
pub record KeepsBytes (old new : State) (entry : Entry) : Type 0 where
  pub conserved : IsConserved new
  pub force : RaisesForce old new entry.event
  pub grants : KeepsGrants old new entry.event entry.reply

-- what each of these entries does to the bytes, from this state on
abbrev pub BytesAreKept : State → List Entry → Type 0
BytesAreKept s [] = Unit {0}
BytesAreKept s (e ∷ es) = KeepsBytes s (step s e.seat e.at e.event).state e × BytesAreKept (step s e.seat e.at e.event).state es

-- what a session's query of this floor asks for in the session's pool
abbrev pub ask_in : Definitions → Session → ℕ → ℕ
ask_in d x floor = ask d (pool_row d (session_pool d x)) x.user floor

-- A query that its session submits to its pool is admitted at once, under the next number, with its ask as its grant.
pub record IsAdmittedAtOnce (s : State) (seat session floor : ℕ) (answer : Reply) : Type 0 where
  pub submitter : Session
  pub open_session : session_of s seat session ≡ Some submitter
  pub own : ℕ
  pub borrowed : ℕ
  pub whole : own + borrowed ≡ ask_in s.definitions submitter floor
  pub reply : answer ≡ reply.Admitted (s.last_query + 1) (session_pool s.definitions submitter) (ask_in s.definitions submitter floor) own borrowed
