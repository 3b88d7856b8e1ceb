-- What each event is refused with, and what it changes.
use Rattle.std.specs.Prelude.{ℕ, true, false, ◌+◌, ◌*◌, Bool, ◌==◌, nat_le, nat_lt, not, List, [], ◌∷◌, ◌++◌, Option, Some, None, is_none, option_map, min, Result, Ok, Err, length, if◌then◌else◌}
use Rattle.rm_base.specs.declared.limits.TheConstants.{SESSIONS_MOST, ENTRIES_A_QUERY, ENTRIES_A_SESSION, MOMENT_MOST}
use Rattle.rm_base.specs.declared.definitions.Definitions.{Definitions}
use Rattle.rm_base.specs.declared.event.Event.{Event}
use Rattle.rm_base.specs.declared.event.Event.TheVariants.{Define, Open, SetPool, SetCap, Submit, Poll, Check, GiveWay, Finish, Cancel, Close}
use Rattle.rm_base.specs.declared.name.Name.{Name}
use Rattle.rm_base.specs.declared.reply.End.{End}
use Rattle.rm_base.specs.declared.reply.End.TheVariants as end
use Rattle.rm_base.specs.declared.statement.Statement.{Statement}
use Rattle.rm_base.specs.declared.statement.Statement.TheVariants.{CreatePool, AlterPool, DropPool, CreateUser, AlterUser, DropUser, CreateRole, AlterRole, DropRole, GrantUsage, RevokeUsage, GrantRole, RevokeRole}
use Rattle.rm_base.specs.Name.{same_name}
use Rattle.rm_base.specs.declared.refusal.Refusal.{Refusal}
use Rattle.rm_base.specs.declared.refusal.Refusal.TheVariants as refusal
use Rattle.rm_base.specs.declared.reply.Reply.TheVariants as reply
use Rattle.rm_rules.specs.declared.answer.Answer.{Answer}
use Rattle.rm_rules.specs.declared.answer.Answer.TheVariants.{Says, Tells, Collects}
use Rattle.rm_rules.specs.declared.state.Phase.{Phase}
use Rattle.rm_rules.specs.declared.state.Phase.TheVariants as phase
use Rattle.rm_rules.specs.declared.state.Session.{Session}
use Rattle.rm_rules.specs.declared.state.Waiter.{Waiter}
use Rattle.rm_rules.specs.declared.state.Runner.{Runner}
use Rattle.rm_rules.specs.declared.verdict.Verdict.{Verdict}
use Rattle.rm_rules.specs.declared.verdict.Verdict.TheVariants as verdict
use Rattle.rm_rules.specs.Definitions.{pool_row, usage}
use Rattle.rm_rules.specs.Refusals.{refused_if, first_refusal, unless_refused, pool_missing, user_missing}
use Rattle.rm_rules.specs.Acceptance.{accepted}
use Rattle.rm_rules.specs.Ask.{is_too_large, too_large}
use Rattle.rm_rules.specs.State.{State, none_ended, with_choice, with_cap, session_called, session_of, session_pool, waiter_of, runner_of, with_phase, without_session, without_waiter, without_runner, is_idle, is_running, live_queries, counted_entries}
use Rattle.rm_rules.specs.Deadlines.{ended_as}
use Rattle.rm_rules.specs.Target.{running_time, verdict}
use Rattle.rm_rules.specs.DropPool.{dropped}
use Rattle.rm_rules.specs.Moving.{takes, moved_on, asked_to_leave, gave_way, asked_to_stop}

-- what an accepted event does: the state that it makes, its answer, and whether it changes anything
pub record Change : Type 0 where
  pub state : State
  pub answer : Answer
  pub changed : Bool

-- an event that changes nothing
abbrev pub quiet : State → Answer → Change
quiet s answer = record { state = s; answer = answer; changed = false }

-- an event that leaves this state
abbrev pub changing : State → Answer → Change
changing s answer = record { state = s; answer = answer; changed = true }

-- what is done for the open session of this number that the seat has opened
abbrev pub with_session : State → ℕ → ℕ → (Session → Result Change Refusal) → Result Change Refusal
with_session s seat number act = elim (session_of s seat number) [ Some x ↦ act x | None ↦ Err refusal.NoSuchSession ]

-- 19: the query is too large for the pool
abbrev pub size_refusal : Definitions → Name → Name → ℕ → Option Refusal
size_refusal d pool user floor = refused_if (is_too_large d (pool_row d pool) user floor) (too_large d (pool_row d pool) user floor)

-- 21: the session has a live query
abbrev pub session_busy : Session → Option Refusal
session_busy x = refused_if (not (is_idle x.phase)) refusal.SessionBusy

-- 21 for Close: a query of the session runs
abbrev pub session_running : Session → Option Refusal
session_running x = refused_if (is_running x.phase) refusal.SessionBusy

-- 22: the session has no live query, or none that runs
abbrev pub not_live : Session → Option Refusal
not_live x = refused_if (is_idle x.phase) refusal.NotLive

abbrev pub not_running : Session → Option Refusal
not_running x = refused_if (not (is_running x.phase)) refusal.NotLive

-- 23: the user has no USAGE of the pool
abbrev pub usage_missing : Definitions → Name → Name → Option Refusal
usage_missing d user pool = refused_if (not (usage d user pool)) (refusal.NoUsage pool)

-- 24: no session more may be open
abbrev pub sessions_full : State → Option Refusal
sessions_full s = refused_if (nat_le SESSIONS_MOST (length s.sessions)) (refusal.SessionsFull SESSIONS_MOST)

-- 25: with one entry more, the journal would not keep free what this many live queries and open sessions may still need
abbrev pub is_journal_full : State → ℕ → ℕ → Bool
is_journal_full s live open_sessions =
    nat_lt s.room (counted_entries s.journal + 1 + ENTRIES_A_QUERY * live + ENTRIES_A_SESSION * open_sessions)

abbrev pub journal_full : State → ℕ → ℕ → Option Refusal
journal_full s live open_sessions = refused_if (is_journal_full s live open_sessions) (refusal.JournalFull s.room)

-- a list of one item a pool, with one more where there is a pool more
abbrev pub with_place : {A : Type 0} → Definitions → Definitions → A → List A → List A
with_place old new x xs = if nat_lt (length old.pools) (length new.pools) then xs ++ x ∷ [] else xs

-- new definitions: a new pool has no bytes yet, and no query of it has ended
abbrev pub defined : State → Definitions → State
defined s d = record s {
  definitions = d;
  actual = with_place s.definitions d 0 s.actual;
  counters = with_place s.definitions d none_ended s.counters;
}

-- the state that an accepted statement leaves, by the definitions that it leaves
abbrev pub defined_by : State → Statement → Definitions → State
defined_by s (CreatePool name change) d = defined s d
defined_by s (AlterPool name change) d = defined s d
defined_by s (DropPool name) d = dropped s name d
defined_by s (CreateUser name change) d = defined s d
defined_by s (AlterUser name change) d = defined s d
defined_by s (DropUser name) d = defined s d
defined_by s (CreateRole name) d = defined s d
defined_by s (AlterRole name pool) d = defined s d
defined_by s (DropRole name) d = defined s d
defined_by s (GrantUsage pool grantee) d = defined s d
defined_by s (RevokeUsage pool grantee) d = defined s d
defined_by s (GrantRole role user) d = defined s d
defined_by s (RevokeRole role user) d = defined s d

-- Define: what the statement is refused with
abbrev pub defining_to : State → Statement → Result Definitions Refusal → Result Change Refusal
defining_to s statement (Err refusal) = Err refusal
defining_to s statement (Ok d) = Ok (changing (defined_by s statement d) (Says reply.Defined))

abbrev pub defining : State → Statement → Result Change Refusal
defining s statement = defining_to s statement (accepted s.definitions statement)

-- a new session of this user, opened by this seat
abbrev pub new_session : State → ℕ → Name → Session
new_session s seat user = record {
  number = s.last_session + 1;
  seat = seat;
  user = user;
  pool = None;
  cap_ms = None;
  phase = phase.Idle;
}

abbrev pub opened : State → ℕ → Name → Change
opened s seat user =
    changing (record s { sessions = s.sessions ++ new_session s seat user ∷ []; last_session = s.last_session + 1 })
    (Says (reply.Opened (s.last_session + 1)))

-- Open
abbrev pub opening_refusal : State → Name → Option Refusal
opening_refusal s user = first_refusal (
    user_missing s.definitions user
    ∷ sessions_full s
    ∷ journal_full s (live_queries s.sessions) (length s.sessions + 1)
    ∷ [])

abbrev pub opening : State → ℕ → Name → Result Change Refusal
opening s seat user = unless_refused (opening_refusal s user) (opened s seat user)

-- the session has chosen this pool
abbrev pub has_chosen : Session → Name → Bool
has_chosen x pool = elim x.pool [ Some chosen ↦ same_name chosen pool | None ↦ false ]

-- to choose what is chosen changes nothing
abbrev pub chosen : State → Session → Name → Change
chosen s x pool =
    if has_chosen x pool then quiet s (Says reply.Set)
    else changing (record s { sessions = with_choice x.number pool s.sessions }) (Says reply.Set)

-- SetPool
abbrev pub choosing_refusal : State → Session → Name → Option Refusal
choosing_refusal s x pool = first_refusal (
    pool_missing s.definitions pool
    ∷ usage_missing s.definitions x.user pool
    ∷ journal_full s (live_queries s.sessions) (length s.sessions)
    ∷ [])

abbrev pub choosing : State → Name → Session → Result Change Refusal
choosing s pool x = unless_refused (choosing_refusal s x pool) (chosen s x pool)

-- a cap is the greatest moment at most
abbrev pub within_moments : Option ℕ → Option ℕ
within_moments cap = option_map (min MOMENT_MOST) cap

-- the session has this runtime cap of its own
abbrev pub has_cap : Session → Option ℕ → Bool
has_cap x None = is_none x.cap_ms
has_cap x (Some cap) = elim x.cap_ms [ Some own ↦ own == cap | None ↦ false ]

-- to set the cap that is there changes nothing
abbrev pub cap_set : State → Session → Option ℕ → Change
cap_set s x cap =
    if has_cap x cap then quiet s (Says reply.Set)
    else changing (record s { sessions = with_cap x.number cap s.sessions }) (Says reply.Set)

-- SetCap
abbrev pub capping : State → Option ℕ → Session → Result Change Refusal
capping s cap x = unless_refused (journal_full s (live_queries s.sessions) (length s.sessions)) (cap_set s x (within_moments cap))

-- a new query of this session, queued now
abbrev pub new_waiter : State → Session → Name → ℕ → Waiter
new_waiter s x pool floor = record {
  query = s.last_query + 1;
  session = x.number;
  user = x.user;
  pool = pool;
  floor = floor;
  queued = s.clock;
  ran = 0;
  moves = 0;
}

abbrev pub submitted : State → Session → Name → ℕ → Change
submitted s x pool floor = changing (record s {
  sessions = with_phase x.number phase.Waiting s.sessions;
  waiting = s.waiting ++ new_waiter s x pool floor ∷ [];
  last_query = s.last_query + 1;
}) (Collects x.number)

-- Submit
abbrev pub submitting_refusal : State → Session → Name → ℕ → Option Refusal
submitting_refusal s x pool floor = first_refusal (
    session_busy x
    ∷ user_missing s.definitions x.user
    ∷ usage_missing s.definitions x.user pool
    ∷ size_refusal s.definitions pool x.user floor
    ∷ journal_full s (live_queries s.sessions + 1) (length s.sessions)
    ∷ [])

abbrev pub submitting_to : State → Session → Name → ℕ → Result Change Refusal
submitting_to s x pool floor = unless_refused (submitting_refusal s x pool floor) (submitted s x pool floor)

abbrev pub submitting : State → ℕ → Session → Result Change Refusal
submitting s floor x = submitting_to s x (session_pool s.definitions x) floor

-- an end is collected: the session is idle
abbrev pub collected : State → Session → End → Change
collected s x end = changing (record s { sessions = with_phase x.number phase.Idle s.sessions }) (Says (reply.Ended end))

-- only an end that is collected changes anything
abbrev pub polled : State → Session → Phase → Change
polled s x phase.Idle = quiet s (Tells x.number)
polled s x phase.Waiting = quiet s (Tells x.number)
polled s x phase.Running = quiet s (Tells x.number)
polled s x (phase.Ended end) = collected s x end

-- Poll
abbrev pub polling : State → Session → Result Change Refusal
polling s x = unless_refused (not_live x) (polled s x x.phase)

-- what is done for the session's running query
abbrev pub with_runner : State → ℕ → (Runner → Result Change Refusal) → Result Change Refusal
with_runner s session act = elim (runner_of s.running session) [ Some r ↦ act r | None ↦ Err refusal.NotLive ]

-- what a check comes to: the reply alone, or the query moves on, or is to give way
abbrev pub checked_to : State → Runner → Verdict → Change
checked_to s r (verdict.Says reply) = quiet s (Says reply)
checked_to s r (verdict.GoesTo pool) =
    if takes s r pool then changing (moved_on s r pool) (Says (reply.MovedOn pool))
    else changing (asked_to_leave s r pool) (Says (reply.GiveWay pool))

abbrev pub checked : State → Session → Runner → Change
checked s x r = checked_to s r (verdict s.definitions r x.cap_ms (running_time r s.clock))

-- Check
abbrev pub checking : State → Session → Result Change Refusal
checking s x = with_runner s x.number (λ r. Ok (checked s x r))

-- GiveWay
abbrev pub giving_way_to : State → Runner → Option Name → Result Change Refusal
giving_way_to s r None = Err refusal.NotLive
giving_way_to s r (Some pool) = Ok (changing (gave_way s r pool) (Collects r.session))

abbrev pub giving_way : State → Session → Result Change Refusal
giving_way s x = with_runner s x.number (λ r. giving_way_to s r r.leaving)

-- a waiting query that is cancelled ends
abbrev pub withdrawn : State → Waiter → Change
withdrawn s w = changing (ended_as end.Cancelled s w) (Says reply.Cancelled)

-- a running one is to stop; to cancel it again changes nothing
abbrev pub stopped : State → Runner → Change
stopped s r = if r.cancelled then quiet s (Says reply.Cancelled) else changing (asked_to_stop s r) (Says reply.Cancelled)

-- the session's query, which waits or runs, is cancelled
abbrev pub cancelled : State → Session → Result Change Refusal
cancelled s y = elim (waiter_of s.waiting y.number) [ Some w ↦ Ok (withdrawn s w) | None ↦ with_runner s y.number (λ r. Ok (stopped s r)) ]

-- 22 for Cancel: the target is another user's
abbrev pub cancelled_by : State → Session → Session → Result Change Refusal
cancelled_by s x y = if same_name x.user y.user then cancelled s y else Err refusal.NotLive

-- Cancel, whose target may be a session of any seat
abbrev pub cancelling : State → ℕ → Session → Result Change Refusal
cancelling s target x = elim (session_called s.sessions target) [ Some y ↦ cancelled_by s x y | None ↦ Err refusal.NoSuchSession ]

-- what the session's running query holds
abbrev pub grant_of : List Runner → ℕ → ℕ
grant_of running session = elim (runner_of running session) [ Some r ↦ r.grant | None ↦ 0 ]

abbrev pub finished : State → Session → Change
finished s x = changing (record s {
  sessions = with_phase x.number phase.Idle s.sessions;
  running = without_runner x.number s.running;
}) (Says (reply.Released (grant_of s.running x.number)))

-- Finish
abbrev pub finishing : State → Session → Result Change Refusal
finishing s x = unless_refused (not_running x) (finished s x)

-- the session is gone: a query of it that waited leaves the queue and is counted nowhere, an end is forgotten
abbrev pub closed : State → Session → Change
closed s x = changing (record s {
  sessions = without_session x.number s.sessions;
  waiting = without_waiter x.number s.waiting;
}) (Says reply.Closed)

-- Close
abbrev pub closing : State → Session → Result Change Refusal
closing s x = unless_refused (session_running x) (closed s x)

-- what an event of this seat does, or why it is refused
abbrev pub change : State → ℕ → Event → Result Change Refusal
change s seat (Define statement) = defining s statement
change s seat (Open user) = opening s seat user
change s seat (SetPool session pool) = with_session s seat session (choosing s pool)
change s seat (SetCap session cap) = with_session s seat session (capping s cap)
change s seat (Submit session floor) = with_session s seat session (submitting s floor)
change s seat (Poll session) = with_session s seat session (polling s)
change s seat (Check session) = with_session s seat session (checking s)
change s seat (GiveWay session) = with_session s seat session (giving_way s)
change s seat (Finish session) = with_session s seat session (finishing s)
change s seat (Cancel by target) = with_session s seat by (cancelling s target)
change s seat (Close session) = with_session s seat session (closing s)

-- an event as it is tried: one that is refused changes nothing
abbrev pub tried : State → Result Change Refusal → Change
tried s (Err refusal) = quiet s (Says (reply.Refused refusal))
tried s (Ok c) = c
