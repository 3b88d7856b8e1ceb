-- What an event leaves of the sessions of others.
use Rattle.std.specs.Prelude.{◌≡◌, ◌≢◌, ◌⊎◌, ℕ, Option, Some, None}
use Rattle.rm_base.specs.declared.event.Event.{Event}
use Rattle.rm_base.specs.declared.event.Event.TheVariants.{Define, Open, SetPool, SetCap, Submit, Poll, Check, GiveWay, Finish, Cancel, Close}
use Rattle.rm_base.specs.declared.name.Name.{Name}
use Rattle.rm_base.specs.declared.reply.End.{End}
use Rattle.rm_base.specs.declared.statement.Statement.TheVariants.{DropPool}
use Rattle.rm_rules.specs.declared.state.Phase.{Phase}
use Rattle.rm_rules.specs.declared.state.Phase.TheVariants as phase
use Rattle.rm_rules.specs.declared.state.Session.{Session}
use Rattle.rm_rules.specs.State.{State, session_called}
use Rattle.rm_rules.specs.DropPool.{named_in_place}

-- the session for which an event is; Cancel is one of the session that asks for it
abbrev pub session_in : Event → Option ℕ
session_in (Define statement) = None
session_in (Open user) = None
session_in (SetPool session pool) = Some session
session_in (SetCap session cap) = Some session
session_in (Submit session floor) = Some session
session_in (Poll session) = Some session
session_in (Check session) = Some session
session_in (GiveWay session) = Some session
session_in (Finish session) = Some session
session_in (Cancel by target) = Some by
session_in (Close session) = Some session

-- an event of this seat is for another session than this one, or this one is not the seat's
abbrev pub IsForeign : ℕ → Event → Session → Type 0
IsForeign seat event x = (session_in event ≢ Some x.number) ⊎ (x.seat ≢ seat)

-- what other sessions' events may bring a query: one that waits may begin to run, or end in the queue, cancelled too
pub data Settles : Phase → Phase → Type 0 where
  Stays : (p : Phase) → Settles p p
  Runs : Settles phase.Waiting phase.Running
  Ends : (end : End) → Settles phase.Waiting (phase.Ended end)

-- the chosen pool is as it was, or the event drops it, and it is GENERAL
pub data KeepsChoice (event : Event) (old : Option Name) : Option Name → Type 0 where
  Same : KeepsChoice event old old
  Dropped : (pool : Name) → event ≡ Define (DropPool pool) → KeepsChoice event old (named_in_place pool old)

-- what an event that is not for a session leaves of it
pub record IsLeft (event : Event) (old new : Session) : Type 0 where
  pub number : new.number ≡ old.number
  pub seat : new.seat ≡ old.seat
  pub user : new.user ≡ old.user
  pub pool : KeepsChoice event old.pool new.pool
  pub cap_ms : new.cap_ms ≡ old.cap_ms
  pub phase : Settles old.phase new.phase

-- each session that is open, and for which the event is not, is still open, and left so
abbrev pub LeavesForeign : ℕ → Event → State → State → Type 0
LeavesForeign seat event old new =
    (x : Session) → session_called old.sessions x.number ≡ Some x → IsForeign seat event x
    → (y : Session) × (session_called new.sessions x.number ≡ Some y) × IsLeft event x y
