-- The snapshot of a state.
use Rattle.std.specs.Prelude.{map, length}
use Rattle.std.specs.List.{zip}
use Rattle.rm_base.specs.declared.definitions.Definitions.{Definitions}
use Rattle.rm_base.specs.declared.entry.Account.{Account}
use Rattle.rm_base.specs.declared.snapshot.Condition.{Condition}
use Rattle.rm_base.specs.declared.snapshot.Condition.TheVariants as condition
use Rattle.rm_base.specs.declared.snapshot.SessionSeen.{SessionSeen}
use Rattle.rm_base.specs.declared.snapshot.RunningSeen.{RunningSeen}
use Rattle.rm_base.specs.declared.snapshot.WaitingSeen.{WaitingSeen}
use Rattle.rm_base.specs.declared.snapshot.Snapshot.{Snapshot}
use Rattle.rm_base.specs.declared.snapshot.Looked.{Looked}
use Rattle.rm_rules.specs.declared.state.Phase.{Phase}
use Rattle.rm_rules.specs.declared.state.Phase.TheVariants as phase
use Rattle.rm_rules.specs.declared.state.Session.{Session}
use Rattle.rm_rules.specs.declared.state.Runner.{Runner}
use Rattle.rm_rules.specs.declared.state.Waiter.{Waiter}
use Rattle.rm_rules.specs.State.{State, session_pool}
use Rattle.rm_rules.specs.Holdings.{holdings_of}
use Rattle.rm_rules.specs.Accounting.{accounts}

-- what a query is doing, without how it ended
abbrev pub condition_of : Phase → Condition
condition_of phase.Idle = condition.Idle
condition_of phase.Waiting = condition.Waiting
condition_of phase.Running = condition.Running
condition_of (phase.Ended end) = condition.Ended

-- a session, with the pool in which its next query would wait
abbrev pub session_seen : Definitions → Session → SessionSeen
session_seen d x = record {
  session = x.number;
  user = x.user;
  pool = session_pool d x;
  cap_ms = x.cap_ms;
  condition = condition_of x.phase;
}

-- a running query and its account
abbrev pub running_seen : Runner × Account → RunningSeen
running_seen e = record {
  query = e.0.query;
  session = e.0.session;
  account = e.1;
  start = e.0.start;
  moves = e.0.moves;
}

abbrev pub waiting_seen : Waiter → WaitingSeen
waiting_seen w = record { query = w.query; session = w.session; pool = w.pool; queued = w.queued }

abbrev pub snapshot_of : State → Snapshot
snapshot_of s = record {
  definitions = s.definitions;
  in_force = s.in_force;
  actual = s.actual;
  sessions = map (session_seen s.definitions) s.sessions;
  running = map running_seen (zip s.running (accounts (holdings_of s)));
  waiting = map waiting_seen s.waiting;
  counters = s.counters;
  moves = s.moves;
}

-- the snapshot, and how many entries the journal has
abbrev pub looked_of : State → Looked
looked_of s = record { snapshot = snapshot_of s; place = length s.journal }
