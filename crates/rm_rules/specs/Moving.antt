-- A running query that goes on in another pool with its grant, or gives it back to wait there.
use Rattle.std.specs.Prelude.{ℕ, ◌+◌, ◌-◌, Bool, ◌&&◌, ◌==◌, nat_le, true, List, [], ◌∷◌, ◌++◌, Some, length, drop}
use Rattle.rm_base.specs.declared.limits.TheConstants.{MOVES_KEPT}
use Rattle.rm_base.specs.declared.definitions.Definitions.{Definitions}
use Rattle.rm_base.specs.declared.entry.MoveSeen.{MoveSeen}
use Rattle.rm_base.specs.declared.name.Name.{Name}
use Rattle.rm_base.specs.Ranges.{passes_if_set}
use Rattle.rm_rules.specs.declared.state.Phase.TheVariants as phase
use Rattle.rm_rules.specs.declared.state.Waiter.{Waiter}
use Rattle.rm_rules.specs.declared.state.Runner.{Runner}
use Rattle.rm_rules.specs.Definitions.{pool_row}
use Rattle.rm_rules.specs.State.{State, changed_first, with_phase, without_runner}
use Rattle.rm_rules.specs.Holdings.{Holdings, holdings_of}
use Rattle.rm_rules.specs.Fit.{judged}
use Rattle.rm_rules.specs.Target.{running_time}

-- the bytes of the state, with the session's query taken out of those that run
abbrev pub holdings_without : State → ℕ → Holdings
holdings_without s session = holdings_of (record s { running = without_runner session s.running })

-- the pool's MAXQUERYMEMORYSIZE allows the grant
abbrev pub allows_grant : Definitions → Name → ℕ → Bool
allows_grant d pool grant = passes_if_set (nat_le grant) (pool_row d pool).query_max

-- the pool takes the query as it stands: once it is taken out of those that run, it fits there with its grant for an ask
abbrev pub takes : State → Runner → Name → Bool
takes s r pool = (judged s.definitions (holdings_without s r.session) pool r.grant).fits && allows_grant s.definitions pool r.grant

-- the query as it goes on in the pool from this moment on
abbrev pub moved : ℕ → Name → Runner → Runner
moved moment pool r = record r { pool = pool; start = moment; ran = running_time r moment; moves = r.moves + 1 }

-- the query, which is to give way to wait in the pool
abbrev pub leaving_for : Name → Runner → Runner
leaving_for pool r = record r { leaving = Some pool; moves = r.moves + 1 }

-- the query as it waits in the pool from this moment on
abbrev pub requeued : ℕ → Name → Runner → Waiter
requeued moment pool r = record {
  query = r.query;
  session = r.session;
  user = r.user;
  pool = pool;
  floor = r.floor;
  queued = moment;
  ran = running_time r moment;
  moves = r.moves;
}

-- the query, which is to stop
abbrev pub stopping : Runner → Runner
stopping r = record r { cancelled = true }

-- the running queries, with that of this session changed so
abbrev pub with_runner_as : (Runner → Runner) → ℕ → List Runner → List Runner
with_runner_as act session running = changed_first (λ r. r.session == session) act running

-- the query's move to the pool
abbrev pub move_of : ℕ → Name → Runner → MoveSeen
move_of moment pool r = record {
  at = moment;
  session = r.session;
  query = r.query;
  source = r.pool;
  target = pool;
  ran = running_time r moment;
}

-- the last moves, with one more
abbrev pub with_move : List MoveSeen → MoveSeen → List MoveSeen
with_move moves move = let all = moves ++ move ∷ [] in drop (length all - MOVES_KEPT) all

-- the state in which the query went on in the pool, behind all others that run
abbrev pub moved_on : State → Runner → Name → State
moved_on s r pool = record s {
  running = without_runner r.session s.running ++ moved s.clock pool r ∷ [];
  moves = with_move s.moves (move_of s.clock pool r);
}

-- the state in which the query is to give way
abbrev pub asked_to_leave : State → Runner → Name → State
asked_to_leave s r pool = record s { running = with_runner_as (leaving_for pool) r.session s.running }

-- the state in which the query gave way: its bytes are back, and it waits in the pool behind all others that wait
abbrev pub gave_way : State → Runner → Name → State
gave_way s r pool = record s {
  sessions = with_phase r.session phase.Waiting s.sessions;
  running = without_runner r.session s.running;
  waiting = s.waiting ++ requeued s.clock pool r ∷ [];
  moves = with_move s.moves (move_of s.clock pool r);
}

-- the state in which the query is to stop
abbrev pub asked_to_stop : State → Runner → State
asked_to_stop s r = record s { running = with_runner_as stopping r.session s.running }
