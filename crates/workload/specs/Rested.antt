-- The desk of a workload: one session of `dbadmin`, whose queries run one at a time.
use Rattle.std.specs.Prelude.{◌≡◌, ◌⊎◌, ℕ, ◌+◌, ◌*◌, ◌≤◌, [], ◌∷◌, Option, Some, None, option_map}
use Rattle.rm_base.specs.declared.definitions.Definitions.{Definitions}
use Rattle.rm_base.specs.declared.limits.TheConstants.{SCRIPT_ROOM}
use Rattle.rm_base.specs.declared.name.Name.{Name}
use Rattle.rm_base.specs.declared.reply.Reply.{Reply}
use Rattle.rm_base.specs.declared.reply.Reply.TheVariants as reply
use Rattle.rm_base.specs.Name.{dbadmin}
use Rattle.rm_rules.specs.declared.state.Phase.{Phase}
use Rattle.rm_rules.specs.declared.state.Phase.TheVariants as phase
use Rattle.rm_rules.specs.declared.state.Runner.{Runner}
use Rattle.rm_rules.specs.declared.state.Session.{Session}
use Rattle.rm_rules.specs.Accounting.{free}
use Rattle.rm_rules.specs.Ask.{ask}
use Rattle.rm_rules.specs.Definitions.{pool_row}
use Rattle.rm_rules.specs.Holdings.{holdings_of}
use Rattle.rm_rules.specs.Settled.{IsSettled}
use Rattle.rm_rules.specs.State.{State, runner_of, counted_entries}
use Rattle.workload.specs.Pools.{workload_definitions}

-- what the desk is seen as: its definitions, how many queries have begun, the pool of the one that runs, what that holds,
-- and what GENERAL has free, in bytes
pub record LoneSeen : Type 0 where
  pub definitions : Definitions
  pub begun : ℕ
  pub runs_in : Option Name
  pub held : Option ℕ
  pub free : ℕ

-- the grant of a query of this floor in the pool, by the rules
abbrev pub workload_ask : Definitions → Name → ℕ → ℕ
workload_ask d pool floor = ask d (pool_row d pool) dbadmin floor

-- the one session, with the pool that it has chosen, in this phase
abbrev pub own_session : Option Name → Phase → Session
own_session pool now = record { number = 1; seat = 0; user = dbadmin; pool = pool; cap_ms = None; phase = now }

-- the pool of the session's running query, and what that holds
abbrev pub pool_run_by : State → Option Name
pool_run_by s = option_map (λ r. r.pool) (runner_of s.running 1)

abbrev pub held_by : State → Option ℕ
held_by s = option_map (λ r. r.grant) (runner_of s.running 1)

abbrev pub seen_lone : State → LoneSeen
seen_lone s = record {
  definitions = s.definitions;
  begun = s.last_query;
  runs_in = pool_run_by s;
  held = held_by s;
  free = free (holdings_of s);
}

-- between two queries: the session is idle, and nobody runs or waits. Each query has made three entries at most
pub record IsRested (entries : ℕ) (s : State) : Type 0 where
  pub chosen : Option Name
  pub sessions : s.sessions ≡ own_session chosen phase.Idle ∷ []
  pub running : s.running ≡ []
  pub waiting : s.waiting ≡ []
  pub journal : counted_entries s.journal ≤ entries + 3 * s.last_query

-- while a query runs: it runs alone, and nobody waits. The entry of its end is still to be made
pub record IsAsked (s : State) : Type 0 where
  pub chosen : Option Name
  pub runner : Runner
  pub sessions : s.sessions ≡ own_session chosen phase.Running ∷ []
  pub running : s.running ≡ runner ∷ []
  pub own : runner.session ≡ 1
  pub waiting : s.waiting ≡ []
  pub journal : counted_entries s.journal ≤ 3 * s.last_query

-- the pools of a workload, and one query at most
pub record IsLone (s : State) : Type 0 where
  pub defined : s.definitions ≡ workload_definitions s.definitions.memory s.definitions.cores
  pub settled : IsSettled s
  pub room : s.room ≡ SCRIPT_ROOM
  pub stands : IsRested 1 s ⊎ IsAsked s

-- the grant with which a reply admits a query
abbrev pub admitted_with : Reply → Option ℕ
admitted_with reply.Defined = None
admitted_with (reply.Opened session) = None
admitted_with reply.Set = None
admitted_with (reply.Admitted query pool grant own borrowed) = Some grant
admitted_with (reply.Waiting query place) = None
admitted_with (reply.Ended end) = None
admitted_with reply.Go = None
admitted_with (reply.MovedOn pool) = None
admitted_with (reply.GiveWay pool) = None
admitted_with (reply.CapEnded which ran cap) = None
admitted_with reply.Stopping = None
admitted_with (reply.Released grant) = None
admitted_with reply.Cancelled = None
admitted_with reply.Closed = None
admitted_with (reply.Refused refusal) = None
