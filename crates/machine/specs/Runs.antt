-- The running queries: what they hold, which the accounts keep, and beside it all else that is known of them.
use Rattle.std.specs.Prelude.{◌≡◌, List, length, map}
use Rattle.std.specs.List.{zip}
use Rattle.rm_base.specs.declared.name.Name.{Name}
use Rattle.rm_rules.specs.declared.state.Holding.{Holding}
use Rattle.rm_rules.specs.declared.state.Runner.{Runner}
use Rattle.rm_rules.specs.Holdings.{Holdings}
use Rattle.rm_rules.specs.DropPool.{named_in_place}
use Rattle.machine.specs.declared.runs.Run.{Run}
use Rattle.machine.specs.declared.runs.Runs.TheInside.{Inside}

-- a running query, by what it holds and what else is known of it
abbrev pub runner : Holding × Run → Runner
runner e = record {
  query = e.0.query;
  session = e.1.session;
  user = e.1.user;
  pool = e.0.pool;
  floor = e.1.floor;
  grant = e.0.bytes;
  start = e.1.start;
  ran = e.1.ran;
  moves = e.1.moves;
  leaving = e.1.leaving;
  cancelled = e.1.cancelled;
}

abbrev pub runners : List Holding → List Run → List Runner
runners grants rows = map runner (zip grants rows)

-- what is known of a running query beside what it holds
abbrev pub run_of : Runner → Run
run_of r = record {
  session = r.session;
  user = r.user;
  floor = r.floor;
  start = r.start;
  ran = r.ran;
  moves = r.moves;
  leaving = r.leaving;
  cancelled = r.cancelled;
}

-- one that is to leave for a pool that is gone is to leave for GENERAL
abbrev pub run_beside : Name → Run → Run
run_beside pool x = record x { leaving = named_in_place pool x.leaving }

-- the bytes, and the running queries in the order in which they began
pub record RunsSeen : Type 0 where
  pub accounts : Holdings
  pub running : List Runner

abbrev pub seen_runs : Inside → RunsSeen
seen_runs r = record { accounts = r.accounts; running = runners r.accounts.grants r.rows }

-- each grant is that of one running query, in their order
abbrev pub AreBeside : Inside → Type 0
AreBeside r = length r.accounts.grants ≡ length r.rows
