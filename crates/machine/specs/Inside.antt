-- What a machine is seen as, and what its fields keep.
use Rattle.std.specs.Prelude.{◌≡◌, ◌≤◌, ◌+◌, map, vec_capacity}
use Rattle.rm_base.specs.declared.limits.TheConstants.{CHANGES_MOST, ENTRIES_BEYOND}
use Rattle.rm_rules.specs.State.{State, counted_entries}
use Rattle.rm_rules.specs.Holdings.{holdings_of}
use Rattle.machine.specs.declared.machine.Machine.TheInside.{Inside}

abbrev pub seen_state : Inside → State
seen_state m = record {
  definitions = m.definitions;
  in_force = m.runs.accounts.in_force;
  actual = map (λ e. e.size) m.runs.accounts.reserves;
  sessions = m.sessions;
  running = m.runs.running;
  waiting = m.waiting;
  clock = m.clock;
  counters = m.counters;
  moves = m.moves;
  last_session = m.last_session;
  last_query = m.last_query;
  journal = m.journal.items;
  room = m.room;
}

-- the accounts are the state's bytes, the journal has room for all its entries, and those that count are counted
pub record IsTied (m : Inside) : Type 0 where
  pub bytes : holdings_of (seen_state m) ≡ m.runs.accounts
  pub journal : m.room + ENTRIES_BEYOND + CHANGES_MOST ≤ vec_capacity m.journal
  pub counted : m.counted ≡ counted_entries m.journal.items
