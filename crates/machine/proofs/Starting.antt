-- A machine at the start.
use Rattle.std.proofs.Common.{◌≡◌, ◌≤◌, ◌+◌, ℕ, List, [], ◌∷◌, refl, sym, subst, ap, ◌∙◌, map, vec_capacity}
use Rattle.rm_base.specs.declared.definitions.Definitions.{Definitions}
use Rattle.rm_base.specs.declared.entry.EndCounts.{EndCounts}
use Rattle.rm_base.specs.declared.entry.Entry.{Entry}
use Rattle.rm_base.specs.declared.entry.MoveSeen.{MoveSeen}
use Rattle.rm_base.specs.declared.limits.TheConstants.{CHANGES_MOST, ENTRIES_BEYOND}
use Rattle.rm_base.specs.declared.rows.PoolRow.{PoolRow}
use Rattle.rm_rules.specs.declared.state.Reserve.{Reserve}
use Rattle.rm_rules.specs.declared.state.Runner.{Runner}
use Rattle.rm_rules.specs.declared.state.Session.{Session}
use Rattle.rm_rules.specs.declared.state.Waiter.{Waiter}
use Rattle.rm_rules.specs.Definitions.{total, user_pools}
use Rattle.rm_rules.specs.State.{State, start, none_ended, counted_entries}
use Rattle.rm_rules.specs.Holdings.{Holdings, reserves_of}
use Rattle.accounts.specs.Accounts.{first_holdings}
use Rattle.machine.specs.declared.machine.Machine.TheInside.{Inside}
use Rattle.machine.specs.Inside.{IsTied}
use Rattle.machine.proofs.Inside.{bytes_under}

-- each pool has its MEMORYSIZE
first-sizes : (rs : List PoolRow) → map (λ (e : Reserve). e.size) (reserves_of rs (map (λ (r : PoolRow). r.memory) rs)) ≡ map (λ (r : PoolRow). r.memory) rs
first-sizes [] = refl
first-sizes (r ∷ rs) = ap (λ (ns : List ℕ). r.memory ∷ ns) (first-sizes rs)

first-bytes : (d : Definitions) → bytes_under d (first_holdings d) [] ≡ first_holdings d
first-bytes d = ap (λ (ns : List ℕ). let h : Holdings = record { in_force = total d; reserves = reserves_of (user_pools d.pools) ns; grants = [] } in h) (first-sizes (user_pools d.pools))

pub tied-start : (m : Inside) → m.runs.accounts ≡ first_holdings m.definitions → m.runs.running ≡ [] → m.journal.items ≡ [] → m.counted ≡ 0
    → m.room + ENTRIES_BEYOND + CHANGES_MOST ≤ vec_capacity m.journal → IsTied m
tied-start m is none empty zero capacity = record {
  bytes =
      ap (bytes_under m.definitions m.runs.accounts) none
      ∙ subst (λ (a : Holdings). bytes_under m.definitions a [] ≡ a) (sym is) (first-bytes m.definitions);
  journal = capacity;
  counted = zero ∙ ap counted_entries (sym empty);
}

-- a state in which nobody is there yet, with these bytes
pub record IsEmpty (s : State) (a : Holdings) : Type 0 where
  pub accounts : a ≡ first_holdings s.definitions
  pub in_force : s.in_force ≡ a.in_force
  pub actual : s.actual ≡ map (λ e. e.size) a.reserves
  pub sessions : s.sessions ≡ []
  pub running : s.running ≡ []
  pub waiting : s.waiting ≡ []
  pub clock : s.clock ≡ 0
  pub counters : s.counters ≡ map (λ _. none_ended) s.definitions.pools
  pub moves : s.moves ≡ []
  pub last_session : s.last_session ≡ 0
  pub last_query : s.last_query ≡ 0
  pub journal : s.journal ≡ []

pub seen-start : (s : State) (a : Holdings) → IsEmpty s a → s ≡ start s.definitions s.room
seen-start s a h =
    ap (λ (x : ℕ). let t : State = record (start s.definitions s.room) { in_force = x; actual = s.actual; sessions = s.sessions; running = s.running; waiting = s.waiting; clock = s.clock; counters = s.counters; moves = s.moves; last_session = s.last_session; last_query = s.last_query; journal = s.journal } in t) (h.in_force ∙ ap (λ (b : Holdings). b.in_force) h.accounts)
    ∙ ap (λ (x : List ℕ). let t : State = record (start s.definitions s.room) { actual = x; sessions = s.sessions; running = s.running; waiting = s.waiting; clock = s.clock; counters = s.counters; moves = s.moves; last_session = s.last_session; last_query = s.last_query; journal = s.journal } in t) (h.actual ∙ ap (λ (b : Holdings). map (λ (e : Reserve). e.size) b.reserves) h.accounts ∙ first-sizes (user_pools s.definitions.pools))
    ∙ ap (λ (x : List Session). let t : State = record (start s.definitions s.room) { sessions = x; running = s.running; waiting = s.waiting; clock = s.clock; counters = s.counters; moves = s.moves; last_session = s.last_session; last_query = s.last_query; journal = s.journal } in t) h.sessions
    ∙ ap (λ (x : List Runner). let t : State = record (start s.definitions s.room) { running = x; waiting = s.waiting; clock = s.clock; counters = s.counters; moves = s.moves; last_session = s.last_session; last_query = s.last_query; journal = s.journal } in t) h.running
    ∙ ap (λ (x : List Waiter). let t : State = record (start s.definitions s.room) { waiting = x; clock = s.clock; counters = s.counters; moves = s.moves; last_session = s.last_session; last_query = s.last_query; journal = s.journal } in t) h.waiting
    ∙ ap (λ (x : ℕ). let t : State = record (start s.definitions s.room) { clock = x; counters = s.counters; moves = s.moves; last_session = s.last_session; last_query = s.last_query; journal = s.journal } in t) h.clock
    ∙ ap (λ (x : List EndCounts). let t : State = record (start s.definitions s.room) { counters = x; moves = s.moves; last_session = s.last_session; last_query = s.last_query; journal = s.journal } in t) h.counters
    ∙ ap (λ (x : List MoveSeen). let t : State = record (start s.definitions s.room) { moves = x; last_session = s.last_session; last_query = s.last_query; journal = s.journal } in t) h.moves
    ∙ ap (λ (x : ℕ). let t : State = record (start s.definitions s.room) { last_session = x; last_query = s.last_query; journal = s.journal } in t) h.last_session
    ∙ ap (λ (x : ℕ). let t : State = record (start s.definitions s.room) { last_query = x; journal = s.journal } in t) h.last_query
    ∙ ap (λ (x : List Entry). let t : State = record (start s.definitions s.room) { journal = x } in t) h.journal
