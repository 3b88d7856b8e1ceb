-- What every state of the machine keeps. Each fact is over what it reads, so what an event leaves alone stays as it was.
use Rattle.std.specs.Prelude.{◌≡◌, ℕ, ◌+◌, ◌<◌, ◌≤◌, nat_le, nat_lt, Bool, true, not, ◌&&◌, ◌||◌, ◌==◌, is_some, List, length, count_by, if◌then◌else◌}
use Rattle.std.specs.List.{list_all}
use Rattle.rm_base.specs.declared.definitions.Definitions.{Definitions}
use Rattle.rm_base.specs.declared.entry.EndCounts.{EndCounts}
use Rattle.rm_base.specs.declared.entry.Entry.{Entry}
use Rattle.rm_base.specs.declared.limits.TheConstants.{SESSIONS_MOST, ENTRIES_BEYOND}
use Rattle.rm_base.specs.Ranges.{passes_if_set}
use Rattle.rm_rules.specs.declared.answer.Answer.{Answer}
use Rattle.rm_rules.specs.declared.state.Session.{Session}
use Rattle.rm_rules.specs.declared.state.Waiter.{Waiter}
use Rattle.rm_rules.specs.declared.state.Runner.{Runner}
use Rattle.rm_rules.specs.Definitions.{total, user_pools}
use Rattle.rm_rules.specs.State.{State, phase_of, is_waiting, is_running, active_queries, counted_entries}
use Rattle.rm_rules.specs.Holdings.{Holdings, holdings_of}
use Rattle.rm_rules.specs.Accounting.{taken_up, free, granted}
use Rattle.rm_rules.specs.Owed.{entries_owed}
use Rattle.rm_rules.specs.Answers.{is_defining}
use Rattle.rm_rules.specs.Sound.{IsSound, has_pool}

-- each pool has a size and its counts
pub record AreSized (d : Definitions) (actual : List ℕ) (counters : List EndCounts) : Type 0 where
  pub sizes : length actual ≡ length (user_pools d.pools)
  pub counts : length counters ≡ length d.pools

-- every pool that is named is there
pub record AreThere (d : Definitions) (sessions : List Session) (waiting : List Waiter) (running : List Runner) : Type 0 where
  pub runs : list_all (λ r. has_pool d r.pool) running ≡ true
  pub waits : list_all (λ w. has_pool d w.pool) waiting ≡ true
  pub chosen : list_all (λ x. passes_if_set (has_pool d) x.pool) sessions ≡ true
  pub leaves : list_all (λ r. passes_if_set (has_pool d) r.leaving) running ≡ true

-- no query has run for longer than the clock says that it may have, none began after it, and one that is to give way was
-- asked to, which counts as a move
abbrev pub ran_by : ℕ → Waiter → Bool
ran_by clock w = nat_le w.ran clock

abbrev pub began_by : ℕ → Runner → Bool
began_by clock r = nat_le r.ran r.start && nat_le r.start clock

abbrev pub was_asked : Runner → Bool
was_asked r = not (is_some r.leaving) || nat_lt 0 r.moves

pub record AreTimed (clock : ℕ) (waiting : List Waiter) (running : List Runner) : Type 0 where
  pub waits : list_all (ran_by clock) waiting ≡ true
  pub runs : list_all (began_by clock) running ≡ true
  pub asked : list_all was_asked running ≡ true

-- what is reserved and lent, and what is granted, is within the memory in force, and that within the machine's
pub record AreWithinMemory (d : Definitions) (h : Holdings) : Type 0 where
  pub within : taken_up h ≤ h.in_force
  pub granted : granted h ≤ h.in_force
  pub in_force_most : h.in_force ≤ d.memory

-- the total is in force, and more than it only while nothing is free
pub record AreCovered (d : Definitions) (h : Holdings) : Type 0 where
  pub held : AreWithinMemory d h
  pub in_force_least : total d ≤ h.in_force
  pub full_above_total : total d < h.in_force → free h ≡ 0

abbrev pub one_if : Bool → ℕ
one_if b = if b then 1 else 0

-- each session has one query at most, which waits or runs as the session's phase says
pub record AreInPhase (sessions : List Session) (waiting : List Waiter) (running : List Runner) : Type 0 where
  pub waits : (n : ℕ) → count_by (λ w. w.session == n) waiting ≡ one_if (is_waiting (phase_of sessions n))
  pub runs : (n : ℕ) → count_by (λ r. r.session == n) running ≡ one_if (is_running (phase_of sessions n))
  pub active : length running + length waiting ≡ active_queries sessions

-- no two sessions have one number, none has one that was not given yet, and no more are open than may be
pub record AreOpened (last : ℕ) (sessions : List Session) : Type 0 where
  pub once : (n : ℕ) → count_by (λ x. x.number == n) sessions ≤ 1
  pub given : list_all (λ x. nat_le x.number last) sessions ≡ true
  pub few : length sessions ≤ SESSIONS_MOST

-- no two queries have one number, and none has one that was not given yet
pub record AreNumbered (last : ℕ) (waiting : List Waiter) (running : List Runner) : Type 0 where
  pub once : (n : ℕ) → count_by (λ w. w.query == n) waiting + count_by (λ r. r.query == n) running ≤ 1
  pub given : (n : ℕ) → last < n → count_by (λ w. w.query == n) waiting + count_by (λ r. r.query == n) running ≡ 0

-- The journal has room for so many entries that count, and for those that are owed. Only accepted statements come on
-- top, with so many more of them accepted, and the numbers last given are within the entries that count.
pub record HasRoom (entries statements owed : ℕ) (journal : List Entry) (room changes last_session last_query : ℕ) : Type 0 where
  pub kept : counted_entries journal + entries + owed ≤ room + ENTRIES_BEYOND
  pub defined : length journal + statements ≤ counted_entries journal + changes
  pub sessions : last_session ≤ counted_entries journal + entries
  pub queries : last_query ≤ counted_entries journal + entries

abbrev pub RoomOf : ℕ → ℕ → State → Type 0
RoomOf entries statements s = HasRoom entries statements (entries_owed s) s.journal s.room s.definitions.changes s.last_session s.last_query

-- The facts of a state, with so many entries still to be made of those that count and of those of statements. Each holds
-- after every step of an event: the deadlines, its change, each part of settling, its answer and its entry.
pub record IsUnsettledWith (entries statements : ℕ) (s : State) : Type 0 where
  pub sound : IsSound s.definitions
  pub sized : AreSized s.definitions s.actual s.counters
  pub there : AreThere s.definitions s.sessions s.waiting s.running
  pub held : AreWithinMemory s.definitions (holdings_of s)
  pub in_phase : AreInPhase s.sessions s.waiting s.running
  pub opened : AreOpened s.last_session s.sessions
  pub numbered : AreNumbered s.last_query s.waiting s.running
  pub timed : AreTimed s.clock s.waiting s.running
  -- with the event's own entry still to be made, from its change or the first deadline on until it is made
  pub room : RoomOf entries statements s

-- And where no change waits to be settled, with more of the bytes.
pub record IsHealthyWith (entries statements : ℕ) (s : State) : Type 0 where
  pub sound : IsSound s.definitions
  pub sized : AreSized s.definitions s.actual s.counters
  pub there : AreThere s.definitions s.sessions s.waiting s.running
  -- after every step but a change and the ends that stand before the shuffle
  pub covered : AreCovered s.definitions (holdings_of s)
  pub in_phase : AreInPhase s.sessions s.waiting s.running
  pub opened : AreOpened s.last_session s.sessions
  pub numbered : AreNumbered s.last_query s.waiting s.running
  pub timed : AreTimed s.clock s.waiting s.running
  pub room : RoomOf entries statements s

-- after every event
abbrev pub IsHealthy : State → Type 0
IsHealthy s = IsHealthyWith 0 0 s

-- whether an event with this answer makes an entry that counts against the room, or one of an accepted statement
abbrev pub counted_for : Answer → ℕ
counted_for answer = if is_defining answer then 0 else 1

abbrev pub defining_for : Answer → ℕ
defining_for answer = if is_defining answer then 1 else 0

-- between the change of an event with this answer and its settling
abbrev pub IsUnsettled : Answer → State → Type 0
IsUnsettled answer s = IsUnsettledWith (counted_for answer) (defining_for answer) s
