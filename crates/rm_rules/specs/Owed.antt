-- How many entries the journal may still get: those that live queries and open sessions may make.
use Rattle.std.specs.Prelude.{ℕ, ◌+◌, ◌-◌, ◌*◌, List, is_some, length, sum_by, count_by, if◌then◌else◌}
use Rattle.rm_base.specs.declared.limits.TheConstants.{ENTRIES_A_SESSION, MOVES_MOST}
use Rattle.rm_rules.specs.declared.state.Session.{Session}
use Rattle.rm_rules.specs.declared.state.Waiter.{Waiter}
use Rattle.rm_rules.specs.declared.state.Runner.{Runner}
use Rattle.rm_rules.specs.State.{State, is_ended}

-- One move makes three entries at most: the one that tells the query to give way, with which the move counts, a
-- cancellation behind that, and its giving way. One that moves on makes one.
abbrev pub entries_moving : ℕ → ℕ
entries_moving moves = 3 * (MOVES_MOST - moves)

-- A waiting query makes those of its moves, and then two: it ends and is collected, or is cancelled and finishes.
abbrev pub entries_waiting : Waiter → ℕ
entries_waiting w = entries_moving w.moves + 2

-- A running query makes those of its moves, and one that ends it. One that is to give way makes that entry and then those
-- that it makes as it waits. It is cancelled once at most.
abbrev pub entries_running : Runner → ℕ
entries_running r = entries_moving r.moves + (if is_some r.leaving then 3 else 1) + (if r.cancelled then 0 else 1)

-- An end that nobody has collected makes one.
abbrev pub owed : List Session → List Waiter → List Runner → ℕ
owed sessions waiting running =
    sum_by entries_waiting waiting + sum_by entries_running running
    + count_by (λ x. is_ended x.phase) sessions + ENTRIES_A_SESSION * length sessions

abbrev pub entries_owed : State → ℕ
entries_owed s = owed s.sessions s.waiting s.running
