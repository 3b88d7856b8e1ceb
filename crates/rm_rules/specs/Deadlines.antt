-- Queries that end in the queue, and their deadlines.
use Rattle.std.specs.Prelude.{ℕ, ◌+◌, Bool, false, ◌==◌, nat_le, Option, Some, None, option_map, unwrap_or, find, length}
use Rattle.rm_base.specs.declared.definitions.Definitions.{Definitions}
use Rattle.rm_base.specs.declared.reply.End.{End}
use Rattle.rm_base.specs.declared.reply.End.TheVariants.{TimedOut}
use Rattle.rm_rules.specs.declared.state.Phase.TheVariants as phase
use Rattle.rm_rules.specs.declared.state.Waiter.{Waiter}
use Rattle.rm_rules.specs.Definitions.{pool_row}
use Rattle.rm_rules.specs.State.{State, with_phase, with_end, without_waiter}
use Rattle.rm_rules.specs.Repeated.{repeated}

-- the state in which this waiting query ended so
abbrev pub ended_as : End → State → Waiter → State
ended_as end s w = record s {
  sessions = with_phase w.session (phase.Ended end) s.sessions;
  waiting = without_waiter w.session s.waiting;
  counters = with_end s.definitions.pools w.pool end s.counters;
}

-- the QUEUETIMEOUT of the pool in which the query waits now, in milliseconds
abbrev pub timeout_of : Definitions → Waiter → Option ℕ
timeout_of d w = (pool_row d w.pool).queue_ms

-- the moment at which it was queued, and the timeout; NONE gives no deadline
abbrev pub deadline_of : Definitions → Waiter → Option ℕ
deadline_of d w = option_map (λ timeout. w.queued + timeout) (timeout_of d w)

-- its deadline is at or before the moment
abbrev pub is_due : Definitions → ℕ → Waiter → Bool
is_due d moment w = elim (deadline_of d w) [ Some deadline ↦ nat_le deadline moment | None ↦ false ]

-- no query of its pool may wait
abbrev pub is_nowait : Definitions → Waiter → Bool
is_nowait d w = elim (timeout_of d w) [ Some timeout ↦ timeout == 0 | None ↦ false ]

-- the state in which this waiting query ended at its deadline
abbrev pub timed_out : State → Waiter → State
timed_out s w = ended_as (TimedOut (unwrap_or (deadline_of s.definitions w) w.queued)) s w

-- the first waiting query whose deadline has come, and the first that may not wait
abbrev pub first_due : State → Option Waiter
first_due s = find (is_due s.definitions s.clock) s.waiting

abbrev pub first_nowait : State → Option Waiter
first_nowait s = find (is_nowait s.definitions) s.waiting

-- each waiting query whose deadline has come ends at it
abbrev pub without_due : State → State
without_due s = repeated first_due timed_out (length s.waiting) s
