-- What follows each change: queries that are too large now end, sizes are shuffled, heads are admitted, queries that may
-- not wait end, and heads are admitted again.
use Rattle.std.specs.Prelude.{Option, find, length}
use Rattle.rm_base.specs.declared.reply.End.{End}
use Rattle.rm_base.specs.declared.reply.End.TheVariants.{TooLarge}
use Rattle.rm_rules.specs.declared.state.Waiter.{Waiter}
use Rattle.rm_rules.specs.Definitions.{pool_row}
use Rattle.rm_rules.specs.Ask.{is_too_large, least_cap}
use Rattle.rm_rules.specs.State.{State}
use Rattle.rm_rules.specs.Repeated.{repeated}
use Rattle.rm_rules.specs.Admission.{admission}
use Rattle.rm_rules.specs.Shuffle.{shuffled_state}
use Rattle.rm_rules.specs.Deadlines.{ended_as, first_nowait, timed_out}

-- the first waiting query whose floor is above its least cap, as the definitions are now
abbrev pub first_too_large : State → Option Waiter
first_too_large s = find (λ w. is_too_large s.definitions (pool_row s.definitions w.pool) w.user w.floor) s.waiting

-- how it ends
abbrev pub too_large_end : State → Waiter → End
too_large_end s w = let least = least_cap s.definitions (pool_row s.definitions w.pool) w.user in TooLarge least.kind w.floor least.bytes

abbrev pub ended_too_large : State → Waiter → State
ended_too_large s w = ended_as (too_large_end s w) s w

-- each waiting query that is too large ends so
abbrev pub without_too_large : State → State
without_too_large s = repeated first_too_large ended_too_large (length s.waiting) s

-- each waiting query of a pool in which none may wait ends as timed out
abbrev pub without_nowait : State → State
without_nowait s = repeated first_nowait timed_out (length s.waiting) s

abbrev pub settled : State → State
settled s = admission (without_nowait (admission (shuffled_state (without_too_large s))))
