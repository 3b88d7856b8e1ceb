-- What is done again and again until nothing is left to do.
use Rattle.std.specs.Prelude.{ℕ, zero, suc, Option, Some, None}
use Rattle.rm_rules.specs.declared.state.Waiter.{Waiter}
use Rattle.rm_rules.specs.State.{State}

-- what is picked is acted on, again and again until nothing is picked, for so many turns at most
abbrev pub repeated : (State → Option Waiter) → (State → Waiter → State) → ℕ → State → State
repeated pick act zero s = s
repeated pick act (suc turns) s = elim (pick s) [ Some w ↦ repeated pick act turns (act s w) | None ↦ s ]
