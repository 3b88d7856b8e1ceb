-- What is done again and again, one turn at a time.
use Rattle.std.proofs.Common.{◌≡◌, ℕ, ◌+◌, zero, suc, Option, Some, None, length, sym, ap, ◌∙◌, arith}
use Rattle.rm_rules.specs.declared.state.Waiter.{Waiter}
use Rattle.rm_rules.specs.State.{State}
use Rattle.rm_rules.specs.Repeated.{repeated}
use Rattle.rm_rules.proofs.SettledLaws.{repeated-none}

-- with one turn for each waiting query
abbrev all_turns : (State → Option Waiter) → (State → Waiter → State) → State → State
all_turns pick act s = repeated pick act (length s.waiting) s

turn : (pick : State → Option Waiter) (act : State → Waiter → State) (s : State) (w : Waiter) (n m : ℕ) → pick s ≡ Some w → m + 1 ≡ n → repeated pick act m (act s w) ≡ repeated pick act n s
turn pick act s w zero m picked fuel = absurd (omega arith)
turn pick act s w (suc n) m picked fuel =
    let same : m ≡ n = omega arith in
    ap (λ (k : ℕ). repeated pick act k (act s w)) same
    ∙ ap (λ (o : Option Waiter). elim o [ Some v ↦ repeated pick act n (act s v) | None ↦ s ]) (sym picked)

-- a turn leads on to where the turns lead, and where nothing is picked they end
pub turns-on : (pick : State → Option Waiter) (act : State → Waiter → State) (s : State) (w : Waiter) → pick s ≡ Some w → 1 + length (act s w).waiting ≡ length s.waiting
    → all_turns pick act (act s w) ≡ all_turns pick act s
turns-on pick act s w picked fewer = turn pick act s w (length s.waiting) (length (act s w).waiting) picked (omega (arith, fewer))

pub turns-end : (pick : State → Option Waiter) (act : State → Waiter → State) (s : State) → (let o : Option Waiter = None in pick s ≡ o) → all_turns pick act s ≡ s
turns-end pick act s nothing = repeated-none pick act (length s.waiting) s nothing
