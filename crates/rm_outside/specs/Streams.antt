use Rattle.std.specs.Prelude.{◌≡◌, ◌<◌, ◌≤◌, ℕ, List, length, Result, Ok, IfOk}
use Rattle.rm_outside.specs.declared.outside.Outside.{Outside}

-- an empty slice is answered Ok(0), and no fault is counted
pub record AnswersNothing (before now : ℕ) (result : Result ℕ Outside) : Type 0 where
  pub answer : result ≡ Ok 0
  pub faults : now ≡ before

-- a write that answers Ok took at most what it was given, and at least one byte where it was given some
abbrev pub TakesSome : Result ℕ Outside → List ℕ → Type 0
TakesSome result bytes = IfOk result (λ n. (n ≤ length bytes) × (0 < length bytes → 0 < n))
