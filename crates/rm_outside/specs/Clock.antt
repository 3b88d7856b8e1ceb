-- The moments that a clock hands out.
use Rattle.std.specs.Prelude.{ℕ, ◌≤◌, List, [], ◌∷◌, ⊤, suc, zero}

-- asking n of a list of moments, counted from 0: its item n, past the end its last, and 0 of an empty list
abbrev pub moment_at : List ℕ → ℕ → ℕ
moment_at [] n = 0
moment_at (m ∷ []) n = m
moment_at (m ∷ next ∷ more) zero = m
moment_at (m ∷ next ∷ more) (suc n) = moment_at (next ∷ more) n

-- none of the moments is before the one before it
abbrev pub NeverFall : List ℕ → Type 0
NeverFall [] = ⊤
NeverFall (m ∷ []) = ⊤
NeverFall (m ∷ next ∷ more) = (m ≤ next) × NeverFall (next ∷ more)

-- a clock in memory: its moments, how often it was asked, and the moment of the last asking
pub record ClockState : Type 0 where
  pub moments : List ℕ
  pub asked : ℕ
  pub latest : ℕ
