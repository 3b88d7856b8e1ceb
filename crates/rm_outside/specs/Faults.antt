use Rattle.std.specs.Prelude.{ℕ, ◌+◌, ◌-◌, ◌^◌, ◌≤◌, min, Result, IsErrOf}
use Rattle.rm_outside.specs.declared.outside.Outside.{Outside}
use Rattle.rm_outside.specs.declared.outside.Outside.TheVariants.{Failed}

-- the greatest number that a count holds
abbrev pub COUNT_END : ℕ
COUNT_END = 2 ^ 64 - 1

-- a count that gained n, and stands still at its end
abbrev pub counted : ℕ → ℕ → ℕ
counted count n = min (count + n) COUNT_END

-- a count rose; one at its end counts as risen
abbrev pub Rose : ℕ → ℕ → Type 0
Rose before now = counted before 1 ≤ now

-- a count of faults never falls, and a call answers Failed only where it rose
pub record HasCause {T : Type 0} (before now : ℕ) (result : Result T Outside) : Type 0 where
  pub later : before ≤ now
  pub failed : IsErrOf result Failed → Rose before now
