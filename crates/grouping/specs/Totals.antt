-- How many numbers there were, and their sum.
use Rattle.std.specs.Prelude.{ℕ, ◌+◌, ◌*◌, ◌^◌, ℤ, pos, ◌+ℤ◌, ◌≤ℤ◌, nat_lt, if◌then◌else◌}
use Rattle.rm_base.specs.declared.value.Value.{Value}
use Rattle.rm_base.specs.declared.value.Value.TheVariants.{Null, Int, Words}
use Rattle.rm_outside.specs.Faults.{COUNT_END}

pub record Totaled : Type 0 where
  pub count : ℕ
  pub sum : ℤ

-- so many numbers of 64 bits have a sum within these bounds
abbrev pub IsWithin : ℕ → ℤ → Type 0
IsWithin n s = (s ≤ℤ (pos (2 ^ 63 * n))) × (pos 0 ≤ℤ (s +ℤ pos (2 ^ 63 * n)))

-- one more number, while the count does not stand at its end
abbrev pub totaled_number : ℤ → Totaled → Totaled
totaled_number n t =
    if nat_lt t.count COUNT_END then record { count = t.count + 1; sum = t.sum +ℤ n } else record { count = t.count; sum = t.sum }

-- one more value; Null is left out
abbrev pub totaled : Value → Totaled → Totaled
totaled Null t = t
totaled (Int n) t = totaled_number n t
totaled (Words w) t = totaled_number (pos 0) t
