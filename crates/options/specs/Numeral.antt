-- Numbers that are written in decimal digits alone, with no sign.
use Rattle.std.specs.Prelude.{ℕ, ◌+◌, Bool, ◌&&◌, ◌==◌, if◌then◌else◌, nat_lt, nat_le, List, length, slice_index, Option, Some, None, codes}
use Rattle.std.specs.Str.{all_ascii_digits}
use Rattle.std.specs.Str.Parse.{digits_value}

-- one digit or more, and nothing else
abbrev pub is_numeral : List ℕ → Bool
is_numeral word = nat_lt 0 (length word) && all_ascii_digits word

-- the number that a word of digits writes, however long it is
abbrev pub numeral_of : List ℕ → Option ℕ
numeral_of word = if is_numeral word then Some (digits_value 10 word) else None

-- the number if there is one and it is below a limit
abbrev pub below : ℕ → Option ℕ → Option ℕ
below limit None = None
below limit (Some n) = if nat_lt n limit then Some n else None

-- the number if there is one and it is at least so much
abbrev pub at_least : ℕ → Option ℕ → Option ℕ
at_least least None = None
at_least least (Some n) = if nat_le least n then Some n else None

-- the number if there is one and it lies in a range, both ends counted
abbrev pub in_range : ℕ → ℕ → Option ℕ → Option ℕ
in_range least most number = below (most + 1) (at_least least number)

-- the word goes on behind a zero
abbrev pub has_leading_zero : List ℕ → Bool
has_leading_zero word = nat_lt 1 (length word) && (slice_index word 0 == slice_index (codes "0") 0)

-- a number of an option: it lies in a range, and is written with no leading zero
abbrev pub number_within : ℕ → ℕ → List ℕ → Option ℕ
number_within least most word = if has_leading_zero word then None else in_range least most (numeral_of word)
