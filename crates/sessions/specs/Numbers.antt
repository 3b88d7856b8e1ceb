-- The numbers of a script.
use Rattle.std.specs.Prelude.{ℕ, if◌then◌else◌, nat_le, List, length, Option, Some, None, option_map, codes}
use Rattle.std.specs.Str.{bytes_eq}
use Rattle.rm_base.specs.declared.limits.TheConstants.{DIGITS_MOST}
use Rattle.options.specs.Numeral.{numeral_of, at_least}

-- a number of a script: 1 to 15 digits, leading zeros counted
abbrev pub script_number : List ℕ → Option ℕ
script_number word = if nat_le (length word) DIGITS_MOST then numeral_of word else None

-- a number of a script from 1 on: a floor, or a cap
abbrev pub positive_of : List ℕ → Option ℕ
positive_of word = at_least 1 (script_number word)

-- a runtime cap in milliseconds, or `none`, which is compared as written
abbrev pub cap_of : List ℕ → Option (Option ℕ)
cap_of word = if bytes_eq word (codes "none") then Some None else option_map Some (positive_of word)
