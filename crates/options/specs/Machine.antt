-- The words of options that say what the machine has.
use Rattle.std.specs.Prelude.{ℕ, Bool, ◌-◌, ◌*◌, ◌^◌, ◌==◌, if◌then◌else◌, List, length, take, Option, Some, None, slice_index, codes}
use Rattle.rm_base.specs.declared.limits.TheConstants.{MEMORY_LEAST, MEMORY_MOST, CORES_MOST}
use Rattle.options.specs.Numeral.{numeral_of, in_range, number_within}

-- a byte is the one of a text of one byte
abbrev pub is_byte_of : List ℕ → ℕ → Bool
is_byte_of text byte = byte == slice_index text 0

-- how many bytes the letter of a unit stands for
abbrev pub unit_of : ℕ → Option ℕ
unit_of letter =
    if is_byte_of (codes "K") letter then Some (2 ^ 10)
    else (if is_byte_of (codes "M") letter then Some (2 ^ 20)
    else (if is_byte_of (codes "G") letter then Some (2 ^ 30)
    else (if is_byte_of (codes "T") letter then Some (2 ^ 40) else None)))

-- so many units
abbrev pub times : Option ℕ → Option ℕ → Option ℕ
times None unit = None
times (Some n) None = None
times (Some n) (Some unit) = Some (n * unit)

-- a memory word: digits and the letter of a unit
abbrev pub memory_of : List ℕ → Option ℕ
memory_of word =
    let last = length word - 1 in
    in_range MEMORY_LEAST MEMORY_MOST (times (numeral_of (take last word)) (unit_of (slice_index word last)))

-- a number of cores
abbrev pub cores_of : List ℕ → Option ℕ
cores_of word = number_within 1 CORES_MOST word
