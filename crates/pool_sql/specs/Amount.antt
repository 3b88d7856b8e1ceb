-- which amounts words write
use Rattle.std.specs.Prelude.{ℕ, ◌+◌, ◌*◌, Bool, ◌&&◌, ◌==◌, nat_le, if◌then◌else◌, Option, Some, None, Result, Ok, Err, List, [], ◌∷◌, take, drop, codes}
use Rattle.std.specs.Char.{to_ascii_lowercase}
use Rattle.std.specs.List.{list_any}
use Rattle.std.specs.Str.{bytes_eq}
use Rattle.std.specs.Str.Parse.{digits_value}
use Rattle.rm_base.specs.declared.limits.TheConstants.{GIBI, HOUR_MS, KIBI, MEBI, MEMORY_MOST, MINUTE_MS, PERCENT_MOST, SECOND_MS, SPAN_MOST, TEBI}
use Rattle.rm_base.specs.declared.statement.Size.{Size}
use Rattle.rm_base.specs.declared.statement.Size.TheVariants.{Bytes, Percent}
use Rattle.rm_words.specs.Class.{class_of}
use Rattle.rm_words.specs.Word.{is_digit}
use Rattle.rm_words.specs.Token.{Token, Number, Quoted}
use Rattle.pool_sql.specs.declared.stop.Fault.{Fault}
use Rattle.pool_sql.specs.declared.stop.Fault.TheVariants.{Form, Outside}

-- a number between a least and a greatest one
abbrev pub within : ℕ → ℕ → ℕ → Result ℕ Fault
within least most n = if nat_le least n && nat_le n most then Ok n else Err Outside

-- the number that a word writes, where it is such a one
abbrev pub number_between : ℕ → ℕ → Token → Result ℕ Fault
number_between least most (Number n) = within least most n
number_between least most _ = Err Form

-- with how many digits a text begins
abbrev pub digit_count : List ℕ → ℕ
digit_count [] = 0
digit_count (c ∷ cs) = if is_digit (class_of c) then digit_count cs + 1 else 0

-- the number that they write
abbrev pub front_number : List ℕ → ℕ
front_number text = digits_value 10 (take (digit_count text) text)

-- what stands behind them
abbrev pub behind_digits : List ℕ → List ℕ
behind_digits text = drop (digit_count text) text

-- the bytes of a unit of sizes
abbrev pub unit_bytes : ℕ → Option ℕ
unit_bytes c =
    if to_ascii_lowercase c == 107 then Some KIBI
    else (if to_ascii_lowercase c == 109 then Some MEBI
    else (if to_ascii_lowercase c == 103 then Some GIBI
    else (if to_ascii_lowercase c == 116 then Some TEBI else None)))

-- a number as a percentage
abbrev pub percent : Result ℕ Fault → Result Size Fault
percent (Ok n) = Ok (Percent n)
percent (Err fault) = Err fault

-- a percentage, up to the whole
abbrev pub percent_in : ℕ → Result Size Fault
percent_in n = percent (within 0 PERCENT_MOST n)

-- a number as a size in bytes
abbrev pub bytes : Result ℕ Fault → Result Size Fault
bytes (Ok n) = Ok (Bytes n)
bytes (Err fault) = Err fault

-- so many of a unit, up to the greatest size
abbrev pub bytes_in : ℕ → Option ℕ → Result Size Fault
bytes_in n None = Err Form
bytes_in n (Some unit) = bytes (within 0 MEMORY_MOST (n * unit))

-- so many of a unit, `%` or one of K, M, G and T
abbrev pub size_in : ℕ → List ℕ → Result Size Fault
size_in n (c ∷ []) = if c == 37 then percent_in n else bytes_in n (unit_bytes c)
size_in n _ = Err Form

-- the size that a text says
abbrev pub size_in_text : List ℕ → Result Size Fault
size_in_text text =
    if digit_count text == 0 then Err Form else size_in (front_number text) (behind_digits text)

-- a size: digits and a unit between quotes
abbrev pub size_of : Token → Result Size Fault
size_of (Quoted text) = size_in_text text
size_of _ = Err Form

-- the text is one of these
abbrev pub is_among : List (List ℕ) → List ℕ → Bool
is_among texts text = list_any (bytes_eq text) texts

-- the milliseconds of a unit of spans
abbrev pub unit_ms : List ℕ → Option ℕ
unit_ms unit =
    if is_among (codes "ms" ∷ codes "millisecond" ∷ codes "milliseconds" ∷ []) unit then Some 1
    else (if is_among (codes "second" ∷ codes "seconds" ∷ []) unit then Some SECOND_MS
    else (if is_among (codes "minute" ∷ codes "minutes" ∷ []) unit then Some MINUTE_MS
    else (if is_among (codes "hour" ∷ codes "hours" ∷ []) unit then Some HOUR_MS else None)))

-- so many of a unit, from a least span to the greatest
abbrev pub ms_in : ℕ → ℕ → Option ℕ → Result ℕ Fault
ms_in least n None = Err Form
ms_in least n (Some unit) = within least SPAN_MOST (n * unit)

-- so many of a unit of spans, which stands behind one space
abbrev pub span_in : ℕ → ℕ → List ℕ → Result ℕ Fault
span_in least n (c ∷ unit) = if c == 32 then ms_in least n (unit_ms unit) else Err Form
span_in least n [] = Err Form

-- the span that a text says
abbrev pub span_in_text : ℕ → List ℕ → Result ℕ Fault
span_in_text least text =
    if digit_count text == 0 then Err Form else span_in least (front_number text) (behind_digits text)

-- a span in milliseconds, at least so long: digits, a space and a unit between quotes
abbrev pub span_of : ℕ → Token → Result ℕ Fault
span_of least (Quoted text) = span_in_text least text
span_of least _ = Err Form

-- a timeout in milliseconds: a number of seconds, or a span
abbrev pub timeout_of : Token → Result ℕ Fault
timeout_of (Number n) = within 0 SPAN_MOST (n * SECOND_MS)
timeout_of t = span_of 0 t
