-- The value that a cell writes.
use Rattle.std.specs.Prelude.{ℕ, ℤ, pos, neg_ℤ, ◌^◌, ◌==◌, ◌&&◌, if◌then◌else◌, nat_lt, nat_le, List, [], ◌∷◌, length, Option, Some, None, option_map}
use Rattle.std.specs.Option.{option_and_then}
use Rattle.std.specs.Char.{is_ascii_digit}
use Rattle.std.specs.List.{list_all}
use Rattle.std.specs.Str.{is_utf8}
use Rattle.std.specs.Str.Parse.{digits_value}
use Rattle.rm_base.specs.declared.catalog.ColumnKind.{ColumnKind}
use Rattle.rm_base.specs.declared.catalog.ColumnKind.TheVariants as column
use Rattle.rm_base.specs.declared.limits.TheConstants.{CELL_MOST, CELL_DIGITS_MOST}
use Rattle.rm_base.specs.declared.value.Value.{Value}
use Rattle.rm_base.specs.declared.value.Value.TheVariants.{Null, Int, Words}

-- the number that 1 to 19 digits write
abbrev pub number_of : List ℕ → Option ℕ
number_of text =
    if nat_le (length text) CELL_DIGITS_MOST && list_all is_ascii_digit text && nat_lt 0 (length text)
    then Some (digits_value 10 text) else None

-- the same below zero, and not, where 64 bits have it
abbrev pub negative : ℕ → Option ℤ
negative n = if nat_le n (2 ^ 63) then Some (neg_ℤ (pos n)) else None

abbrev pub positive : ℕ → Option ℤ
positive n = if nat_lt n (2 ^ 63) then Some (pos n) else None

-- the integer of a cell: digits, with `-` or nothing before them
abbrev pub int_of : List ℕ → Option ℤ
int_of [] = None
int_of (c ∷ cs) = if c == 45 then option_and_then negative (number_of cs) else option_and_then positive (number_of (c ∷ cs))

-- the text of a cell, where it is not too long and is UTF-8
abbrev pub text_of : List ℕ → Option Value
text_of cell = if nat_le (length cell) CELL_MOST && is_utf8 cell then Some (Words cell) else None

-- the value of a cell that is not empty, in a column of that kind
abbrev pub filled_of : ColumnKind → List ℕ → Option Value
filled_of column.Int cell = option_map Int (int_of cell)
filled_of column.Words cell = text_of cell

-- the value of a cell; an empty one is Null
abbrev pub value_of : ColumnKind → List ℕ → Option Value
value_of kind [] = Some Null
value_of kind (c ∷ cs) = filled_of kind (c ∷ cs)
