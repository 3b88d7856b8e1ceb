-- Values: what they measure, and their order: Null, then Ints by number, then Texts by bytes.
use Rattle.std.specs.Prelude.{ℕ, ◌+◌, ℤ, pos, Bool, List, [], ◌++◌, length, sum_by, nat_eq}
use Rattle.std.specs.Hash as fed
use Rattle.std.specs.Hash.{HashWrites}
use Rattle.std.specs.declared.cmp.Ordering.{Ordering}
use Rattle.std.specs.Ordering.{on, then_cmp, eq_of_both, nat_cmp, int_cmp, int_eq}
use Rattle.std.specs.Cmp.Lexicographic.{pointwise, slice_cmp}
use Rattle.rm_base.specs.declared.limits.TheConstants.{NULL_MEASURE, INT_MEASURE, TEXT_MEASURE, ROW_MEASURE}
use Rattle.rm_base.specs.declared.value.Value.{Value}
use Rattle.rm_base.specs.declared.value.Value.TheVariants.{Null, Int, Words}

-- what a value measures: an Int 8, a Text 16 and its bytes, Null 1
abbrev pub value_measure : Value → ℕ
value_measure Null = NULL_MEASURE
value_measure (Int n) = INT_MEASURE
value_measure (Words text) = TEXT_MEASURE + length text

-- what a row measures: 16 and its values
abbrev pub row_measure : List Value → ℕ
row_measure row = ROW_MEASURE + sum_by value_measure row

-- what rows measure together
abbrev pub rows_measure : List (List Value) → ℕ
rows_measure rows = sum_by row_measure rows

-- the kinds of values in their order
abbrev pub kind_place : Value → ℕ
kind_place Null = 0
kind_place (Int n) = 1
kind_place (Words text) = 2

-- the number of an Int; other values have none
abbrev pub number_in : Value → ℤ
number_in Null = pos 0
number_in (Int n) = n
number_in (Words text) = pos 0

-- the bytes of a Text; other values have none
abbrev pub bytes_in : Value → List ℕ
bytes_in Null = []
bytes_in (Int n) = []
bytes_in (Words text) = text

-- two values are one: of one kind, with one number and one text
abbrev pub same_value : Value → Value → Bool
same_value = eq_of_both (on kind_place nat_eq) (eq_of_both (on number_in int_eq) (on bytes_in (pointwise nat_eq)))

-- the order of values: by kind, then by number, then by bytes
abbrev pub value_cmp : Value → Value → Ordering
value_cmp = then_cmp (on kind_place nat_cmp) (then_cmp (on number_in int_cmp) (on bytes_in (slice_cmp nat_cmp)))

-- rows are compared value by value, from left to right
abbrev pub same_row : List Value → List Value → Bool
same_row = pointwise same_value

abbrev pub row_cmp : List Value → List Value → Ordering
row_cmp = slice_cmp value_cmp

-- lists of rows are compared row by row
abbrev pub same_rows : List (List Value) → List (List Value) → Bool
same_rows = pointwise same_row

abbrev pub rows_cmp : List (List Value) → List (List Value) → Ordering
rows_cmp = slice_cmp row_cmp

-- what a hash reads of a value, of a row and of rows
abbrev pub value_writes : Value → HashWrites
value_writes Null = fed.u8 0
value_writes (Int n) = fed.u8 1 ++ fed.i64 n
value_writes (Words text) = fed.u8 2 ++ fed.str text

abbrev pub row_writes : List Value → HashWrites
row_writes = fed.slice value_writes

abbrev pub rows_writes : List (List Value) → HashWrites
rows_writes = fed.slice row_writes
