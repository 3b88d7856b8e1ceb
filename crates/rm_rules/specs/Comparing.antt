-- When a comparison is true of a row. A comparison with Null is not true.
use Rattle.std.specs.Prelude.{ℕ, Bool, true, false, not, ◌&&◌, List, map, slice_index_or}
use Rattle.std.specs.List.{list_all}
use Rattle.std.specs.declared.cmp.Ordering.{Ordering}
use Rattle.std.specs.Ordering.{is_eq, is_ne, is_lt, is_le, is_gt, is_ge}
use Rattle.rm_base.specs.declared.select.Op.{Op}
use Rattle.rm_base.specs.declared.select.Op.TheVariants.{Equal, Unequal, Less, AtMost, Greater, AtLeast}
use Rattle.rm_base.specs.declared.select.Operand.{Operand}
use Rattle.rm_base.specs.declared.select.Operand.TheVariants.{Column, Fixed}
use Rattle.rm_base.specs.declared.select.Test.{Test}
use Rattle.rm_base.specs.declared.value.Value.{Value}
use Rattle.rm_base.specs.declared.value.Value.TheVariants.{Null, Int, Words}
use Rattle.rm_base.specs.Values.{value_cmp}

abbrev pub is_null : Value → Bool
is_null Null = true
is_null (Int n) = false
is_null (Words text) = false

-- the value in a row's column, counted from 0; where there is no such column it is Null
abbrev pub column : List Value → ℕ → Value
column row c = slice_index_or row c Null

-- the values in these columns
abbrev pub columns : List ℕ → List Value → List Value
columns cs row = map (column row) cs

-- what an operand is in a row
abbrev pub operand : List Value → Operand → Value
operand row (Column c) = column row c
operand row (Fixed value) = value

-- two values that stand in this order are as the comparison says
abbrev pub admits : Op → Ordering → Bool
admits Equal order = is_eq order
admits Unequal order = is_ne order
admits Less order = is_lt order
admits AtMost order = is_le order
admits Greater order = is_gt order
admits AtLeast order = is_ge order

-- neither value is Null, and they are as the comparison says
abbrev pub compares : Value → Op → Value → Bool
compares a op b = not (is_null a) && (not (is_null b) && admits op (value_cmp a b))

-- the comparison is true of the row
abbrev pub is_true : List Value → Test → Bool
is_true row test = compares (operand row test.left) test.op (operand row test.right)

-- all of these comparisons are true of the row
abbrev pub all_true : List Test → List Value → Bool
all_true tests row = list_all (is_true row) tests
