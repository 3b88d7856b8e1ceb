-- Small tables and SELECTs over them, for the computed examples. Names play no part in the meaning of a SELECT.
use Rattle.std.specs.Prelude.{ℕ, ◌-◌, ◌^◌, pos, Bool, List, [], ◌∷◌, Option, None, codes}
use Rattle.rm_base.specs.declared.catalog.ColumnKind.TheVariants as kind
use Rattle.rm_base.specs.declared.catalog.CatalogColumn.{CatalogColumn}
use Rattle.rm_base.specs.declared.select.Item.{Item}
use Rattle.rm_base.specs.declared.select.Op.{Op}
use Rattle.rm_base.specs.declared.select.Op.TheVariants.{Equal, AtMost, Greater}
use Rattle.rm_base.specs.declared.select.Operand.TheVariants as operand
use Rattle.rm_base.specs.declared.select.Select.{Select}
use Rattle.rm_base.specs.declared.select.Test.{Test}
use Rattle.rm_base.specs.declared.value.Value.{Value}
use Rattle.rm_base.specs.declared.value.Value.TheVariants.{Null, Int, Words}
use Rattle.rm_base.specs.Name.{general}
use Rattle.rm_base.specs.TableSeen.{TableSeen}

abbrev pub int : ℕ → Value
int n = Int (pos n)

-- a table of two columns
abbrev pub table_of : List (List Value) → TableSeen
table_of rows =
    let ints : CatalogColumn = record { name = general; kind = kind.Int } in
    record { columns = ints ∷ ints ∷ []; rows = rows }

-- k and w: two rows of one key, and one whose key is Null
abbrev pub few : TableSeen
few = table_of ((int 1 ∷ int 10 ∷ []) ∷ (int 1 ∷ int 20 ∷ []) ∷ (Null ∷ int 30 ∷ []) ∷ [])

-- k and v
abbrev pub others : TableSeen
others = table_of ((int 1 ∷ int 5 ∷ []) ∷ (int 2 ∷ int 6 ∷ []) ∷ (int 1 ∷ Null ∷ []) ∷ (Null ∷ int 8 ∷ []) ∷ [])

-- a number and a text
abbrev pub texts : TableSeen
texts = table_of (
    (int 2 ∷ Words (codes "b") ∷ [])
    ∷ (Null ∷ Words (codes "y") ∷ [])
    ∷ (int 2 ∷ Words (codes "ab") ∷ [])
    ∷ (int 1 ∷ Null ∷ [])
    ∷ [])

-- a key and a number that is near the end of 64 bits
abbrev pub great : TableSeen
great = table_of (
    (int 2 ∷ int 7 ∷ [])
    ∷ (int 1 ∷ int (2 ^ 63 - 1) ∷ [])
    ∷ (int 1 ∷ int 1 ∷ [])
    ∷ (int 2 ∷ int (2 ^ 63 - 1) ∷ [])
    ∷ [])

-- a SELECT that is neither ordered nor limited
abbrev pub select_of : List Item → List Test → Option (List ℕ) → Select
select_of items tests groups = record {
  tables = [];
  tests = tests;
  items = items;
  names = [];
  groups = groups;
  order = record { keys = []; limit = None };
}

-- the same, ordered by an output column, and limited
abbrev pub ordered_by : ℕ → Bool → Option ℕ → Select → Select
ordered_by c falling limit s = record s { order = record { keys = record { column = c; falling = falling } ∷ []; limit = limit } }

-- the comparison of two columns, and of a column with a value
abbrev pub columns_test : ℕ → Op → ℕ → Test
columns_test a op b = record { left = operand.Column a; op = op; right = operand.Column b }

abbrev pub value_test : ℕ → Op → Value → Test
value_test a op value = record { left = operand.Column a; op = op; right = operand.Fixed value }

-- one comparison on the first table, one on the second, and one that joins them
abbrev pub side_tests : List Test
side_tests = value_test 1 AtMost (int 10) ∷ value_test 3 Greater (int 5) ∷ columns_test 0 Equal 2 ∷ []
