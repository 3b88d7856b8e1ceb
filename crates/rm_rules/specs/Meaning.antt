-- The meaning of a SELECT over its tables. It knows no grant, no partition and no file.
use Rattle.std.specs.Prelude.{ℕ, ◌+◌, ◌-◌, ℤ, List, [], ◌∷◌, map, nat_le, Option, Some, None, if◌then◌else◌}
use Rattle.rm_base.specs.declared.limits.TheConstants.{ANSWER_MOST}
use Rattle.rm_base.specs.declared.select.GroupSpec.{GroupSpec}
use Rattle.rm_base.specs.declared.select.Item.{Item}
use Rattle.rm_base.specs.declared.select.Item.TheVariants.{Column, CountAll, Count, Sum, Min, Max}
use Rattle.rm_base.specs.declared.select.OrderSpec.{OrderSpec}
use Rattle.rm_base.specs.declared.select.Select.{Select}
use Rattle.rm_base.specs.declared.value.Value.{Value}
use Rattle.rm_base.specs.declared.value.Value.TheVariants.{Null}
use Rattle.rm_base.specs.TableSeen.{TableSeen}
use Rattle.rm_base.specs.Values.{row_measure, rows_measure}
use Rattle.rm_rules.specs.Comparing.{column}
use Rattle.rm_rules.specs.Tuples.{remaining}
use Rattle.rm_rules.specs.Grouping.{grouped, first_bad}
use Rattle.rm_rules.specs.Ordering.{in_order}

-- how a SELECT ends: with its rows, with a sum outside 64 bits in an output column, counted from 1, or with the number of
-- first rows that an answer has room for
pub data SelectOutcome : Type 0 where
  Answer : (rows : List (List Value)) → SelectOutcome
  SumOutOfRange : (column : ℕ) (sum : ℤ) → SelectOutcome
  AnswerTooLarge : (rows : ℕ) → SelectOutcome

-- what an item of a select list without grouping gives of a tuple; an aggregate stands in none
abbrev pub shown_column : List Value → Item → Value
shown_column row (Column c) = column row c
shown_column row CountAll = Null
shown_column row (Count c) = Null
shown_column row (Sum c) = Null
shown_column row (Min c) = Null
shown_column row (Max c) = Null

-- the row of the select list that a tuple gives
abbrev pub shown : List Item → List Value → List Value
shown items row = map (shown_column row) items

-- the greatest number of first rows that measure at most the room
abbrev pub fitting : ℕ → List (List Value) → ℕ
fitting room [] = 0
fitting room (row ∷ rows) =
    if nat_le (row_measure row) room then 1 + fitting (room - row_measure row) rows else 0

-- rows as an answer, where they measure at most 16 MiB
abbrev pub answer_of : List (List Value) → SelectOutcome
answer_of rows =
    if nat_le (rows_measure rows) ANSWER_MOST then Answer rows else AnswerTooLarge (fitting ANSWER_MOST rows)

-- what groups give: their rows, but where a sum is out of range
abbrev pub meant_groups : Option (ℕ × ℤ) → OrderSpec → List (List Value) → SelectOutcome
meant_groups (Some bad) order rows = SumOutOfRange bad.0 bad.1
meant_groups None order rows = answer_of (in_order order rows)

-- what the tuples that remain give: one row each without grouping, else one row for each group
abbrev pub meant_of : List Item → OrderSpec → Option (List ℕ) → List (List Value) → SelectOutcome
meant_of items order None rows = answer_of (in_order order (map (shown items) rows))
meant_of items order (Some keys) rows =
    let spec : GroupSpec = record { keys = keys; items = items } in
    meant_groups (first_bad spec rows) order (grouped spec rows)

abbrev pub meant : Select → List (List Value) → SelectOutcome
meant s rows = meant_of s.items s.order s.groups rows

-- the meaning of a SELECT over its tables, which stand in the order in which it names them
abbrev pub meaning : Select → List TableSeen → SelectOutcome
meaning s tables = meant s (remaining s tables)
