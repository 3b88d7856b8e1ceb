-- The order of an answer's rows, and its first rows.
use Rattle.std.specs.Prelude.{ℕ, List, [], ◌∷◌, take, Option, Some, None, if◌then◌else◌}
use Rattle.std.specs.declared.cmp.Ordering.{Ordering}
use Rattle.std.specs.Ordering.{ordering_then}
use Rattle.rm_base.specs.declared.select.OrderKey.{OrderKey}
use Rattle.rm_base.specs.declared.select.OrderSpec.{OrderSpec}
use Rattle.rm_base.specs.declared.value.Value.{Value}
use Rattle.rm_base.specs.Values.{value_cmp, row_cmp}
use Rattle.rm_rules.specs.Comparing.{column}
use Rattle.rm_rules.specs.Sorting.{sorted}

-- two rows by one item of ORDER BY; DESC turns it round
abbrev pub key_cmp : OrderKey → List Value → List Value → Ordering
key_cmp key a b =
    if key.falling then value_cmp (column b key.column) (column a key.column)
    else value_cmp (column a key.column) (column b key.column)

-- by the items of ORDER BY, and then by all output columns from left to right, ascending
abbrev pub order_cmp : List OrderKey → List Value → List Value → Ordering
order_cmp [] a b = row_cmp a b
order_cmp (key ∷ keys) a b = ordering_then (key_cmp key a b) (order_cmp keys a b)

-- the first LIMIT of them
abbrev pub limited : {X : Type 0} → Option ℕ → List X → List X
limited None xs = xs
limited (Some most) xs = take most xs

-- the rows in order, and of these the first LIMIT
abbrev pub in_order : OrderSpec → List (List Value) → List (List Value)
in_order order rows = limited order.limit (sorted (order_cmp order.keys) rows)
