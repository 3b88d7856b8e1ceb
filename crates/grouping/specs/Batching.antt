-- The rows that may be in an answer, of rows that are taken one by one.
use Rattle.std.specs.Prelude.{◌≡◌, ℕ, List, ◌++◌, length, take, Some, IsSorted, Option, None}
use Rattle.rm_base.specs.declared.select.OrderSpec.{OrderSpec}
use Rattle.rm_base.specs.declared.value.Value.{Value}
use Rattle.rm_base.specs.Values.{rows_measure}
use Rattle.rm_rules.specs.Ordering.{in_order, order_cmp}

-- these rows stand for those in an answer, whatever rows come behind them
abbrev pub StandFor : OrderSpec → List (List Value) → List (List Value) → Type 0
StandFor order these those = (more : List (List Value)) → in_order order (these ++ more) ≡ in_order order (those ++ more)

-- rows that were taken: their order, the room, what all of them are charged, and those of them that may be in an answer
pub record Batched : Type 0 where
  pub order : OrderSpec
  pub room : ℕ
  pub charge : ℕ
  pub kept : List (List Value)

-- these are the rows that were taken
pub record Takes (spec : OrderSpec) (rows : List (List Value)) (batch : Batched) : Type 0 where
  pub order : batch.order ≡ spec
  pub charge : batch.charge ≡ rows_measure rows
  pub kept : StandFor spec batch.kept rows

-- the first LIMIT rows of those kept, which are in order
pub record IsFront (order : OrderSpec) (kept front : List (List Value)) : Type 0 where
  pub limit : order.limit ≡ Some (length front)
  pub first : take (length front) kept ≡ front
  pub sorted : IsSorted (order_cmp order.keys) front

-- a LIMIT, or 0 where there is none
abbrev pub most_of : Option ℕ → ℕ
most_of None = 0
most_of (Some most) = most
