-- The order of an answer is total, and only equal rows tie.
use Rattle.std.proofs.Common.{◌≡◌, ℕ, Bool, true, false, cond, List, [], ◌∷◌, ap, ◌∙◌, Ordering, Less, Equal, Greater, is_eq, IsPermutation, IsSorted}
use Rattle.std.specs.Cmp.{IsTotalOrder, on_total, then_total, back_total}
use Rattle.std.specs.Ordering.{ordering_then}
use Rattle.rm_base.specs.declared.value.Value.{Value}
use Rattle.rm_base.specs.declared.select.OrderKey.{OrderKey}
use Rattle.rm_base.specs.declared.select.OrderSpec.{OrderSpec}
use Rattle.rm_base.specs.Values.{value_cmp}
use Rattle.rm_base.specs.ValueLaws.{value_total, row_total, row_ties, same_row-eq}
use Rattle.rm_rules.specs.Comparing.{column}
use Rattle.rm_rules.specs.Sorting.{sorted}
use Rattle.rm_rules.specs.Ordering.{key_cmp, order_cmp, in_order, limited}
use Rattle.rm_rules.proofs.SortLaws.{sorted_along, sorted_is}

by_column : (c : ℕ) → IsTotalOrder (λ a b. value_cmp (column a c) (column b c))
by_column c = on_total (λ row. column row c) value_total

turned_column : (c : ℕ) → IsTotalOrder (λ a b. value_cmp (column b c) (column a c))
turned_column c = back_total (by_column c)

pub key_total : (k : OrderKey) → IsTotalOrder (key_cmp k)
key_total k = go k.falling
  where
    go : (b : Bool)
        → IsTotalOrder (λ a b'. cond b (value_cmp (column b' k.column) (column a k.column)) (value_cmp (column a k.column) (column b' k.column)))
    go true = turned_column k.column
    go false = by_column k.column

pub order_total : (ks : List OrderKey) → IsTotalOrder (order_cmp ks)
order_total [] = row_total
order_total (k ∷ ks) = then_total (key_total k) (order_total ks)

then_equal : (r s : Ordering) → ordering_then r s ≡ Equal → s ≡ Equal
then_equal Less s h = cc
then_equal Equal s h = h
then_equal Greater s h = cc

pub order_exact : (ks : List OrderKey) (a b : List Value) → order_cmp ks a b ≡ Equal → a ≡ b
order_exact [] a b h = same_row-eq a b (row_ties a b ∙ ap is_eq h)
order_exact (k ∷ ks) a b h = order_exact ks a b (then_equal (key_cmp k a b) (order_cmp ks a b) h)

pub in_order_along : (order : OrderSpec) (xs ys : List (List Value)) → IsPermutation xs ys → in_order order xs ≡ in_order order ys
in_order_along order xs ys moved =
    ap (limited order.limit) (sorted_along (order_cmp order.keys) (order_total order.keys) (order_exact order.keys) xs ys moved)

pub in_order_is : (keys : List OrderKey) (xs ys : List (List Value)) → IsPermutation xs ys → IsSorted (order_cmp keys) ys → ys
    ≡ sorted (order_cmp keys) xs
in_order_is keys = sorted_is (order_cmp keys) (order_total keys) (order_exact keys)
