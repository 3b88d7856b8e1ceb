-- A row that is not before the first rows.
use Rattle.std.proofs.Common.{◌≡◌, ℕ, ◌+◌, ◌-◌, ◌<◌, ◌≤◌, Bool, true, false, true≢false, not, List, [], ◌∷◌, ◌++◌, append_assoc, append-nil, length, take, drop, get_or, refl, sym, ap, ◌∙◌, subst, arith, is_lt}
use Rattle.std.proofs.lemmas.List.{take-append-drop}
use Rattle.rm_base.specs.declared.select.OrderKey.{OrderKey}
use Rattle.rm_base.specs.declared.select.OrderSpec.{OrderSpec}
use Rattle.rm_base.specs.declared.value.Value.{Value}
use Rattle.rm_rules.specs.Ordering.{in_order, order_cmp}
use Rattle.rm_base.specs.Values.{row_measure}
use Rattle.grouping.specs.Batching.{Batched, IsFront, Takes}
use Rattle.grouping.proofs.CellsLemmas.{measure-append}
use Rattle.grouping.proofs.Least.{behind}

abbrev Rows : Type 0
Rows = List (List Value)

not_true : (b : Bool) → not b ≡ true → b ≡ false
not_true true h = absurd (true≢false (sym h))
not_true false h = refl

split : (kept front : Rows) → take (length front) kept ≡ front → front ++ drop (length front) kept ≡ kept
split kept front h = ap (λ l. l ++ drop (length front) kept) (sym h) ∙ take-append-drop (length front) kept

front_behind : (order : OrderSpec) (kept front : Rows) (row d : List Value) (more : Rows) → IsFront order kept front
    → (0 < length front → is_lt (order_cmp order.keys row (get_or front (length front - 1) d)) ≡ false)
    → in_order order (kept ++ row ∷ more) ≡ in_order order (kept ++ more)
front_behind order kept front row d more is past =
    subst (λ l. in_order order (l ++ row ∷ more) ≡ in_order order (l ++ more)) (split kept front is.first)
    (behind order (length front) front (drop (length front) kept) row d more is.limit refl is.sorted past)

pub empty_behind : (order : OrderSpec) (kept front : Rows) (row : List Value) (more : Rows) → IsFront order kept front → length front ≤ 0
    → in_order order (kept ++ row ∷ more) ≡ in_order order (kept ++ more)
empty_behind order kept front row more is none = front_behind order kept front row row more is (λ some. absurd (omega (arith, none, some)))

pub last_behind : (order : OrderSpec) (keys : List OrderKey) (kept front : Rows) (row last : List Value) (more : Rows) (before : Bool) → order.keys ≡ keys → IsFront order kept front
    → last ≡ get_or front (length front - 1) last → before ≡ is_lt (order_cmp keys row last) → not before ≡ true
    → in_order order (kept ++ row ∷ more) ≡ in_order order (kept ++ more)
last_behind order keys kept front row last more before same is at test past =
    front_behind order kept front row last more is
    (λ some. (λ i. is_lt (order_cmp (same i) row (sym at i))) ∙ sym test ∙ not_true before past)

-- ---- rows that were taken

pub takes_end : (b : Batched) (order : OrderSpec) (rows : Rows) → Takes order rows b → in_order b.order b.kept ≡ in_order order rows
takes_end b order rows takes =
    ap (λ (o : OrderSpec). in_order o b.kept) takes.order
    ∙ ap (in_order order) (sym (append-nil b.kept))
    ∙ takes.kept []
    ∙ ap (in_order order) (append-nil rows)

pub takes_more : (b mid next : Batched) (order : OrderSpec) (rows : Rows) (row : List Value) (bytes : ℕ) → Takes order rows b
    → mid ≡ record b { charge = b.charge + bytes } → bytes ≡ row_measure row
    → next.order ≡ mid.order → next.charge ≡ mid.charge
    → ((more : Rows) → in_order mid.order (next.kept ++ more) ≡ in_order mid.order ((mid.kept ++ row ∷ []) ++ more))
    → Takes order (rows ++ row ∷ []) next
takes_more b mid next order rows row bytes takes grown is ordered charged kept = record {
  order = ordered ∙ same;
  charge = omega (arith, charged, ap (λ (m : Batched). m.charge) grown, is, takes.charge, measure-append rows row);
  kept = λ more.
      ap (λ (o : OrderSpec). in_order o (next.kept ++ more)) (sym same)
      ∙ kept more
      ∙ ap (λ (o : OrderSpec). in_order o ((mid.kept ++ row ∷ []) ++ more)) same
      ∙ ap (λ (m : Batched). in_order order ((m.kept ++ row ∷ []) ++ more)) grown
      ∙ ap (in_order order) (append_assoc b.kept (row ∷ []) more)
      ∙ takes.kept (row ∷ more)
      ∙ ap (in_order order) (sym (append_assoc rows (row ∷ []) more));
}
  where
    same : mid.order ≡ order
    same = ap (λ (m : Batched). m.order) grown ∙ takes.order
