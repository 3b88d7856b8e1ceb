use Rattle.std.proofs.Common.{rules, ◌≡◌, ◌<◌, ◌≤◌, ◌∙◌, ap, sym, subst, Some}
use Rattle.rm_base.specs.Values.{rows_measure}
use Rattle.rm_rules.specs.AllFits.{group_rows_fit}
use Rattle.rm_rules.specs.Grouping.{first_bad, grouped}
use Rattle.rm_rules.specs.Ordering.{in_order}
use Rattle.rm_rules.proofs.OrderLaws.{in_order_along}
use Rattle.grouping.specs.Finishing.{bad_from, cells}
use Rattle.grouping.proofs.CellsLemmas.{rows_fit, rows_spill, seen_in_order}
use Rattle.grouping.proofs.FastLemmas.{none_is, rows_unsorted}
use Rattle.grouping.proofs.groups.ordered_end_of.Goals as goal

pub returns-in-None-clause-spills : goal.returns-in-None-clause-spills
returns-in-None-clause-spills c rows few is spills =
    let spec = c.args.spec.now in
    let groups = c.args.groups.items in
    let moved = seen_in_order spec rows groups is in
    let none = none_is spec rows groups moved (sym (λ i. bad_from 0 (c.as_slice.ensures i) (c.deref.ensures.value i)) ∙ sym c.first_bad.ensures.first ∙ c.in-None.is) in
    rows_spill spec rows (cells spec.keys groups) c.args.room none (rows_unsorted spec rows groups few moved none)
    (subst (λ l. c.args.room < rows_measure l) (λ i. cells (c.as_slice-in-None.ensures i) (c.deref-in-None.ensures.value i)) (c.in-Err.ensures.spills spills))

pub returns-in-Ok-clause-ok : goal.returns-in-Ok-clause-ok
returns-in-Ok-clause-ok c rows few is =
    let spec = c.args.spec.now in
    let order = c.args.order.now in
    let groups = c.args.groups.items in
    let moved = seen_in_order spec rows groups is in
    let none = none_is spec rows groups moved (sym (λ i. bad_from 0 (c.as_slice.ensures i) (c.deref.ensures.value i)) ∙ sym c.first_bad.ensures.first ∙ c.in-None.is) in
    let out : c.of.result ≡ in_order order (cells spec.keys groups) =
    c.of.ensures ∙ c.in-Ok.ensures.rows ∙ (λ i. in_order order (cells (c.as_slice-in-None.ensures i) (c.deref-in-None.ensures.value i))) in
    (none, out ∙ sym (in_order_along order (grouped spec rows) (cells spec.keys groups) (rows_unsorted spec rows groups few moved none)))

pub returns-in-Ok-clause-fits : goal.returns-in-Ok-clause-fits
returns-in-Ok-clause-fits c rows few is =
    let spec = c.args.spec.now in
    let groups = c.args.groups.items in
    let moved = seen_in_order spec rows groups is in
    let none = none_is spec rows groups moved (sym (λ i. bad_from 0 (c.as_slice.ensures i) (c.deref.ensures.value i)) ∙ sym c.first_bad.ensures.first ∙ c.in-None.is) in
    rows_fit spec rows (cells spec.keys groups) c.args.room none (rows_unsorted spec rows groups few moved none)
    (subst (λ l. rows_measure l ≤ c.args.room) (λ i. cells (c.as_slice-in-None.ensures i) (c.deref-in-None.ensures.value i)) c.in-Ok.ensures.fits)

pub returns-in-Some-first_bad_in_order-clause-ok : goal.returns-in-Some-first_bad_in_order-clause-ok
returns-in-Some-first_bad_in_order-clause-ok c rows few is =
    let spec = c.args.spec.now in
    let e : first_bad spec rows ≡ Some (c.in-Some-first_bad_in_order.column, c.in-Some-first_bad_in_order.sum) =
    sym (c.first_bad_in_order.ensures.first spec rows c.as_slice-in-Some.ensures (seen_in_order spec rows c.args.groups.items is)) ∙ c.in-Some-first_bad_in_order.is in
    search (rules, e)

pub returns-in-Some-first_bad_in_order-clause-fits : goal.returns-in-Some-first_bad_in_order-clause-fits
returns-in-Some-first_bad_in_order-clause-fits c rows few is =
    let spec = c.args.spec.now in
    let e : first_bad spec rows ≡ Some (c.in-Some-first_bad_in_order.column, c.in-Some-first_bad_in_order.sum) =
    sym (c.first_bad_in_order.ensures.first spec rows c.as_slice-in-Some.ensures (seen_in_order spec rows c.args.groups.items is)) ∙ c.in-Some-first_bad_in_order.is in
    ap (λ bad. group_rows_fit c.args.room bad (grouped spec rows)) e
