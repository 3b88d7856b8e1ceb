use Rattle.std.proofs.Common.{◌≡◌, ℕ, List, ◌+◌, ◌^◌, ◌<◌, ◌∙◌, ap, arith, slice_get}
use Rattle.tuples.specs.Known.{known}
use Rattle.std.proofs.lemmas.Int.{ints}
use Rattle.rm_base.specs.declared.value.Value.{Value}
use Rattle.rm_rules.specs.Comparing.{column}
use Rattle.grouping.specs.Totals.{totaled}
use Rattle.workload.proofs.TallyLemmas.{column_more, first_known, total_more}
use Rattle.workload.proofs.tally.add_first_column.Goals as goal

pub loop-row-preserved : goal.loop-row-preserved
loop-row-preserved c =
    let few : c.loop-row.total.count < 2 ^ 63 = omega (arith, c.requires, c.loop-row.invariant.count, c.loop-row-test.true) in
    let value = column c.row-item.result 0 in
    let seen : known c.first.result ≡ value = first_known c.row-item.result c.first.result (c.first.ensures.value ∙ ap (λ (row : List Value). slice_get row 0) c.as_slice.ensures) in
    let more = total_more c.loop-row.total c.add.new.self value (c.add.ensures ∙ ap (λ (v : Value). totaled v c.loop-row.total) seen) few in
    let rows = column_more c.args.rows.now c.loop-row.row-index c.row-item.result c.row-item.result (omega (arith, c.loop-row-test.true)) c.row-item.is in
    record { sum = omega (arith, ints, more.0, c.loop-row.invariant.sum, rows); count = omega (arith, more.1, c.loop-row.invariant.count) }
