use Rattle.std.proofs.Common.{◌≡◌, ◌-◌, ◌^◌, ◌∙◌, ap, min, arith}
use Rattle.rm_base.specs.Values.{row_measure}
use Rattle.grouping.proofs.Fitting.{fits_more}
use Rattle.grouping.proofs.answer.fitting.Goals as goal

pub loop-row-preserved : goal.loop-row-preserved
loop-row-preserved c =
    let most = c.loop-row.invariant.2 in
    let is : c.measure-measure.result ≡ min (row_measure c.row-item.result) (2 ^ 64 - 1) = c.measure-measure.ensures ∙ ap (λ v. min (row_measure v) (2 ^ 64 - 1)) c.one.ensures.values in
    (fits_more c.loop-row.room c.loop-row.count c.loop-row.row-index c.measure-measure.result _ c.row-item.result c.args.rows.now c.loop-row-test.true c.row-item.is is (omega (arith, c.if-measure-room.false)) most c.loop-row.invariant.0, omega (arith, c.loop-row.invariant.1), omega (arith, most))
