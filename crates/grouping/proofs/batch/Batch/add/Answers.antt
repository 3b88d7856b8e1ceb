use Rattle.std.proofs.Common.{◌≡◌, ◌-◌, ◌^◌, ◌∙◌, ap, arith, min}
use Rattle.rm_base.specs.Values.{row_measure}
use Rattle.grouping.proofs.BatchLemmas.{takes_more}
use Rattle.grouping.proofs.batch.Batch.add.Goals as goal

pub returns-clause-takes : goal.returns-clause-takes
returns-clause-takes c order rows takes =
    let e : c.measure.result ≡ min (row_measure c.args.row) (2 ^ 64 - 1) = c.measure.ensures ∙ ap (λ v. min (row_measure v) (2 ^ 64 - 1)) c.one.ensures.values in
    let exact : c.measure.result ≡ row_measure c.args.row = omega (arith, e, c.in_ok-charge.ensures.fits, c.charge.ensures.narrow) in
    takes_more c.args.self.now c.charge.new.self c.keep.new.self order rows c.args.row c.measure.result takes c.in_ok-charge.ensures.ok exact
    c.keep.ensures.order c.keep.ensures.charge c.in_ok-keep.ensures.kept

pub returns-clause-fits : goal.returns-clause-fits
returns-clause-fits c =
    let e : c.measure.result ≡ min (row_measure c.args.row) (2 ^ 64 - 1) = c.measure.ensures ∙ ap (λ v. min (row_measure v) (2 ^ 64 - 1)) c.one.ensures.values in
    omega (arith, e, c.in_ok-charge.ensures.fits, c.charge.ensures.narrow)
