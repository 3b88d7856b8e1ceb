use Rattle.std.proofs.Common.{◌≡◌, ◌++◌, ◌∷◌, [], ◌∙◌, ap, sym, subst, arith}
use Rattle.rm_base.specs.Values.{row_measure}
use Rattle.rm_rules.specs.Meaning.{shown}
use Rattle.tuples.specs.Tuple.{tuple_values}
use Rattle.grouping.specs.Batching.{Takes}
use Rattle.grouping.proofs.BatchLemmas.{takes_more}
use Rattle.grouping.proofs.batch.Batch.add_shown.Goals as goal

pub returns-clause-takes : goal.returns-clause-takes
returns-clause-takes c order rows takes =
    let row = shown c.args.items.now (tuple_values c.args.tuple) in
    let exact : c.shown_measure.result ≡ row_measure row = omega (arith, c.shown_measure.ensures, c.in_ok-charge.ensures.fits, c.charge.ensures.narrow) in
    subst (λ r. Takes order (rows ++ r ∷ []) c.keep.new.self) c.in_ok-shown.ensures
    (takes_more c.args.self.now c.charge.new.self c.keep.new.self order rows c.in_ok-shown.field-0 c.shown_measure.result takes c.in_ok-charge.ensures.ok
    (exact ∙ ap row_measure (sym c.in_ok-shown.ensures)) c.keep.ensures.order c.keep.ensures.charge c.in_ok-keep.ensures.kept)

pub returns-clause-fits : goal.returns-clause-fits
returns-clause-fits c = omega (arith, c.shown_measure.ensures, c.in_ok-charge.ensures.fits, c.charge.ensures.narrow)
