use Rattle.std.proofs.Common.{rules, arith, sym, ◌∙◌, ◌≡◌, ◌≢◌, subst, map, take}
use Rattle.spill_files.specs.RunRow.{run_row}
use Rattle.spill_files.specs.declared.error.RunError.TheVariants.{NeedsSpill}
use Rattle.grouping.specs.Batching.{Takes}
use Rattle.grouping.proofs.ErrorLemmas.{handed_on}
use Rattle.grouping.proofs.RunLemmas.{taken_measure, taken_more}
use Rattle.grouping.proofs.ordered.first_rows.Goals as goal

pub returns-in_err-add-clause-unspilled : goal.returns-in_err-add-clause-unspilled
returns-in_err-add-clause-unspilled g c =
    let shows : c.in_ok-copy.field-0 ≡ run_row c.row-item.result = c.in_ok-copy.ensures ∙ c.tuple.ensures in
    let part = taken_measure c.args.rows.now c.loop-row.row-index c.row-item.result c.in_ok-copy.field-0 (search rules) c.row-item.is shows in
    handed_on c.from_residual-in_err-add.result _ (λ e. e ≢ NeedsSpill) c.from_residual-in_err-add.ensures.1
    (λ e is n. omega (arith, part, c.in_err-add.ensures.spills (sym is ∙ n), c.loop-row.invariant.room, c.loop-row.invariant.takes.charge, c.requires.fits))

pub loop-row-preserved : goal.loop-row-preserved
loop-row-preserved g c =
    let shows : c.in_ok-copy.field-0 ≡ run_row c.row-item.result = c.in_ok-copy.ensures ∙ c.tuple.ensures in
    let more = taken_more c.args.rows.now c.loop-row.row-index c.row-item.result c.in_ok-copy.field-0 (search rules) c.row-item.is shows in
    record {
      takes = subst (λ l. Takes c.args.order.now l c.add.new.self) (sym more)
          (c.in_ok-add.ensures.takes c.args.order.now (map run_row (take c.loop-row.row-index c.args.rows.now)) c.loop-row.invariant.takes);
      room = c.add.ensures.room ∙ c.loop-row.invariant.room;
      going = search rules;
      handed = omega (arith, c.step.ensures.handed, c.loop-row.invariant.handed);
    }
