use Rattle.std.proofs.Common.{◌≡◌, ◌<◌, ◌⊎◌, filter, take, sym, subst, arith, rules}
use Rattle.rm_base.specs.Values.{rows_measure}
use Rattle.rm_rules.specs.Comparing.{all_true}
use Rattle.spill_files.specs.declared.error.RunError.TheVariants.{NeedsSpill}
use Rattle.query_run.specs.Gathering.{Gathers, gathered_charge}
use Rattle.query_run.proofs.Passing.{scan_beyond}
use Rattle.query_run.proofs.Taking.{taken_few, taken_measure, taken_more}
use Rattle.query_run.proofs.scan.scan.Goals as goal

pub returns-in_err-charge-clause-spills : goal.returns-in_err-charge-clause-spills
returns-in_err-charge-clause-spills g c =
    let beyond : c.in_err-charge.field-0.0 ≡ NeedsSpill
    → ((c.args.room < rows_measure (filter (all_true c.args.select.now.tests) c.args.rows.now)) ⊎ (c.args.room < gathered_charge c.args.select.now.items c.args.select.now.groups (filter (all_true c.args.select.now.tests) c.args.rows.now))) =
    λ e. scan_beyond (all_true c.args.select.now.tests) c.args.rows.now c.loop-row.row-index c.row-item.result c.loop-row.charge c.args.room c.args.select.now.items c.args.select.now.groups c.loop-row-test.true c.row-item.is c.loop-row.invariant.charge
    (c.in_err-charge.ensures.spills _ c.loop-row.invariant.gathers e) in
    search rules

pub loop-row-preserved : goal.loop-row-preserved
loop-row-preserved g c =
    let i = c.loop-row.row-index in
    let more = taken_more (all_true c.args.select.now.tests) c.args.rows.now i c.row-item.result c.loop-row-test.true c.row-item.is in
    record {
      gathers = subst (λ l. Gathers c.args.select.now c.args.room l c.scan_row.new.gathering) (sym more)
          (c.in_ok-charge.ensures.ok (filter (all_true c.args.select.now.tests) (take i c.args.rows.now)) (taken_few (all_true c.args.select.now.tests) c.args.rows.now i 9223372036854775808 c.requires.few) c.loop-row.invariant.gathers);
      charge = omega (arith, c.in_ok-charge.ensures.charge, c.loop-row.invariant.charge, taken_measure (all_true c.args.select.now.tests) c.args.rows.now i c.row-item.result c.loop-row-test.true c.row-item.is);
      fits = search rules;
      going = search rules;
      handed = search rules;
    }
