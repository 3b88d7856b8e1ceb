use Rattle.std.proofs.Common.{rules, ◌≡◌, ◌<◌, ◌+◌, ◌∙◌, ap, sym, subst, arith, take}
use Rattle.rm_base.specs.Values.{rows_measure}
use Rattle.spill_files.specs.declared.error.RunError.TheVariants.{NeedsSpill}
use Rattle.grouping.specs.Batching.{Takes}
use Rattle.grouping.specs.Finishing.{cells}
use Rattle.grouping.proofs.CellsLemmas.{cells_part, cells_step, measure-append}
use Rattle.grouping.proofs.ErrorLemmas.{handed_on}
use Rattle.grouping.proofs.cells.first_cell_rows.Goals as goal

pub returns-in_err-add-clause-spills : goal.returns-in_err-add-clause-spills
returns-in_err-add-clause-spills c =
    let i = c.loop-group.group-index in
    let keys = c.args.keys.now in
    let groups = c.args.groups.now in
    let row = c.in_ok-cell_row.field-0 in
    let step = cells_step keys groups i c.group-item.result row (search rules) (search rules) (search rules) in
    handed_on c.from_residual-in_err-add.result _ (λ e. e ≡ NeedsSpill → c.args.room < rows_measure (cells keys groups)) c.from_residual-in_err-add.ensures.1
    (λ e is n. omega (arith, c.in_err-add.ensures.spills (sym is ∙ n), c.loop-group.invariant.room, c.loop-group.invariant.takes.charge, ap rows_measure step, measure-append (cells keys (take i groups)) row, cells_part keys groups (i + 1)))

pub loop-group-preserved : goal.loop-group-preserved
loop-group-preserved c =
    let i = c.loop-group.group-index in
    let keys = c.args.keys.now in
    let groups = c.args.groups.now in
    let row = c.in_ok-cell_row.field-0 in
    let step = cells_step keys groups i c.group-item.result row (search rules) (search rules) (search rules) in
    record {
      takes = subst (λ l. Takes c.args.order.now l c.add.new.self) (sym step) (c.in_ok-add.ensures.takes c.args.order.now (cells keys (take i groups)) c.loop-group.invariant.takes);
      room = c.add.ensures.room ∙ c.loop-group.invariant.room;
      fits = omega (arith, c.in_ok-add.ensures.fits, c.loop-group.invariant.room, c.loop-group.invariant.takes.charge, ap rows_measure step, measure-append (cells keys (take i groups)) row);
    }
