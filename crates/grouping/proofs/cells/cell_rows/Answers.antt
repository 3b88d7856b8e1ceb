use Rattle.std.proofs.Common.{rules, ◌≡◌, ◌+◌, ◌-◌, ◌^◌, ◌∷◌, [], ◌++◌, ◌∙◌, ap, sym, arith, min, take}
use Rattle.rm_base.specs.Values.{row_measure, rows_measure}
use Rattle.grouping.specs.Finishing.{cells}
use Rattle.grouping.proofs.CellsLemmas.{cells_part, cells_step, measure-append}
use Rattle.grouping.proofs.cells.cell_rows.Goals as goal

pub returns-then-bytes-room-clause-spills : goal.returns-then-bytes-room-clause-spills
returns-then-bytes-room-clause-spills c same =
    let i = c.loop-group.group-index in
    let keys = c.args.keys.now in
    let groups = c.args.groups.now in
    let row = c.in_ok-row.row in
    let step = cells_step keys groups i c.group-item.result row (search rules) (search rules) (search rules) in
    let bytes : c.measure-bytes.result ≡ min (row_measure row) (2 ^ 64 - 1) = c.measure-bytes.ensures ∙ ap (λ v. min (row_measure v) (2 ^ 64 - 1)) c.one.ensures.values in
    omega (arith, bytes, c.if-bytes-room.true, c.loop-group.invariant.1, c.loop-group.invariant.2, ap rows_measure step, measure-append (cells keys (take i groups)) row, cells_part keys groups (i + 1))

pub loop-group-preserved : goal.loop-group-preserved
loop-group-preserved c =
    let i = c.loop-group.group-index in
    let keys = c.args.keys.now in
    let groups = c.args.groups.now in
    let row = c.in_ok-row.row in
    let step = cells_step keys groups i c.group-item.result row (search rules) (search rules) (search rules) in
    let bytes : c.measure-bytes.result ≡ min (row_measure row) (2 ^ 64 - 1) = c.measure-bytes.ensures ∙ ap (λ v. min (row_measure v) (2 ^ 64 - 1)) c.one.ensures.values in (
      c.in_ok-push.ensures.items ∙ ap (λ l. l ++ row ∷ []) c.loop-group.invariant.0 ∙ sym step,
      omega (arith, c.requires, bytes, c.if-bytes-room.false, c.loop-group.invariant.1, c.loop-group.invariant.2, ap rows_measure step, measure-append (cells keys (take i groups)) row),
      omega (arith, c.requires, c.if-bytes-room.false, c.loop-group.invariant.2),
    )
