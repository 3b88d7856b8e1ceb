use Rattle.std.proofs.Common.{◌≡◌, ◌≤◌, take}
use Rattle.rm_base.specs.Values.{rows_measure}
use Rattle.grouping.specs.Finishing.{cells}
use Rattle.grouping.proofs.cells.cell_rows.Given as goal

abbrev pub invariant-loop-group : goal.invariant-loop-group
invariant-loop-group l =
    (l.rows.items ≡ cells l.keys (take l.group-index l.groups))
    × (l.charge ≡ rows_measure (cells l.keys (take l.group-index l.groups)))
    × (l.charge ≤ l.room)
