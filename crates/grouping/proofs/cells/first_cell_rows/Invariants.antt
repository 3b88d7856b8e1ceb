use Rattle.std.proofs.Common.{◌≡◌, ◌≤◌, take}
use Rattle.rm_base.specs.Values.{rows_measure}
use Rattle.grouping.specs.Batching.{Takes}
use Rattle.grouping.specs.Finishing.{cells}
use Rattle.grouping.proofs.cells.first_cell_rows.Given as goal

abbrev pub invariant-loop-group : goal.invariant-loop-group
invariant-loop-group l = record {
  takes : Takes l.order (cells l.keys (take l.group-index l.groups)) l.batch;
  room : l.batch.room ≡ l.fn.room;
  fits : rows_measure (cells l.keys (take l.group-index l.groups)) ≤ l.fn.room;
}
