use Rattle.std.proofs.Common.{◌≡◌, ◌+◌, ◌-◌, ◌≤◌, None, take, map}
use Rattle.rm_outside.specs.Faults.{counted}
use Rattle.spill_files.specs.RunRow.{run_row}
use Rattle.grouping.specs.Batching.{Takes}
use Rattle.grouping.proofs.ordered.first_rows.Given as goal

abbrev pub invariant-loop-row : goal.invariant-loop-row
invariant-loop-row g l = record {
  takes : Takes l.order (map run_row (take l.row-index l.rows)) l.batch;
  room : l.batch.room ≡ l.fn.room;
  going : g.W.Watch.stop l.watch ≡ None;
  handed : counted (g.W.Watch.handed l.initial.watch) (l.initial.pace + l.row-index - l.pace) ≤ g.W.Watch.handed l.watch;
}
