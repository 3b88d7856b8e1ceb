use Rattle.std.proofs.Common.{◌≡◌, ◌≤◌, None, filter, take}
use Rattle.rm_base.specs.Values.{rows_measure}
use Rattle.rm_outside.specs.Faults.{counted}
use Rattle.rm_rules.specs.Comparing.{all_true}
use Rattle.query_run.specs.Gathering.{Gathers}
use Rattle.query_run.proofs.scan.scan.Given as goal

abbrev pub invariant-loop-row : goal.invariant-loop-row
invariant-loop-row g l = record {
  gathers : Gathers l.select l.room (filter (all_true l.select.tests) (take l.row-index l.rows)) l.gathering;
  charge : l.charge ≡ rows_measure (filter (all_true l.select.tests) (take l.row-index l.rows));
  fits : l.charge ≤ l.room;
  going : g.W.Watch.stop l.watch ≡ None;
  handed : counted (g.W.Watch.handed l.initial.watch) l.row-index ≤ counted (g.W.Watch.handed l.watch) l.pace;
}
