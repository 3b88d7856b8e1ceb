use Rattle.std.proofs.Common.{◌≡◌, ◌+◌, ◌-◌, ◌≤◌, None, take, map}
use Rattle.rm_outside.specs.Faults.{counted}
use Rattle.rm_rules.specs.AllFits.{groups_charge}
use Rattle.spill_files.specs.RunRow.{run_row}
use Rattle.grouping.specs.Gathering.{gathered}
use Rattle.grouping.proofs.group.gather.Given as goal

abbrev pub invariant-loop-row : goal.invariant-loop-row
invariant-loop-row g l = record {
  groups : l.groups ≡ gathered l.spec l.fn.room (map run_row (take l.row-index l.rows));
  fits : groups_charge l.spec (map run_row (take l.row-index l.rows)) ≤ l.fn.room;
  going : g.W.Watch.stop l.watch ≡ None;
  handed : counted (g.W.Watch.handed l.initial.watch) (l.initial.pace + l.row-index - l.pace) ≤ g.W.Watch.handed l.watch;
}
