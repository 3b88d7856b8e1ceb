use Rattle.std.proofs.Common.{◌≡◌, drop}
use Rattle.grouping.specs.Finishing.{bad_at}
use Rattle.grouping.proofs.cells.bad_at.Given as goal

abbrev pub invariant-loop-group : goal.invariant-loop-group
invariant-loop-group l = bad_at l.place (drop l.group-index l.groups) ≡ bad_at l.place l.groups
