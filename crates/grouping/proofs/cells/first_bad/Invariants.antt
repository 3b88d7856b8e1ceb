use Rattle.std.proofs.Common.{◌≡◌, drop}
use Rattle.grouping.specs.Finishing.{bad_from}
use Rattle.grouping.proofs.cells.first_bad.Given as goal

abbrev pub invariant-loop-place : goal.invariant-loop-place
invariant-loop-place l = bad_from l.place (drop l.place l.items) l.groups ≡ bad_from 0 l.items l.groups
