use Rattle.std.proofs.Common.{◌≡◌, take, map}
use Rattle.grouping.specs.Finishing.{cell}
use Rattle.grouping.proofs.cells.cell_row.Given as goal

abbrev pub invariant-loop-tally : goal.invariant-loop-tally
invariant-loop-tally l = l.values.items ≡ map (cell l.keys l.group.0) (take l.tally-index l.group.1)
