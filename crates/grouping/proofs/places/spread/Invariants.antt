use Rattle.std.proofs.Common.{◌≡◌, take}
use Rattle.grouping.proofs.places.spread.Given as goal

abbrev pub invariant-loop-number : goal.invariant-loop-number
invariant-loop-number l = l.places.numbers ≡ take l.number-index l.numbers
