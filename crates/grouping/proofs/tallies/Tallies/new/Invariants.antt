use Rattle.std.proofs.Common.{◌≡◌, [], take}
use Rattle.grouping.specs.Tallying.{tallies_of}
use Rattle.grouping.proofs.tallies.Tallies.new.Given as goal

abbrev pub invariant-loop-item : goal.invariant-loop-item
invariant-loop-item l = l.tallies.items ≡ tallies_of (take l.item-index l.items) []
