use Rattle.std.proofs.Common.{◌≡◌, ◌++◌, take, drop}
use Rattle.tuples.specs.Tuple.{tuple_values}
use Rattle.grouping.specs.Tallying.{all_added}
use Rattle.grouping.proofs.tallies.add_all.Given as goal

abbrev pub invariant-loop-tally : goal.invariant-loop-tally
invariant-loop-tally l =
    l.tallies ≡ all_added (tuple_values l.tuple) (take l.tally-index l.initial.tallies) ++ drop l.tally-index l.initial.tallies
