use Rattle.rm_rules.specs.Comparing.{columns}
use Rattle.tuples.specs.Tuple.{tuple_values}
use Rattle.grouping.specs.Places.{bucket}
use Rattle.grouping.proofs.WalkLemmas.{Walks}
use Rattle.grouping.proofs.groups.place_of.Given as goal

abbrev pub invariant-loop-place : goal.invariant-loop-place
invariant-loop-place l = Walks l.places.count l.groups (columns l.keys (tuple_values l.tuple)) (bucket l.places.count l.hash) l.place

abbrev pub decreases-loop-place : goal.decreases-loop-place
decreases-loop-place l = l.place
