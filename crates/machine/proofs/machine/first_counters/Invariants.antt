use Rattle.std.proofs.Common.{◌≡◌, take, map}
use Rattle.rm_rules.specs.State.{none_ended}
use Rattle.machine.proofs.machine.first_counters.Given as goal

abbrev pub invariant-loop-row : goal.invariant-loop-row
invariant-loop-row l = l.counters ≡ map (λ _. none_ended) (take l._row-index l.pools)
