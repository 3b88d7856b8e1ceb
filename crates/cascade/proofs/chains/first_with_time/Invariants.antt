use Rattle.std.proofs.Common.{length}
use Rattle.rm_base.specs.declared.limits.TheConstants.{POOLS_MOST}
use Rattle.rm_rules.specs.PoolStatements.{chain}
use Rattle.cascade.proofs.Steps.{Leads}
use Rattle.cascade.proofs.chains.first_with_time.Given as goal

abbrev pub invariant-loop-next : goal.invariant-loop-next
invariant-loop-next l = Leads l.definitions l.fn.pool l.running l.next

abbrev pub decreases-loop-next : goal.decreases-loop-next
decreases-loop-next l = length (chain l.definitions.pools POOLS_MOST l.next)
