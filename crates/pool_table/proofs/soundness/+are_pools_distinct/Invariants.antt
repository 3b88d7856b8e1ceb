use Rattle.std.proofs.Common.{length}
use Rattle.pool_table.proofs.soundness.+are_pools_distinct.Given as goal

abbrev pub decreases-are_pools_distinct : goal.decreases-are_pools_distinct
decreases-are_pools_distinct l = length l.pools.now
