use Rattle.std.proofs.Common.{length}
use Rattle.pool_table.proofs.soundness.+are_grants_distinct.Given as goal

abbrev pub decreases-are_grants_distinct : goal.decreases-are_grants_distinct
decreases-are_grants_distinct l = length l.grants.now
