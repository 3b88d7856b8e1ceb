use Rattle.std.proofs.Common.{length}
use Rattle.pool_table.proofs.soundness.+are_users_distinct.Given as goal

abbrev pub decreases-are_users_distinct : goal.decreases-are_users_distinct
decreases-are_users_distinct l = length l.users.now
