use Rattle.std.proofs.Common.{length}
use Rattle.pool_table.proofs.soundness.+are_roles_distinct.Given as goal

abbrev pub decreases-are_roles_distinct : goal.decreases-are_roles_distinct
decreases-are_roles_distinct l = length l.roles.now
