use Rattle.std.proofs.Common.{length}
use Rattle.pool_table.proofs.chains.+longest_of_others.Given as goal

abbrev pub decreases-longest_of_others : goal.decreases-longest_of_others
decreases-longest_of_others l = length l.starts.now
