use Rattle.std.proofs.Common.{arith, ◌∙◌}
use Rattle.pool_table.proofs.ChainsAfter.{ends-more}
use Rattle.pool_table.proofs.chains.+chain_ends.Goals as goal

pub returns-in-Some-pool_called : goal.returns-in-Some-pool_called
returns-in-Some-pool_called t c = c.chain_ends.ensures ∙ ends-more c.args.rows.now c.args.most c.args.next c.in-Some.name c.in-Some-pool_called.r c.in-Some.is (omega arith) (cc)
