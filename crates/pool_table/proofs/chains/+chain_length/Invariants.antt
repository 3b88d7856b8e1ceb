use Rattle.pool_table.proofs.chains.+chain_length.Given as goal

abbrev pub decreases-chain_length : goal.decreases-chain_length
decreases-chain_length l = l.most
