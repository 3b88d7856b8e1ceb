use Rattle.keeper_rows.proofs.RowLemmas.{cap-small}
use Rattle.keeper_rows.proofs.pools.PoolRowStoredRow.put.Goals as goal

-- src/pools.rt:79:17
pub of_maybe_number-requires-4 : goal.of_maybe_number-requires-4
of_maybe_number-requires-4 g c = cap-small c.args.self.now c.requires
