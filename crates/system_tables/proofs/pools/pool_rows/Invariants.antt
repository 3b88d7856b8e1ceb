use Rattle.std.proofs.Common.{◌≡◌, take, map, length, vec_len, vec_capacity}
use Rattle.system_tables.specs.TableRows.{pool_shown}
use Rattle.system_tables.proofs.pools.pool_rows.Given as goal

abbrev pub invariant-loop-r : goal.invariant-loop-r
invariant-loop-r l =
    (l.rows.items ≡ map (pool_shown l.definitions) (take l.r-index l.pools)) × (vec_len l.rows ≡ l.r-index) × (vec_capacity l.rows ≡ length l.pools)
