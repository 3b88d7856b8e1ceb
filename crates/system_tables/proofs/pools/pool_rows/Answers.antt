use Rattle.std.proofs.Common.{◌∙◌, arith}
use Rattle.system_tables.proofs.Sizes.{named-at, mapped-more}
use Rattle.system_tables.proofs.pools.pool_rows.Goals as goal

pub pool_cells-requires-clause-named : goal.pool_cells-requires-clause-named
pool_cells-requires-clause-named c =
    named-at c.args.snapshot.now c.rows-pools.result.now c.loop-r.r-index c.r-item.result c.requires c.rows-pools.ensures.rows c.loop-r-test.true c.r-item.is

pub loop-r-preserved : goal.loop-r-preserved
loop-r-preserved c = (
  mapped-more _ c.rows-pools.result.now c.loop-r.r-index c.r-item.result _ _ _ c.loop-r-test.true c.r-item.is c.loop-r.invariant.0 c.push_reserved.ensures.items (c.in_ok-row_of.ensures ∙ c.pool_cells.ensures),
  omega (arith, c.push_reserved.ensures.len, c.loop-r.invariant.1),
  c.push_reserved.ensures.capacity ∙ c.loop-r.invariant.2,
)
