use Rattle.std.proofs.Common.{◌≡◌, ◌++◌, length, take, drop, map}
use Rattle.pool_table.proofs.dropping.leave.Given as goal

abbrev pub invariant-loop-place : goal.invariant-loop-place
invariant-loop-place g l = record {
  count : length l.rows ≡ length l.initial.rows;
  items : take l.place l.rows ++ map (g.T.PooledRow.beside l.pool) (drop l.place l.rows) ≡ map (g.T.PooledRow.beside l.pool) l.initial.rows;
}
