use Rattle.std.proofs.Common.{◌≡◌, ◌++◌, length, take, drop, map}
use Rattle.rm_rules.specs.DropPool.{session_beside}
use Rattle.machine.proofs.sessions.put_rows_beside.Given as goal

abbrev pub invariant-loop-i : goal.invariant-loop-i
invariant-loop-i l = record {
  count : length l.rows ≡ length l.initial.rows;
  items : take l.i l.rows ++ map (session_beside l.pool) (drop l.i l.rows) ≡ map (session_beside l.pool) l.initial.rows;
}
