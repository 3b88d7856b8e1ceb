use Rattle.std.proofs.Common.{◌≡◌, ◌++◌, drop, map, length, vec_len, vec_capacity}
use Rattle.std.specs.List.{zip}
use Rattle.system_tables.specs.TableRows.{rejection_shown}
use Rattle.system_tables.proofs.rejections.rejection_rows.Given as goal

abbrev pub invariant-loop-i : goal.invariant-loop-i
invariant-loop-i l =
    (map rejection_shown (zip l.pools l.counters) ≡ l.rows.items ++ map rejection_shown (zip (drop l.i l.pools) (drop l.i l.counters)))
    × (vec_len l.rows ≡ l.i)
    × (vec_capacity l.rows ≡ length l.pools)
