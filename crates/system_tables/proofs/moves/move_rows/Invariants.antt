use Rattle.std.proofs.Common.{◌≡◌, take, map, length, vec_len, vec_capacity}
use Rattle.system_tables.specs.TableRows.{move_shown}
use Rattle.system_tables.proofs.moves.move_rows.Given as goal

abbrev pub invariant-loop-m : goal.invariant-loop-m
invariant-loop-m l =
    (l.rows.items ≡ map move_shown (take l.m-index l.moves)) × (vec_len l.rows ≡ l.m-index) × (vec_capacity l.rows ≡ length l.moves)
