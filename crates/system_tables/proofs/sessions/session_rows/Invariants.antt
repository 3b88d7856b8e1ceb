use Rattle.std.proofs.Common.{◌≡◌, take, map, length, vec_len, vec_capacity}
use Rattle.system_tables.specs.TableRows.{session_shown}
use Rattle.system_tables.proofs.sessions.session_rows.Given as goal

abbrev pub invariant-loop-x : goal.invariant-loop-x
invariant-loop-x l =
    (l.rows.items ≡ map session_shown (take l.x-index l.sessions)) × (vec_len l.rows ≡ l.x-index) × (vec_capacity l.rows ≡ length l.sessions)
