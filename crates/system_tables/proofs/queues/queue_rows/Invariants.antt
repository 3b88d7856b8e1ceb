use Rattle.std.proofs.Common.{◌≡◌, ◌+◌, ◌++◌, drop, length, vec_len, vec_capacity}
use Rattle.system_tables.specs.TableRows.{queue_rows}
use Rattle.system_tables.proofs.queues.queue_rows.Given as goal

abbrev pub invariant-loop-i : goal.invariant-loop-i
invariant-loop-i l =
    (queue_rows l.definitions 1 l.waiting ≡ l.rows.items ++ queue_rows l.definitions (l.i + 1) (drop l.i l.waiting))
    × (vec_len l.rows ≡ l.i)
    × (vec_capacity l.rows ≡ length l.waiting)
