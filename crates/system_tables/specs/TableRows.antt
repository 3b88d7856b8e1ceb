-- The rows of each system table, as functions of a snapshot. They stand in the order of the pools, of the sessions, of the
-- running and of the waiting queries, and of the moves.
use Rattle.std.specs.Prelude.{ℕ, ◌+◌, ◌-◌, ◌*◌, List, [], ◌∷◌, map, count_by, Some, None, Result, Ok, Err}
use Rattle.std.specs.List.{zip}
use Rattle.rm_base.specs.declared.definitions.Definitions.{Definitions}
use Rattle.rm_base.specs.declared.entry.EndCounts.{EndCounts}
use Rattle.rm_base.specs.declared.entry.MoveSeen.{MoveSeen}
use Rattle.rm_base.specs.declared.limits.TheConstants.{SECOND_MS}
use Rattle.rm_base.specs.declared.name.Name.{Name}
use Rattle.rm_base.specs.declared.refusal.Refusal.{Refusal}
use Rattle.rm_base.specs.declared.refusal.Refusal.TheVariants.{NoSuchTable}
use Rattle.rm_base.specs.declared.rows.PoolRow.{PoolRow}
use Rattle.rm_base.specs.declared.snapshot.RunningSeen.{RunningSeen}
use Rattle.rm_base.specs.declared.snapshot.SessionSeen.{SessionSeen}
use Rattle.rm_base.specs.declared.snapshot.Snapshot.{Snapshot}
use Rattle.rm_base.specs.declared.snapshot.WaitingSeen.{WaitingSeen}
use Rattle.rm_base.specs.declared.value.Value.{Value}
use Rattle.rm_base.specs.declared.value.Value.TheVariants.{Int, Words}
use Rattle.rm_base.specs.Name.{same_name, general}
use Rattle.rm_rules.specs.Definitions.{total, reserved, planned}
use Rattle.rm_rules.specs.Budget.{threshold, budget}
use Rattle.rm_rules.specs.Deadlines.{deadline_of}
use Rattle.rm_rules.specs.Holdings.{reserve}
use Rattle.rm_rules.specs.Accounting.{used, running_in, debt, general_size}
use Rattle.system_tables.specs.declared.rows.Shown.{Shown}
use Rattle.system_tables.specs.declared.status.PoolBytes.{PoolBytes}
use Rattle.system_tables.specs.declared.table.SystemTable.{SystemTable}
use Rattle.system_tables.specs.declared.table.SystemTable.TheVariants as table
use Rattle.system_tables.specs.Cells.{number, name, number_if_set, name_if_set, level_text, condition_text}
use Rattle.system_tables.specs.Seen.{holdings_seen, waiter_seen}
use Rattle.system_tables.specs.SystemTables.{table_called, table_columns}

-- what a pool was given; the planned queries are those in force, and the threshold of RUNTIMEPRIORITY is in milliseconds
abbrev pub pool_shown : Definitions → PoolRow → List Value
pool_shown d r =
    name r.name ∷ number r.memory ∷ number_if_set r.max ∷ number_if_set r.query_max ∷ number_if_set r.parallel ∷ Int r.priority
    ∷ Words (level_text r.runtime_priority) ∷ number (r.threshold_s * SECOND_MS) ∷ number_if_set r.queue_ms ∷ number (planned d r)
    ∷ number_if_set r.concurrency ∷ number_if_set r.cap_ms ∷ name_if_set r.cascade ∷ []

-- GENERAL's bytes: it has what the others do not reserve, and borrows nothing
abbrev pub general_bytes : Snapshot → PoolBytes
general_bytes s =
    let h = holdings_seen s in
    let most = total s.definitions in
    record { memory = most - reserved s.definitions; actual = general_size h; max = Some most; in_use = used general h.grants; borrowed = 0 }

-- the bytes of another pool, which has this actual size
abbrev pub pool_bytes : Snapshot → PoolRow × ℕ → PoolBytes
pool_bytes s e =
    let h = holdings_seen s in
    record { memory = e.0.memory; actual = e.1; max = e.0.max; in_use = used e.0.name h.grants; borrowed = debt h.grants (reserve e) }

-- how many queries wait in the pool
abbrev pub waiting_in : Name → List WaitingSeen → ℕ
waiting_in pool waiting = count_by (λ w. same_name w.pool pool) waiting

-- a pool's status
abbrev pub status_shown : Snapshot → PoolRow → PoolBytes → List Value
status_shown s r b =
    name r.name ∷ number b.memory ∷ number b.actual ∷ number_if_set b.max ∷ number b.in_use ∷ number b.borrowed
    ∷ number (threshold s.definitions r) ∷ number (budget s.definitions r)
    ∷ number (running_in r.name (holdings_seen s).grants) ∷ number (waiting_in r.name s.waiting) ∷ []

abbrev pub other_shown : Snapshot → PoolRow × ℕ → List Value
other_shown s e = status_shown s e.0 (pool_bytes s e)

-- the status of GENERAL, which stands first, and of the others, each with its actual size
abbrev pub status_rows : Snapshot → List PoolRow → List (List Value)
status_rows s [] = []
status_rows s (r ∷ rs) = status_shown s r (general_bytes s) ∷ map (other_shown s) (zip rs s.actual)

-- what a running query holds: its own bytes and those that it has borrowed
abbrev pub acquisition_shown : RunningSeen → List Value
acquisition_shown r =
    number r.session ∷ number r.query ∷ name r.account.pool ∷ number (r.account.own + r.account.borrowed) ∷ number r.account.own
    ∷ number r.account.borrowed ∷ number r.start ∷ number r.moves ∷ []

-- a waiting query, its place among all, and its deadline, if it has one
abbrev pub waiting_shown : Definitions → ℕ → WaitingSeen → List Value
waiting_shown d place w =
    number place ∷ number w.session ∷ number w.query ∷ name w.pool ∷ number w.queued ∷ number_if_set (deadline_of d (waiter_seen w)) ∷ []

-- the waiting queries, with places from this one on
abbrev pub queue_rows : Definitions → ℕ → List WaitingSeen → List (List Value)
queue_rows d place [] = []
queue_rows d place (w ∷ ws) = waiting_shown d place w ∷ queue_rows d (place + 1) ws

-- how many queries of a pool ended in its queue
abbrev pub rejection_shown : PoolRow × EndCounts → List Value
rejection_shown e = name e.0.name ∷ number e.1.timedout ∷ number e.1.toolarge ∷ number e.1.cancelled ∷ []

abbrev pub move_shown : MoveSeen → List Value
move_shown m = number m.at ∷ number m.session ∷ number m.query ∷ name m.source ∷ name m.target ∷ number m.ran ∷ []

abbrev pub session_shown : SessionSeen → List Value
session_shown x = number x.session ∷ name x.user ∷ name x.pool ∷ number_if_set x.cap_ms ∷ Words (condition_text x.condition) ∷ []

-- the rows of a table
abbrev pub rows_shown : Snapshot → SystemTable → List (List Value)
rows_shown s table.Pools = map (pool_shown s.definitions) s.definitions.pools
rows_shown s table.Status = status_rows s s.definitions.pools
rows_shown s table.Acquisitions = map acquisition_shown s.running
rows_shown s table.Queues = queue_rows s.definitions 1 s.waiting
rows_shown s table.Rejections = map rejection_shown (zip s.definitions.pools s.counters)
rows_shown s table.Moves = map move_shown s.moves
rows_shown s table.Sessions = map session_shown s.sessions

-- a table with its columns, or the refusal where there is none of this name
abbrev pub shown_of : Snapshot → Name → Result Shown Refusal
shown_of s wanted = elim (table_called wanted) [ Some t ↦ Ok (record { columns = table_columns t; rows = rows_shown s t }) | None ↦ Err (NoSuchTable wanted) ]
