-- The names and the columns of the system tables.
use Rattle.std.specs.Prelude.{ℕ, List, [], ◌∷◌, Option, find, codes}
use Rattle.std.specs.Str.{bytes_eq}
use Rattle.rm_base.specs.declared.name.Name.{Name}
use Rattle.rm_base.specs.Name.{name_text}
use Rattle.system_tables.specs.declared.table.SystemTable.{SystemTable}
use Rattle.system_tables.specs.declared.table.SystemTable.TheVariants as table

abbrev pub table_text : SystemTable → List ℕ
table_text table.Pools = codes "resource_pools"
table_text table.Status = codes "resource_pool_status"
table_text table.Acquisitions = codes "resource_acquisitions"
table_text table.Queues = codes "resource_queues"
table_text table.Rejections = codes "resource_rejections"
table_text table.Moves = codes "resource_pool_move"
table_text table.Sessions = codes "sessions"

abbrev pub system_tables : List SystemTable
system_tables =
    table.Pools ∷ table.Status ∷ table.Acquisitions ∷ table.Queues ∷ table.Rejections ∷ table.Moves ∷ table.Sessions ∷ []

-- the table of this name
abbrev pub table_called : Name → Option SystemTable
table_called name = find (λ t. bytes_eq (table_text t) (name_text name)) system_tables

abbrev pub table_columns : SystemTable → List (List ℕ)
table_columns table.Pools =
    codes "name" ∷ codes "memory_size" ∷ codes "max_memory_size" ∷ codes "max_query_memory_size" ∷ codes "execution_parallelism"
    ∷ codes "priority" ∷ codes "runtime_priority" ∷ codes "runtime_priority_threshold" ∷ codes "queue_timeout"
    ∷ codes "planned_concurrency" ∷ codes "max_concurrency" ∷ codes "runtime_cap" ∷ codes "cascade_to" ∷ []
table_columns table.Status =
    codes "pool_name" ∷ codes "memory_size" ∷ codes "memory_size_actual" ∷ codes "max_memory_size" ∷ codes "memory_in_use"
    ∷ codes "memory_borrowed" ∷ codes "queueing_threshold" ∷ codes "query_budget" ∷ codes "running" ∷ codes "waiting" ∷ []
table_columns table.Acquisitions =
    codes "session" ∷ codes "query" ∷ codes "pool_name" ∷ codes "memory" ∷ codes "own" ∷ codes "borrowed" ∷ codes "start" ∷ codes "moves" ∷ []
table_columns table.Queues = codes "place" ∷ codes "session" ∷ codes "query" ∷ codes "pool_name" ∷ codes "queued" ∷ codes "deadline" ∷ []
table_columns table.Rejections = codes "pool_name" ∷ codes "timedout" ∷ codes "toolarge" ∷ codes "cancelled" ∷ []
table_columns table.Moves = codes "at" ∷ codes "session" ∷ codes "query" ∷ codes "source" ∷ codes "target" ∷ codes "ran" ∷ []
table_columns table.Sessions = codes "session" ∷ codes "user_name" ∷ codes "pool_name" ∷ codes "runtime_cap" ∷ codes "condition" ∷ []
