-- what a statement says of one parameter
use Rattle.std.specs.Prelude.{Some, None}
use Rattle.rm_base.specs.declared.statement.PoolChange.{PoolChange}
use Rattle.rm_base.specs.declared.statement.UserChange.{UserChange}
use Rattle.rm_base.specs.declared.statement.Statement.{Statement}
use Rattle.rm_base.specs.declared.statement.Statement.TheVariants as statement
use Rattle.pool_sql.specs.declared.setting.Setting.{Setting}
use Rattle.pool_sql.specs.declared.setting.Setting.TheVariants as setting

-- no parameter is named
abbrev pub no_pool_change : PoolChange
no_pool_change = record {
  memory = None;
  max = None;
  query_max = None;
  parallel = None;
  priority = None;
  runtime_priority = None;
  threshold_s = None;
  queue_ms = None;
  planned = None;
  concurrency = None;
  cap_ms = None;
  cascade = None;
}

-- the same of a user's
abbrev pub no_user_change : UserChange
no_user_change = record { pool = None; memory_cap = None; cap_ms = None }

-- a pool's change with one more parameter named
abbrev pub set_pool : PoolChange → Setting → PoolChange
set_pool c (setting.MemorySize x) = record c { memory = Some x }
set_pool c (setting.MaxMemorySize x) = record c { max = Some x }
set_pool c (setting.MaxQueryMemorySize x) = record c { query_max = Some x }
set_pool c (setting.ExecutionParallelism x) = record c { parallel = Some x }
set_pool c (setting.Priority x) = record c { priority = Some x }
set_pool c (setting.RuntimePriority x) = record c { runtime_priority = Some x }
set_pool c (setting.RuntimePriorityThreshold x) = record c { threshold_s = Some x }
set_pool c (setting.QueueTimeout x) = record c { queue_ms = Some x }
set_pool c (setting.PlannedConcurrency x) = record c { planned = Some x }
set_pool c (setting.MaxConcurrency x) = record c { concurrency = Some x }
set_pool c (setting.RuntimeCap x) = record c { cap_ms = Some x }
set_pool c (setting.Cascade x) = record c { cascade = Some x }
set_pool c (setting.ResourcePool x) = c
set_pool c (setting.MemoryCap x) = c

-- the same of a user's
abbrev pub set_user : UserChange → Setting → UserChange
set_user c (setting.MemorySize x) = c
set_user c (setting.MaxMemorySize x) = c
set_user c (setting.MaxQueryMemorySize x) = c
set_user c (setting.ExecutionParallelism x) = c
set_user c (setting.Priority x) = c
set_user c (setting.RuntimePriority x) = c
set_user c (setting.RuntimePriorityThreshold x) = c
set_user c (setting.QueueTimeout x) = c
set_user c (setting.PlannedConcurrency x) = c
set_user c (setting.MaxConcurrency x) = c
set_user c (setting.RuntimeCap x) = record c { cap_ms = Some x }
set_user c (setting.Cascade x) = c
set_user c (setting.ResourcePool x) = record c { pool = Some x }
set_user c (setting.MemoryCap x) = record c { memory_cap = Some x }

-- the statement with one more parameter named
abbrev pub set : Statement → Setting → Statement
set (statement.CreatePool n c) x = statement.CreatePool n (set_pool c x)
set (statement.AlterPool n c) x = statement.AlterPool n (set_pool c x)
set (statement.CreateUser n c) x = statement.CreateUser n (set_user c x)
set (statement.AlterUser n c) x = statement.AlterUser n (set_user c x)
set (statement.DropPool n) x = statement.DropPool n
set (statement.DropUser n) x = statement.DropUser n
set (statement.CreateRole n) x = statement.CreateRole n
set (statement.AlterRole n pool) x = statement.AlterRole n pool
set (statement.DropRole n) x = statement.DropRole n
set (statement.GrantUsage p n) x = statement.GrantUsage p n
set (statement.RevokeUsage p n) x = statement.RevokeUsage p n
set (statement.GrantRole r u) x = statement.GrantRole r u
set (statement.RevokeRole r u) x = statement.RevokeRole r u
