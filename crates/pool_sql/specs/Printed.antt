-- the text that is printed of a statement
use Rattle.std.specs.Prelude.{ℕ, ℤ, pos, negsuc, ◌+◌, ◌/◌, Option, Some, None, option_map, List, [], ◌∷◌, ◌++◌, codes}
use Rattle.std.specs.Fmt.{decimal}
use Rattle.rm_base.specs.declared.limits.TheConstants.{KIBI}
use Rattle.rm_base.specs.declared.refusal.Parameter.{Parameter}
use Rattle.rm_base.specs.declared.refusal.Parameter.TheVariants as parameter
use Rattle.rm_base.specs.declared.statement.Level.{Level}
use Rattle.rm_base.specs.declared.statement.Level.TheVariants.{Low, Medium, High}
use Rattle.rm_base.specs.declared.statement.PoolChange.{PoolChange}
use Rattle.rm_base.specs.declared.statement.UserChange.{UserChange}
use Rattle.rm_base.specs.declared.statement.Size.TheVariants as size
use Rattle.rm_base.specs.declared.statement.Statement.{Statement}
use Rattle.rm_base.specs.declared.statement.Statement.TheVariants as statement
use Rattle.rm_base.specs.Name.{name_text}
use Rattle.rm_base.specs.RefusalText.{parameter_text}
use Rattle.pool_sql.specs.declared.shown.Value.{Value}
use Rattle.pool_sql.specs.declared.shown.Value.TheVariants as value
use Rattle.pool_sql.specs.declared.setting.Setting.{Setting}
use Rattle.pool_sql.specs.declared.setting.Setting.TheVariants as setting

-- the parameter of a setting
abbrev pub parameter_named : Setting → Parameter
parameter_named (setting.MemorySize x) = parameter.MemorySize
parameter_named (setting.MaxMemorySize x) = parameter.MaxMemorySize
parameter_named (setting.MaxQueryMemorySize x) = parameter.MaxQueryMemorySize
parameter_named (setting.ExecutionParallelism x) = parameter.ExecutionParallelism
parameter_named (setting.Priority x) = parameter.Priority
parameter_named (setting.RuntimePriority x) = parameter.RuntimePriority
parameter_named (setting.RuntimePriorityThreshold x) = parameter.RuntimePriorityThreshold
parameter_named (setting.QueueTimeout x) = parameter.QueueTimeout
parameter_named (setting.PlannedConcurrency x) = parameter.PlannedConcurrency
parameter_named (setting.MaxConcurrency x) = parameter.MaxConcurrency
parameter_named (setting.RuntimeCap x) = parameter.RuntimeCap
parameter_named (setting.Cascade x) = parameter.Cascade
parameter_named (setting.ResourcePool x) = parameter.ResourcePool
parameter_named (setting.MemoryCap x) = parameter.MemoryCap

-- the key words of a parameter
abbrev pub keys_text : Parameter → List ℕ
keys_text parameter.Cascade = codes "CASCADE TO"
keys_text parameter.ResourcePool = codes "RESOURCE POOL"
keys_text p = parameter_text p

-- a value that is printed, or the word for none
abbrev pub value_or : {T : Type 0} → Value → (T → Value) → Option T → Value
value_or none of None = none
value_or none of (Some x) = of x

-- how a PRIORITY is printed: a negative one behind a `-`
abbrev pub priority_value : ℤ → Value
priority_value (pos n) = value.Number n
priority_value (negsuc n) = value.Negative (n + 1)

-- how a setting's value is printed
abbrev pub value_in : Setting → Value
value_in (setting.MemorySize x) = value.OfSize x
value_in (setting.MaxMemorySize x) = value_or value.Absent (λ y. value.OfSize y) x
value_in (setting.MaxQueryMemorySize x) = value_or value.Absent (λ y. value.OfSize y) x
value_in (setting.ExecutionParallelism x) = value_or value.Auto (λ n. value.Number n) x
value_in (setting.Priority x) = priority_value x
value_in (setting.RuntimePriority x) = value.OfLevel x
value_in (setting.RuntimePriorityThreshold x) = value.Number x
value_in (setting.QueueTimeout x) = value_or value.Absent (λ n. value.Span n) x
value_in (setting.PlannedConcurrency x) = value_or value.Auto (λ n. value.Number n) x
value_in (setting.MaxConcurrency x) = value_or value.Absent (λ n. value.Number n) x
value_in (setting.RuntimeCap x) = value_or value.Absent (λ n. value.Span n) x
value_in (setting.Cascade x) = value_or value.Absent (λ n. value.OfName n) x
value_in (setting.ResourcePool x) = value_or value.Absent (λ n. value.OfName n) x
value_in (setting.MemoryCap x) = value_or value.Absent (λ y. value.OfSize y) x

-- the key word of a level
abbrev pub level_text : Level → List ℕ
level_text Low = codes "LOW"
level_text Medium = codes "MEDIUM"
level_text High = codes "HIGH"

-- sizes are printed in KiB or percent, spans in milliseconds
abbrev pub value_text : Value → List ℕ
value_text value.Absent = codes "NONE"
value_text value.Auto = codes "AUTO"
value_text (value.OfSize (size.Bytes n)) = codes "'" ++ (decimal (n / KIBI) ++ codes "K'")
value_text (value.OfSize (size.Percent n)) = codes "'" ++ (decimal n ++ codes "%'")
value_text (value.Number n) = decimal n
value_text (value.Negative n) = codes "- " ++ decimal n
value_text (value.Span n) = codes "'" ++ (decimal n ++ codes " ms'")
value_text (value.OfLevel level) = level_text level
value_text (value.OfName name) = name_text name

-- a blank, the parameter, a blank, the value
abbrev pub setting_text : Setting → List ℕ
setting_text x = codes " " ++ (keys_text (parameter_named x) ++ (codes " " ++ value_text (value_in x)))

-- what is set, each behind the one before
abbrev pub settings_text : List (Option Setting) → List ℕ
settings_text [] = []
settings_text (None ∷ xs) = settings_text xs
settings_text (Some x ∷ xs) = setting_text x ++ settings_text xs

-- what a change names, in the order in which it is printed
abbrev pub pool_settings : PoolChange → List (Option Setting)
pool_settings c =
    option_map (λ x. setting.MemorySize x) c.memory
    ∷ option_map (λ x. setting.MaxMemorySize x) c.max
    ∷ option_map (λ x. setting.MaxQueryMemorySize x) c.query_max
    ∷ option_map (λ x. setting.ExecutionParallelism x) c.parallel
    ∷ option_map (λ x. setting.Priority x) c.priority
    ∷ option_map (λ x. setting.RuntimePriority x) c.runtime_priority
    ∷ option_map (λ x. setting.RuntimePriorityThreshold x) c.threshold_s
    ∷ option_map (λ x. setting.QueueTimeout x) c.queue_ms
    ∷ option_map (λ x. setting.PlannedConcurrency x) c.planned
    ∷ option_map (λ x. setting.MaxConcurrency x) c.concurrency
    ∷ option_map (λ x. setting.RuntimeCap x) c.cap_ms
    ∷ option_map (λ x. setting.Cascade x) c.cascade
    ∷ []

-- the same of a user's change
abbrev pub user_settings : UserChange → List (Option Setting)
user_settings c =
    option_map (λ x. setting.ResourcePool x) c.pool
    ∷ option_map (λ x. setting.MemoryCap x) c.memory_cap
    ∷ option_map (λ x. setting.RuntimeCap x) c.cap_ms
    ∷ []

-- the canonical text of a statement
abbrev pub statement_text : Statement → List ℕ
statement_text (statement.CreatePool n c) = (codes "CREATE RESOURCE POOL " ++ name_text n) ++ settings_text (pool_settings c)
statement_text (statement.AlterPool n c) = (codes "ALTER RESOURCE POOL " ++ name_text n) ++ settings_text (pool_settings c)
statement_text (statement.DropPool n) = codes "DROP RESOURCE POOL " ++ name_text n
statement_text (statement.CreateUser n c) = (codes "CREATE USER " ++ name_text n) ++ settings_text (user_settings c)
statement_text (statement.AlterUser n c) = (codes "ALTER USER " ++ name_text n) ++ settings_text (user_settings c)
statement_text (statement.DropUser n) = codes "DROP USER " ++ name_text n
statement_text (statement.CreateRole n) = codes "CREATE ROLE " ++ name_text n
statement_text (statement.AlterRole n pool) =
    codes "ALTER ROLE " ++ (name_text n ++ (codes " RESOURCE POOL " ++ value_text (value_or value.Absent (λ p. value.OfName p) pool)))
statement_text (statement.DropRole n) = codes "DROP ROLE " ++ name_text n
statement_text (statement.GrantUsage p n) =
    codes "GRANT USAGE ON RESOURCE POOL " ++ (name_text p ++ (codes " TO " ++ name_text n))
statement_text (statement.RevokeUsage p n) =
    codes "REVOKE USAGE ON RESOURCE POOL " ++ (name_text p ++ (codes " FROM " ++ name_text n))
statement_text (statement.GrantRole r u) = codes "GRANT " ++ (name_text r ++ (codes " TO " ++ name_text u))
statement_text (statement.RevokeRole r u) = codes "REVOKE " ++ (name_text r ++ (codes " FROM " ++ name_text u))
