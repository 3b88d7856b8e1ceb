-- which values a parameter takes
use Rattle.std.specs.Prelude.{ℕ, ℤ, pos, nat_abs, neg_ℤ, Bool, true, false, ◌||◌, if◌then◌else◌, Option, Some, None, Result, Ok, Err, codes}
use Rattle.rm_base.specs.declared.limits.TheConstants.{CONCURRENCY_MOST, PRIORITY_MOST, THRESHOLD_SECONDS_MOST}
use Rattle.rm_base.specs.declared.name.Name.{Name}
use Rattle.rm_base.specs.declared.refusal.Parameter.{Parameter}
use Rattle.rm_base.specs.declared.refusal.Parameter.TheVariants as parameter
use Rattle.rm_base.specs.declared.rows.PoolRow.{PoolRow}
use Rattle.rm_base.specs.declared.statement.Level.{Level}
use Rattle.rm_base.specs.declared.statement.Level.TheVariants.{Low, Medium, High}
use Rattle.rm_base.specs.declared.statement.Size.{Size}
use Rattle.rm_base.specs.declared.statement.Size.TheVariants.{Percent}
use Rattle.rm_base.specs.Definitions.{default_pool_row}
use Rattle.rm_base.specs.Name.{general}
use Rattle.rm_words.specs.Token.{Token, is_key}
use Rattle.pool_sql.specs.declared.setting.Setting.{Setting}
use Rattle.pool_sql.specs.declared.setting.Setting.TheVariants as setting
use Rattle.pool_sql.specs.declared.stop.Fault.{Fault}
use Rattle.pool_sql.specs.declared.stop.Fault.TheVariants.{Form, Outside}
use Rattle.pool_sql.specs.declared.stop.Stop.{Stop}
use Rattle.pool_sql.specs.declared.stop.Stop.TheVariants.{Syntax, NotSupported, Range}
use Rattle.pool_sql.specs.Amount.{number_between, size_of, span_of, timeout_of}
use Rattle.rm_words.specs.Names.{name_of}

-- DEFAULT
abbrev pub is_default : Token → Bool
is_default t = is_key t (codes "DEFAULT")

-- NONE, or DEFAULT where that is NONE
abbrev pub is_none : Token → Bool
is_none t = is_key t (codes "NONE") || is_default t

-- AUTO, or DEFAULT where that is AUTO
abbrev pub is_auto : Token → Bool
is_auto t = is_key t (codes "AUTO") || is_default t

-- what a pool's parameters are by default
abbrev pub defaults : PoolRow
defaults = default_pool_row general

-- a word of another form is Syntax, an amount out of its range is Range
abbrev pub stop_of : Parameter → Fault → Stop
stop_of p Form = Syntax
stop_of p Outside = Range p

-- an amount that the parameter takes
abbrev pub taken : {T : Type 0} → Parameter → Result T Fault → Result T Stop
taken p (Ok x) = Ok x
taken p (Err fault) = Err (stop_of p fault)

-- no amount, or one that the parameter takes
abbrev pub optional : {T : Type 0} → Parameter → Bool → Result T Fault → Result (Option T) Stop
optional p true amount = Ok None
optional p false (Ok x) = Ok (Some x)
optional p false (Err fault) = Err (stop_of p fault)

-- the value, or a default one
abbrev pub unless_default : {T : Type 0} → Token → T → Result T Stop → Result T Stop
unless_default t x value = if is_default t then Ok x else value

-- a MEMORYSIZE: a size, by default none of the memory
abbrev pub memory_size_of : Token → Result Size Stop
memory_size_of t = unless_default t (Percent 0) (taken parameter.MemorySize (size_of t))

-- a size, or none for NONE
abbrev pub optional_size : Parameter → Token → Result (Option Size) Stop
optional_size p t = optional p (is_none t) (size_of t)

-- 1 to 1,000, or none for AUTO or NONE
abbrev pub parallelism_of : Parameter → Bool → Token → Result (Option ℕ) Stop
parallelism_of p none t = optional p none (number_between 1 CONCURRENCY_MOST t)

-- a number with its sign
abbrev pub signed : Parameter → (ℕ → ℤ) → Result ℕ Fault → Result ℤ Stop
signed p sign (Ok n) = Ok (sign n)
signed p sign (Err fault) = Err (stop_of p fault)

-- a PRIORITY without a `-`; HOLD is not supported
abbrev pub priority_of : Token → Result ℤ Stop
priority_of t =
    if is_key t (codes "HOLD") then Err NotSupported
    else unless_default t defaults.priority (signed parameter.Priority pos (number_between 0 (nat_abs PRIORITY_MOST) t))

-- a priority whose word stands behind a `-`
abbrev pub negative_of : Token → Result ℤ Stop
negative_of t = signed parameter.Priority (λ n. neg_ℤ (pos n)) (number_between 0 (nat_abs PRIORITY_MOST) t)

-- a RUNTIMEPRIORITY: HIGH, MEDIUM or LOW
abbrev pub level_of : Token → Result Level Stop
level_of t =
    if is_key t (codes "HIGH") then Ok High
    else (if is_key t (codes "MEDIUM") then Ok Medium
    else (if is_key t (codes "LOW") then Ok Low
    else unless_default t defaults.runtime_priority (Err Syntax)))

-- a RUNTIMEPRIORITYTHRESHOLD, in seconds
abbrev pub threshold_of : Token → Result ℕ Stop
threshold_of t =
    unless_default t defaults.threshold_s
    (taken parameter.RuntimePriorityThreshold (number_between 0 THRESHOLD_SECONDS_MOST t))

-- a QUEUETIMEOUT, or none for NONE
abbrev pub queue_timeout_of : Token → Result (Option ℕ) Stop
queue_timeout_of t =
    unless_default t defaults.queue_ms
    (optional parameter.QueueTimeout (is_key t (codes "NONE")) (timeout_of t))

-- a RUNTIMECAP, or none for NONE
abbrev pub runtime_cap_of : Token → Result (Option ℕ) Stop
runtime_cap_of t = optional parameter.RuntimeCap (is_none t) (span_of 1 t)

-- a name that is due
abbrev pub some_name : Option Name → Result (Option Name) Stop
some_name None = Err Syntax
some_name (Some name) = Ok (Some name)

-- a name, or none for NONE or DEFAULT
abbrev pub optional_name : Token → Result (Option Name) Stop
optional_name t = if is_none t then Ok None else some_name (name_of t)

-- what a parameter is set to by its value
abbrev pub as_setting : {T : Type 0} → (T → Setting) → Result T Stop → Result Setting Stop
as_setting variant (Ok x) = Ok (variant x)
as_setting variant (Err stop) = Err stop

-- what the parameter is set to by a value of one word
abbrev pub value_of : Parameter → Token → Result Setting Stop
value_of parameter.MemorySize t = as_setting (λ x. setting.MemorySize x) (memory_size_of t)
value_of parameter.MaxMemorySize t =
    as_setting (λ x. setting.MaxMemorySize x) (optional_size parameter.MaxMemorySize t)
value_of parameter.MaxQueryMemorySize t =
    as_setting (λ x. setting.MaxQueryMemorySize x) (optional_size parameter.MaxQueryMemorySize t)
value_of parameter.ExecutionParallelism t =
    as_setting (λ x. setting.ExecutionParallelism x) (parallelism_of parameter.ExecutionParallelism (is_auto t) t)
value_of parameter.Priority t = as_setting (λ x. setting.Priority x) (priority_of t)
value_of parameter.RuntimePriority t = as_setting (λ x. setting.RuntimePriority x) (level_of t)
value_of parameter.RuntimePriorityThreshold t =
    as_setting (λ x. setting.RuntimePriorityThreshold x) (threshold_of t)
value_of parameter.QueueTimeout t = as_setting (λ x. setting.QueueTimeout x) (queue_timeout_of t)
value_of parameter.PlannedConcurrency t =
    as_setting (λ x. setting.PlannedConcurrency x) (parallelism_of parameter.PlannedConcurrency (is_auto t) t)
value_of parameter.MaxConcurrency t =
    as_setting (λ x. setting.MaxConcurrency x) (parallelism_of parameter.MaxConcurrency (is_none t) t)
value_of parameter.RuntimeCap t = as_setting (λ x. setting.RuntimeCap x) (runtime_cap_of t)
value_of parameter.Cascade t = as_setting (λ x. setting.Cascade x) (optional_name t)
value_of parameter.ResourcePool t = as_setting (λ x. setting.ResourcePool x) (optional_name t)
value_of parameter.MemoryCap t =
    as_setting (λ x. setting.MemoryCap x) (optional_size parameter.MemoryCap t)
