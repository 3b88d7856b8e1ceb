-- Which statements are well formed: some text spells them.
use Rattle.std.specs.Prelude.{◌≡◌, ℕ, ℤ, pos, negsuc, nat_abs, ◌+◌, ◌*◌, ◌≤◌, Bool, true, false, Option, IfSome, is_some, List, [], ◌∷◌}
use Rattle.std.specs.List.{list_any}
use Rattle.rm_base.specs.declared.limits.TheConstants.{CONCURRENCY_MOST, KIBI, MEMORY_MOST, PERCENT_MOST, PRIORITY_MOST, SPAN_MOST, THRESHOLD_SECONDS_MOST}
use Rattle.rm_base.specs.declared.refusal.Parameter.{Parameter}
use Rattle.rm_base.specs.declared.refusal.Parameter.TheVariants as parameter
use Rattle.rm_base.specs.declared.statement.PoolChange.{PoolChange}
use Rattle.rm_base.specs.declared.statement.UserChange.{UserChange}
use Rattle.rm_base.specs.declared.statement.Size.{Size}
use Rattle.rm_base.specs.declared.statement.Size.TheVariants.{Bytes, Percent}
use Rattle.rm_base.specs.declared.statement.Statement.{Statement}
use Rattle.rm_base.specs.declared.statement.Statement.TheVariants as statement

-- whole KiB up to the greatest size, or up to the whole
abbrev pub IsSize : Size → Type 0
IsSize (Bytes n) = (kibi : ℕ) × (n ≡ kibi * KIBI) × (n ≤ MEMORY_MOST)
IsSize (Percent n) = n ≤ PERCENT_MOST

-- a size, or NONE
abbrev pub IsOptionalSize : Option Size → Type 0
IsOptionalSize o = IfSome o IsSize

-- from the least to the most, both counted
abbrev pub IsBetween : ℕ → ℕ → ℕ → Type 0
IsBetween least most n = (least ≤ n) × (n ≤ most)

-- the same, or NONE or AUTO
abbrev pub IsOptionalBetween : ℕ → ℕ → Option ℕ → Type 0
IsOptionalBetween least most o = IfSome o (IsBetween least most)

-- from the negative of the greatest PRIORITY to it
abbrev pub IsPriority : ℤ → Type 0
IsPriority (pos n) = n ≤ nat_abs PRIORITY_MOST
IsPriority (negsuc n) = n + 1 ≤ nat_abs PRIORITY_MOST

-- each value that is named for a pool can be written
pub record IsRightPool (c : PoolChange) : Type 0 where
  pub memory : IfSome c.memory IsSize
  pub max : IfSome c.max IsOptionalSize
  pub query_max : IfSome c.query_max IsOptionalSize
  pub parallel : IfSome c.parallel (IsOptionalBetween 1 CONCURRENCY_MOST)
  pub priority : IfSome c.priority IsPriority
  pub threshold_s : IfSome c.threshold_s (IsBetween 0 THRESHOLD_SECONDS_MOST)
  pub queue_ms : IfSome c.queue_ms (IsOptionalBetween 0 SPAN_MOST)
  pub planned : IfSome c.planned (IsOptionalBetween 1 CONCURRENCY_MOST)
  pub concurrency : IfSome c.concurrency (IsOptionalBetween 1 CONCURRENCY_MOST)
  pub cap_ms : IfSome c.cap_ms (IsOptionalBetween 1 SPAN_MOST)

-- each value that is named for a user can be written
pub record IsRightUser (c : UserChange) : Type 0 where
  pub memory_cap : IfSome c.memory_cap IsOptionalSize
  pub cap_ms : IfSome c.cap_ms (IsOptionalBetween 1 SPAN_MOST)

-- the parameters of pools, in their order in texts
abbrev pub pool_parameters : List Parameter
pool_parameters =
    parameter.MemorySize ∷ parameter.MaxMemorySize ∷ parameter.MaxQueryMemorySize ∷ parameter.ExecutionParallelism
    ∷ parameter.Priority ∷ parameter.RuntimePriority ∷ parameter.RuntimePriorityThreshold ∷ parameter.QueueTimeout
    ∷ parameter.PlannedConcurrency ∷ parameter.MaxConcurrency ∷ parameter.RuntimeCap ∷ parameter.Cascade ∷ []

-- the parameters of users, in their order in texts
abbrev pub user_parameters : List Parameter
user_parameters = parameter.ResourcePool ∷ parameter.MemoryCap ∷ parameter.RuntimeCap ∷ []

-- the parameters that a statement may name
abbrev pub parameters : Statement → List Parameter
parameters (statement.CreatePool n c) = pool_parameters
parameters (statement.AlterPool n c) = pool_parameters
parameters (statement.DropPool n) = []
parameters (statement.CreateUser n c) = user_parameters
parameters (statement.AlterUser n c) = user_parameters
parameters (statement.DropUser n) = []
parameters (statement.CreateRole n) = []
parameters (statement.AlterRole n pool) = []
parameters (statement.DropRole n) = []
parameters (statement.GrantUsage pool n) = []
parameters (statement.RevokeUsage pool n) = []
parameters (statement.GrantRole role n) = []
parameters (statement.RevokeRole role n) = []

-- the change of a pool names the parameter
abbrev pub is_named_pool : Parameter → PoolChange → Bool
is_named_pool parameter.MemorySize c = is_some c.memory
is_named_pool parameter.MaxMemorySize c = is_some c.max
is_named_pool parameter.MaxQueryMemorySize c = is_some c.query_max
is_named_pool parameter.ExecutionParallelism c = is_some c.parallel
is_named_pool parameter.Priority c = is_some c.priority
is_named_pool parameter.RuntimePriority c = is_some c.runtime_priority
is_named_pool parameter.RuntimePriorityThreshold c = is_some c.threshold_s
is_named_pool parameter.QueueTimeout c = is_some c.queue_ms
is_named_pool parameter.PlannedConcurrency c = is_some c.planned
is_named_pool parameter.MaxConcurrency c = is_some c.concurrency
is_named_pool parameter.RuntimeCap c = is_some c.cap_ms
is_named_pool parameter.Cascade c = is_some c.cascade
is_named_pool parameter.ResourcePool c = false
is_named_pool parameter.MemoryCap c = false

-- the change of a user names the parameter
abbrev pub is_named_user : Parameter → UserChange → Bool
is_named_user parameter.MemorySize c = false
is_named_user parameter.MaxMemorySize c = false
is_named_user parameter.MaxQueryMemorySize c = false
is_named_user parameter.ExecutionParallelism c = false
is_named_user parameter.Priority c = false
is_named_user parameter.RuntimePriority c = false
is_named_user parameter.RuntimePriorityThreshold c = false
is_named_user parameter.QueueTimeout c = false
is_named_user parameter.PlannedConcurrency c = false
is_named_user parameter.MaxConcurrency c = false
is_named_user parameter.RuntimeCap c = is_some c.cap_ms
is_named_user parameter.Cascade c = false
is_named_user parameter.ResourcePool c = is_some c.pool
is_named_user parameter.MemoryCap c = is_some c.memory_cap

-- the statement names the parameter
abbrev pub is_named : Parameter → Statement → Bool
is_named p (statement.CreatePool n c) = is_named_pool p c
is_named p (statement.AlterPool n c) = is_named_pool p c
is_named p (statement.DropPool n) = false
is_named p (statement.CreateUser n c) = is_named_user p c
is_named p (statement.AlterUser n c) = is_named_user p c
is_named p (statement.DropUser n) = false
is_named p (statement.CreateRole n) = false
is_named p (statement.AlterRole n pool) = false
is_named p (statement.DropRole n) = false
is_named p (statement.GrantUsage pool n) = false
is_named p (statement.RevokeUsage pool n) = false
is_named p (statement.GrantRole role n) = false
is_named p (statement.RevokeRole role n) = false

-- the statement names a parameter
abbrev pub names_any : Statement → Bool
names_any st = list_any (λ p. is_named p st) (parameters st)

-- some text spells the statement: each value that it names can be written, and an ALTER names a parameter
abbrev pub IsWellFormed : Statement → Type 0
IsWellFormed (statement.CreatePool n c) = IsRightPool c
IsWellFormed (statement.AlterPool n c) = IsRightPool c × (names_any (statement.AlterPool n c) ≡ true)
IsWellFormed (statement.DropPool n) = Unit {0}
IsWellFormed (statement.CreateUser n c) = IsRightUser c
IsWellFormed (statement.AlterUser n c) = IsRightUser c × (names_any (statement.AlterUser n c) ≡ true)
IsWellFormed (statement.DropUser n) = Unit {0}
IsWellFormed (statement.CreateRole n) = Unit {0}
IsWellFormed (statement.AlterRole n pool) = Unit {0}
IsWellFormed (statement.DropRole n) = Unit {0}
IsWellFormed (statement.GrantUsage pool n) = Unit {0}
IsWellFormed (statement.RevokeUsage pool n) = Unit {0}
IsWellFormed (statement.GrantRole role n) = Unit {0}
IsWellFormed (statement.RevokeRole role n) = Unit {0}
