-- The ranges of the values that rows have, and of those that statements name.
use Rattle.std.specs.Prelude.{ℕ, Bool, true, ◌&&◌, nat_le, nat_lt, Option, Some, None, ℤ, pos, negsuc, nat_abs}
use Rattle.rm_base.specs.declared.limits.TheConstants.{MEMORY_MOST, CONCURRENCY_MOST, PERCENT_MOST, PRIORITY_MOST, THRESHOLD_SECONDS_MOST, SPAN_MOST}
use Rattle.rm_base.specs.declared.rows.PoolRow.{PoolRow}
use Rattle.rm_base.specs.declared.rows.UserRow.{UserRow}
use Rattle.rm_base.specs.declared.statement.Size.{Size}
use Rattle.rm_base.specs.declared.statement.Size.TheVariants.{Bytes, Percent}
use Rattle.rm_base.specs.declared.statement.PoolChange.{PoolChange}
use Rattle.rm_base.specs.declared.statement.UserChange.{UserChange}
use Rattle.rm_base.specs.declared.statement.Statement.{Statement}
use Rattle.rm_base.specs.declared.statement.Statement.TheVariants as statement

-- a value, where there is one, passes the test
abbrev pub passes_if_set : {A : Type 0} → (A → Bool) → Option A → Bool
passes_if_set test None = true
passes_if_set test (Some x) = test x

-- a number lies between two others, both counted
abbrev pub is_between : ℕ → ℕ → ℕ → Bool
is_between least most n = nat_le least n && nat_le n most

-- from the negative of the greatest PRIORITY to it
abbrev pub is_priority : ℤ → Bool
is_priority (pos n) = nat_le n (nat_abs PRIORITY_MOST)
is_priority (negsuc n) = nat_lt n (nat_abs PRIORITY_MOST)

-- every number of the pool is in its range
abbrev pub is_pool_in_range : PoolRow → Bool
is_pool_in_range pool =
    nat_le pool.memory MEMORY_MOST
    && (passes_if_set (λ n. nat_le n MEMORY_MOST) pool.max
    && (passes_if_set (λ n. nat_le n MEMORY_MOST) pool.query_max
    && (passes_if_set (is_between 1 CONCURRENCY_MOST) pool.parallel
    && (is_priority pool.priority
    && (nat_le pool.threshold_s THRESHOLD_SECONDS_MOST
    && (passes_if_set (λ n. nat_le n SPAN_MOST) pool.queue_ms
    && (passes_if_set (is_between 1 CONCURRENCY_MOST) pool.planned
    && (passes_if_set (is_between 1 CONCURRENCY_MOST) pool.concurrency
    && passes_if_set (is_between 1 SPAN_MOST) pool.cap_ms))))))))

-- every number of the user is in its range
abbrev pub is_user_in_range : UserRow → Bool
is_user_in_range user =
    passes_if_set (λ n. nat_le n MEMORY_MOST) user.memory_cap && passes_if_set (is_between 1 SPAN_MOST) user.cap_ms

-- a size is at most the greatest in bytes, or the whole
abbrev pub is_size_in_range : Size → Bool
is_size_in_range (Bytes n) = nat_le n MEMORY_MOST
is_size_in_range (Percent n) = nat_le n PERCENT_MOST

-- every value that is named for a pool is in its range
abbrev pub is_pool_change_in_range : PoolChange → Bool
is_pool_change_in_range c =
    passes_if_set is_size_in_range c.memory
    && (passes_if_set (passes_if_set is_size_in_range) c.max
    && (passes_if_set (passes_if_set is_size_in_range) c.query_max
    && (passes_if_set (passes_if_set (is_between 1 CONCURRENCY_MOST)) c.parallel
    && (passes_if_set is_priority c.priority
    && (passes_if_set (λ n. nat_le n THRESHOLD_SECONDS_MOST) c.threshold_s
    && (passes_if_set (passes_if_set (λ n. nat_le n SPAN_MOST)) c.queue_ms
    && (passes_if_set (passes_if_set (is_between 1 CONCURRENCY_MOST)) c.planned
    && (passes_if_set (passes_if_set (is_between 1 CONCURRENCY_MOST)) c.concurrency
    && passes_if_set (passes_if_set (is_between 1 SPAN_MOST)) c.cap_ms))))))))

-- every value that is named for a user is in its range
abbrev pub is_user_change_in_range : UserChange → Bool
is_user_change_in_range c =
    passes_if_set (passes_if_set is_size_in_range) c.memory_cap && passes_if_set (passes_if_set (is_between 1 SPAN_MOST)) c.cap_ms

-- every value that a statement names is in its range
abbrev pub is_statement_in_range : Statement → Bool
is_statement_in_range (statement.CreatePool name change) = is_pool_change_in_range change
is_statement_in_range (statement.AlterPool name change) = is_pool_change_in_range change
is_statement_in_range (statement.DropPool name) = true
is_statement_in_range (statement.CreateUser name change) = is_user_change_in_range change
is_statement_in_range (statement.AlterUser name change) = is_user_change_in_range change
is_statement_in_range (statement.DropUser name) = true
is_statement_in_range (statement.CreateRole name) = true
is_statement_in_range (statement.AlterRole name pool) = true
is_statement_in_range (statement.DropRole name) = true
is_statement_in_range (statement.GrantUsage pool to) = true
is_statement_in_range (statement.RevokeUsage pool from) = true
is_statement_in_range (statement.GrantRole role to) = true
is_statement_in_range (statement.RevokeRole role from) = true
