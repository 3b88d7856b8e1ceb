-- a statement that is well formed has its values in their ranges
use Rattle.std.proofs.Common.{◌≡◌, ℕ, suc, ℤ, pos, negsuc, nat_abs, nat_le, Bool, true, Option, Some, None, IfSome, refl, arith}
use Rattle.std.proofs.lemmas.Bool.{and_from, le-leb}
use Rattle.rm_base.specs.declared.limits.TheConstants.{CONCURRENCY_MOST, MEMORY_MOST, PERCENT_MOST, PRIORITY_MOST, SPAN_MOST, THRESHOLD_SECONDS_MOST}
use Rattle.rm_base.specs.declared.statement.PoolChange.{PoolChange}
use Rattle.rm_base.specs.declared.statement.UserChange.{UserChange}
use Rattle.rm_base.specs.declared.statement.Size.{Size}
use Rattle.rm_base.specs.declared.statement.Size.TheVariants.{Bytes, Percent}
use Rattle.rm_base.specs.declared.statement.Statement.{Statement}
use Rattle.rm_base.specs.declared.statement.Statement.TheVariants as statement
use Rattle.rm_base.specs.Ranges.{is_between, is_pool_change_in_range, is_priority, is_size_in_range, is_statement_in_range, is_user_change_in_range, passes_if_set}
use Rattle.rm_base.specs.WellFormed.{IsBetween, IsOptionalBetween, IsOptionalSize, IsPriority, IsRightPool, IsRightUser, IsSize, IsWellFormed}

passes : {A : Type 0} (Is : A → Type 0) (test : A → Bool) (o : Option A) → ((x : A) → Is x → test x ≡ true) → IfSome o Is
    → passes_if_set test o ≡ true
passes Is test None holds is = refl
passes Is test (Some x) holds is = holds x is

size-in_range : (s : Size) → IsSize s → is_size_in_range s ≡ true
size-in_range (Bytes n) is = le-leb n MEMORY_MOST is.2
size-in_range (Percent n) is = le-leb n PERCENT_MOST is

optional_size-in_range : (o : Option Size) → IsOptionalSize o → passes_if_set is_size_in_range o ≡ true
optional_size-in_range o is = passes IsSize is_size_in_range o size-in_range is

between-in_range : (least most n : ℕ) → IsBetween least most n → is_between least most n ≡ true
between-in_range least most n is = and_from (nat_le least n) (nat_le n most) (le-leb least n is.0) (le-leb n most is.1)

optional_between-in_range : (least most : ℕ) (o : Option ℕ) → IsOptionalBetween least most o → passes_if_set (is_between least most) o ≡ true
optional_between-in_range least most o is =
    passes (IsBetween least most) (is_between least most) o (between-in_range least most) is

at_most-in_range : (most n : ℕ) → IsBetween 0 most n → nat_le n most ≡ true
at_most-in_range most n is = le-leb n most is.1

optional_at_most-in_range : (most : ℕ) (o : Option ℕ) → IsOptionalBetween 0 most o → passes_if_set (λ n. nat_le n most) o ≡ true
optional_at_most-in_range most o is = passes (IsBetween 0 most) (λ n. nat_le n most) o (at_most-in_range most) is

priority-in_range : (z : ℤ) → IsPriority z → is_priority z ≡ true
priority-in_range (pos n) is = le-leb n (nat_abs PRIORITY_MOST) is
priority-in_range (negsuc n) is = le-leb (suc n) (nat_abs PRIORITY_MOST) (omega (arith, is))

pool-in_range : (c : PoolChange) → IsRightPool c → is_pool_change_in_range c ≡ true
pool-in_range c is =
    and_from _ _ (passes IsSize is_size_in_range c.memory size-in_range is.memory)
    (and_from _ _ (passes IsOptionalSize (passes_if_set is_size_in_range) c.max optional_size-in_range is.max)
    (and_from _ _ (passes IsOptionalSize (passes_if_set is_size_in_range) c.query_max optional_size-in_range is.query_max)
    (and_from _ _ (passes (IsOptionalBetween 1 CONCURRENCY_MOST) (passes_if_set (is_between 1 CONCURRENCY_MOST)) c.parallel
    (optional_between-in_range 1 CONCURRENCY_MOST) is.parallel)
    (and_from _ _ (passes IsPriority is_priority c.priority priority-in_range is.priority)
    (and_from _ _ (passes (IsBetween 0 THRESHOLD_SECONDS_MOST) (λ n. nat_le n THRESHOLD_SECONDS_MOST) c.threshold_s
    (at_most-in_range THRESHOLD_SECONDS_MOST) is.threshold_s)
    (and_from _ _ (passes (IsOptionalBetween 0 SPAN_MOST) (passes_if_set (λ n. nat_le n SPAN_MOST)) c.queue_ms
    (optional_at_most-in_range SPAN_MOST) is.queue_ms)
    (and_from _ _ (passes (IsOptionalBetween 1 CONCURRENCY_MOST) (passes_if_set (is_between 1 CONCURRENCY_MOST)) c.planned
    (optional_between-in_range 1 CONCURRENCY_MOST) is.planned)
    (and_from _ _ (passes (IsOptionalBetween 1 CONCURRENCY_MOST) (passes_if_set (is_between 1 CONCURRENCY_MOST)) c.concurrency
    (optional_between-in_range 1 CONCURRENCY_MOST) is.concurrency)
    (passes (IsOptionalBetween 1 SPAN_MOST) (passes_if_set (is_between 1 SPAN_MOST)) c.cap_ms
    (optional_between-in_range 1 SPAN_MOST) is.cap_ms)))))))))

user-in_range : (c : UserChange) → IsRightUser c → is_user_change_in_range c ≡ true
user-in_range c is =
    and_from _ _ (passes IsOptionalSize (passes_if_set is_size_in_range) c.memory_cap optional_size-in_range is.memory_cap)
    (passes (IsOptionalBetween 1 SPAN_MOST) (passes_if_set (is_between 1 SPAN_MOST)) c.cap_ms
    (optional_between-in_range 1 SPAN_MOST) is.cap_ms)

pub well_formed-in_range : (st : Statement) → IsWellFormed st → is_statement_in_range st ≡ true
well_formed-in_range (statement.CreatePool n c) is = pool-in_range c is
well_formed-in_range (statement.AlterPool n c) is = pool-in_range c is.0
well_formed-in_range (statement.DropPool n) is = refl
well_formed-in_range (statement.CreateUser n c) is = user-in_range c is
well_formed-in_range (statement.AlterUser n c) is = user-in_range c is.0
well_formed-in_range (statement.DropUser n) is = refl
well_formed-in_range (statement.CreateRole n) is = refl
well_formed-in_range (statement.AlterRole n pool) is = refl
well_formed-in_range (statement.DropRole n) is = refl
well_formed-in_range (statement.GrantUsage p n) is = refl
well_formed-in_range (statement.RevokeUsage p n) is = refl
well_formed-in_range (statement.GrantRole r u) is = refl
well_formed-in_range (statement.RevokeRole r u) is = refl
