-- At least one query is planned.
use Rattle.std.proofs.Common.{◌≡◌, ◌≤◌, ℕ, ◌/◌, true, Option, Some, None, unwrap_or, arith, nat_le, max, min}
use Rattle.std.proofs.lemmas.Bool.Decides.{nat_tests}
use Rattle.rm_base.specs.declared.limits.TheConstants.{CONCURRENCY_MOST, MEMORY_MOST, PLANNED_LEAST, PLANNED_SHARE, SPAN_MOST, THRESHOLD_SECONDS_MOST}
use Rattle.rm_base.specs.declared.definitions.Definitions.{Definitions}
use Rattle.rm_base.specs.declared.rows.PoolRow.{PoolRow}
use Rattle.rm_base.specs.Ranges.{is_pool_in_range, is_between, passes_if_set, is_priority}
use Rattle.rm_rules.specs.Definitions.{total, planned}
use Rattle.rm_rules.proofs.Taken.{and_left, and_right}

-- a set value of a pool in range
is_pool_in_range-planned : (r : PoolRow) → is_pool_in_range r ≡ true → passes_if_set (is_between 1 CONCURRENCY_MOST) r.planned ≡ true
is_pool_in_range-planned r h =
    let h1 = and_right (nat_le r.memory MEMORY_MOST) _ h in
    let h2 = and_right (passes_if_set (λ n. nat_le n MEMORY_MOST) r.max) _ h1 in
    let h3 = and_right (passes_if_set (λ n. nat_le n MEMORY_MOST) r.query_max) _ h2 in
    let h4 = and_right (passes_if_set (is_between 1 CONCURRENCY_MOST) r.parallel) _ h3 in
    let h5 = and_right (is_priority r.priority) _ h4 in
    let h6 = and_right (nat_le r.threshold_s THRESHOLD_SECONDS_MOST) _ h5 in
    let h7 = and_right (passes_if_set (λ n. nat_le n SPAN_MOST) r.queue_ms) _ h6 in
    and_left (passes_if_set (is_between 1 CONCURRENCY_MOST) r.planned) _ h7

planned_in_range : (o : Option ℕ) (n : ℕ) → passes_if_set (is_between 1 CONCURRENCY_MOST) o ≡ true → 1 ≤ n → 1 ≤ unwrap_or o n
planned_in_range None n h e = e
planned_in_range (Some p) n h e = grind (arith, nat_tests)

pub planned_least : (d : Definitions) (r : PoolRow) → is_pool_in_range r ≡ true → 1 ≤ planned d r
planned_least d r h = planned_in_range r.planned (max PLANNED_LEAST (min d.cores (total d / PLANNED_SHARE))) (is_pool_in_range-planned r h) (omega arith)
