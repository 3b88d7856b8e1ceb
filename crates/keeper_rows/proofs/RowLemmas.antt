-- Rows that are in their ranges.
use Rattle.std.proofs.Common.{◌≡◌, refl, arith, ℕ, ◌<◌, ◌^◌, List, [], ◌∷◌, Bool, true, false, ◌&&◌, Option, Some, None, IfSome, nat_le}
use Rattle.std.specs.List.{list_all}
use Rattle.rm_base.specs.Ranges.{passes_if_set, is_between, is_priority, is_pool_in_range}
use Rattle.rm_base.specs.declared.limits.TheConstants.{MEMORY_MOST, CONCURRENCY_MOST, THRESHOLD_SECONDS_MOST, SPAN_MOST}
use Rattle.rm_base.specs.declared.rows.PoolRow.{PoolRow}

-- every row passes the test that all pass
pub all-pass : {T : Type 0} (rows : List T) → list_all (λ _. true) rows ≡ true
all-pass [] = refl
all-pass (row ∷ rows) = all-pass rows

later : (a b : Bool) → (a && b) ≡ true → b ≡ true
later true b h = h
later false b h = absurd (cc)

-- the last of ten that hold
tenth : (a b c d e f g h i j : Bool) → (a && (b && (c && (d && (e && (f && (g && (h && (i && j))))))))) ≡ true → j ≡ true
tenth a b c d e f g h i j all =
    later i j (later h _ (later g _ (later f _ (later e _ (later d _ (later c _ (later b _ (later a _ all))))))))

small-span : (span : Option ℕ) → passes_if_set (is_between 1 SPAN_MOST) span ≡ true → IfSome span (λ n. n < 2 ^ 63)
small-span None h = tt
small-span (Some n) h = grind arith

-- a pool's cap is no greater than a stored number may be
pub cap-small : (pool : PoolRow) → is_pool_in_range pool ≡ true → IfSome pool.cap_ms (λ n. n < 2 ^ 63)
cap-small pool h =
    let size = passes_if_set (λ n. nat_le n MEMORY_MOST) in
    let count = passes_if_set (is_between 1 CONCURRENCY_MOST) in
    small-span pool.cap_ms
    (tenth (nat_le pool.memory MEMORY_MOST) (size pool.max) (size pool.query_max) (count pool.parallel) (is_priority pool.priority)
    (nat_le pool.threshold_s THRESHOLD_SECONDS_MOST) (passes_if_set (λ n. nat_le n SPAN_MOST) pool.queue_ms) (count pool.planned)
    (count pool.concurrency) (passes_if_set (is_between 1 SPAN_MOST) pool.cap_ms) h)
