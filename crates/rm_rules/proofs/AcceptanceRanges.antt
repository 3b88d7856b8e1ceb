-- The values that a well-formed statement leaves are in their ranges.
use Rattle.std.specs.Prelude.{◌≡◌, ℕ, ◌*◌, ◌/◌, ◌≤◌, Bool, true, false, cond, ◌&&◌, nat_le, Option, Some, None, unwrap_or, option_map, refl}
use Rattle.std.proofs.Common.{arith}
use Rattle.std.proofs.Math.Nat.{mul-le-mul, div-le_of_le-mul}
use Rattle.std.proofs.lemmas.Bool.{leb-true}
use Rattle.std.proofs.lemmas.Bool.Decides.{nat_tests}
use Rattle.rm_base.specs.declared.limits.TheConstants.{MEMORY_MOST, CONCURRENCY_MOST, THRESHOLD_SECONDS_MOST, SPAN_MOST}
use Rattle.rm_base.specs.declared.definitions.Definitions.{Definitions}
use Rattle.rm_base.specs.declared.rows.PoolRow.{PoolRow}
use Rattle.rm_base.specs.declared.rows.UserRow.{UserRow}
use Rattle.rm_base.specs.declared.name.Name.{Name}
use Rattle.rm_base.specs.declared.statement.Size.{Size}
use Rattle.rm_base.specs.declared.statement.Size.TheVariants.{Bytes, Percent}
use Rattle.rm_base.specs.declared.statement.PoolChange.{PoolChange}
use Rattle.rm_base.specs.declared.statement.UserChange.{UserChange}
use Rattle.rm_base.specs.Name.{same_name, general}
use Rattle.rm_rules.specs.Definitions.{total, bytes_of}
use Rattle.rm_base.specs.Ranges.{passes_if_set, is_between, is_priority, is_size_in_range, is_pool_change_in_range, is_pool_in_range, is_user_change_in_range, is_user_in_range}
use Rattle.rm_rules.specs.PoolStatements.{max_whole, changed_pool}
use Rattle.rm_rules.specs.UserStatements.{changed_user}
use Rattle.rm_rules.proofs.Taken.{and_left, and_right, and_both}

pub le-true : (a b : ℕ) → a ≤ b → nat_le a b ≡ true
le-true a b h = grind (arith, nat_tests)

-- a size in bytes is within the greatest, where that of which it is taken is
bytes-fit : (whole : ℕ) (size : Size) → whole ≤ MEMORY_MOST → is_size_in_range size ≡ true → nat_le (bytes_of whole size) MEMORY_MOST ≡ true
bytes-fit whole (Bytes n) fits h = h
bytes-fit whole (Percent n) fits h =
    le-true (n * whole / 100) MEMORY_MOST (div-le_of_le-mul 100 (mul-le-mul {n₁ = n} {m₁ = whole} {n₂ = 100} {m₂ = MEMORY_MOST} (leb-true n 100 h) fits))

-- what is named passes, and what is kept
named-passes : {A : Type 0} (p : A → Bool) (named : Option A) (had : A) → passes_if_set p named ≡ true → p had ≡ true → p (unwrap_or named had) ≡ true
named-passes p None had named kept = kept
named-passes p (Some x) had named kept = named

limit-passes : {A : Type 0} (p : A → Bool) (named : Option (Option A)) (had : Option A) → passes_if_set (passes_if_set p) named ≡ true → passes_if_set p had ≡ true
    → passes_if_set p (unwrap_or named had) ≡ true
limit-passes p None had named kept = kept
limit-passes p (Some x) had named kept = named

size-fits : (whole : ℕ) (named : Option Size) (had : ℕ) → whole ≤ MEMORY_MOST → passes_if_set is_size_in_range named ≡ true → nat_le had MEMORY_MOST ≡ true
    → nat_le (unwrap_or (option_map (bytes_of whole) named) had) MEMORY_MOST ≡ true
size-fits whole None had fits named kept = kept
size-fits whole (Some size) had fits named kept = bytes-fit whole size fits named

limit-fits : (whole : ℕ) (named : Option (Option Size)) (had : Option ℕ) → whole ≤ MEMORY_MOST → passes_if_set (passes_if_set is_size_in_range) named ≡ true
    → passes_if_set (λ n. nat_le n MEMORY_MOST) had ≡ true
    → passes_if_set (λ n. nat_le n MEMORY_MOST) (unwrap_or (option_map (option_map (bytes_of whole)) named) had) ≡ true
limit-fits whole None had fits named kept = kept
limit-fits whole (Some None) had fits named kept = refl
limit-fits whole (Some (Some size)) had fits named kept = bytes-fit whole size fits named

max_whole-fits : (d : Definitions) (name : Name) → d.memory ≤ MEMORY_MOST → total d ≤ d.memory → max_whole d name ≤ MEMORY_MOST
max_whole-fits d name memory within =
    let sum_fits : total d ≤ MEMORY_MOST = omega arith in
    elim (same_name name general) as (λ b. cond b d.memory (total d) ≤ MEMORY_MOST) [ true ↦ memory | false ↦ sum_fits ]

-- two rows of tests make a third, test by test
both : (a b c d e f : Bool) → (a && b) ≡ true → (c && d) ≡ true → (a ≡ true → c ≡ true → e ≡ true) → (b ≡ true → d ≡ true → f ≡ true) → (e && f) ≡ true
both a b c d e f named had here behind =
    and_both e f (here (and_left a b named) (and_left c d had)) (behind (and_right a b named) (and_right c d had))

-- the row that a statement leaves is in range
pub changed-in_range : (d : Definitions) (r : PoolRow) (c : PoolChange) → d.memory ≤ MEMORY_MOST → total d ≤ d.memory
    → is_pool_change_in_range c ≡ true → is_pool_in_range r ≡ true → is_pool_in_range (changed_pool d r c) ≡ true
changed-in_range d r c memory within named had =
    let fits : total d ≤ MEMORY_MOST = omega arith in
    both _ _ _ _ _ _ named had (size-fits (total d) c.memory r.memory fits)
    (λ n1 h1. both _ _ _ _ _ _ n1 h1 (limit-fits (max_whole d r.name) c.max r.max (max_whole-fits d r.name memory within))
    (λ n2 h2. both _ _ _ _ _ _ n2 h2 (limit-fits (total d) c.query_max r.query_max fits)
    (λ n3 h3. both _ _ _ _ _ _ n3 h3 (limit-passes (is_between 1 CONCURRENCY_MOST) c.parallel r.parallel)
    (λ n4 h4. both _ _ _ _ _ _ n4 h4 (named-passes is_priority c.priority r.priority)
    (λ n5 h5. both _ _ _ _ _ _ n5 h5 (named-passes (λ n. nat_le n THRESHOLD_SECONDS_MOST) c.threshold_s r.threshold_s)
    (λ n6 h6. both _ _ _ _ _ _ n6 h6 (limit-passes (λ n. nat_le n SPAN_MOST) c.queue_ms r.queue_ms)
    (λ n7 h7. both _ _ _ _ _ _ n7 h7 (limit-passes (is_between 1 CONCURRENCY_MOST) c.planned r.planned)
    (λ n8 h8. both _ _ _ _ _ _ n8 h8 (limit-passes (is_between 1 CONCURRENCY_MOST) c.concurrency r.concurrency)
    (λ n9 h9. limit-passes (is_between 1 SPAN_MOST) c.cap_ms r.cap_ms n9 h9)))))))))

pub user-in_range : (d : Definitions) (u : UserRow) (c : UserChange) → d.memory ≤ MEMORY_MOST → total d ≤ d.memory
    → is_user_change_in_range c ≡ true → is_user_in_range u ≡ true → is_user_in_range (changed_user d u c) ≡ true
user-in_range d u c memory within named had =
    let fits : total d ≤ MEMORY_MOST = omega arith in
    both _ _ _ _ _ _ named had (limit-fits (total d) c.memory_cap u.memory_cap fits) (limit-passes (is_between 1 SPAN_MOST) c.cap_ms u.cap_ms)
