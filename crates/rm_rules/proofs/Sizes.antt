-- How large the total and the reservations can be.
use Rattle.std.specs.Prelude.{◌≡◌, ℕ, ◌*◌, ◌≤◌, true, nat_le, List, [], ◌∷◌, length, Option, Some, None, unwrap_or, sum_by, refl}
use Rattle.std.specs.List.{list_all}
use Rattle.std.proofs.Common.{arith}
use Rattle.std.proofs.lemmas.Bool.{leb-true}
use Rattle.std.proofs.lemmas.List.Sums.{sum_by-cons}
use Rattle.rm_base.specs.declared.limits.TheConstants.{MEMORY_LEAST, MEMORY_MOST, POOLS_MOST}
use Rattle.rm_base.specs.declared.definitions.Definitions.{Definitions}
use Rattle.rm_base.specs.declared.rows.PoolRow.{PoolRow}
use Rattle.rm_base.specs.declared.name.Name.{Name}
use Rattle.rm_base.specs.Name.{same_name, general}
use Rattle.rm_base.specs.Definitions.{default_pool_row}
use Rattle.rm_rules.specs.Definitions.{pool_called, pool_row, total, reserved, usable}
use Rattle.rm_rules.specs.Sound.{IsSound}
use Rattle.rm_base.specs.Ranges.{passes_if_set, is_pool_in_range}
use Rattle.rm_rules.proofs.Taken.{and_left, and_right, all_found}

memory-most : (r : PoolRow) → is_pool_in_range r ≡ true → r.memory ≤ MEMORY_MOST
memory-most r h = leb-true r.memory MEMORY_MOST (and_left (nat_le r.memory MEMORY_MOST) _ h)

max-passes : (r : PoolRow) → is_pool_in_range r ≡ true → passes_if_set (λ n. nat_le n MEMORY_MOST) r.max ≡ true
max-passes r h = and_left (passes_if_set (λ n. nat_le n MEMORY_MOST) r.max) _ (and_right (nat_le r.memory MEMORY_MOST) _ h)

unwrapped-most : (o : Option ℕ) (other : ℕ) → passes_if_set (λ n. nat_le n MEMORY_MOST) o ≡ true → other ≤ MEMORY_MOST → unwrap_or o other ≤ MEMORY_MOST
unwrapped-most None other h fits = fits
unwrapped-most (Some n) other h fits = leb-true n MEMORY_MOST h

pub row-in_range : (pools : List PoolRow) (name : Name) (o : Option PoolRow) → pool_called pools name ≡ o → list_all is_pool_in_range pools ≡ true
    → is_pool_in_range (unwrap_or o (default_pool_row name)) ≡ true
row-in_range pools name None e all = refl
row-in_range pools name (Some r) e all = all_found is_pool_in_range (λ x. same_name x.name name) pools r all e

-- the total is within the greatest memory
pub total_most : (d : Definitions) → d.memory ≤ MEMORY_MOST → list_all is_pool_in_range d.pools ≡ true → total d ≤ MEMORY_MOST
total_most d memory all =
    unwrapped-most (pool_row d general).max (usable d.memory)
    (max-passes (pool_row d general) (row-in_range d.pools general (pool_called d.pools general) refl all)) (omega arith)

sum-most : (pools : List PoolRow) → list_all is_pool_in_range pools ≡ true → sum_by (λ r. r.memory) pools ≤ length pools * MEMORY_MOST
sum-most [] all = omega arith
sum-most (r ∷ rs) all =
    omega (arith, sum_by-cons (λ (x : PoolRow). x.memory) r rs, memory-most r (and_left (is_pool_in_range r) _ all), sum-most rs (and_right (is_pool_in_range r) _ all))

-- so are the reservations, pool by pool
pub reserved_most : (d : Definitions) → length d.pools ≤ POOLS_MOST → list_all is_pool_in_range d.pools ≡ true → reserved d ≤ POOLS_MOST * MEMORY_MOST
reserved_most d few all = omega (arith, sum-most d.pools all)

pub sound_memory_most : (d : Definitions) → IsSound d → d.memory ≤ MEMORY_MOST
sound_memory_most d sound = leb-true d.memory MEMORY_MOST (and_right (nat_le MEMORY_LEAST d.memory) _ sound.memory)
