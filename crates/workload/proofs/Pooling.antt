-- The pools of a workload: their statements are accepted, and a query of a workload is not too large for them.
use Rattle.std.proofs.Common.{◌≡◌, ℕ, ◌+◌, ◌-◌, ◌*◌, ◌/◌, ◌<◌, ◌≤◌, Bool, true, false, ◌||◌, ltb, [], ◌∷◌, List, Some, None, Option, Result, Ok, Err, refl, sym, ap, ◌∙◌, subst, arith, ⊎_elim, ◌⊎◌}
use Rattle.std.proofs.lemmas.Bool.{or_cases, false≢true, le-ltb}
use Rattle.rm_base.specs.declared.definitions.Definitions.{Definitions}
use Rattle.rm_base.specs.declared.limits.TheConstants.{MEMORY_LEAST, FLOOR_OF_ONE, FLOOR_OF_MORE}
use Rattle.rm_base.specs.declared.name.Name.{Name}
use Rattle.rm_base.specs.declared.refusal.Refusal.{Refusal}
use Rattle.rm_base.specs.Definitions.{fresh}
use Rattle.rm_base.specs.Name.{same_name, dbadmin}
use Rattle.rm_base.proofs.Names.{same_name-eq}
use Rattle.rm_rules.specs.Ask.{is_too_large}
use Rattle.rm_rules.specs.Definitions.{pool_row, total, reserved}
use Rattle.rm_rules.specs.Sound.{has_pool}
use Rattle.workload.specs.Pools.{w0, w1, w2, is_workload_pool, workload_definitions}

-- each pool of a workload is one of the three
one-of : (P : Name → Type 0) → P w0 → P w1 → P w2 → (name : Name) → is_workload_pool name ≡ true → P name
one-of P p0 p1 p2 name known =
    ⊎_elim (λ (e : same_name name w0 ≡ true). subst P (sym (same_name-eq name w0 e)) p0)
    (λ (rest : (same_name name w1 || (same_name name w2 || false)) ≡ true).
    ⊎_elim (λ (e : same_name name w1 ≡ true). subst P (sym (same_name-eq name w1 e)) p1)
    (λ (last : (same_name name w2 || false) ≡ true).
    ⊎_elim (λ (e : same_name name w2 ≡ true). subst P (sym (same_name-eq name w2 e)) p2) (λ (none : false ≡ true). absurd (false≢true none))
    (or_cases (same_name name w2) false last))
    (or_cases (same_name name w1) (same_name name w2 || false) rest))
    (or_cases (same_name name w0) (same_name name w1 || (same_name name w2 || false)) known)

-- they are there
pub pool-there : (memory cores : ℕ) (name : Name) → is_workload_pool name ≡ true → has_pool (workload_definitions memory cores) name ≡ true
pool-there memory cores name known = one-of (λ (n : Name). has_pool (workload_definitions memory cores) n ≡ true) refl refl refl name known

-- and the floors of a workload are within their caps
pub floor-fits : (memory cores floor : ℕ) (name : Name) → MEMORY_LEAST ≤ memory → floor ≤ FLOOR_OF_ONE + FLOOR_OF_MORE → is_workload_pool name ≡ true
    → (let d = workload_definitions memory cores in is_too_large d (pool_row d name) dbadmin floor ≡ false)
floor-fits memory cores floor name least low known =
    let d = workload_definitions memory cores in
    one-of (λ (n : Name). is_too_large d (pool_row d n) dbadmin floor ≡ false)
    (le-ltb _ floor (omega (arith, least, low)))
    (le-ltb _ floor (omega (arith, least, low)))
    (le-ltb _ floor (omega (arith, least, low)))
    name known
