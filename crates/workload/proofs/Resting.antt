-- While no query runs, a settled state has the memory and the sizes that its definitions say.
use Rattle.std.proofs.Common.{◌≡◌, ℕ, ◌+◌, ◌-◌, ◌*◌, ◌<◌, ◌≤◌, [], ◌∷◌, List, Some, None, Option, Bool, true, false, refl, sym, ap, ◌∙◌, subst, arith, length, map, sum_by, ⊎_elim}
use Rattle.std.specs.Prelude.{sum}
use Rattle.std.specs.Option.{unwrap_or}
use Rattle.std.proofs.lemmas.Bool.{cases_lt, false≢true, eqb-true}
use Rattle.std.proofs.lemmas.List.Sums.{sum_by-cons, sum-map}
use Rattle.rm_base.specs.declared.definitions.Definitions.{Definitions}
use Rattle.rm_base.specs.declared.rows.PoolRow.{PoolRow}
use Rattle.rm_base.specs.Definitions.{default_pool_row}
use Rattle.rm_base.specs.Name.{same_name, general}
use Rattle.rm_rules.specs.declared.state.Reserve.{Reserve}
use Rattle.rm_rules.specs.declared.state.Runner.{Runner}
use Rattle.rm_rules.specs.Accounting.{kept_back, free, used}
use Rattle.rm_rules.specs.Definitions.{total, reserved, memory_size, pool_called, user_pools}
use Rattle.rm_rules.specs.Healthy.{IsHealthy}
use Rattle.rm_rules.specs.Holdings.{Holdings, holdings, holdings_of, reserves_of}
use Rattle.rm_rules.specs.Settled.{IsSettled}
use Rattle.rm_rules.specs.Sound.{IsSound, begins_with_general}
use Rattle.rm_rules.specs.State.{State}
use Rattle.rm_rules.proofs.Bytes.{lent-none}
use Rattle.rm_rules.proofs.Idle.{AreFound, found-user}
use Rattle.rm_rules.proofs.Rests.{RestsAt, AllRest, Rests, shuffled-rests}
use Rattle.rm_rules.proofs.Taken.{and_right}

-- a pool's size is its MEMORYSIZE at most, and just that while anything is free
size-turn : (d : Definitions) (spare : ℕ) (r : PoolRow) (x : ℕ) → pool_called d.pools r.name ≡ Some r
    → (let e : Reserve = record { pool = r.name; size = x } in RestsAt d [] spare e) → (x ≤ r.memory) × (0 < spare → x ≡ r.memory)
size-turn d spare r x found rests =
    let same : memory_size d r.name ≡ r.memory = ap {B = ℕ} (λ (o : Option PoolRow). (unwrap_or o (default_pool_row r.name)).memory) found in
    let most : x ≤ r.memory =
    ⊎_elim (λ (over : memory_size d r.name < x). absurd (omega (arith, over, rests.above over))) (λ (within : x ≤ memory_size d r.name). omega (arith, within, same))
    (cases_lt (memory_size d r.name) x) in (
      most,
      λ some. ⊎_elim (λ (below : x < r.memory). absurd (omega (arith, some, rests.none_free (omega (arith, below, same))))) (λ (least : r.memory ≤ x). omega (arith, least, most))
          (cases_lt x r.memory),
    )

-- so are all sizes
sizes-turn : (d : Definitions) (spare : ℕ) (rows : List PoolRow) (sizes : List ℕ) → length sizes ≡ length rows → AreFound (pool_called d.pools) rows
    → AllRest d [] spare (reserves_of rows sizes) → (sum sizes ≤ sum_by (λ r. r.memory) rows) × (0 < spare → sum sizes ≡ sum_by (λ r. r.memory) rows)
    × (kept_back (reserves_of rows sizes) ≡ sum sizes)
sizes-turn d spare [] [] same found rests = (omega arith, λ some. refl, refl)
sizes-turn d spare [] (x ∷ xs) same found rests = absurd (omega (arith, same))
sizes-turn d spare (r ∷ rs) [] same found rests = absurd (omega (arith, same))
sizes-turn d spare (r ∷ rs) (x ∷ xs) same found rests =
    let e : Reserve = record { pool = r.name; size = x } in
    let here = size-turn d spare r x found.0 rests.0 in
    let more = sizes-turn d spare rs xs (omega (arith, same)) found.1 rests.1 in
    let all = sum_by-cons (λ (n : ℕ). n) x xs in
    let said = sum_by-cons (λ (y : PoolRow). y.memory) r rs in (
      omega (arith, here.0, more.0, all, said),
      λ some. omega (arith, here.1 some, more.1 some, all, said),
      omega (arith, more.2, all, sum_by-cons (λ (y : Reserve). y.size) e (reserves_of rs xs)),
    )

-- GENERAL reserves nothing
users-reserve : (pools : List PoolRow) → begins_with_general pools ≡ true → sum_by (λ r. r.memory) (user_pools pools) ≡ sum_by (λ r. r.memory) pools
users-reserve [] begins = refl
users-reserve (r ∷ rs) begins = omega (arith, eqb-true r.memory 0 (and_right (same_name r.name general) _ begins), sum_by-cons (λ (y : PoolRow). y.memory) r rs)

-- the total is in force, and the pools have what they reserve
pub record HasSizes (s : State) : Type 0 where
  pub in_force : s.in_force ≡ total s.definitions
  pub sizes : sum s.actual ≡ reserved s.definitions
  pub free_is : free (holdings_of s) ≡ total s.definitions - reserved s.definitions

pub rested-sizes : (s : State) → IsHealthy s → IsSettled s → s.running ≡ [] → HasSizes s
rested-sizes s h settles idle =
    let d = s.definitions in
    let b = holdings_of s in
    let rests : Rests d b = subst (λ (t : State). Rests d (holdings_of t)) settles.sizes_rest (shuffled-rests s h.sized) in
    let none_run : AllRest d [] (free b) b.reserves = subst (λ (l : List Runner). AllRest d (holdings l) (free b) b.reserves) idle rests in
    let lent_none = lent-none b (λ p. ap (λ (l : List Runner). used p (holdings l)) idle) in
    let sizes = sizes-turn d (free b) (user_pools d.pools) s.actual h.sized.sizes (found-user d.pools h.sound.pools_distinct) none_run in
    let all = users-reserve d.pools h.sound.general_first in
    let some : 0 < free b = omega (arith, sizes.0, sizes.2, all, lent_none, h.covered.in_force_least, h.sound.quarter_left, h.sound.total_least) in
    let force : s.in_force ≡ total d =
    ⊎_elim (λ (over : total d < s.in_force). absurd (omega (arith, some, h.covered.full_above_total over))) (λ (most : s.in_force ≤ total d). omega (arith, most, h.covered.in_force_least))
    (cases_lt (total d) s.in_force) in
    record { in_force = force; sizes = omega (arith, sizes.1 some, all); free_is = omega (arith, force, sizes.1 some, sizes.2, all, lent_none) }
