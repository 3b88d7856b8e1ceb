-- Lemmas on the pools with one more row, or with another in its place.
use Rattle.std.specs.Prelude.{◌≡◌, ℕ, ◌+◌, ◌≤◌, Bool, true, false, cond, ◌==◌, List, [], ◌∷◌, Option, Some, unwrap_or, sum_by, refl}
use Rattle.std.proofs.Common.{subst, arith}
use Rattle.std.proofs.lemmas.Bool.{false≢true}
use Rattle.std.proofs.lemmas.List.Sums.{sum_by-cons}
use Rattle.rm_base.specs.declared.rows.PoolRow.{PoolRow}
use Rattle.rm_base.specs.declared.name.Name.{Name}
use Rattle.rm_base.specs.Name.{same_name, general}
use Rattle.rm_base.specs.Definitions.{default_pool_row}
use Rattle.rm_base.proofs.Names.{same_name-eq}
use Rattle.rm_rules.specs.Definitions.{pool_called}
use Rattle.rm_rules.specs.Sound.{begins_with_general}
use Rattle.rm_rules.specs.PoolStatements.{pools_with}
use Rattle.rm_rules.proofs.Taken.{and_left, and_both}

-- GENERAL stays first
first-turn : (row r : PoolRow) (rs : List PoolRow) (b : Bool) → same_name r.name row.name ≡ b → begins_with_general (r ∷ rs) ≡ true
    → (same_name row.name general ≡ true → (row.memory == 0) ≡ true) → begins_with_general (cond b (row ∷ rs) (r ∷ pools_with row rs)) ≡ true
first-turn row r rs true e begins memory =
    let is : same_name row.name general ≡ true = subst (λ n. same_name n general ≡ true) (same_name-eq r.name row.name e) (and_left (same_name r.name general) (r.memory == 0) begins) in
    and_both (same_name row.name general) (row.memory == 0) is (memory is)
first-turn row r rs false e begins memory = begins

pub first_with : (row : PoolRow) (pools : List PoolRow) → begins_with_general pools ≡ true → (same_name row.name general ≡ true → (row.memory == 0) ≡ true)
    → begins_with_general (pools_with row pools) ≡ true
first_with row [] begins memory = absurd (false≢true begins)
first_with row (r ∷ rs) begins memory = first-turn row r rs (same_name r.name row.name) refl begins memory

-- what the pools reserve then: as before, but for what this pool reserved and reserves
abbrev pub reserved_by : Name → Option PoolRow → ℕ
reserved_by name o = (unwrap_or o (default_pool_row name)).memory

reserved-turn : (row r : PoolRow) (rs : List PoolRow) (b : Bool)
    → sum_by (λ x. x.memory) (pools_with row rs) + reserved_by row.name (pool_called rs row.name) ≡ sum_by (λ x. x.memory) rs + row.memory
    → sum_by (λ x. x.memory) (cond b (row ∷ rs) (r ∷ pools_with row rs)) + reserved_by row.name (cond b (Some r) (pool_called rs row.name)) ≡ sum_by (λ x. x.memory) (r ∷ rs) + row.memory
reserved-turn row r rs true behind = omega (arith, sum_by-cons (λ (x : PoolRow). x.memory) row rs, sum_by-cons (λ (x : PoolRow). x.memory) r rs)
reserved-turn row r rs false behind =
    omega (arith, behind, sum_by-cons (λ (x : PoolRow). x.memory) r (pools_with row rs), sum_by-cons (λ (x : PoolRow). x.memory) r rs)

pub reserved_with : (row : PoolRow) (pools : List PoolRow)
    → sum_by (λ r. r.memory) (pools_with row pools) + reserved_by row.name (pool_called pools row.name) ≡ sum_by (λ r. r.memory) pools + row.memory
reserved_with row [] = omega (arith, sum_by-cons (λ (x : PoolRow). x.memory) row [])
reserved_with row (r ∷ rs) = reserved-turn row r rs (same_name r.name row.name) (reserved_with row rs)

-- what one pool reserves is part of what all do
memory-turn : (r : PoolRow) (rs : List PoolRow) (name : Name) (b : Bool) → reserved_by name (pool_called rs name) ≤ sum_by (λ x. x.memory) rs
    → reserved_by name (cond b (Some r) (pool_called rs name)) ≤ sum_by (λ x. x.memory) (r ∷ rs)
memory-turn r rs name true behind = omega (arith, sum_by-cons (λ (x : PoolRow). x.memory) r rs)
memory-turn r rs name false behind = omega (arith, behind, sum_by-cons (λ (x : PoolRow). x.memory) r rs)

pub reserved_by-within : (pools : List PoolRow) (name : Name) → reserved_by name (pool_called pools name) ≤ sum_by (λ r. r.memory) pools
reserved_by-within [] name = omega arith
reserved_by-within (r ∷ rs) name = memory-turn r rs name (same_name r.name name) (reserved_by-within rs name)
