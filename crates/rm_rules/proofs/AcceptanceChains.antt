-- Chains of CASCADE TO end after a statement, where they ended before and none through its pool is too long.
use Rattle.std.specs.Prelude.{◌≡◌, ℕ, zero, suc, ◌≤◌, ◌<◌, Bool, true, false, ◌||◌, cond, List, [], ◌∷◌, length, Option, Some, None, is_some, option_and_then, max, refl}
use Rattle.std.specs.List.{list_all, list_any}
use Rattle.std.proofs.Common.{sym, ap, ◌∙◌, subst, arith}
use Rattle.std.proofs.lemmas.Bool.{false≢true}
use Rattle.rm_base.specs.declared.rows.PoolRow.{PoolRow}
use Rattle.rm_base.specs.declared.name.Name.{Name}
use Rattle.rm_base.specs.Name.{same_name}
use Rattle.rm_rules.specs.Definitions.{pool_called}
use Rattle.rm_rules.specs.Sound.{chain_ends}
use Rattle.rm_base.specs.Ranges.{passes_if_set}
use Rattle.rm_rules.specs.PoolStatements.{chain, cascade_of, length_through}
use Rattle.rm_rules.proofs.Taken.{and_left, and_right, and_both, all_found, or_left_false, or_right_false}

-- the pool to which another cascades is there
abbrev pub target_there : List PoolRow → Option Name → Bool
target_there pools next = passes_if_set (λ n. is_some (pool_called pools n)) next

pub chain-some : (pools : List PoolRow) (most : ℕ) (name : Name) → chain pools (suc most) (Some name) ≡ name ∷ chain pools most (cascade_of pools name)
unfolding chain
chain-some pools most name = refl

pub chain-none : (pools : List PoolRow) (most : ℕ) → chain pools most None ≡ []
unfolding chain
chain-none pools zero = refl
chain-none pools (suc most) = refl

-- a chain that has few pools ends
ends-turn : (pools : List PoolRow) (n : ℕ) (name : Name) (o : Option PoolRow) → pool_called pools name ≡ o → is_some o ≡ true
    → ((r : PoolRow) → pool_called pools name ≡ Some r → chain_ends pools n r.cascade ≡ true)
    → elim o [ None ↦ false | Some r ↦ chain_ends pools n r.cascade ] ≡ true
ends-turn pools n name None e there behind = absurd (false≢true there)
ends-turn pools n name (Some r) e there behind = behind r e

pub ends_if_short : (pools : List PoolRow) → list_all (λ r. target_there pools r.cascade) pools ≡ true
    → (n most : ℕ) (next : Option Name) → n < most → target_there pools next ≡ true → length (chain pools most next) ≤ n → chain_ends pools n next ≡ true
ends_if_short pools closed n zero next room there short = absurd (omega arith)
ends_if_short pools closed zero (suc most) None room there short = refl
ends_if_short pools closed zero (suc most) (Some name) room there short = absurd (omega (arith, ap length (chain-some pools most name)))
ends_if_short pools closed (suc n) (suc most) None room there short = refl
ends_if_short pools closed (suc n) (suc most) (Some name) room there short =
    let behind : length (chain pools most (cascade_of pools name)) ≤ n = omega (arith, ap length (chain-some pools most name)) in
    ends-turn pools n name (pool_called pools name) refl there
    (λ r found. ends_if_short pools closed n most r.cascade (omega arith) (all_found (λ x. target_there pools x.cascade) (λ x. same_name x.name name) pools r closed found)
    (subst (λ o. length (chain pools most (option_and_then (λ x. x.cascade) o)) ≤ n) found behind))

-- a chain on which a pool does not stand ends after any change of that pool
off-turn : (pools after : List PoolRow) (n : ℕ) (name : Name) (o : Option PoolRow) → pool_called pools name ≡ o → pool_called after name ≡ pool_called pools name
    → elim o [ None ↦ false | Some r ↦ chain_ends pools n r.cascade ] ≡ true
    → ((r : PoolRow) → pool_called after name ≡ Some r → chain_ends pools n r.cascade ≡ true → chain_ends after n r.cascade ≡ true)
    → elim (pool_called after name) [ None ↦ false | Some r ↦ chain_ends after n r.cascade ] ≡ true
off-turn pools after n name None e same ends behind = absurd (false≢true ends)
off-turn pools after n name (Some r) e same ends behind =
    subst (λ o. elim o [ None ↦ false | Some x ↦ chain_ends after n x.cascade ] ≡ true) (sym (same ∙ e)) (behind r (same ∙ e) ends)

pub ends_off : (pools after : List PoolRow) (changed : Name) → ((m : Name) → same_name changed m ≡ false → pool_called after m ≡ pool_called pools m)
    → (n most : ℕ) (next : Option Name) → n < most → list_any (same_name changed) (chain after most next) ≡ false → chain_ends pools n next ≡ true → chain_ends after n next ≡ true
ends_off pools after changed same n zero next room off ends = absurd (omega arith)
ends_off pools after changed same zero (suc most) next room off ends = ends
ends_off pools after changed same (suc n) (suc most) None room off ends = refl
ends_off pools after changed same (suc n) (suc most) (Some name) room off ends =
    let parts = subst (λ names. list_any (same_name changed) names ≡ false) (chain-some after most name) off in
    let here = same name (or_left_false (same_name changed name) (list_any (same_name changed) (chain after most (cascade_of after name))) parts) in
    let rest = or_right_false (same_name changed name) (list_any (same_name changed) (chain after most (cascade_of after name))) parts in
    off-turn pools after n name (pool_called pools name) refl here ends
    (λ r found before. ends_off pools after changed same n most r.cascade (omega arith)
    (subst (λ o. list_any (same_name changed) (chain after most (option_and_then (λ x. x.cascade) o)) ≡ false) found rest) before)

-- one pool's chain, by whether the changed pool stands on it
one-turn : (after : List PoolRow) (changed : Name) (n most : ℕ) (r : PoolRow) (b : Bool) → list_any (same_name changed) (r.name ∷ chain after most r.cascade) ≡ b
    → cond b (length (r.name ∷ chain after most r.cascade)) 0 ≤ suc n
    → (length (chain after most r.cascade) ≤ n → chain_ends after n r.cascade ≡ true)
    → (list_any (same_name changed) (r.name ∷ chain after most r.cascade) ≡ false → chain_ends after n r.cascade ≡ true)
    → chain_ends after n r.cascade ≡ true
one-turn after changed n most r true e short on off = on (omega arith)
one-turn after changed n most r false e short on off = off e

-- the longest chain through a pool, of chains of any length
abbrev pub longest : List PoolRow → Name → ℕ → List PoolRow → ℕ
longest pools name most [] = 0
longest pools name most (r ∷ rs) = max (length_through name (r.name ∷ chain pools most r.cascade)) (longest pools name most rs)

-- the chains of these pools end
pub each_ends : (pools after : List PoolRow) (changed : Name) (n most : ℕ) → n < most
    → ((m : Name) → same_name changed m ≡ false → pool_called after m ≡ pool_called pools m)
    → list_all (λ r. target_there after r.cascade) after ≡ true → (rs : List PoolRow)
    → list_all (λ r. target_there after r.cascade) rs ≡ true → list_all (λ r. same_name changed r.name || chain_ends pools n r.cascade) rs ≡ true
    → longest after changed most rs ≤ suc n → list_all (λ r. chain_ends after n r.cascade) rs ≡ true
each_ends pools after changed n most room same closed [] there before short = refl
each_ends pools after changed n most room same closed (r ∷ rs) there before short =
    let first : cond (list_any (same_name changed) (r.name ∷ chain after most r.cascade)) (length (r.name ∷ chain after most r.cascade)) 0 ≤ suc n = omega arith in
    let off : list_any (same_name changed) (r.name ∷ chain after most r.cascade) ≡ false → chain_ends after n r.cascade ≡ true =
    λ e. let apart = or_left_false (same_name changed r.name) (list_any (same_name changed) (chain after most r.cascade)) e in
    ends_off pools after changed same n most r.cascade room (or_right_false (same_name changed r.name) (list_any (same_name changed) (chain after most r.cascade)) e)
    (subst (λ b. (b || chain_ends pools n r.cascade) ≡ true) apart (and_left (same_name changed r.name || chain_ends pools n r.cascade) _ before)) in
    and_both (chain_ends after n r.cascade) _
    (one-turn after changed n most r (list_any (same_name changed) (r.name ∷ chain after most r.cascade)) refl first
    (ends_if_short after closed n most r.cascade room (and_left (target_there after r.cascade) _ there)) off)
    (each_ends pools after changed n most room same closed rs (and_right (target_there after r.cascade) _ there)
    (and_right (same_name changed r.name || chain_ends pools n r.cascade) _ before) (omega arith))
