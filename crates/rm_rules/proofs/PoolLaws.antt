-- CREATE and ALTER RESOURCE POOL leave sound definitions.
use Rattle.std.specs.Prelude.{◌≡◌, ℕ, zero, suc, ◌-◌, ◌*◌, ◌≤◌, ◌<◌, Bool, true, false, cond, ◌&&◌, ◌||◌, not, ◌==◌, nat_lt, nat_le, List, [], ◌∷◌, length, Option, Some, None, is_some, unwrap_or, option_map, max, refl}
use Rattle.std.specs.List.{list_all}
use Rattle.std.proofs.Common.{sym, ap, ◌∙◌, subst, arith}
use Rattle.std.proofs.lemmas.Bool.{false≢true, leb-true}
use Rattle.rm_base.specs.declared.limits.TheConstants.{TOTAL_LEAST, POOLS_MOST, CHANGES_MOST, CHAIN_MOST}
use Rattle.rm_base.specs.declared.definitions.Definitions.{Definitions}
use Rattle.rm_base.specs.declared.rows.PoolRow.{PoolRow}
use Rattle.rm_base.specs.declared.rows.GrantRow.{GrantRow}
use Rattle.rm_base.specs.declared.rows.GrantRow.TheVariants.{PoolToUser, PoolToRole, RoleToUser}
use Rattle.rm_base.specs.declared.name.Name.{Name}
use Rattle.rm_base.specs.declared.statement.PoolChange.{PoolChange}
use Rattle.rm_base.specs.Name.{same_name, general}
use Rattle.rm_base.specs.Definitions.{default_pool_row}
use Rattle.rm_base.proofs.Names.{same_name-refl, same_name-eq}
use Rattle.rm_rules.specs.Definitions.{pool_called, pool_row, user_called, role_called, total, reserved, usable, bytes_of}
use Rattle.rm_rules.specs.Sound.{IsSound, is_within_max, has_pool, chain_ends, is_grant_known, begins_with_general}
use Rattle.rm_base.specs.Ranges.{passes_if_set, is_between, is_pool_change_in_range, is_pool_in_range}
use Rattle.rm_rules.specs.Refusals.{pool_taken, pool_missing, changes_full}
use Rattle.rm_rules.specs.PoolStatements.{created_pool, altered_pool, pools_with, with_pool, total_out_of_range, general_reserves, max_below_memory, general_too_small, target_missing, chain, cascade_loop, length_through, longest_through, chain_too_long, pools_full, outcome_refusal, create_pool_refusal, alter_pool_refusal}
use Rattle.rm_rules.proofs.Taken.{and_left, and_right, and_both, found_passes, all_wider, set_wider, not_true}
use Rattle.rm_rules.proofs.Refused.{not-refused, first-none, not_below, not-missing, not-full, IsLeft}
use Rattle.rm_rules.proofs.Known.{general-there}
use Rattle.rm_rules.proofs.Sizes.{row-in_range, sound_memory_most}
use Rattle.rm_rules.proofs.Rows.{all_with, called_with, there_with, called-named, length_with-there, length_with-most, distinct_with-behind}
use Rattle.rm_rules.proofs.AcceptancePools.{first_with}
use Rattle.rm_rules.proofs.AcceptanceChains.{target_there, longest, each_ends}
use Rattle.rm_rules.proofs.AcceptanceRanges.{le-true, changed-in_range}

or-left : (a b : Bool) → a ≡ true → (a || b) ≡ true
or-left a b h = ap (λ c. c || b) h

or-right : (a b : Bool) → b ≡ true → (a || b) ≡ true
or-right true b h = refl
or-right false b h = h

-- what is there stays there
pub has_pool-with : (d : Definitions) (row : PoolRow) (n : Name) → has_pool d n ≡ true → has_pool (with_pool d row) n ≡ true
has_pool-with d row n there = there_with (λ r. r.name) row d.pools n there

grant-known : (d : Definitions) (row : PoolRow) (g : GrantRow) → is_grant_known d g ≡ true → is_grant_known (with_pool d row) g ≡ true
grant-known d row (PoolToUser p u) known =
    and_both (has_pool (with_pool d row) p) _ (has_pool-with d row p (and_left (has_pool d p) (is_some (user_called d.users u)) known)) (and_right (has_pool d p) (is_some (user_called d.users u)) known)
grant-known d row (PoolToRole p r) known =
    and_both (has_pool (with_pool d row) p) _ (has_pool-with d row p (and_left (has_pool d p) (is_some (role_called d.roles r)) known)) (and_right (has_pool d p) (is_some (role_called d.roles r)) known)
grant-known d row (RoleToUser r u) known = known

-- the total after the statement
total-turn : (d : Definitions) (row : PoolRow) (found : Option PoolRow) (b : Bool)
    → unwrap_or ((unwrap_or (cond b (Some row) found) (default_pool_row general)).max) (usable d.memory)
    ≡ cond b (unwrap_or row.max (usable d.memory)) (unwrap_or ((unwrap_or found (default_pool_row general)).max) (usable d.memory))
total-turn d row found true = refl
total-turn d row found false = refl

pub total-with : (d : Definitions) (row : PoolRow) → total (with_pool d row) ≡ cond (same_name row.name general) (unwrap_or row.max (usable d.memory)) (total d)
total-with d row =
    ap (λ o. unwrap_or ((unwrap_or o (default_pool_row general)).max) (usable d.memory)) (called_with (λ r. r.name) row d.pools general)
    ∙ total-turn d row (pool_called d.pools general) (same_name row.name general)

-- what numbers 11, 13 and 15 rule out
within-max : (most : Option ℕ) (memory : ℕ) → max_below_memory most memory ≡ None → passes_if_set (λ m. nat_le memory m) most ≡ true
within-max None memory h = refl
within-max (Some m) memory h = le-true memory m (not_below m memory (not-refused (nat_lt m memory) _ h))

target-there : (new : Definitions) (next : Option Name) → target_missing new next ≡ None → target_there new.pools next ≡ true
target-there new None h = refl
target-there new (Some t) h = not-missing (has_pool new t) _ h

longest-is : (pools : List PoolRow) (name : Name) (rs : List PoolRow) → longest pools name POOLS_MOST rs ≡ longest_through pools name rs
longest-is pools name [] = refl
longest-is pools name (r ∷ rs) = ap (λ n. max (length_through name (r.name ∷ chain pools POOLS_MOST r.cascade)) n) (longest-is pools name rs)

-- a chain that ends begins with a pool that is there
found-there : (pools : List PoolRow) (n : ℕ) (o : Option PoolRow) → elim o [ None ↦ false | Some r ↦ chain_ends pools n r.cascade ] ≡ true → is_some o ≡ true
found-there pools n None ends = ends
found-there pools n (Some r) ends = refl

begins-there : (pools : List PoolRow) (n : ℕ) (next : Option Name) → chain_ends pools n next ≡ true → target_there pools next ≡ true
begins-there pools n None ends = refl
begins-there pools zero (Some t) ends = absurd (false≢true ends)
begins-there pools (suc n) (Some t) ends = found-there pools n (pool_called pools t) ends

-- a row that the rules let in: its values, GENERAL's part, and the definitions that it leaves
pub record IsLetIn (d : Definitions) (row : PoolRow) : Type 0 where
  pub in_range : is_pool_in_range row ≡ true
  pub memory : same_name row.name general ≡ true → (row.memory == 0) ≡ true
  pub least : TOTAL_LEAST ≤ total (with_pool d row)
  pub most : total (with_pool d row) ≤ d.memory
  pub outcome : outcome_refusal (with_pool d row) row ≡ None
  pub count : length (pools_with row d.pools) ≤ POOLS_MOST
  pub changes : d.changes < CHANGES_MOST

-- the parts of the outcome
pub record IsFree (new : Definitions) (row : PoolRow) : Type 0 where
  pub within : is_within_max row ≡ true
  pub quarter : total new ≤ 4 * (total new - reserved new)
  pub target : target_there new.pools row.cascade ≡ true
  pub short : longest_through new.pools row.name new.pools ≤ CHAIN_MOST

free-outcome : (new : Definitions) (row : PoolRow) → outcome_refusal new row ≡ None → IsFree new row
free-outcome new row h =
    let a = first-none (max_below_memory row.max row.memory) _ h in
    let b = first-none (general_too_small new) _ a.1 in
    let c = first-none (target_missing new row.cascade) _ b.1 in
    let e = first-none (cascade_loop new.pools row) _ c.1 in
    let f = first-none (chain_too_long new.pools row.name) _ e.1 in
    record {
      within = within-max row.max row.memory a.0;
      quarter = not_below (4 * (total new - reserved new)) (total new) (not-refused (nat_lt (4 * (total new - reserved new)) (total new)) _ b.0);
      target = target-there new row.cascade c.0;
      short = not_below CHAIN_MOST (longest_through new.pools row.name new.pools) (not-refused (nat_lt CHAIN_MOST (longest_through new.pools row.name new.pools)) _ f.0);
    }

-- every chain ends
chains-with : (d : Definitions) (row : PoolRow) → IsSound d → IsFree (with_pool d row) row
    → list_all (λ r. chain_ends (pools_with row d.pools) (CHAIN_MOST - 1) r.cascade) (pools_with row d.pools) ≡ true
chains-with d row sound free =
    let after : List PoolRow = pools_with row d.pools in
    let same : (m : Name) → same_name row.name m ≡ false → pool_called after m ≡ pool_called d.pools m =
    λ m apart. called_with (λ r. r.name) row d.pools m ∙ ap (λ b. cond b (Some row) (pool_called d.pools m)) apart in
    let closed : list_all (λ r. target_there after r.cascade) after ≡ true =
    all_with (λ r. r.name) (λ r. target_there after r.cascade) row d.pools
    (all_wider (λ r. chain_ends d.pools (CHAIN_MOST - 1) r.cascade) (λ r. target_there after r.cascade) d.pools
    (λ r ends. set_wider (λ n. is_some (pool_called d.pools n)) (λ n. is_some (pool_called after n)) r.cascade (λ n. there_with (λ r. r.name) row d.pools n) (begins-there d.pools (CHAIN_MOST - 1) r.cascade ends)) sound.chains_end)
    free.target in
    let before : list_all (λ r. same_name row.name r.name || chain_ends d.pools (CHAIN_MOST - 1) r.cascade) after ≡ true =
    all_with (λ r. r.name) (λ r. same_name row.name r.name || chain_ends d.pools (CHAIN_MOST - 1) r.cascade) row d.pools
    (all_wider (λ r. chain_ends d.pools (CHAIN_MOST - 1) r.cascade) (λ r. same_name row.name r.name || chain_ends d.pools (CHAIN_MOST - 1) r.cascade) d.pools
    (λ r ends. or-right (same_name row.name r.name) _ ends) sound.chains_end)
    (or-left (same_name row.name row.name) _ (same_name-refl row.name)) in
    each_ends d.pools after row.name (CHAIN_MOST - 1) POOLS_MOST (omega arith) same closed after closed before
    (subst (λ n. n ≤ CHAIN_MOST) (sym (longest-is after row.name after)) free.short)

-- a row that is let in leaves sound definitions
sound-with : (d : Definitions) (row : PoolRow) → IsSound d → IsLetIn d row → IsSound (with_pool d row)
sound-with d row sound let_in =
    let free = free-outcome (with_pool d row) row let_in.outcome in
    let quarter = free.quarter in
    let least = let_in.least in
    record {
      memory = sound.memory;
      cores = sound.cores;
      changes = sound.changes;
      pool_count = let_in.count;
      user_count = sound.user_count;
      role_count = sound.role_count;
      grant_count = sound.grant_count;
      general_first = first_with row d.pools sound.general_first let_in.memory;
      dbadmin_there = sound.dbadmin_there;
      pools_distinct = distinct_with-behind (λ (r : PoolRow). r.name) row [] d.pools sound.pools_distinct (λ absent. sym (called-named (λ (r : PoolRow). r.name) d.pools row.name) ∙ absent);
      users_distinct = sound.users_distinct;
      pools_in_range = all_with (λ r. r.name) is_pool_in_range row d.pools sound.pools_in_range let_in.in_range;
      users_in_range = sound.users_in_range;
      pools_within_max = all_with (λ r. r.name) is_within_max row d.pools sound.pools_within_max free.within;
      total_least = least;
      total_most = let_in.most;
      reserved_most = omega arith;
      quarter_left = quarter;
      chains_end = chains-with d row sound free;
      user_pools_there = all_wider (λ u. passes_if_set (has_pool d) u.pool) (λ u. passes_if_set (has_pool (with_pool d row)) u.pool) d.users
          (λ u. set_wider (has_pool d) (has_pool (with_pool d row)) u.pool (has_pool-with d row)) sound.user_pools_there;
      role_pools_there = all_wider (λ r. passes_if_set (has_pool d) r.pool) (λ r. passes_if_set (has_pool (with_pool d row)) r.pool) d.roles
          (λ r. set_wider (has_pool d) (has_pool (with_pool d row)) r.pool (has_pool-with d row)) sound.role_pools_there;
      grants_known = all_wider (is_grant_known d) (is_grant_known (with_pool d row)) d.grants (grant-known d row) sound.grants_known;
      grants_distinct = sound.grants_distinct;
    }

-- the row of a pool, and of one that is not there
name-turn : (pools : List PoolRow) (name : Name) (o : Option PoolRow) → pool_called pools name ≡ o → (unwrap_or o (default_pool_row name)).name ≡ name
name-turn pools name None e = refl
name-turn pools name (Some r) e = same_name-eq r.name name (found_passes (λ x. same_name x.name name) r pools e)

pub pool_row-name : (d : Definitions) (name : Name) → (pool_row d name).name ≡ name
pool_row-name d name = name-turn d.pools name (pool_called d.pools name) refl

pub pool_row_in_range : (d : Definitions) (name : Name) → IsSound d → is_pool_in_range (pool_row d name) ≡ true
pool_row_in_range d name sound = row-in_range d.pools name (pool_called d.pools name) refl sound.pools_in_range

general-turn : (pools : List PoolRow) → begins_with_general pools ≡ true → ((unwrap_or (pool_called pools general) (default_pool_row general)).memory == 0) ≡ true
general-turn [] begins = absurd (false≢true begins)
general-turn (r ∷ rs) begins =
    ap (λ b. (unwrap_or (cond b (Some r) (pool_called rs general)) (default_pool_row general)).memory == 0) (and_left (same_name r.name general) (r.memory == 0) begins)
    ∙ and_right (same_name r.name general) (r.memory == 0) begins

-- a pool that is not there is not GENERAL
apart-turn : (d : Definitions) (name : Name) (b : Bool) → same_name name general ≡ b → IsSound d → has_pool d name ≡ false → b ≡ false
apart-turn d name true e sound missing =
    absurd (false≢true (sym missing ∙ subst (λ n. has_pool d n ≡ true) (sym (same_name-eq name general e)) (general-there d sound)))
apart-turn d name false e sound missing = refl

-- the rows that well-formed statements leave are in range
pub created-in_range : (d : Definitions) (name : Name) (c : PoolChange) → IsSound d → is_pool_change_in_range c ≡ true → is_pool_in_range (created_pool d name c) ≡ true
created-in_range d name c sound named = changed-in_range d (default_pool_row name) c (sound_memory_most d sound) sound.total_most named refl

pub altered-in_range : (d : Definitions) (name : Name) (c : PoolChange) → IsSound d → is_pool_change_in_range c ≡ true → is_pool_in_range (altered_pool d name c) ≡ true
altered-in_range d name c sound named = changed-in_range d (pool_row d name) c (sound_memory_most d sound) sound.total_most named (pool_row_in_range d name sound)

-- what a created pool's row is
let_in-created : (d : Definitions) (name : Name) (c : PoolChange) → IsSound d → is_pool_change_in_range c ≡ true
    → create_pool_refusal d name (created_pool d name c) ≡ None → IsLetIn d (created_pool d name c)
let_in-created d name c sound named h =
    let row : PoolRow = created_pool d name c in
    let taken = first-none (pool_taken d name) _ h in
    let outcome = first-none (outcome_refusal (with_pool d row) row) _ taken.1 in
    let full = first-none (pools_full d) _ outcome.1 in
    let changes = first-none (changes_full d) _ full.1 in
    let apart : same_name name general ≡ false = apart-turn d name (same_name name general) refl sound (not-refused (has_pool d name) _ taken.0) in
    let same : total (with_pool d row) ≡ total d = total-with d row ∙ ap (λ b. cond b (unwrap_or row.max (usable d.memory)) (total d)) apart in
    let room : length d.pools < POOLS_MOST = not-full _ POOLS_MOST (length d.pools) full.0 in
    let least = sound.total_least in
    let most = sound.total_most in
    record {
      in_range = created-in_range d name c sound named;
      memory = λ is. absurd (false≢true (sym apart ∙ is));
      least = subst (λ t. TOTAL_LEAST ≤ t) (sym same) least;
      most = subst (λ t. t ≤ d.memory) (sym same) most;
      outcome = outcome.0;
      count = omega (arith, length_with-most (λ r. r.name) row d.pools);
      changes = not-full _ CHANGES_MOST d.changes changes.0;
    }

-- what an altered pool's row is
and-false : (a b : Bool) → (a && b) ≡ false → a ≡ true → b ≡ false
and-false true b h e = h
and-false false b h e = absurd (false≢true e)

kept-if_unnamed : {A : Type 0} (f : A → ℕ) (o : Option A) (had : ℕ) → is_some o ≡ false → unwrap_or (option_map f o) had ≡ had
kept-if_unnamed f None had e = refl
kept-if_unnamed f (Some x) had e = absurd (false≢true (sym e))

general-keeps : (d : Definitions) (name : Name) (c : PoolChange) → IsSound d → general_reserves name c ≡ None → same_name name general ≡ true
    → ((altered_pool d name c).memory == 0) ≡ true
general-keeps d name c sound h is =
    let unnamed : is_some c.memory ≡ false = and-false (same_name name general) (is_some c.memory) (not-refused (same_name name general && is_some c.memory) _ h) is in
    ap (λ n. n == 0) (kept-if_unnamed (bytes_of (total d)) c.memory (pool_row d name).memory unnamed)
    ∙ subst (λ n. ((pool_row d n).memory == 0) ≡ true) (sym (same_name-eq name general is)) (general-turn d.pools sound.general_first)

-- GENERAL's MAXMEMORYSIZE is as before, or gives a total in range
record IsInRange (d : Definitions) (t : ℕ) : Type 0 where
  least : TOTAL_LEAST ≤ t
  most : t ≤ d.memory

in_range-turn : (d : Definitions) (t : ℕ) → not (is_between TOTAL_LEAST d.memory t) ≡ false → IsInRange d t
in_range-turn d t h =
    let inside = not_true (is_between TOTAL_LEAST d.memory t) h in
    record {
      least = leb-true TOTAL_LEAST t (and_left (nat_le TOTAL_LEAST t) (nat_le t d.memory) inside);
      most = leb-true t d.memory (and_right (nat_le TOTAL_LEAST t) (nat_le t d.memory) inside);
    }

max-turn : {A : Type 0} (d : Definitions) (f : Option A → Option ℕ) (o : Option (Option A)) (had : Option ℕ) (new : ℕ)
    → new ≡ unwrap_or (unwrap_or (option_map f o) had) (usable d.memory) → IsInRange d (unwrap_or had (usable d.memory))
    → (is_some o && not (is_between TOTAL_LEAST d.memory new)) ≡ false → IsInRange d new
max-turn d f None had new e before h = subst (λ t. IsInRange d t) (sym e) before
max-turn d f (Some x) had new e before h = in_range-turn d new h

total-turns : (d : Definitions) (name : Name) (c : PoolChange) (b : Bool) → same_name name general ≡ b → IsSound d
    → total (with_pool d (altered_pool d name c)) ≡ cond b (unwrap_or (altered_pool d name c).max (usable d.memory)) (total d)
    → (b && (is_some c.max && not (is_between TOTAL_LEAST d.memory (total (with_pool d (altered_pool d name c)))))) ≡ false
    → IsInRange d (total (with_pool d (altered_pool d name c)))
total-turns d name c true is sound e h =
    let is_general : name ≡ general = same_name-eq name general is in
    let before : IsInRange d (unwrap_or (pool_row d name).max (usable d.memory)) =
    subst (λ n. IsInRange d (unwrap_or (pool_row d n).max (usable d.memory))) (sym is_general) (record { least = sound.total_least; most = sound.total_most }) in
    max-turn d _ c.max (pool_row d name).max (total (with_pool d (altered_pool d name c))) e before h
total-turns d name c false is sound e h =
    subst (λ t. IsInRange d t) (sym e) (record { least = sound.total_least; most = sound.total_most })

total-altered : (d : Definitions) (name : Name) (c : PoolChange) → IsSound d → total_out_of_range (with_pool d (altered_pool d name c)) name c ≡ None
    → IsInRange d (total (with_pool d (altered_pool d name c)))
total-altered d name c sound h =
    total-turns d name c (same_name name general) refl sound
    (total-with d (altered_pool d name c) ∙ ap (λ n. cond (same_name n general) (unwrap_or (altered_pool d name c).max (usable d.memory)) (total d)) (pool_row-name d name))
    (not-refused (same_name name general && (is_some c.max && not (is_between TOTAL_LEAST d.memory (total (with_pool d (altered_pool d name c)))))) _ h)

let_in-altered : (d : Definitions) (name : Name) (c : PoolChange) → IsSound d → is_pool_change_in_range c ≡ true
    → alter_pool_refusal d name c (altered_pool d name c) ≡ None → IsLetIn d (altered_pool d name c)
let_in-altered d name c sound named h =
    let row : PoolRow = altered_pool d name c in
    let range = first-none (total_out_of_range (with_pool d row) name c) _ h in
    let missing = first-none (pool_missing d name) _ range.1 in
    let built_in = first-none (general_reserves name c) _ missing.1 in
    let outcome = first-none (outcome_refusal (with_pool d row) row) _ built_in.1 in
    let changes = first-none (changes_full d) _ outcome.1 in
    let there : has_pool d name ≡ true = not-missing (has_pool d name) _ missing.0 in
    let total_in = total-altered d name c sound range.0 in
    let same : length (pools_with row d.pools) ≡ length d.pools = length_with-there (λ r. r.name) row d.pools (subst (λ n. has_pool d n ≡ true) (sym (pool_row-name d name)) there) in
    let few = sound.pool_count in
    record {
      in_range = altered-in_range d name c sound named;
      memory = λ is. general-keeps d name c sound built_in.0 (subst (λ n. same_name n general ≡ true) (pool_row-name d name) is);
      least = total_in.least;
      most = total_in.most;
      outcome = outcome.0;
      count = subst (λ n. n ≤ POOLS_MOST) (sym same) few;
      changes = not-full _ CHANGES_MOST d.changes changes.0;
    }

-- what is not refused leaves sound definitions
pub left-create_pool : (d : Definitions) (name : Name) (c : PoolChange) → IsSound d → is_pool_change_in_range c ≡ true
    → create_pool_refusal d name (created_pool d name c) ≡ None → IsLeft d (with_pool d (created_pool d name c))
left-create_pool d name c sound named h =
    let let_in = let_in-created d name c sound named h in
    record { sound = sound-with d (created_pool d name c) sound let_in; changes = let_in.changes }

pub left-alter_pool : (d : Definitions) (name : Name) (c : PoolChange) → IsSound d → is_pool_change_in_range c ≡ true
    → alter_pool_refusal d name c (altered_pool d name c) ≡ None → IsLeft d (with_pool d (altered_pool d name c))
left-alter_pool d name c sound named h =
    let let_in = let_in-altered d name c sound named h in
    record { sound = sound-with d (altered_pool d name c) sound let_in; changes = let_in.changes }
