-- DROP RESOURCE POOL leads from sound definitions to sound ones.
use Rattle.std.specs.Prelude.{◌≡◌, ℕ, zero, suc, ◌-◌, ◌≤◌, ◌<◌, Bool, true, false, cond, ◌&&◌, not, ◌==◌, List, [], ◌∷◌, ◌++◌, Option, Some, None, is_some, unwrap_or, option_map, find, map, sum_by, refl}
use Rattle.std.specs.List.{list_all, list_any}
use Rattle.std.proofs.Common.{sym, ap, ◌∙◌, subst, arith}
use Rattle.std.proofs.lemmas.Bool.{false≢true}
use Rattle.std.proofs.lemmas.List.{length-map}
use Rattle.std.proofs.lemmas.List.Sums.{sum_by-cons}
use Rattle.rm_base.specs.declared.limits.TheConstants.{CHANGES_MOST, CHAIN_MOST}
use Rattle.rm_base.specs.declared.definitions.Definitions.{Definitions}
use Rattle.rm_base.specs.declared.rows.PoolRow.{PoolRow}
use Rattle.rm_base.specs.declared.rows.UserRow.{UserRow}
use Rattle.rm_base.specs.declared.rows.RoleRow.{RoleRow}
use Rattle.rm_base.specs.declared.rows.GrantRow.{GrantRow}
use Rattle.rm_base.specs.declared.rows.GrantRow.TheVariants.{PoolToUser, PoolToRole, RoleToUser}
use Rattle.rm_base.specs.declared.name.Name.{Name}
use Rattle.rm_base.specs.declared.refusal.Refusal.{Refusal}
use Rattle.rm_base.specs.Name.{same_name, general, dbadmin}
use Rattle.rm_base.specs.Definitions.{default_pool_row}
use Rattle.rm_base.specs.Ranges.{passes_if_set, is_pool_in_range, is_user_in_range}
use Rattle.rm_base.proofs.Names.{same_name-eq, same_name-sym}
use Rattle.rm_rules.specs.Definitions.{pool_called, total, reserved, usable}
use Rattle.rm_rules.specs.Sound.{IsSound, begins_with_general, are_distinct, is_within_max, has_pool, has_user, has_role, chain_ends, is_grant_known}
use Rattle.rm_rules.specs.Tables.{without_row}
use Rattle.rm_rules.specs.Refusals.{pool_missing, changes_full}
use Rattle.rm_rules.specs.DropPool.{in_place, is_named, user_beside, role_beside, names_pool, without_pool, pool_built_in, pool_needed, drop_pool_refusal}
use Rattle.rm_rules.proofs.Taken.{and_left, and_right, and_both, all_found, not_false}
use Rattle.rm_rules.proofs.Rows.{called-named, all_but-all, all_but-find, all_but-fewer, distinct-behind}
use Rattle.rm_rules.proofs.Known.{general-there}
use Rattle.rm_rules.proofs.GrantLaws.{grants-stay}
use Rattle.rm_rules.proofs.Refused.{not-refused, first-none, not-missing, not-full, IsLeft}

-- the pools that are left
abbrev pub pools_left : List PoolRow → Name → List PoolRow
pools_left pools name = without_row (λ r. r.name) name pools

-- another pool is found as before
apart-turn : (a n name : Name) (b : Bool) → same_name a name ≡ b → same_name a n ≡ true → same_name n name ≡ false → b ≡ false
apart-turn a n name true e same apart = sym e ∙ ap (λ x. same_name x name) (same_name-eq a n same) ∙ apart
apart-turn a n name false e same apart = refl

pub called-left : (pools : List PoolRow) (name n : Name) → same_name n name ≡ false → pool_called (pools_left pools name) n ≡ pool_called pools n
called-left pools name n apart =
    all_but-find (λ (r : PoolRow). same_name r.name n) (λ r. same_name r.name name) pools (λ r same. apart-turn r.name n name (same_name r.name name) refl same apart)

has_pool-left : (d : Definitions) (name n : Name) → same_name n name ≡ false → has_pool d n ≡ true → has_pool (without_pool d name) n ≡ true
has_pool-left d name n apart there = ap (λ (o : Option PoolRow). is_some o) (called-left d.pools name n apart) ∙ there

-- GENERAL stays first
first-turn : (r : PoolRow) (rs : List PoolRow) (name : Name) (b : Bool) → same_name r.name name ≡ b → same_name general name ≡ false
    → begins_with_general (r ∷ rs) ≡ true → begins_with_general (cond (not b) (r ∷ pools_left rs name) (pools_left rs name)) ≡ true
first-turn r rs name true e apart begins =
    absurd (false≢true (sym (apart-turn r.name general name (same_name r.name name) refl (and_left (same_name r.name general) (r.memory == 0) begins) apart) ∙ e))
first-turn r rs name false e apart begins = begins

first_left : (pools : List PoolRow) (name : Name) → same_name general name ≡ false → begins_with_general pools ≡ true → begins_with_general (pools_left pools name) ≡ true
first_left [] name apart begins = begins
first_left (r ∷ rs) name apart begins = first-turn r rs name (same_name r.name name) refl apart begins

-- those that are left reserve no more than all did
reserved-turn : (r : PoolRow) (rs left : List PoolRow) (b : Bool) → sum_by (λ x. x.memory) left ≤ sum_by (λ x. x.memory) rs
    → sum_by (λ x. x.memory) (cond (not b) (r ∷ left) left) ≤ sum_by (λ x. x.memory) (r ∷ rs)
reserved-turn r rs left true behind = omega (arith, behind, sum_by-cons (λ (x : PoolRow). x.memory) r rs)
reserved-turn r rs left false behind = omega (arith, behind, sum_by-cons (λ (x : PoolRow). x.memory) r rs, sum_by-cons (λ (x : PoolRow). x.memory) r left)

reserved_left : (pools : List PoolRow) (name : Name) → sum_by (λ r. r.memory) (pools_left pools name) ≤ sum_by (λ r. r.memory) pools
reserved_left [] name = omega arith
reserved_left (r ∷ rs) name = reserved-turn r rs (pools_left rs name) (same_name r.name name) (reserved_left rs name)

-- where none is found, all fail the test
none-turn : {A : Type 0} (test : A → Bool) (x : A) (xs : List A) (b : Bool) → test x ≡ b → cond b (Some x) (find test xs) ≡ None
    → (find test xs ≡ None → list_all (λ y. not (test y)) xs ≡ true) → list_all (λ y. not (test y)) (x ∷ xs) ≡ true
none-turn test x xs true e none rest = absurd (cc)
none-turn test x xs false e none rest = and_both (not (test x)) (list_all (λ y. not (test y)) xs) (ap not e) (rest none)

none_found : {A : Type 0} (test : A → Bool) (xs : List A) → find test xs ≡ None → list_all (λ x. not (test x)) xs ≡ true
none_found test [] none = refl
none_found test (x ∷ xs) none = none-turn test x xs (test x) refl none (none_found test xs)

-- a chain goes on as before, where none cascades to the pool
ends-turn : (pools after : List PoolRow) (n : ℕ) (o : Option PoolRow) → elim o [ None ↦ false | Some r ↦ chain_ends pools n r.cascade ] ≡ true
    → ((r : PoolRow) → o ≡ Some r → chain_ends pools n r.cascade ≡ true → chain_ends after n r.cascade ≡ true)
    → elim o [ None ↦ false | Some r ↦ chain_ends after n r.cascade ] ≡ true
ends-turn pools after n None ends behind = ends
ends-turn pools after n (Some r) ends behind = behind r refl ends

pub ends_left : (pools : List PoolRow) (name : Name) → list_all (λ r. not (is_named name r.cascade)) pools ≡ true
    → (n : ℕ) (next : Option Name) → is_named name next ≡ false → chain_ends pools n next ≡ true → chain_ends (pools_left pools name) n next ≡ true
ends_left pools name free zero next apart ends = ends
ends_left pools name free (suc n) None apart ends = refl
ends_left pools name free (suc n) (Some m) apart ends =
    let after : List PoolRow = pools_left pools name in
    subst (λ o. elim o [ None ↦ false | Some r ↦ chain_ends after n r.cascade ] ≡ true) (sym (called-left pools name m apart))
    (ends-turn pools after n (pool_called pools m) ends
    (λ r found before. ends_left pools name free n r.cascade
    (not_false (is_named name r.cascade) (all_found (λ x. not (is_named name x.cascade)) (λ x. same_name x.name m) pools r free found)) before))

both_all : {A : Type 0} (p q : A → Bool) (xs : List A) → list_all p xs ≡ true → list_all q xs ≡ true → list_all (λ x. p x && q x) xs ≡ true
both_all p q [] left right = refl
both_all p q (x ∷ xs) left right =
    and_both (p x && q x) _ (and_both (p x) (q x) (and_left (p x) (list_all p xs) left) (and_left (q x) (list_all q xs) right))
    (both_all p q xs (and_right (p x) (list_all p xs) left) (and_right (q x) (list_all q xs) right))

chains_left : (pools : List PoolRow) (name : Name) (n : ℕ) → list_all (λ r. not (is_named name r.cascade)) pools ≡ true
    → list_all (λ r. chain_ends pools n r.cascade) pools ≡ true → list_all (λ r. chain_ends (pools_left pools name) n r.cascade) (pools_left pools name) ≡ true
chains_left pools name n free ends =
    all_but-all (λ r. chain_ends (pools_left pools name) n r.cascade) (λ r. not (is_named name r.cascade) && chain_ends pools n r.cascade) (λ r. same_name r.name name) pools
    (λ r stays both. ends_left pools name free n r.cascade (not_false (is_named name r.cascade) (and_left (not (is_named name r.cascade)) (chain_ends pools n r.cascade) both))
    (and_right (not (is_named name r.cascade)) (chain_ends pools n r.cascade) both))
    (both_all (λ r. not (is_named name r.cascade)) (λ r. chain_ends pools n r.cascade) pools free ends)

-- what all pass, and what those pass that it is made of
all_mapped : {A : Type 0} (p q : A → Bool) (f : A → A) (xs : List A) → ((x : A) → q x ≡ true → p (f x) ≡ true) → list_all q xs ≡ true → list_all p (map f xs) ≡ true
all_mapped p q f [] wider all = refl
all_mapped p q f (x ∷ xs) wider all =
    and_both (p (f x)) _ (wider x (and_left (q x) (list_all q xs) all)) (all_mapped p q f xs wider (and_right (q x) (list_all q xs) all))

-- users and roles keep their names
pub user_names-left : (users : List UserRow) (name : Name) → map (λ u. u.name) (map (user_beside name) users) ≡ map (λ u. u.name) users
user_names-left [] name = refl
user_names-left (u ∷ us) name = ap (λ ns. u.name ∷ ns) (user_names-left us name)

pub role_names-left : (roles : List RoleRow) (name : Name) → map (λ r. r.name) (map (role_beside name) roles) ≡ map (λ r. r.name) roles
role_names-left [] name = refl
role_names-left (r ∷ rs) name = ap (λ ns. r.name ∷ ns) (role_names-left rs name)

pub has_user-left : (d : Definitions) (name n : Name) → has_user (without_pool d name) n ≡ has_user d n
has_user-left d name n =
    called-named (λ (u : UserRow). u.name) (map (user_beside name) d.users) n
    ∙ ap (λ ns. list_any (same_name n) ns) (user_names-left d.users name)
    ∙ sym (called-named (λ (u : UserRow). u.name) d.users n)

pub has_role-left : (d : Definitions) (name n : Name) → has_role (without_pool d name) n ≡ has_role d n
has_role-left d name n =
    called-named (λ (r : RoleRow). r.name) (map (role_beside name) d.roles) n
    ∙ ap (λ ns. list_any (same_name n) ns) (role_names-left d.roles name)
    ∙ sym (called-named (λ (r : RoleRow). r.name) d.roles n)

-- the pools that users and roles have then are there
in_place-turn : (new : Definitions) (p : Name) (b : Bool) → has_pool new general ≡ true → (b ≡ false → has_pool new p ≡ true) → has_pool new (cond b general p) ≡ true
in_place-turn new p true first there = first
in_place-turn new p false first there = there refl

user-turn : (d : Definitions) (name : Name) (o : Option Name) → has_pool (without_pool d name) general ≡ true → passes_if_set (has_pool d) o ≡ true
    → passes_if_set (has_pool (without_pool d name)) (option_map (in_place name) o) ≡ true
user-turn d name None first there = refl
user-turn d name (Some p) first there = in_place-turn (without_pool d name) p (same_name p name) first (λ apart. has_pool-left d name p apart there)

kept-turn : (new : Definitions) (p : Name) (b : Bool) → (b ≡ false → has_pool new p ≡ true) → passes_if_set (has_pool new) (cond b None (Some p)) ≡ true
kept-turn new p true there = refl
kept-turn new p false there = there refl

role-turn : (d : Definitions) (name : Name) (o : Option Name) → passes_if_set (has_pool d) o ≡ true
    → passes_if_set (has_pool (without_pool d name)) (cond (is_named name o) None o) ≡ true
role-turn d name None there = refl
role-turn d name (Some p) there = kept-turn (without_pool d name) p (same_name p name) (λ apart. has_pool-left d name p apart there)

-- a grant that does not name the pool stays known
known-left : (d : Definitions) (name : Name) (g : GrantRow) → names_pool name g ≡ false → is_grant_known d g ≡ true → is_grant_known (without_pool d name) g ≡ true
known-left d name (PoolToUser p u) apart known =
    and_both (has_pool (without_pool d name) p) _ (has_pool-left d name p apart (and_left (has_pool d p) (has_user d u) known))
    (has_user-left d name u ∙ and_right (has_pool d p) (has_user d u) known)
known-left d name (PoolToRole p r) apart known =
    and_both (has_pool (without_pool d name) p) _ (has_pool-left d name p apart (and_left (has_pool d p) (has_role d r) known))
    (has_role-left d name r ∙ and_right (has_pool d p) (has_role d r) known)
known-left d name (RoleToUser r u) apart known =
    and_both (has_role (without_pool d name) r) _ (has_role-left d name r ∙ and_left (has_role d r) (has_user d u) known)
    (has_user-left d name u ∙ and_right (has_role d r) (has_user d u) known)

-- the total is as before, and no more is reserved
pub total-left : (d : Definitions) (name : Name) → same_name general name ≡ false → total (without_pool d name) ≡ total d
total-left d name apart = ap (λ o. unwrap_or ((unwrap_or o (default_pool_row general)).max) (usable d.memory)) (called-left d.pools name general apart)

pub reserved-left : (d : Definitions) (name : Name) → reserved (without_pool d name) ≤ reserved d
reserved-left d name = reserved_left d.pools name

-- another pool than GENERAL, to which none cascades, leaves sound definitions
sound-without_pool : (d : Definitions) (name : Name) → IsSound d → same_name general name ≡ false → list_all (λ r. not (is_named name r.cascade)) d.pools ≡ true
    → IsSound (without_pool d name)
sound-without_pool d name sound apart free =
    let new : Definitions = without_pool d name in
    let first : has_pool new general ≡ true = has_pool-left d name general apart (general-there d sound) in
    let same : total new ≡ total d = total-left d name apart in
    let least = sound.total_least in
    let most = sound.total_most in
    let within = sound.reserved_most in
    let quarter = sound.quarter_left in
    let fewer = reserved-left d name in
    record {
      memory = sound.memory;
      cores = sound.cores;
      changes = sound.changes;
      pool_count = omega (arith, sound.pool_count, all_but-fewer (λ (r : PoolRow). same_name r.name name) d.pools);
      user_count = omega (arith, sound.user_count, length-map d.users (user_beside name));
      role_count = omega (arith, sound.role_count, length-map d.roles (role_beside name));
      grant_count = omega (arith, sound.grant_count, all_but-fewer (names_pool name) d.grants);
      general_first = first_left d.pools name apart sound.general_first;
      dbadmin_there = has_user-left d name dbadmin ∙ sound.dbadmin_there;
      pools_distinct = distinct-behind (λ (r : PoolRow). r.name) (λ r. same_name r.name name) [] d.pools sound.pools_distinct;
      users_distinct = ap (λ ns. are_distinct (ns ++ map (λ r. r.name) new.roles)) (user_names-left d.users name)
          ∙ ap (λ ns. are_distinct (map (λ (u : UserRow). u.name) d.users ++ ns)) (role_names-left d.roles name)
          ∙ sound.users_distinct;
      pools_in_range = all_but-all is_pool_in_range is_pool_in_range (λ r. same_name r.name name) d.pools (λ r stays passes. passes) sound.pools_in_range;
      users_in_range = all_mapped is_user_in_range is_user_in_range (user_beside name) d.users (λ u passes. passes) sound.users_in_range;
      pools_within_max = all_but-all is_within_max is_within_max (λ r. same_name r.name name) d.pools (λ r stays passes. passes) sound.pools_within_max;
      total_least = omega (arith, same, least);
      total_most = omega (arith, same, most);
      reserved_most = omega (arith, same, within, fewer);
      quarter_left = omega (arith, same, within, fewer, quarter);
      chains_end = chains_left d.pools name (CHAIN_MOST - 1) free sound.chains_end;
      user_pools_there = all_mapped (λ u. passes_if_set (has_pool new) u.pool) (λ u. passes_if_set (has_pool d) u.pool) (user_beside name) d.users
          (λ u there. user-turn d name u.pool first there) sound.user_pools_there;
      role_pools_there = all_mapped (λ r. passes_if_set (has_pool new) r.pool) (λ r. passes_if_set (has_pool d) r.pool) (role_beside name) d.roles
          (λ r there. role-turn d name r.pool there) sound.role_pools_there;
      grants_known = all_but-all (is_grant_known new) (is_grant_known d) (names_pool name) d.grants (λ g stays known. known-left d name g stays known) sound.grants_known;
      grants_distinct = grants-stay (names_pool name) d.grants sound.grants_distinct;
    }

-- what a drop that is not refused says of the pool
pub record IsDropped (d : Definitions) (name : Name) : Type 0 where
  pub there : has_pool d name ≡ true
  pub other : same_name general name ≡ false
  pub free : list_all (λ r. not (is_named name r.cascade)) d.pools ≡ true
  pub changes : d.changes < CHANGES_MOST

not-needed : {A : Type 0} (f : A → Refusal) (o : Option A) → option_map f o ≡ None → o ≡ None
not-needed f None h = refl
not-needed f (Some x) h = absurd (cc)

pub drop-free : (d : Definitions) (name : Name) → drop_pool_refusal d name ≡ None → IsDropped d name
drop-free d name h =
    let missing = first-none (pool_missing d name) _ h in
    let built_in = first-none (pool_built_in name) _ missing.1 in
    let needed = first-none (pool_needed d.pools name) _ built_in.1 in
    let changes = first-none (changes_full d) _ needed.1 in
    record {
      there = not-missing (has_pool d name) _ missing.0;
      other = same_name-sym general name ∙ not-refused (same_name name general) _ built_in.0;
      free = none_found (λ r. is_named name r.cascade) d.pools (not-needed _ (find (λ (r : PoolRow). is_named name r.cascade) d.pools) needed.0);
      changes = not-full _ CHANGES_MOST d.changes changes.0;
    }

-- what is not refused leaves sound definitions
pub left-drop_pool : (d : Definitions) (name : Name) → IsSound d → drop_pool_refusal d name ≡ None → IsLeft d (without_pool d name)
left-drop_pool d name sound h =
    let dropped = drop-free d name h in
    record { sound = sound-without_pool d name sound dropped.other dropped.free; changes = dropped.changes }
