-- CREATE, ALTER and DROP of users and roles leave sound definitions.
use Rattle.std.specs.Prelude.{◌≡◌, ℕ, ◌≤◌, ◌<◌, Bool, true, false, List, ◌++◌, length, map, Option, Some, None, is_some, unwrap_or, refl}
use Rattle.std.specs.List.{list_all, list_any}
use Rattle.std.proofs.Common.{sym, ap, ◌∙◌, subst, arith}
use Rattle.std.proofs.lemmas.Bool.{false≢true}
use Rattle.std.proofs.lemmas.List.Folds.{list_any-append}
use Rattle.rm_base.specs.declared.limits.TheConstants.{USERS_MOST, ROLES_MOST, CHANGES_MOST}
use Rattle.rm_base.specs.declared.definitions.Definitions.{Definitions}
use Rattle.rm_base.specs.declared.rows.UserRow.{UserRow}
use Rattle.rm_base.specs.declared.rows.RoleRow.{RoleRow}
use Rattle.rm_base.specs.declared.rows.GrantRow.{GrantRow}
use Rattle.rm_base.specs.declared.rows.GrantRow.TheVariants.{PoolToUser, PoolToRole, RoleToUser}
use Rattle.rm_base.specs.declared.name.Name.{Name}
use Rattle.rm_base.specs.declared.statement.UserChange.{UserChange}
use Rattle.rm_base.specs.Name.{same_name, dbadmin}
use Rattle.rm_base.specs.Definitions.{default_user_row}
use Rattle.rm_base.specs.Ranges.{passes_if_set, is_user_in_range, is_user_change_in_range}
use Rattle.rm_base.proofs.Names.{same_name-eq, same_name-sym, same_name-refl}
use Rattle.rm_rules.specs.Definitions.{user_called}
use Rattle.rm_rules.specs.Sound.{IsSound, are_distinct, has_pool, has_user, has_role, has_grantee, is_grant_known}
use Rattle.rm_rules.specs.Tables.{with_row, all_but}
use Rattle.rm_rules.specs.Refusals.{grantee_taken, given_pool_missing, user_missing, role_missing, changes_full}
use Rattle.rm_rules.specs.UserStatements.{user_row, created_user, altered_user, role_with, given_pool, with_user, with_role, names_user, names_role, without_user, without_role, user_built_in, users_full, roles_full, create_user_refusal, alter_user_refusal, drop_user_refusal, create_role_refusal, alter_role_refusal, drop_role_refusal}
use Rattle.rm_rules.proofs.Taken.{and_left, and_right, and_both, all_found, found_passes, all_wider, or_left_false, or_right_false, or_both_false}
use Rattle.rm_rules.proofs.Rows.{all_with, there_with, called-named, length_with-there, length_with-most, distinct_with-front, distinct_with-behind, all_but-all, all_but-find, all_but-fewer, distinct-front, distinct-behind}
use Rattle.rm_rules.proofs.Refused.{not-refused, first-none, not-missing, not-full, IsLeft}
use Rattle.rm_rules.proofs.Sizes.{sound_memory_most}
use Rattle.rm_rules.proofs.AcceptanceRanges.{user-in_range}
use Rattle.rm_rules.proofs.GrantLaws.{sound-fewer_grants}

-- the names of users, and of roles
abbrev user_names : Definitions → List Name
user_names d = map (λ u. u.name) d.users

abbrev role_names : Definitions → List Name
role_names d = map (λ r. r.name) d.roles

-- other users leave definitions sound, where they are as sound definitions ask
pub record AreRightUsers (d : Definitions) (users : List UserRow) : Type 0 where
  pub count : length users ≤ USERS_MOST
  pub dbadmin_there : is_some (user_called users dbadmin) ≡ true
  pub distinct : are_distinct (map (λ u. u.name) users ++ role_names d) ≡ true
  pub in_range : list_all is_user_in_range users ≡ true
  pub pools_there : list_all (λ u. passes_if_set (has_pool d) u.pool) users ≡ true
  pub grants_known : (let new : Definitions = record d { users = users } in list_all (is_grant_known new) d.grants ≡ true)

sound-users : (d : Definitions) (users : List UserRow) → IsSound d → AreRightUsers d users → (let new : Definitions = record d { users = users } in IsSound new)
sound-users d users sound right = record {
  memory = sound.memory;
  cores = sound.cores;
  changes = sound.changes;
  pool_count = sound.pool_count;
  user_count = right.count;
  role_count = sound.role_count;
  grant_count = sound.grant_count;
  general_first = sound.general_first;
  dbadmin_there = right.dbadmin_there;
  pools_distinct = sound.pools_distinct;
  users_distinct = right.distinct;
  pools_in_range = sound.pools_in_range;
  users_in_range = right.in_range;
  pools_within_max = sound.pools_within_max;
  total_least = sound.total_least;
  total_most = sound.total_most;
  reserved_most = sound.reserved_most;
  quarter_left = sound.quarter_left;
  chains_end = sound.chains_end;
  user_pools_there = right.pools_there;
  role_pools_there = sound.role_pools_there;
  grants_known = right.grants_known;
  grants_distinct = sound.grants_distinct;
}

-- so do other roles
pub record AreRightRoles (d : Definitions) (roles : List RoleRow) : Type 0 where
  pub count : length roles ≤ ROLES_MOST
  pub distinct : are_distinct (user_names d ++ map (λ r. r.name) roles) ≡ true
  pub pools_there : list_all (λ r. passes_if_set (has_pool d) r.pool) roles ≡ true
  pub grants_known : (let new : Definitions = record d { roles = roles } in list_all (is_grant_known new) d.grants ≡ true)

sound-roles : (d : Definitions) (roles : List RoleRow) → IsSound d → AreRightRoles d roles → (let new : Definitions = record d { roles = roles } in IsSound new)
sound-roles d roles sound right = record {
  memory = sound.memory;
  cores = sound.cores;
  changes = sound.changes;
  pool_count = sound.pool_count;
  user_count = sound.user_count;
  role_count = right.count;
  grant_count = sound.grant_count;
  general_first = sound.general_first;
  dbadmin_there = sound.dbadmin_there;
  pools_distinct = sound.pools_distinct;
  users_distinct = right.distinct;
  pools_in_range = sound.pools_in_range;
  users_in_range = sound.users_in_range;
  pools_within_max = sound.pools_within_max;
  total_least = sound.total_least;
  total_most = sound.total_most;
  reserved_most = sound.reserved_most;
  quarter_left = sound.quarter_left;
  chains_end = sound.chains_end;
  user_pools_there = sound.user_pools_there;
  role_pools_there = right.pools_there;
  grants_known = right.grants_known;
  grants_distinct = sound.grants_distinct;
}

-- a name of no user and no role is none of theirs
free-name : (d : Definitions) (name : Name) → has_grantee d name ≡ false → list_any (same_name name) (user_names d ++ role_names d) ≡ false
free-name d name free =
    list_any-append (same_name name) (user_names d) (role_names d)
    ∙ or_both_false (list_any (same_name name) (user_names d)) (list_any (same_name name) (role_names d))
    (sym (called-named (λ (u : UserRow). u.name) d.users name) ∙ or_left_false (has_user d name) (has_role d name) free)
    (sym (called-named (λ (r : RoleRow). r.name) d.roles name) ∙ or_right_false (has_user d name) (has_role d name) free)

-- a grant that is known stays known where users and roles stay there
known-wider : (d new : Definitions) (g : GrantRow) → ((n : Name) → has_pool d n ≡ true → has_pool new n ≡ true) → ((n : Name) → names_user n g ≡ true → has_user d n ≡ true → has_user new n ≡ true)
    → ((n : Name) → names_role n g ≡ true → has_role d n ≡ true → has_role new n ≡ true) → is_grant_known d g ≡ true → is_grant_known new g ≡ true
known-wider d new (PoolToUser p u) pools users roles known =
    and_both (has_pool new p) (has_user new u) (pools p (and_left (has_pool d p) (has_user d u) known)) (users u (same_name-refl u) (and_right (has_pool d p) (has_user d u) known))
known-wider d new (PoolToRole p r) pools users roles known =
    and_both (has_pool new p) (has_role new r) (pools p (and_left (has_pool d p) (has_role d r) known)) (roles r (same_name-refl r) (and_right (has_pool d p) (has_role d r) known))
known-wider d new (RoleToUser r u) pools users roles known =
    and_both (has_role new r) (has_user new u) (roles r (same_name-refl r) (and_left (has_role d r) (has_user d u) known)) (users u (same_name-refl u) (and_right (has_role d r) (has_user d u) known))

-- a user's row that the rules let in
pub record IsUserLetIn (d : Definitions) (row : UserRow) : Type 0 where
  pub in_range : is_user_in_range row ≡ true
  pub pool_there : passes_if_set (has_pool d) row.pool ≡ true
  pub count : length (with_user d row).users ≤ USERS_MOST
  pub new : has_user d row.name ≡ false → has_grantee d row.name ≡ false

sound-with_user : (d : Definitions) (row : UserRow) → IsSound d → IsUserLetIn d row → IsSound (with_user d row)
sound-with_user d row sound let_in = sound-users d (with_user d row).users sound (record {
  count = let_in.count;
  dbadmin_there = there_with (λ (u : UserRow). u.name) row d.users dbadmin sound.dbadmin_there;
  distinct = distinct_with-front (λ (u : UserRow). u.name) row d.users (role_names d) sound.users_distinct (λ absent. free-name d row.name (let_in.new absent));
  in_range = all_with (λ u. u.name) is_user_in_range row d.users sound.users_in_range let_in.in_range;
  pools_there = all_with (λ u. u.name) (λ u. passes_if_set (has_pool d) u.pool) row d.users sound.user_pools_there let_in.pool_there;
  grants_known = all_wider (is_grant_known d) (is_grant_known (with_user d row)) d.grants
      (λ g. known-wider d (with_user d row) g (λ n there. there) (λ n named there. there_with (λ (u : UserRow). u.name) row d.users n there) (λ n named there. there))
      sound.grants_known;
})

-- a role's row that the rules let in
pub record IsRoleLetIn (d : Definitions) (row : RoleRow) : Type 0 where
  pub pool_there : passes_if_set (has_pool d) row.pool ≡ true
  pub count : length (with_role d row).roles ≤ ROLES_MOST
  pub new : has_role d row.name ≡ false → has_grantee d row.name ≡ false

sound-with_role : (d : Definitions) (row : RoleRow) → IsSound d → IsRoleLetIn d row → IsSound (with_role d row)
sound-with_role d row sound let_in = sound-roles d (with_role d row).roles sound (record {
  count = let_in.count;
  distinct = distinct_with-behind (λ (r : RoleRow). r.name) row (user_names d) d.roles sound.users_distinct (λ absent. free-name d row.name (let_in.new absent));
  pools_there = all_with (λ r. r.name) (λ r. passes_if_set (has_pool d) r.pool) row d.roles sound.role_pools_there let_in.pool_there;
  grants_known = all_wider (is_grant_known d) (is_grant_known (with_role d row)) d.grants
      (λ g. known-wider d (with_role d row) g (λ n there. there) (λ n named there. there) (λ n named there. there_with (λ (r : RoleRow). r.name) row d.roles n there))
      sound.grants_known;
})

-- who has another name stays there
apart-turn : (a n name : Name) (b : Bool) → same_name a name ≡ b → same_name a n ≡ true → same_name n name ≡ false → b ≡ false
apart-turn a n name true e same apart = sym e ∙ ap (λ x. same_name x name) (same_name-eq a n same) ∙ apart
apart-turn a n name false e same apart = refl

pub user-stays : (d : Definitions) (name n : Name) → same_name n name ≡ false → has_user d n ≡ true → has_user (without_user d name) n ≡ true
user-stays d name n apart there =
    ap (λ (o : Option UserRow). is_some o)
    (all_but-find (λ (u : UserRow). same_name u.name n) (λ u. same_name u.name name) d.users (λ u same. apart-turn u.name n name (same_name u.name name) refl same apart))
    ∙ there

pub role-stays : (d : Definitions) (name n : Name) → same_name n name ≡ false → has_role d n ≡ true → has_role (without_role d name) n ≡ true
role-stays d name n apart there =
    ap (λ (o : Option RoleRow). is_some o)
    (all_but-find (λ (r : RoleRow). same_name r.name n) (λ r. same_name r.name name) d.roles (λ r same. apart-turn r.name n name (same_name r.name name) refl same apart))
    ∙ there

-- a grant names one user at most, and one role
other-user : (g : GrantRow) (n name : Name) → names_user name g ≡ false → names_user n g ≡ true → same_name n name ≡ false
other-user (PoolToUser p u) n name apart named = ap (λ x. same_name x name) (sym (same_name-eq u n named)) ∙ apart
other-user (PoolToRole p r) n name apart named = absurd (false≢true named)
other-user (RoleToUser r u) n name apart named = ap (λ x. same_name x name) (sym (same_name-eq u n named)) ∙ apart

other-role : (g : GrantRow) (n name : Name) → names_role name g ≡ false → names_role n g ≡ true → same_name n name ≡ false
other-role (PoolToUser p u) n name apart named = absurd (false≢true named)
other-role (PoolToRole p r) n name apart named = ap (λ x. same_name x name) (sym (same_name-eq r n named)) ∙ apart
other-role (RoleToUser r u) n name apart named = ap (λ x. same_name x name) (sym (same_name-eq r n named)) ∙ apart

-- a user less, with the grants that name it, and so a role less
sound-without_user : (d : Definitions) (name : Name) → IsSound d → same_name dbadmin name ≡ false → IsSound (without_user d name)
sound-without_user d name sound other =
    let rest : Definitions = record d { grants = all_but (names_user name) d.grants } in
    sound-users rest (without_user d name).users (sound-fewer_grants d (names_user name) sound) (record {
      count = omega (arith, sound.user_count, all_but-fewer (λ (u : UserRow). same_name u.name name) d.users);
      dbadmin_there = user-stays d name dbadmin other sound.dbadmin_there;
      distinct = distinct-front (λ (u : UserRow). u.name) (λ u. same_name u.name name) d.users (role_names d) sound.users_distinct;
      in_range = all_but-all is_user_in_range is_user_in_range (λ u. same_name u.name name) d.users (λ u stays passes. passes) sound.users_in_range;
      pools_there = all_but-all (λ u. passes_if_set (has_pool d) u.pool) (λ u. passes_if_set (has_pool d) u.pool) (λ u. same_name u.name name) d.users (λ u stays passes. passes) sound.user_pools_there;
      grants_known = all_but-all (is_grant_known (without_user d name)) (is_grant_known d) (names_user name) d.grants
          (λ g stays. known-wider d (without_user d name) g (λ n there. there) (λ n named. user-stays d name n (other-user g n name stays named)) (λ n named there. there))
          sound.grants_known;
    })

sound-without_role : (d : Definitions) (name : Name) → IsSound d → IsSound (without_role d name)
sound-without_role d name sound =
    let rest : Definitions = record d { grants = all_but (names_role name) d.grants } in
    sound-roles rest (without_role d name).roles (sound-fewer_grants d (names_role name) sound) (record {
      count = omega (arith, sound.role_count, all_but-fewer (λ (r : RoleRow). same_name r.name name) d.roles);
      distinct = distinct-behind (λ (r : RoleRow). r.name) (λ r. same_name r.name name) (user_names d) d.roles sound.users_distinct;
      pools_there = all_but-all (λ r. passes_if_set (has_pool d) r.pool) (λ r. passes_if_set (has_pool d) r.pool) (λ r. same_name r.name name) d.roles (λ r stays passes. passes) sound.role_pools_there;
      grants_known = all_but-all (is_grant_known (without_role d name)) (is_grant_known d) (names_role name) d.grants
          (λ g stays. known-wider d (without_role d name) g (λ n there. there) (λ n named there. there) (λ n named. role-stays d name n (other-role g n name stays named)))
          sound.grants_known;
    })

-- a pool that is given is there, and one that is kept
given-there : (d : Definitions) (pool : Option Name) → given_pool_missing d pool ≡ None → passes_if_set (has_pool d) pool ≡ true
given-there d None h = refl
given-there d (Some pool) h = not-missing (has_pool d pool) _ h

pool-there : (d : Definitions) (named : Option (Option Name)) (had : Option Name) → given_pool_missing d (unwrap_or named None) ≡ None → passes_if_set (has_pool d) had ≡ true
    → passes_if_set (has_pool d) (unwrap_or named had) ≡ true
pool-there d None had h kept = kept
pool-there d (Some pool) had h kept = given-there d pool h

-- the row of a user
name-turn : (users : List UserRow) (name : Name) (o : Option UserRow) → user_called users name ≡ o → (unwrap_or o (default_user_row name)).name ≡ name
name-turn users name None e = refl
name-turn users name (Some u) e = same_name-eq u.name name (found_passes (λ x. same_name x.name name) u users e)

user_row-name : (d : Definitions) (name : Name) → (user_row d name).name ≡ name
user_row-name d name = name-turn d.users name (user_called d.users name) refl

passes-turn : (p : UserRow → Bool) (users : List UserRow) (name : Name) (o : Option UserRow) → user_called users name ≡ o → list_all p users ≡ true → p (default_user_row name) ≡ true
    → p (unwrap_or o (default_user_row name)) ≡ true
passes-turn p users name None e all default = default
passes-turn p users name (Some u) e all default = all_found p (λ x. same_name x.name name) users u all e

user_row-passes : (p : UserRow → Bool) (d : Definitions) (name : Name) → list_all p d.users ≡ true → p (default_user_row name) ≡ true → p (user_row d name) ≡ true
user_row-passes p d name all default = passes-turn p d.users name (user_called d.users name) refl all default

-- one row more fits where the table is not full
one-more : {A : Type 0} (name_of : A → Name) (row : A) (rows : List A) (most : ℕ) → length rows < most → length (with_row name_of row rows) ≤ most
one-more name_of row rows most room = omega (arith, room, length_with-most name_of row rows)

-- what is not refused leaves sound definitions
pub left-create_user : (d : Definitions) (name : Name) (c : UserChange) → IsSound d → is_user_change_in_range c ≡ true → create_user_refusal d name c ≡ None → IsLeft d (with_user d (created_user d name c))
left-create_user d name c sound named h =
    let taken = first-none (grantee_taken d name) _ h in
    let missing = first-none (given_pool_missing d (given_pool c)) _ taken.1 in
    let full = first-none (users_full d) _ missing.1 in
    let changes = first-none (changes_full d) _ full.1 in
    let free : has_grantee d name ≡ false = not-refused (has_grantee d name) _ taken.0 in
    record {
      sound = sound-with_user d (created_user d name c) sound (record {
        in_range = user-in_range d (default_user_row name) c (sound_memory_most d sound) sound.total_most named refl;
        pool_there = pool-there d c.pool None missing.0 refl;
        count = one-more (λ (u : UserRow). u.name) (created_user d name c) d.users USERS_MOST (not-full _ USERS_MOST (length d.users) full.0);
        new = λ absent. free;
      });
      changes = not-full _ CHANGES_MOST d.changes changes.0;
    }

pub left-alter_user : (d : Definitions) (name : Name) (c : UserChange) → IsSound d → is_user_change_in_range c ≡ true → alter_user_refusal d name c ≡ None → IsLeft d (with_user d (altered_user d name c))
left-alter_user d name c sound named h =
    let missing = first-none (given_pool_missing d (given_pool c)) _ h in
    let absent = first-none (user_missing d name) _ missing.1 in
    let changes = first-none (changes_full d) _ absent.1 in
    let row = altered_user d name c in
    let there : has_user d row.name ≡ true = subst (λ n. has_user d n ≡ true) (sym (user_row-name d name)) (not-missing (has_user d name) _ absent.0) in
    let count = sound.user_count in
    record {
      sound = sound-with_user d row sound (record {
        in_range = user-in_range d (user_row d name) c (sound_memory_most d sound) sound.total_most named (user_row-passes is_user_in_range d name sound.users_in_range refl);
        pool_there = pool-there d c.pool (user_row d name).pool missing.0 (user_row-passes (λ u. passes_if_set (has_pool d) u.pool) d name sound.user_pools_there refl);
        count = subst (λ n. n ≤ USERS_MOST) (sym (length_with-there (λ (u : UserRow). u.name) row d.users there)) count;
        new = λ none. absurd (false≢true (sym none ∙ there));
      });
      changes = not-full _ CHANGES_MOST d.changes changes.0;
    }

pub left-drop_user : (d : Definitions) (name : Name) → IsSound d → drop_user_refusal d name ≡ None → IsLeft d (without_user d name)
left-drop_user d name sound h =
    let absent = first-none (user_missing d name) _ h in
    let built_in = first-none (user_built_in name) _ absent.1 in
    let changes = first-none (changes_full d) _ built_in.1 in
    record {
      sound = sound-without_user d name sound (same_name-sym dbadmin name ∙ not-refused (same_name name dbadmin) _ built_in.0);
      changes = not-full _ CHANGES_MOST d.changes changes.0;
    }

pub left-create_role : (d : Definitions) (name : Name) → IsSound d → create_role_refusal d name ≡ None → IsLeft d (with_role d (role_with name None))
left-create_role d name sound h =
    let taken = first-none (grantee_taken d name) _ h in
    let full = first-none (roles_full d) _ taken.1 in
    let changes = first-none (changes_full d) _ full.1 in
    let free : has_grantee d name ≡ false = not-refused (has_grantee d name) _ taken.0 in
    record {
      sound = sound-with_role d (role_with name None) sound (record {
        pool_there = refl;
        count = one-more (λ (r : RoleRow). r.name) (role_with name None) d.roles ROLES_MOST (not-full _ ROLES_MOST (length d.roles) full.0);
        new = λ absent. free;
      });
      changes = not-full _ CHANGES_MOST d.changes changes.0;
    }

pub left-alter_role : (d : Definitions) (name : Name) (pool : Option Name) → IsSound d → alter_role_refusal d name pool ≡ None → IsLeft d (with_role d (role_with name pool))
left-alter_role d name pool sound h =
    let missing = first-none (given_pool_missing d pool) _ h in
    let absent = first-none (role_missing d name) _ missing.1 in
    let changes = first-none (changes_full d) _ absent.1 in
    let row = role_with name pool in
    let there : has_role d name ≡ true = not-missing (has_role d name) _ absent.0 in
    let count = sound.role_count in
    record {
      sound = sound-with_role d row sound (record {
        pool_there = given-there d pool missing.0;
        count = subst (λ n. n ≤ ROLES_MOST) (sym (length_with-there (λ (r : RoleRow). r.name) row d.roles there)) count;
        new = λ none. absurd (false≢true (sym none ∙ there));
      });
      changes = not-full _ CHANGES_MOST d.changes changes.0;
    }

pub left-drop_role : (d : Definitions) (name : Name) → IsSound d → drop_role_refusal d name ≡ None → IsLeft d (without_role d name)
left-drop_role d name sound h =
    let absent = first-none (role_missing d name) _ h in
    let changes = first-none (changes_full d) _ absent.1 in
    record {
      sound = sound-without_role d name sound;
      changes = not-full _ CHANGES_MOST d.changes changes.0;
    }
