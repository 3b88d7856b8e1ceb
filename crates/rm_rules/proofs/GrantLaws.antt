-- GRANT and REVOKE leave sound definitions.
use Rattle.std.specs.Prelude.{◌≡◌, ◌≤◌, ◌<◌, Bool, true, false, ◌&&◌, ◌||◌, not, cond, List, [], ◌∷◌, ◌++◌, length, None, refl}
use Rattle.std.specs.List.{list_all, list_any}
use Rattle.std.proofs.Common.{ap, ◌∙◌, arith}
use Rattle.std.proofs.lemmas.List.{length_push}
use Rattle.rm_base.specs.declared.limits.TheConstants.{GRANTS_MOST, CHANGES_MOST}
use Rattle.rm_base.specs.declared.definitions.Definitions.{Definitions}
use Rattle.rm_base.specs.declared.rows.GrantRow.{GrantRow}
use Rattle.rm_base.specs.declared.rows.GrantRow.TheVariants.{PoolToUser, PoolToRole, RoleToUser}
use Rattle.rm_base.specs.declared.name.Name.{Name}
use Rattle.rm_base.specs.declared.refusal.TableKind.TheVariants as table
use Rattle.rm_base.specs.Name.{same_name}
use Rattle.rm_base.proofs.Names.{same_name-sym}
use Rattle.rm_rules.specs.Sound.{IsSound, has_pool, has_user, has_role, has_grantee, is_grant_known, same_grant, has_grant, are_grants_distinct}
use Rattle.rm_rules.specs.Tables.{all_but}
use Rattle.rm_rules.specs.Refusals.{pool_missing, user_missing, role_missing, grantee_missing, table_full, changes_full}
use Rattle.rm_rules.specs.GrantStatements.{usage_grant, with_grant, without_grant, grants_full, grant_usage_refusal, revoke_usage_refusal, grant_role_refusal, revoke_role_refusal}
use Rattle.rm_rules.proofs.Taken.{and_left, and_right, and_both, all_push, or_left_false, or_right_false, or_both_false, not_false}
use Rattle.rm_rules.proofs.Rows.{all_but-all, all_but-none, all_but-fewer}
use Rattle.rm_rules.proofs.Refused.{first-none, not-missing, not-full, IsLeft}

-- two grants are one whichever is named first
both-sym : (a b c d : Name) → (same_name a c && same_name b d) ≡ (same_name c a && same_name d b)
both-sym a b c d = ap (λ x. x && same_name b d) (same_name-sym a c) ∙ ap (λ x. same_name c a && x) (same_name-sym b d)

pub same_grant-sym : (g h : GrantRow) → same_grant g h ≡ same_grant h g
same_grant-sym (PoolToUser a b) (PoolToUser c d) = both-sym a b c d
same_grant-sym (PoolToUser a b) (PoolToRole c d) = refl
same_grant-sym (PoolToUser a b) (RoleToUser c d) = refl
same_grant-sym (PoolToRole a b) (PoolToUser c d) = refl
same_grant-sym (PoolToRole a b) (PoolToRole c d) = both-sym a b c d
same_grant-sym (PoolToRole a b) (RoleToUser c d) = refl
same_grant-sym (RoleToUser a b) (PoolToUser c d) = refl
same_grant-sym (RoleToUser a b) (PoolToRole c d) = refl
same_grant-sym (RoleToUser a b) (RoleToUser c d) = both-sym a b c d

-- a grant that is not among distinct ones leaves them distinct, as the last
none-push : {A : Type 0} (p : A → Bool) (xs : List A) (y : A) → list_any p xs ≡ false → p y ≡ false → list_any p (xs ++ y ∷ []) ≡ false
none-push p [] y none here = or_both_false (p y) false here refl
none-push p (x ∷ xs) y none here =
    or_both_false (p x) (list_any p (xs ++ y ∷ [])) (or_left_false (p x) (list_any p xs) none) (none-push p xs y (or_right_false (p x) (list_any p xs) none) here)

grants-push : (gs : List GrantRow) (g : GrantRow) → has_grant gs g ≡ false → are_grants_distinct gs ≡ true → are_grants_distinct (gs ++ g ∷ []) ≡ true
grants-push [] g new distinct = refl
grants-push (h ∷ gs) g new distinct =
    let apart : same_grant h g ≡ false = same_grant-sym h g ∙ or_left_false (same_grant g h) (has_grant gs g) new in
    let first : has_grant gs h ≡ false = not_false (has_grant gs h) (and_left (not (has_grant gs h)) (are_grants_distinct gs) distinct) in
    and_both (not (has_grant (gs ++ g ∷ []) h)) (are_grants_distinct (gs ++ g ∷ [])) (ap not (none-push (same_grant h) gs g first apart))
    (grants-push gs g (or_right_false (same_grant g h) (has_grant gs g) new) (and_right (not (has_grant gs h)) (are_grants_distinct gs) distinct))

-- those that stay are distinct
stays-turn : (g : GrantRow) (gs kept : List GrantRow) (b : Bool) → (has_grant gs g ≡ false → has_grant kept g ≡ false)
    → (not (has_grant gs g) && are_grants_distinct gs) ≡ true → are_grants_distinct kept ≡ true → are_grants_distinct (cond (not b) (g ∷ kept) kept) ≡ true
stays-turn g gs kept true none distinct rest = rest
stays-turn g gs kept false none distinct rest =
    and_both (not (has_grant kept g)) (are_grants_distinct kept) (ap not (none (not_false (has_grant gs g) (and_left (not (has_grant gs g)) (are_grants_distinct gs) distinct)))) rest

pub grants-stay : (test : GrantRow → Bool) (gs : List GrantRow) → are_grants_distinct gs ≡ true → are_grants_distinct (all_but test gs) ≡ true
grants-stay test [] distinct = refl
grants-stay test (g ∷ gs) distinct =
    stays-turn g gs (all_but test gs) (test g) (all_but-none (same_grant g) test gs) distinct
    (grants-stay test gs (and_right (not (has_grant gs g)) (are_grants_distinct gs) distinct))

-- other grants leave definitions sound, where there is room for them and each names what is there and stands once
pub sound-grants : (d : Definitions) (grants : List GrantRow) → IsSound d → length grants ≤ GRANTS_MOST → list_all (is_grant_known d) grants ≡ true → are_grants_distinct grants ≡ true
    → (let new : Definitions = record d { grants = grants } in IsSound new)
sound-grants d grants sound few known distinct = record {
  memory = sound.memory;
  cores = sound.cores;
  changes = sound.changes;
  pool_count = sound.pool_count;
  user_count = sound.user_count;
  role_count = sound.role_count;
  grant_count = few;
  general_first = sound.general_first;
  dbadmin_there = sound.dbadmin_there;
  pools_distinct = sound.pools_distinct;
  users_distinct = sound.users_distinct;
  pools_in_range = sound.pools_in_range;
  users_in_range = sound.users_in_range;
  pools_within_max = sound.pools_within_max;
  total_least = sound.total_least;
  total_most = sound.total_most;
  reserved_most = sound.reserved_most;
  quarter_left = sound.quarter_left;
  chains_end = sound.chains_end;
  user_pools_there = sound.user_pools_there;
  role_pools_there = sound.role_pools_there;
  grants_known = known;
  grants_distinct = distinct;
}

-- one grant more
with-turn : (d : Definitions) (g : GrantRow) (b : Bool) → has_grant d.grants g ≡ b → IsSound d → is_grant_known d g ≡ true
    → cond b None (table_full table.Grants GRANTS_MOST (length d.grants)) ≡ None
    → (let new : Definitions = record d { grants = d.grants ++ g ∷ [] } in IsSound (cond b d new))
with-turn d g true e sound known full = sound
with-turn d g false e sound known full =
    let room : length d.grants < GRANTS_MOST = not-full table.Grants GRANTS_MOST (length d.grants) full in
    sound-grants d (d.grants ++ g ∷ []) sound (omega (arith, room, length_push d.grants g)) (all_push (is_grant_known d) d.grants g sound.grants_known known)
    (grants-push d.grants g e sound.grants_distinct)

pub sound-with_grant : (d : Definitions) (g : GrantRow) → IsSound d → is_grant_known d g ≡ true → grants_full d g ≡ None → IsSound (with_grant d g)
sound-with_grant d g sound known full = with-turn d g (has_grant d.grants g) refl sound known full

-- some grants less
pub sound-fewer_grants : (d : Definitions) (test : GrantRow → Bool) → IsSound d → (let new : Definitions = record d { grants = all_but test d.grants } in IsSound new)
sound-fewer_grants d test sound =
    sound-grants d (all_but test d.grants) sound (omega (arith, sound.grant_count, all_but-fewer test d.grants))
    (all_but-all (is_grant_known d) (is_grant_known d) test d.grants (λ h stays known. known) sound.grants_known) (grants-stay test d.grants sound.grants_distinct)

-- the grant of USAGE names what is there
usage-turn : (d : Definitions) (pool grantee : Name) (b : Bool) → has_user d grantee ≡ b → has_pool d pool ≡ true → (b || has_role d grantee) ≡ true
    → is_grant_known d (cond b (PoolToUser pool grantee) (PoolToRole pool grantee)) ≡ true
usage-turn d pool grantee true e there known = and_both (has_pool d pool) (has_user d grantee) there e
usage-turn d pool grantee false e there known = and_both (has_pool d pool) (has_role d grantee) there known

pub usage_grant-known : (d : Definitions) (pool grantee : Name) → has_pool d pool ≡ true → has_grantee d grantee ≡ true → is_grant_known d (usage_grant d pool grantee) ≡ true
usage_grant-known d pool grantee there known = usage-turn d pool grantee (has_user d grantee) refl there known

-- what is not refused leaves sound definitions
pub left-grant_usage : (d : Definitions) (pool grantee : Name) → IsSound d → grant_usage_refusal d pool grantee ≡ None → IsLeft d (with_grant d (usage_grant d pool grantee))
left-grant_usage d pool grantee sound h =
    let pools = first-none (pool_missing d pool) _ h in
    let grantees = first-none (grantee_missing d grantee) _ pools.1 in
    let full = first-none (grants_full d (usage_grant d pool grantee)) _ grantees.1 in
    let changes = first-none (changes_full d) _ full.1 in
    let known = usage_grant-known d pool grantee (not-missing (has_pool d pool) _ pools.0) (not-missing (has_grantee d grantee) _ grantees.0) in
    record {
      sound = sound-with_grant d (usage_grant d pool grantee) sound known full.0;
      changes = not-full _ CHANGES_MOST d.changes changes.0;
    }

pub left-revoke_usage : (d : Definitions) (pool grantee : Name) → IsSound d → revoke_usage_refusal d pool grantee ≡ None → IsLeft d (without_grant d (usage_grant d pool grantee))
left-revoke_usage d pool grantee sound h =
    let pools = first-none (pool_missing d pool) _ h in
    let grantees = first-none (grantee_missing d grantee) _ pools.1 in
    let changes = first-none (changes_full d) _ grantees.1 in
    record {
      sound = sound-fewer_grants d (same_grant (usage_grant d pool grantee)) sound;
      changes = not-full _ CHANGES_MOST d.changes changes.0;
    }

pub left-grant_role : (d : Definitions) (role user : Name) → IsSound d → grant_role_refusal d role user ≡ None → IsLeft d (with_grant d (RoleToUser role user))
left-grant_role d role user sound h =
    let users = first-none (user_missing d user) _ h in
    let roles = first-none (role_missing d role) _ users.1 in
    let full = first-none (grants_full d (RoleToUser role user)) _ roles.1 in
    let changes = first-none (changes_full d) _ full.1 in
    let known = and_both (has_role d role) (has_user d user) (not-missing (has_role d role) _ roles.0) (not-missing (has_user d user) _ users.0) in
    record {
      sound = sound-with_grant d (RoleToUser role user) sound known full.0;
      changes = not-full _ CHANGES_MOST d.changes changes.0;
    }

pub left-revoke_role : (d : Definitions) (role user : Name) → IsSound d → revoke_role_refusal d role user ≡ None → IsLeft d (without_grant d (RoleToUser role user))
left-revoke_role d role user sound h =
    let users = first-none (user_missing d user) _ h in
    let roles = first-none (role_missing d role) _ users.1 in
    let changes = first-none (changes_full d) _ roles.1 in
    record {
      sound = sound-fewer_grants d (same_grant (RoleToUser role user)) sound;
      changes = not-full _ CHANGES_MOST d.changes changes.0;
    }
