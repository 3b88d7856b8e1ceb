-- CREATE, ALTER and DROP of users and roles: what they leave, and what they are refused with.
use Rattle.std.specs.Prelude.{Bool, false, not, [], ◌∷◌, Option, Some, None, unwrap_or, option_map, length}
use Rattle.rm_base.specs.declared.limits.TheConstants.{USERS_MOST, ROLES_MOST}
use Rattle.rm_base.specs.declared.definitions.Definitions.{Definitions}
use Rattle.rm_base.specs.declared.rows.UserRow.{UserRow}
use Rattle.rm_base.specs.declared.rows.RoleRow.{RoleRow}
use Rattle.rm_base.specs.declared.rows.GrantRow.{GrantRow}
use Rattle.rm_base.specs.declared.rows.GrantRow.TheVariants.{PoolToUser, PoolToRole, RoleToUser}
use Rattle.rm_base.specs.declared.name.Name.{Name}
use Rattle.rm_base.specs.declared.statement.UserChange.{UserChange}
use Rattle.rm_base.specs.declared.refusal.TableKind.TheVariants as table
use Rattle.rm_base.specs.declared.refusal.Refusal.{Refusal}
use Rattle.rm_base.specs.declared.refusal.Refusal.TheVariants as refusal
use Rattle.rm_base.specs.Name.{same_name, dbadmin}
use Rattle.rm_base.specs.Definitions.{default_user_row}
use Rattle.rm_rules.specs.Definitions.{user_called, total, bytes_of, usage, role_usage}
use Rattle.rm_rules.specs.Refusals.{refused_if, first_refusal, grantee_taken, given_pool_missing, user_missing, role_missing, table_full, changes_full}
use Rattle.rm_rules.specs.Tables.{with_row, without_row, all_but}

-- the user's row; a user that is not there is read as one with all defaults
abbrev pub user_row : Definitions → Name → UserRow
user_row d name = unwrap_or (user_called d.users name) (default_user_row name)

-- the user's row with what a statement names in the place of what it had; a percentage is of the total
abbrev pub changed_user : Definitions → UserRow → UserChange → UserRow
changed_user d u c = record {
  name = u.name;
  pool = unwrap_or c.pool u.pool;
  memory_cap = unwrap_or (option_map (option_map (bytes_of (total d))) c.memory_cap) u.memory_cap;
  cap_ms = unwrap_or c.cap_ms u.cap_ms;
}

-- CREATE takes the defaults for what it does not name, ALTER keeps it
abbrev pub created_user : Definitions → Name → UserChange → UserRow
created_user d name change = changed_user d (default_user_row name) change

abbrev pub altered_user : Definitions → Name → UserChange → UserRow
altered_user d name change = changed_user d (user_row d name) change

-- a role with this pool, or with none
abbrev pub role_with : Name → Option Name → RoleRow
role_with name pool = record { name = name; pool = pool }

-- the pool that a statement gives a user, or none
abbrev pub given_pool : UserChange → Option Name
given_pool c = unwrap_or c.pool None

-- the definitions with this row of a user, of a role
abbrev pub with_user : Definitions → UserRow → Definitions
with_user d row = record d { users = with_row (λ u. u.name) row d.users }

abbrev pub with_role : Definitions → RoleRow → Definitions
with_role d row = record d { roles = with_row (λ r. r.name) row d.roles }

-- the grant names this user, this role
abbrev pub names_user : Name → GrantRow → Bool
names_user user (PoolToUser p u) = same_name u user
names_user user (PoolToRole p r) = false
names_user user (RoleToUser r u) = same_name u user

abbrev pub names_role : Name → GrantRow → Bool
names_role role (PoolToUser p u) = false
names_role role (PoolToRole p r) = same_name r role
names_role role (RoleToUser r u) = same_name r role

-- the definitions without this user, without this role, and without the grants that name it
abbrev pub without_user : Definitions → Name → Definitions
without_user d name = record d { users = without_row (λ u. u.name) name d.users; grants = all_but (names_user name) d.grants }

abbrev pub without_role : Definitions → Name → Definitions
without_role d name = record d { roles = without_row (λ r. r.name) name d.roles; grants = all_but (names_role name) d.grants }

-- 10: the user is `dbadmin`
abbrev pub user_built_in : Name → Option Refusal
user_built_in name = refused_if (same_name name dbadmin) refusal.BuiltIn

-- 17: there is room for no user more, for no role more
abbrev pub users_full : Definitions → Option Refusal
users_full d = table_full table.Users USERS_MOST (length d.users)

abbrev pub roles_full : Definitions → Option Refusal
roles_full d = table_full table.Roles ROLES_MOST (length d.roles)

-- 18: a pool is given to one who has no USAGE of it
abbrev pub not_granted : (Name → Bool) → Option Name → Option Refusal
not_granted has_usage None = None
not_granted has_usage (Some pool) = refused_if (not (has_usage pool)) (refusal.NotGranted pool)

-- why a user is not created, why one is not altered, why one is not dropped
abbrev pub create_user_refusal : Definitions → Name → UserChange → Option Refusal
create_user_refusal d name change = first_refusal (
    grantee_taken d name
    ∷ given_pool_missing d (given_pool change)
    ∷ users_full d
    ∷ changes_full d
    ∷ not_granted (usage d name) (given_pool change)
    ∷ [])

abbrev pub alter_user_refusal : Definitions → Name → UserChange → Option Refusal
alter_user_refusal d name change = first_refusal (
    given_pool_missing d (given_pool change)
    ∷ user_missing d name
    ∷ changes_full d
    ∷ not_granted (usage d name) (given_pool change)
    ∷ [])

abbrev pub drop_user_refusal : Definitions → Name → Option Refusal
drop_user_refusal d name = first_refusal (
    user_missing d name
    ∷ user_built_in name
    ∷ changes_full d
    ∷ [])

-- the same of a role
abbrev pub create_role_refusal : Definitions → Name → Option Refusal
create_role_refusal d name = first_refusal (
    grantee_taken d name
    ∷ roles_full d
    ∷ changes_full d
    ∷ [])

abbrev pub alter_role_refusal : Definitions → Name → Option Name → Option Refusal
alter_role_refusal d name pool = first_refusal (
    given_pool_missing d pool
    ∷ role_missing d name
    ∷ changes_full d
    ∷ not_granted (role_usage d name) pool
    ∷ [])

abbrev pub drop_role_refusal : Definitions → Name → Option Refusal
drop_role_refusal d name = first_refusal (
    role_missing d name
    ∷ changes_full d
    ∷ [])
