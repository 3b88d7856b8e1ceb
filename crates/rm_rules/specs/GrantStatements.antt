-- GRANT and REVOKE: what they leave, and what they are refused with.
use Rattle.std.specs.Prelude.{[], ◌∷◌, ◌++◌, Option, None, length, if◌then◌else◌}
use Rattle.rm_base.specs.declared.limits.TheConstants.{GRANTS_MOST}
use Rattle.rm_base.specs.declared.definitions.Definitions.{Definitions}
use Rattle.rm_base.specs.declared.rows.GrantRow.{GrantRow}
use Rattle.rm_base.specs.declared.rows.GrantRow.TheVariants.{PoolToUser, PoolToRole, RoleToUser}
use Rattle.rm_base.specs.declared.name.Name.{Name}
use Rattle.rm_base.specs.declared.refusal.TableKind.TheVariants as table
use Rattle.rm_base.specs.declared.refusal.Refusal.{Refusal}
use Rattle.rm_rules.specs.Sound.{has_user, same_grant, has_grant}
use Rattle.rm_rules.specs.Refusals.{first_refusal, pool_missing, user_missing, role_missing, grantee_missing, table_full, changes_full}
use Rattle.rm_rules.specs.Tables.{all_but}

-- the grant of USAGE of a pool: to the user of the name, or else to the role
abbrev pub usage_grant : Definitions → Name → Name → GrantRow
usage_grant d pool grantee = if has_user d grantee then PoolToUser pool grantee else PoolToRole pool grantee

-- the definitions with this grant, which stands once, and without it
abbrev pub with_grant : Definitions → GrantRow → Definitions
with_grant d g = if has_grant d.grants g then d else record d { grants = d.grants ++ g ∷ [] }

abbrev pub without_grant : Definitions → GrantRow → Definitions
without_grant d g = record d { grants = all_but (same_grant g) d.grants }

-- 17: the grant would be a row more, and there is room for none
abbrev pub grants_full : Definitions → GrantRow → Option Refusal
grants_full d g = if has_grant d.grants g then None else table_full table.Grants GRANTS_MOST (length d.grants)

-- why USAGE of a pool is not granted, why it is not revoked
abbrev pub grant_usage_refusal : Definitions → Name → Name → Option Refusal
grant_usage_refusal d pool grantee = first_refusal (
    pool_missing d pool
    ∷ grantee_missing d grantee
    ∷ grants_full d (usage_grant d pool grantee)
    ∷ changes_full d
    ∷ [])

abbrev pub revoke_usage_refusal : Definitions → Name → Name → Option Refusal
revoke_usage_refusal d pool grantee = first_refusal (
    pool_missing d pool
    ∷ grantee_missing d grantee
    ∷ changes_full d
    ∷ [])

-- why a role is not granted to a user, why it is not revoked
abbrev pub grant_role_refusal : Definitions → Name → Name → Option Refusal
grant_role_refusal d role user = first_refusal (
    user_missing d user
    ∷ role_missing d role
    ∷ grants_full d (RoleToUser role user)
    ∷ changes_full d
    ∷ [])

abbrev pub revoke_role_refusal : Definitions → Name → Name → Option Refusal
revoke_role_refusal d role user = first_refusal (
    user_missing d user
    ∷ role_missing d role
    ∷ changes_full d
    ∷ [])
