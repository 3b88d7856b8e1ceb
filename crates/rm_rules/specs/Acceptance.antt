-- Which statements are accepted, and what an accepted statement leaves.
use Rattle.std.specs.Prelude.{◌+◌, Option, None, Result}
use Rattle.rm_base.specs.declared.definitions.Definitions.{Definitions}
use Rattle.rm_base.specs.declared.rows.GrantRow.TheVariants.{RoleToUser}
use Rattle.rm_base.specs.declared.statement.Statement.{Statement}
use Rattle.rm_base.specs.declared.statement.Statement.TheVariants.{CreatePool, AlterPool, DropPool, CreateUser, AlterUser, DropUser, CreateRole, AlterRole, DropRole, GrantUsage, RevokeUsage, GrantRole, RevokeRole}
use Rattle.rm_base.specs.declared.refusal.Refusal.{Refusal}
use Rattle.rm_rules.specs.Refusals.{unless_refused}
use Rattle.rm_rules.specs.PoolStatements.{created_pool, altered_pool, with_pool, create_pool_refusal, alter_pool_refusal}
use Rattle.rm_rules.specs.DropPool.{without_pool, drop_pool_refusal}
use Rattle.rm_rules.specs.GrantStatements.{usage_grant, with_grant, without_grant, grant_usage_refusal, revoke_usage_refusal, grant_role_refusal, revoke_role_refusal}
use Rattle.rm_rules.specs.UserStatements.{created_user, altered_user, role_with, with_user, with_role, without_user, without_role, create_user_refusal, alter_user_refusal, drop_user_refusal, create_role_refusal, alter_role_refusal, drop_role_refusal}

-- why a statement is refused: the first refusal in the order of the numbers
abbrev pub refusal_of : Definitions → Statement → Option Refusal
refusal_of d (CreatePool name change) = create_pool_refusal d name (created_pool d name change)
refusal_of d (AlterPool name change) = alter_pool_refusal d name change (altered_pool d name change)
refusal_of d (DropPool name) = drop_pool_refusal d name
refusal_of d (CreateUser name change) = create_user_refusal d name change
refusal_of d (AlterUser name change) = alter_user_refusal d name change
refusal_of d (DropUser name) = drop_user_refusal d name
refusal_of d (CreateRole name) = create_role_refusal d name
refusal_of d (AlterRole name pool) = alter_role_refusal d name pool
refusal_of d (DropRole name) = drop_role_refusal d name
refusal_of d (GrantUsage pool grantee) = grant_usage_refusal d pool grantee
refusal_of d (RevokeUsage pool grantee) = revoke_usage_refusal d pool grantee
refusal_of d (GrantRole role user) = grant_role_refusal d role user
refusal_of d (RevokeRole role user) = revoke_role_refusal d role user

-- the definitions that a statement leaves, but for the count of those that were accepted
abbrev pub left_by : Definitions → Statement → Definitions
left_by d (CreatePool name change) = with_pool d (created_pool d name change)
left_by d (AlterPool name change) = with_pool d (altered_pool d name change)
left_by d (DropPool name) = without_pool d name
left_by d (CreateUser name change) = with_user d (created_user d name change)
left_by d (AlterUser name change) = with_user d (altered_user d name change)
left_by d (DropUser name) = without_user d name
left_by d (CreateRole name) = with_role d (role_with name None)
left_by d (AlterRole name pool) = with_role d (role_with name pool)
left_by d (DropRole name) = without_role d name
left_by d (GrantUsage pool grantee) = with_grant d (usage_grant d pool grantee)
left_by d (RevokeUsage pool grantee) = without_grant d (usage_grant d pool grantee)
left_by d (GrantRole role user) = with_grant d (RoleToUser role user)
left_by d (RevokeRole role user) = without_grant d (RoleToUser role user)

-- one statement more is accepted
abbrev pub counted : Definitions → Definitions
counted d = record d { changes = d.changes + 1 }

-- The definitions that a statement leads to, or its first refusal. Each that is accepted is counted, also one that alters
-- nothing.
abbrev pub accepted : Definitions → Statement → Result Definitions Refusal
accepted d statement = unless_refused (refusal_of d statement) (counted (left_by d statement))
