-- What is accepted leads from sound definitions to sound ones, and counts one change.
use Rattle.std.specs.Prelude.{◌≡◌, ◌+◌, ◌<◌, Bool, true, false, cond, ◌++◌, [], ◌∷◌, None, Ok, refl}
use Rattle.std.proofs.Common.{subst, arith}
use Rattle.rm_base.specs.declared.limits.TheConstants.{CHANGES_MOST}
use Rattle.rm_base.specs.declared.definitions.Definitions.{Definitions}
use Rattle.rm_base.specs.declared.rows.GrantRow.{GrantRow}
use Rattle.rm_base.specs.declared.rows.GrantRow.TheVariants.{RoleToUser}
use Rattle.rm_base.specs.declared.statement.Statement.{Statement}
use Rattle.rm_base.specs.declared.statement.Statement.TheVariants.{CreatePool, AlterPool, DropPool, CreateUser, AlterUser, DropUser, CreateRole, AlterRole, DropRole, GrantUsage, RevokeUsage, GrantRole, RevokeRole}
use Rattle.rm_base.specs.Ranges.{is_statement_in_range}
use Rattle.rm_rules.specs.Sound.{IsSound, has_grant}
use Rattle.rm_rules.specs.GrantStatements.{usage_grant, with_grant}
use Rattle.rm_rules.specs.Acceptance.{refusal_of, left_by, counted, accepted}
use Rattle.rm_rules.proofs.Refused.{unless-ok, IsLeft}
use Rattle.rm_rules.proofs.PoolLaws.{left-create_pool, left-alter_pool}
use Rattle.rm_rules.proofs.GrantLaws.{left-grant_usage, left-revoke_usage, left-grant_role, left-revoke_role}
use Rattle.rm_rules.proofs.DropLaws.{left-drop_pool}
use Rattle.rm_rules.proofs.UserLaws.{left-create_user, left-alter_user, left-drop_user, left-create_role, left-alter_role, left-drop_role}

-- what is not refused leaves sound definitions
pub left-right : (d : Definitions) (statement : Statement) → IsSound d → is_statement_in_range statement ≡ true → refusal_of d statement ≡ None
    → IsLeft d (left_by d statement)
left-right d (CreatePool name c) sound formed h = left-create_pool d name c sound formed h
left-right d (AlterPool name c) sound formed h = left-alter_pool d name c sound formed h
left-right d (DropPool name) sound formed h = left-drop_pool d name sound h
left-right d (CreateUser name c) sound formed h = left-create_user d name c sound formed h
left-right d (AlterUser name c) sound formed h = left-alter_user d name c sound formed h
left-right d (DropUser name) sound formed h = left-drop_user d name sound h
left-right d (CreateRole name) sound formed h = left-create_role d name sound h
left-right d (AlterRole name pool) sound formed h = left-alter_role d name pool sound h
left-right d (DropRole name) sound formed h = left-drop_role d name sound h
left-right d (GrantUsage pool grantee) sound formed h = left-grant_usage d pool grantee sound h
left-right d (RevokeUsage pool grantee) sound formed h = left-revoke_usage d pool grantee sound h
left-right d (GrantRole role user) sound formed h = left-grant_role d role user sound h
left-right d (RevokeRole role user) sound formed h = left-revoke_role d role user sound h

-- a change more is sound where there is room for it
pub sound-counted : (d : Definitions) → IsSound d → d.changes < CHANGES_MOST → IsSound (counted d)
sound-counted d sound room = record {
  memory = sound.memory;
  cores = sound.cores;
  changes = omega (arith, room);
  pool_count = sound.pool_count;
  user_count = sound.user_count;
  role_count = sound.role_count;
  grant_count = sound.grant_count;
  general_first = sound.general_first;
  dbadmin_there = sound.dbadmin_there;
  pools_distinct = sound.pools_distinct;
  users_distinct = sound.users_distinct;
  pools_in_range = sound.pools_in_range;
  users_in_range = sound.users_in_range;
  pools_within_max = sound.pools_within_max;
  total_least = sound.total_least;
  total_most = sound.total_most;
  reserved_most = sound.reserved_most;
  quarter_left = sound.quarter_left;
  chains_end = sound.chains_end;
  user_pools_there = sound.user_pools_there;
  role_pools_there = sound.role_pools_there;
  grants_known = sound.grants_known;
  grants_distinct = sound.grants_distinct;
}

-- a statement leaves the machine, and the count
pub record KeepsCount (d new : Definitions) : Type 0 where
  pub changes : new.changes ≡ d.changes
  pub memory : new.memory ≡ d.memory
  pub cores : new.cores ≡ d.cores

grant-turn : (d : Definitions) (g : GrantRow) (b : Bool) → (let more : Definitions = record d { grants = d.grants ++ g ∷ [] } in KeepsCount d (cond b d more))
grant-turn d g true = record { changes = refl; memory = refl; cores = refl }
grant-turn d g false = record { changes = refl; memory = refl; cores = refl }

grant-kept : (d : Definitions) (g : GrantRow) → KeepsCount d (with_grant d g)
grant-kept d g = grant-turn d g (has_grant d.grants g)

pub left-kept : (d : Definitions) (statement : Statement) → KeepsCount d (left_by d statement)
left-kept d (CreatePool name c) = record { changes = refl; memory = refl; cores = refl }
left-kept d (AlterPool name c) = record { changes = refl; memory = refl; cores = refl }
left-kept d (DropPool name) = record { changes = refl; memory = refl; cores = refl }
left-kept d (CreateUser name c) = record { changes = refl; memory = refl; cores = refl }
left-kept d (AlterUser name c) = record { changes = refl; memory = refl; cores = refl }
left-kept d (DropUser name) = record { changes = refl; memory = refl; cores = refl }
left-kept d (CreateRole name) = record { changes = refl; memory = refl; cores = refl }
left-kept d (AlterRole name pool) = record { changes = refl; memory = refl; cores = refl }
left-kept d (DropRole name) = record { changes = refl; memory = refl; cores = refl }
left-kept d (GrantUsage pool grantee) = grant-kept d (usage_grant d pool grantee)
left-kept d (RevokeUsage pool grantee) = record { changes = refl; memory = refl; cores = refl }
left-kept d (GrantRole role user) = grant-kept d (RoleToUser role user)
left-kept d (RevokeRole role user) = record { changes = refl; memory = refl; cores = refl }

-- what is accepted
pub accepted-left : (d : Definitions) (statement : Statement) (new : Definitions) → accepted d statement ≡ Ok new
    → (refusal_of d statement ≡ None) × (counted (left_by d statement) ≡ new)
accepted-left d statement new h = unless-ok (refusal_of d statement) (counted (left_by d statement)) new h

pub accepted-sound : (d : Definitions) (statement : Statement) (new : Definitions) → IsSound d → is_statement_in_range statement ≡ true
    → accepted d statement ≡ Ok new → IsSound new
accepted-sound d statement new sound formed h =
    let parts = accepted-left d statement new h in
    let left = left-right d statement sound formed parts.0 in
    let kept = left-kept d statement in
    subst IsSound parts.1 (sound-counted (left_by d statement) left.sound (omega (arith, left.changes, kept.changes)))

-- it is counted, and the machine stays as it is
pub record IsCounted (d new : Definitions) : Type 0 where
  pub changes : new.changes ≡ d.changes + 1
  pub memory : new.memory ≡ d.memory
  pub cores : new.cores ≡ d.cores

pub accepted-counted : (d : Definitions) (statement : Statement) (new : Definitions) → accepted d statement ≡ Ok new → IsCounted d new
accepted-counted d statement new h =
    let kept = left-kept d statement in
    subst (IsCounted d) (accepted-left d statement new h).1 (record { changes = omega (arith, kept.changes); memory = kept.memory; cores = kept.cores })
