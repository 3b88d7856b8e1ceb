-- Refusals, tried in their order, and those that several statements and events have.
use Rattle.std.specs.Prelude.{ℕ, Bool, nat_le, not, List, [], ◌∷◌, Option, Some, None, Result, Ok, Err, if◌then◌else◌}
use Rattle.rm_base.specs.declared.limits.TheConstants.{CHANGES_MOST}
use Rattle.rm_base.specs.declared.definitions.Definitions.{Definitions}
use Rattle.rm_base.specs.declared.name.Name.{Name}
use Rattle.rm_base.specs.declared.refusal.TableKind.{TableKind}
use Rattle.rm_base.specs.declared.refusal.TableKind.TheVariants as table
use Rattle.rm_base.specs.declared.refusal.Refusal.{Refusal}
use Rattle.rm_base.specs.declared.refusal.Refusal.TheVariants as refusal
use Rattle.rm_rules.specs.Sound.{has_pool, has_user, has_role, has_grantee}

-- this refusal, where the test holds
abbrev pub refused_if : Bool → Refusal → Option Refusal
refused_if holds r = if holds then Some r else None

-- the first refusal of these, or none
abbrev pub first_refusal : List (Option Refusal) → Option Refusal
first_refusal [] = None
first_refusal (None ∷ more) = first_refusal more
first_refusal (Some r ∷ more) = Some r

-- what is done, where nothing refuses it
abbrev pub unless_refused : {A : Type 0} → Option Refusal → A → Result A Refusal
unless_refused None done = Ok done
unless_refused (Some r) done = Err r

-- 6: a pool of the name is there
abbrev pub pool_taken : Definitions → Name → Option Refusal
pool_taken d name = refused_if (has_pool d name) refusal.NameTaken

-- 6: a user or a role of the name is there
abbrev pub grantee_taken : Definitions → Name → Option Refusal
grantee_taken d name = refused_if (has_grantee d name) refusal.NameTaken

-- 7: no pool of the name is there
abbrev pub pool_missing : Definitions → Name → Option Refusal
pool_missing d name = refused_if (not (has_pool d name)) (refusal.NoSuchPool name)

-- 7: a pool is given, and none of its name is there
abbrev pub given_pool_missing : Definitions → Option Name → Option Refusal
given_pool_missing d None = None
given_pool_missing d (Some pool) = pool_missing d pool

-- 8: no user of the name is there
abbrev pub user_missing : Definitions → Name → Option Refusal
user_missing d name = refused_if (not (has_user d name)) (refusal.NoSuchUser name)

-- 8: neither a user nor a role of the name is there
abbrev pub grantee_missing : Definitions → Name → Option Refusal
grantee_missing d name = refused_if (not (has_grantee d name)) (refusal.NoSuchUser name)

-- 9: no role of the name is there
abbrev pub role_missing : Definitions → Name → Option Refusal
role_missing d name = refused_if (not (has_role d name)) (refusal.NoSuchRole name)

-- 17: a table that holds so many rows at most has so many
abbrev pub table_full : TableKind → ℕ → ℕ → Option Refusal
table_full kind most count = refused_if (nat_le most count) (refusal.TableFull kind most)

-- 17: no statement more may be accepted
abbrev pub changes_full : Definitions → Option Refusal
changes_full d = table_full table.Changes CHANGES_MOST d.changes
