-- When definitions are sound.
use Rattle.std.specs.Prelude.{◌≡◌, ℕ, ◌-◌, ◌*◌, ◌≤◌, zero, suc, Bool, true, false, ◌&&◌, ◌||◌, ◌==◌, nat_le, not, List, [], ◌∷◌, ◌++◌, Option, Some, None, is_some, length, map}
use Rattle.std.specs.List.{list_all, list_any}
use Rattle.rm_base.specs.declared.limits.TheConstants.{MEMORY_LEAST, MEMORY_MOST, TOTAL_LEAST, GENERAL_PART, CORES_MOST, POOLS_MOST, USERS_MOST, ROLES_MOST, GRANTS_MOST, CHANGES_MOST, CHAIN_MOST}
use Rattle.rm_base.specs.declared.definitions.Definitions.{Definitions}
use Rattle.rm_base.specs.declared.rows.PoolRow.{PoolRow}
use Rattle.rm_base.specs.declared.rows.GrantRow.{GrantRow}
use Rattle.rm_base.specs.declared.rows.GrantRow.TheVariants.{PoolToUser, PoolToRole, RoleToUser}
use Rattle.rm_base.specs.declared.name.Name.{Name}
use Rattle.rm_base.specs.Name.{same_name, general, dbadmin}
use Rattle.rm_base.specs.Ranges.{passes_if_set, is_between, is_pool_in_range, is_user_in_range}
use Rattle.rm_rules.specs.Definitions.{total, reserved, pool_called, user_called, role_called}

-- GENERAL stands first, and reserves nothing
abbrev pub begins_with_general : List PoolRow → Bool
begins_with_general [] = false
begins_with_general (r ∷ rs) = same_name r.name general && r.memory == 0

-- no name stands twice
abbrev pub are_distinct : List Name → Bool
are_distinct [] = true
are_distinct (n ∷ ns) = not (list_any (same_name n) ns) && are_distinct ns

-- the pool's MEMORYSIZE is within its MAXMEMORYSIZE
abbrev pub is_within_max : PoolRow → Bool
is_within_max r = passes_if_set (λ most. nat_le r.memory most) r.max

-- a pool, a user, a role of this name is there
abbrev pub has_pool : Definitions → Name → Bool
has_pool d name = is_some (pool_called d.pools name)

abbrev pub has_user : Definitions → Name → Bool
has_user d name = is_some (user_called d.users name)

abbrev pub has_role : Definitions → Name → Bool
has_role d name = is_some (role_called d.roles name)

-- who may get a pool: a user or a role, which have no name in common
abbrev pub has_grantee : Definitions → Name → Bool
has_grantee d name = has_user d name || has_role d name

-- a chain of CASCADE TO that goes on from here ends after so many pools at most, all of which are there
abbrev pub chain_ends : List PoolRow → ℕ → Option Name → Bool
chain_ends pools zero next = not (is_some next)
chain_ends pools (suc most) next = elim next [ None ↦ true | Some name ↦ elim (pool_called pools name) [ None ↦ false | Some r ↦ chain_ends pools most r.cascade ] ]

-- a grant names what is there
abbrev pub is_grant_known : Definitions → GrantRow → Bool
is_grant_known d (PoolToUser p u) = has_pool d p && has_user d u
is_grant_known d (PoolToRole p r) = has_pool d p && has_role d r
is_grant_known d (RoleToUser r u) = has_role d r && has_user d u

abbrev pub same_grant : GrantRow → GrantRow → Bool
same_grant (PoolToUser a b) (PoolToUser c d) = same_name a c && same_name b d
same_grant (PoolToUser a b) (PoolToRole c d) = false
same_grant (PoolToUser a b) (RoleToUser c d) = false
same_grant (PoolToRole a b) (PoolToUser c d) = false
same_grant (PoolToRole a b) (PoolToRole c d) = same_name a c && same_name b d
same_grant (PoolToRole a b) (RoleToUser c d) = false
same_grant (RoleToUser a b) (PoolToUser c d) = false
same_grant (RoleToUser a b) (PoolToRole c d) = false
same_grant (RoleToUser a b) (RoleToUser c d) = same_name a c && same_name b d

-- the grant is one of these
abbrev pub has_grant : List GrantRow → GrantRow → Bool
has_grant grants g = list_any (same_grant g) grants

-- no grant stands twice
abbrev pub are_grants_distinct : List GrantRow → Bool
are_grants_distinct [] = true
are_grants_distinct (g ∷ gs) = not (has_grant gs g) && are_grants_distinct gs

pub record IsSound (d : Definitions) : Type 0 where
  pub memory : is_between MEMORY_LEAST MEMORY_MOST d.memory ≡ true
  pub cores : is_between 1 CORES_MOST d.cores ≡ true
  pub changes : d.changes ≤ CHANGES_MOST
  pub pool_count : length d.pools ≤ POOLS_MOST
  pub user_count : length d.users ≤ USERS_MOST
  pub role_count : length d.roles ≤ ROLES_MOST
  pub grant_count : length d.grants ≤ GRANTS_MOST
  pub general_first : begins_with_general d.pools ≡ true
  pub dbadmin_there : has_user d dbadmin ≡ true
  pub pools_distinct : are_distinct (map (λ r. r.name) d.pools) ≡ true
  pub users_distinct : are_distinct (map (λ u. u.name) d.users ++ map (λ r. r.name) d.roles) ≡ true
  pub pools_in_range : list_all is_pool_in_range d.pools ≡ true
  pub users_in_range : list_all is_user_in_range d.users ≡ true
  pub pools_within_max : list_all is_within_max d.pools ≡ true
  pub total_least : TOTAL_LEAST ≤ total d
  pub total_most : total d ≤ d.memory
  pub reserved_most : reserved d ≤ total d
  pub quarter_left : total d ≤ GENERAL_PART * (total d - reserved d)
  pub chains_end : list_all (λ r. chain_ends d.pools (CHAIN_MOST - 1) r.cascade) d.pools ≡ true
  pub user_pools_there : list_all (λ u. passes_if_set (has_pool d) u.pool) d.users ≡ true
  pub role_pools_there : list_all (λ r. passes_if_set (has_pool d) r.pool) d.roles ≡ true
  pub grants_known : list_all (is_grant_known d) d.grants ≡ true
  pub grants_distinct : are_grants_distinct d.grants ≡ true
