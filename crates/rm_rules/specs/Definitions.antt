-- What the definitions say: the total, the pools, the users, USAGE and default pools.
use Rattle.std.specs.Prelude.{ℕ, ◌*◌, ◌/◌, Bool, false, ◌&&◌, ◌||◌, List, [], ◌∷◌, Option, Some, None, unwrap_or, option_and_then, find, sum_by, min, max, if◌then◌else◌}
use Rattle.std.specs.List.{list_any}
use Rattle.rm_base.specs.declared.limits.TheConstants.{USABLE_PERCENT, PERCENT_MOST, PLANNED_LEAST, PLANNED_SHARE}
use Rattle.rm_base.specs.declared.definitions.Definitions.{Definitions}
use Rattle.rm_base.specs.declared.rows.PoolRow.{PoolRow}
use Rattle.rm_base.specs.declared.rows.UserRow.{UserRow}
use Rattle.rm_base.specs.declared.rows.RoleRow.{RoleRow}
use Rattle.rm_base.specs.declared.rows.GrantRow.{GrantRow}
use Rattle.rm_base.specs.declared.rows.GrantRow.TheVariants.{PoolToUser, PoolToRole, RoleToUser}
use Rattle.rm_base.specs.declared.name.Name.{Name}
use Rattle.rm_base.specs.declared.statement.Size.{Size}
use Rattle.rm_base.specs.declared.statement.Size.TheVariants.{Bytes, Percent}
use Rattle.rm_base.specs.Name.{same_name, general, dbadmin}
use Rattle.rm_base.specs.Definitions.{default_pool_row}

-- the pool, the user or the role of this name
abbrev pub pool_called : List PoolRow → Name → Option PoolRow
pool_called pools name = find (λ r. same_name r.name name) pools

abbrev pub user_called : List UserRow → Name → Option UserRow
user_called users name = find (λ r. same_name r.name name) users

abbrev pub role_called : List RoleRow → Name → Option RoleRow
role_called roles name = find (λ r. same_name r.name name) roles

-- the pool's row; a pool that is not there is read as one with all defaults
abbrev pub pool_row : Definitions → Name → PoolRow
pool_row d name = unwrap_or (pool_called d.pools name) (default_pool_row name)

-- all pools but GENERAL, which stands first
abbrev pub user_pools : List PoolRow → List PoolRow
user_pools [] = []
user_pools (general_row ∷ pools) = pools

-- the pool's MEMORYSIZE
abbrev pub memory_size : Definitions → Name → ℕ
memory_size d name = (pool_row d name).memory

-- so many percent of a whole, rounded down
abbrev pub percent_of : ℕ → ℕ → ℕ
percent_of whole percent = percent * whole / PERCENT_MOST

-- a size in bytes: a percentage is taken of this whole, and rounded down
abbrev pub bytes_of : ℕ → Size → ℕ
bytes_of whole (Bytes n) = n
bytes_of whole (Percent n) = percent_of whole n

-- what of a whole may be used before others wait: 95 percent
abbrev pub usable : ℕ → ℕ
usable whole = percent_of whole USABLE_PERCENT

-- T: GENERAL's MAXMEMORYSIZE, or 95 percent of the machine's memory
abbrev pub total : Definitions → ℕ
total d = unwrap_or ((pool_row d general).max) (usable d.memory)

-- S: the MEMORYSIZE of all pools, of which GENERAL has none
abbrev pub reserved : Definitions → ℕ
reserved d = sum_by (λ r. r.memory) d.pools

-- PLANNEDCONCURRENCY in force; AUTO is by the cores and the total
abbrev pub planned : Definitions → PoolRow → ℕ
planned d r = unwrap_or r.planned (max PLANNED_LEAST (min d.cores (total d / PLANNED_SHARE)))

-- a grant makes the user a member of the role
abbrev pub is_member_by : Name → Name → GrantRow → Bool
is_member_by user role (RoleToUser r u) = same_name r role && same_name u user
is_member_by user role (PoolToUser p u) = false
is_member_by user role (PoolToRole p r) = false

abbrev pub is_member : List GrantRow → Name → Name → Bool
is_member grants user role = list_any (is_member_by user role) grants

-- a grant gives the pool to the user, or to a role of the user
abbrev pub gives_usage : List GrantRow → Name → Name → GrantRow → Bool
gives_usage grants user pool (PoolToUser p u) = same_name p pool && same_name u user
gives_usage grants user pool (PoolToRole p r) = same_name p pool && is_member grants user r
gives_usage grants user pool (RoleToUser r u) = false

-- USAGE: everyone may use GENERAL, and `dbadmin` every pool
abbrev pub usage : Definitions → Name → Name → Bool
usage d user pool = same_name pool general || (same_name user dbadmin || list_any (gives_usage d.grants user pool) d.grants)

-- a grant gives the pool to the role
abbrev pub gives_role : Name → Name → GrantRow → Bool
gives_role role pool (PoolToRole p r) = same_name p pool && same_name r role
gives_role role pool (PoolToUser p u) = false
gives_role role pool (RoleToUser r u) = false

-- USAGE of a role: GENERAL, and what a grant gives to it
abbrev pub role_usage : Definitions → Name → Name → Bool
role_usage d role pool = same_name pool general || list_any (gives_role role pool) d.grants

-- the pool of a role, where the grant makes the user a member of it
abbrev pub pool_by_role : List RoleRow → Name → GrantRow → Option Name
pool_by_role roles user (RoleToUser r u) = if same_name u user then option_and_then (λ row. row.pool) (role_called roles r) else None
pool_by_role roles user (PoolToUser p u) = None
pool_by_role roles user (PoolToRole p r) = None

-- the pool of the first role, in the order of the grants, that has one
abbrev pub role_pool : List RoleRow → Name → List GrantRow → Option Name
role_pool roles user [] = None
role_pool roles user (g ∷ gs) = elim (pool_by_role roles user g) [ Some pool ↦ Some pool | None ↦ role_pool roles user gs ]

-- the user's own pool, else that of its first role that has one, else GENERAL
abbrev pub default_pool : Definitions → Name → Name
default_pool d user =
    unwrap_or (option_and_then (λ row. row.pool) (user_called d.users user)) (unwrap_or (role_pool d.roles user d.grants) general)

-- the user's MEMORYCAP, or none
abbrev pub memory_cap : Definitions → Name → Option ℕ
memory_cap d user = option_and_then (λ row. row.memory_cap) (user_called d.users user)
