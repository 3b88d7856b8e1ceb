-- DROP RESOURCE POOL: what it leaves of the definitions, and what becomes of the pool's bytes and of its queries.
use Rattle.std.specs.Prelude.{Bool, true, false, not, List, [], ◌∷◌, ◌++◌, Option, Some, None, option_map, find, filter, map, if◌then◌else◌}
use Rattle.std.specs.Int.Signed.{lt_z}
use Rattle.rm_base.specs.declared.definitions.Definitions.{Definitions}
use Rattle.rm_base.specs.declared.rows.PoolRow.{PoolRow}
use Rattle.rm_base.specs.declared.rows.UserRow.{UserRow}
use Rattle.rm_base.specs.declared.rows.RoleRow.{RoleRow}
use Rattle.rm_base.specs.declared.rows.GrantRow.{GrantRow}
use Rattle.rm_base.specs.declared.rows.GrantRow.TheVariants.{PoolToUser, PoolToRole, RoleToUser}
use Rattle.rm_base.specs.declared.name.Name.{Name}
use Rattle.rm_base.specs.declared.statement.Statement.{Statement}
use Rattle.rm_base.specs.declared.statement.Statement.TheVariants.{CreatePool, AlterPool, DropPool, CreateUser, AlterUser, DropUser, CreateRole, AlterRole, DropRole, GrantUsage, RevokeUsage, GrantRole, RevokeRole}
use Rattle.rm_base.specs.declared.refusal.Refusal.{Refusal}
use Rattle.rm_base.specs.declared.refusal.Refusal.TheVariants as refusal
use Rattle.rm_base.specs.Name.{same_name, general}
use Rattle.rm_rules.specs.declared.state.Holding.{Holding}
use Rattle.rm_rules.specs.declared.state.Reserve.{Reserve}
use Rattle.rm_rules.specs.declared.state.Session.{Session}
use Rattle.rm_rules.specs.declared.state.Waiter.{Waiter}
use Rattle.rm_rules.specs.declared.state.Runner.{Runner}
use Rattle.rm_rules.specs.Definitions.{pool_row, user_pools}
use Rattle.rm_rules.specs.Refusals.{refused_if, first_refusal, pool_missing, changes_full}
use Rattle.rm_rules.specs.Tables.{without_row, all_but}
use Rattle.rm_rules.specs.State.{State, without}
use Rattle.rm_rules.specs.Holdings.{Holdings}

-- GENERAL in the place of this pool
abbrev pub in_place : Name → Name → Name
in_place pool name = if same_name name pool then general else name

-- the same of a pool that may be named
abbrev pub named_in_place : Name → Option Name → Option Name
named_in_place pool name = option_map (in_place pool) name

-- the name is this pool's
abbrev pub is_named : Name → Option Name → Bool
is_named pool None = false
is_named pool (Some name) = same_name name pool

-- a user whose pool it was has GENERAL, a role has none, and a grant of it is gone
abbrev pub user_beside : Name → UserRow → UserRow
user_beside pool u = record u { pool = named_in_place pool u.pool }

abbrev pub role_beside : Name → RoleRow → RoleRow
role_beside pool r = record r { pool = if is_named pool r.pool then None else r.pool }

abbrev pub names_pool : Name → GrantRow → Bool
names_pool pool (PoolToUser p u) = same_name p pool
names_pool pool (PoolToRole p r) = same_name p pool
names_pool pool (RoleToUser r u) = false

-- the definitions without this pool
abbrev pub without_pool : Definitions → Name → Definitions
without_pool d name = record d {
  pools = without_row (λ r. r.name) name d.pools;
  users = map (user_beside name) d.users;
  roles = map (role_beside name) d.roles;
  grants = all_but (names_pool name) d.grants;
}

-- 10: the pool is GENERAL
abbrev pub pool_built_in : Name → Option Refusal
pool_built_in name = refused_if (same_name name general) refusal.BuiltIn

-- 16: another pool cascades to it; the first that does is named
abbrev pub pool_needed : List PoolRow → Name → Option Refusal
pool_needed pools name = option_map (λ r. refusal.Dependents r.name) (find (λ r. is_named name r.cascade) pools)

-- why a pool is not dropped
abbrev pub drop_pool_refusal : Definitions → Name → Option Refusal
drop_pool_refusal d name = first_refusal (
    pool_missing d name
    ∷ pool_built_in name
    ∷ pool_needed d.pools name
    ∷ changes_full d
    ∷ [])

-- a list of one item a pool, without that of the pool of this name
abbrev pub without_place : {A : Type 0} → List PoolRow → Name → List A → List A
without_place [] name xs = xs
without_place (r ∷ rs) name [] = []
without_place (r ∷ rs) name (x ∷ xs) = if same_name r.name name then xs else x ∷ without_place rs name xs

-- a session that chose the pool has chosen GENERAL
abbrev pub session_beside : Name → Session → Session
session_beside pool x = record x { pool = named_in_place pool x.pool }

-- a running query of the pool is GENERAL's, with its grant, its place and its start, and one that is to leave for the pool is
-- to leave for GENERAL
abbrev pub runner_beside : Name → Runner → Runner
runner_beside pool r = record r { pool = in_place pool r.pool; leaving = named_in_place pool r.leaving }

-- the query waits in the pool
abbrev pub waits_in : Name → Waiter → Bool
waits_in pool w = same_name w.pool pool

-- a waiting query as one of GENERAL's, with its queued moment
abbrev pub as_generals : Waiter → Waiter
as_generals w = record w { pool = general }

-- the queue, in which the pool's queries are GENERAL's, before all others or behind them, each of both in their order
abbrev pub transferred : List Waiter → Name → Bool → List Waiter
transferred waiting pool front =
    let those = map as_generals (filter (waits_in pool) waiting) in
    let others = filter (λ w. not (waits_in pool w)) waiting in
    if front then those ++ others else others ++ those

-- the pool's priority is above GENERAL's, so its waiting queries go before all others
abbrev pub goes_before : Definitions → Name → Bool
goes_before d pool = lt_z (pool_row d general).priority (pool_row d pool).priority

-- the reserve is the pool's
abbrev pub is_reserve_of : Name → Reserve → Bool
is_reserve_of pool e = same_name e.pool pool

-- what a query of the pool holds, as one of GENERAL's
abbrev pub holding_beside : Name → Holding → Holding
holding_beside pool g = record g { pool = in_place pool g.pool }

-- the bytes without the pool: its size is GENERAL's again, and so are its queries' grants, in their places
abbrev pub folded : Holdings → Name → Holdings
folded h pool = record h { reserves = without (is_reserve_of pool) h.reserves; grants = map (holding_beside pool) h.grants }

-- the state in which the pool was dropped, by the definitions that are left
abbrev pub dropped : State → Name → Definitions → State
dropped s pool d = record s {
  definitions = d;
  actual = without_place (user_pools s.definitions.pools) pool s.actual;
  counters = without_place s.definitions.pools pool s.counters;
  sessions = map (session_beside pool) s.sessions;
  running = map (runner_beside pool) s.running;
  waiting = transferred s.waiting pool (goes_before s.definitions pool);
}

-- the statement drops no pool
abbrev pub drops_none : Statement → Bool
drops_none (CreatePool name change) = true
drops_none (AlterPool name change) = true
drops_none (DropPool name) = false
drops_none (CreateUser name change) = true
drops_none (AlterUser name change) = true
drops_none (DropUser name) = true
drops_none (CreateRole name) = true
drops_none (AlterRole name pool) = true
drops_none (DropRole name) = true
drops_none (GrantUsage pool grantee) = true
drops_none (RevokeUsage pool grantee) = true
drops_none (GrantRole role user) = true
drops_none (RevokeRole role user) = true
