-- The bytes: the memory in force, what each pool keeps of it, and what each running query holds.
use Rattle.std.specs.Prelude.{ℕ, List, map}
use Rattle.std.specs.List.{zip}
use Rattle.rm_base.specs.declared.rows.PoolRow.{PoolRow}
use Rattle.rm_base.specs.declared.name.Name.{Name}
use Rattle.rm_rules.specs.declared.state.Runner.{Runner}
use Rattle.rm_rules.specs.declared.state.Holding.{Holding}
use Rattle.rm_rules.specs.declared.state.Reserve.{Reserve}
use Rattle.rm_rules.specs.Definitions.{user_pools}
use Rattle.rm_rules.specs.State.{State}

-- Sizes are in bytes. `reserves` are those of all pools but GENERAL, in their order, and `grants` those of the running
-- queries, in theirs.
pub record Holdings : Type 0 where
  pub in_force : ℕ
  pub reserves : List Reserve
  pub grants : List Holding

-- what a running query holds, and in which pool
abbrev pub holding : Runner → Holding
holding r = record { query = r.query; pool = r.pool; bytes = r.grant }

-- what the running queries hold, in their order
abbrev pub holdings : List Runner → List Holding
holdings running = map holding running

-- a pool, with its actual size
abbrev pub reserve : PoolRow × ℕ → Reserve
reserve e = record { pool = e.0.name; size = e.1 }

-- these pools with these sizes
abbrev pub reserves_of : List PoolRow → List ℕ → List Reserve
reserves_of pools sizes = map reserve (zip pools sizes)

-- the names of the pools of these reserves
abbrev pub reserve_names : List Reserve → List Name
reserve_names reserves = map (λ e. e.pool) reserves

-- the bytes of a state
abbrev pub holdings_of : State → Holdings
holdings_of s = record {
  in_force = s.in_force;
  reserves = reserves_of (user_pools s.definitions.pools) s.actual;
  grants = holdings s.running;
}
