-- The shuffle, as it goes from pool to pool.
use Rattle.std.specs.Prelude.{ℕ, Bool, ◌==◌, ◌-◌, ◌+◌, nat_lt, List, map, min, max, sum_by, if◌then◌else◌}
use Rattle.rm_base.specs.declared.definitions.Definitions.{Definitions}
use Rattle.rm_rules.specs.declared.state.Holding.{Holding}
use Rattle.rm_rules.specs.declared.state.Reserve.{Reserve}
use Rattle.rm_rules.specs.Definitions.{memory_size}
use Rattle.rm_rules.specs.Accounting.{own, debt}
use Rattle.rm_rules.specs.Shuffle.{resized, fallen_size}

-- what all these queries hold
abbrev pub held : List Holding → ℕ
held grants = sum_by (λ g. g.bytes) grants

-- the pool has its MEMORYSIZE
abbrev pub is_settled : Definitions → Reserve → Bool
is_settled d e = e.size == memory_size d e.pool

-- a pool of this MEMORYSIZE falls to so much
abbrev pub fallen_to : ℕ → List Holding → Reserve → ℕ
fallen_to memory grants e = if nat_lt memory e.size then max memory (own grants e) else e.size

-- a pool of this MEMORYSIZE grows by so much
abbrev pub growth_to : ℕ → List Holding → ℕ → Reserve → ℕ
growth_to memory grants spare e = min (memory - e.size) (debt grants e + spare)

-- the reserves after those above their MEMORYSIZE fell
abbrev pub fallen_reserves : Definitions → List Holding → List Reserve → List Reserve
fallen_reserves d grants reserves = map (λ e. resized e (fallen_size d grants e)) reserves
