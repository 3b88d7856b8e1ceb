-- Queueing thresholds and query budgets.
use Rattle.std.specs.Prelude.{ℕ, ◌/◌, ◌==◌, unwrap_or, if◌then◌else◌}
use Rattle.rm_base.specs.declared.definitions.Definitions.{Definitions}
use Rattle.rm_base.specs.declared.rows.PoolRow.{PoolRow}
use Rattle.rm_base.specs.Name.{same_name, general}
use Rattle.rm_rules.specs.Definitions.{total, planned, usable}

-- 95 percent of the pool's MAXMEMORYSIZE; for GENERAL, and where it is NONE, of the total
abbrev pub threshold : Definitions → PoolRow → ℕ
threshold d r = usable (if same_name r.name general then total d else unwrap_or r.max (total d))

-- the pool's MEMORYSIZE, or its threshold where it reserves nothing, shared by the planned queries
abbrev pub budget : Definitions → PoolRow → ℕ
budget d r = (if r.memory == 0 then threshold d r else r.memory) / planned d r
