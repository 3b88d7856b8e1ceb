use Rattle.std.specs.Prelude.{ℕ, [], ◌∷◌, Some, None, pos}
use Rattle.rm_base.specs.declared.definitions.Definitions.{Definitions}
use Rattle.rm_base.specs.declared.limits.TheConstants.{QUEUE_MS_DEFAULT, THRESHOLD_SECONDS_DEFAULT}
use Rattle.rm_base.specs.declared.rows.PoolRow.{PoolRow}
use Rattle.rm_base.specs.declared.rows.UserRow.{UserRow}
use Rattle.rm_base.specs.declared.statement.Level.TheVariants.{Medium}
use Rattle.rm_base.specs.declared.name.Name.{Name}
use Rattle.rm_base.specs.Name.{general, dbadmin}

-- a pool with all defaults
abbrev pub default_pool_row : Name → PoolRow
default_pool_row name = record {
  name = name;
  memory = 0;
  max = None;
  query_max = None;
  parallel = None;
  priority = pos 0;
  runtime_priority = Medium;
  threshold_s = THRESHOLD_SECONDS_DEFAULT;
  queue_ms = Some QUEUE_MS_DEFAULT;
  planned = None;
  concurrency = None;
  cap_ms = None;
  cascade = None;
}

-- a user with all defaults
abbrev pub default_user_row : Name → UserRow
default_user_row name = record { name = name; pool = None; memory_cap = None; cap_ms = None }

-- the definitions at the start: GENERAL and `dbadmin`, with all defaults
abbrev pub fresh : ℕ → ℕ → Definitions
fresh memory cores = record {
  memory = memory;
  cores = cores;
  pools = default_pool_row general ∷ [];
  users = default_user_row dbadmin ∷ [];
  roles = [];
  grants = [];
  changes = 0;
}
