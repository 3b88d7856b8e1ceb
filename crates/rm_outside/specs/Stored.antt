-- The rows that a store keeps, and the definitions for which they stand.
use Rattle.std.specs.Prelude.{◌≡◌, ℕ, List, [], ◌∷◌, Option, Some, None}
use Rattle.rm_base.specs.declared.definitions.Definitions.{Definitions}
use Rattle.rm_base.specs.declared.rows.PoolRow.{PoolRow}
use Rattle.rm_base.specs.declared.rows.UserRow.{UserRow}
use Rattle.rm_base.specs.declared.rows.RoleRow.{RoleRow}
use Rattle.rm_base.specs.declared.rows.GrantRow.{GrantRow}
use Rattle.rm_base.specs.Definitions.{default_pool_row, default_user_row}
use Rattle.rm_base.specs.Name.{general, dbadmin}

-- the pool, user, role and grant rows, each in order
pub record StoredRows : Type 0 where
  pub pools : List PoolRow
  pub users : List UserRow
  pub roles : List RoleRow
  pub grants : List GrantRow

-- the rows of definitions
abbrev pub rows_of : Definitions → StoredRows
rows_of definitions = record {
  pools = definitions.pools;
  users = definitions.users;
  roles = definitions.roles;
  grants = definitions.grants;
}

-- the rows for which a fresh store stands: GENERAL and `dbadmin`, with all defaults
abbrev pub fresh_rows : StoredRows
fresh_rows = record {
  pools = default_pool_row general ∷ [];
  users = default_user_row dbadmin ∷ [];
  roles = [];
  grants = [];
}

-- the definitions for which rows stand on a machine with this memory and these cores
abbrev pub restored : StoredRows → ℕ → ℕ → Definitions
restored rows memory cores = record {
  memory = memory;
  cores = cores;
  pools = rows.pools;
  users = rows.users;
  roles = rows.roles;
  grants = rows.grants;
  changes = 0;
}

-- definitions of a machine with this memory and these cores to which no statement was added
pub record IsNewlyLoaded (definitions : Definitions) (memory cores : ℕ) : Type 0 where
  pub on_memory : definitions.memory ≡ memory
  pub on_cores : definitions.cores ≡ cores
  pub unchanged : definitions.changes ≡ 0

-- the rows of what was committed last, or those of a fresh store
abbrev pub kept_rows : Option Definitions → StoredRows
kept_rows None = fresh_rows
kept_rows (Some definitions) = rows_of definitions
