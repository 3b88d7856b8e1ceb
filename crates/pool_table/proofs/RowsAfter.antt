-- What a statement would leave, read off the pools and the row.
use Rattle.std.specs.Prelude.{◌≡◌, ◌≤◌, ◌+◌, true, false, cond, List, Some, unwrap_or}
use Rattle.std.proofs.Common.{sym, ap, ◌∙◌}
use Rattle.rm_base.specs.declared.definitions.Definitions.{Definitions}
use Rattle.rm_base.specs.declared.rows.PoolRow.{PoolRow}
use Rattle.rm_base.specs.declared.name.Name.{Name}
use Rattle.rm_base.specs.Name.{same_name, general}
use Rattle.rm_rules.specs.Definitions.{pool_called, pool_row, total, reserved, usable}
use Rattle.rm_rules.specs.PoolStatements.{pools_with, with_pool}
use Rattle.rm_rules.proofs.Rows.{called_with}
use Rattle.rm_rules.proofs.AcceptancePools.{reserved_with, reserved_by-within}
use Rattle.rm_rules.proofs.PoolLaws.{total-with}

pub called-here : (row : PoolRow) (rows : List PoolRow) (name : Name) → same_name row.name name ≡ true → Some row ≡ pool_called (pools_with row rows) name
called-here row rows name is = sym (called_with (λ (r : PoolRow). r.name) row rows name ∙ ap (λ b. cond b (Some row) (pool_called rows name)) is)

pub called-apart : (row : PoolRow) (rows : List PoolRow) (name : Name) → same_name row.name name ≡ false → pool_called rows name ≡ pool_called (pools_with row rows) name
called-apart row rows name is = sym (called_with (λ (r : PoolRow). r.name) row rows name ∙ ap (λ b. cond b (Some row) (pool_called rows name)) is)

pub total-here : (d : Definitions) (row : PoolRow) → same_name row.name general ≡ true → unwrap_or row.max (usable d.memory) ≡ total (with_pool d row)
total-here d row is = sym (total-with d row ∙ ap (λ b. cond b (unwrap_or row.max (usable d.memory)) (total d)) is)

pub total-apart : (d : Definitions) (row : PoolRow) → same_name row.name general ≡ false → total d ≡ total (with_pool d row)
total-apart d row is = sym (total-with d row ∙ ap (λ b. cond b (unwrap_or row.max (usable d.memory)) (total d)) is)

pub had-within : (d : Definitions) (row : PoolRow) → (pool_row d row.name).memory ≤ reserved d
had-within d row = reserved_by-within d.pools row.name

pub reserved-after : (d : Definitions) (row : PoolRow) → reserved (with_pool d row) + (pool_row d row.name).memory ≡ reserved d + row.memory
reserved-after d row = reserved_with row d.pools
