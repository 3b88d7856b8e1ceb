use Rattle.std.proofs.Common.{◌≡◌, ap, arith}
use Rattle.rm_base.specs.declared.rows.PoolRow.{PoolRow}
use Rattle.rm_rules.specs.Definitions.{pool_row}
use Rattle.pool_table.proofs.RowsAfter.{had-within, reserved-after}
use Rattle.pool_table.proofs.after.reserved_after.Goals as goal

pub overflow_sub-result : goal.overflow_sub-result
overflow_sub-result c =
    let had : c.pool_row.result.memory ≡ (pool_row c.args.definitions.now c.args.row.now.name).memory = ap (λ (r : PoolRow). r.memory) c.pool_row.ensures.value in
    omega (arith, had-within c.args.definitions.now c.args.row.now)

pub returns-clause-value : goal.returns-clause-value
returns-clause-value c =
    let had : c.pool_row.result.memory ≡ (pool_row c.args.definitions.now c.args.row.now.name).memory = ap (λ (r : PoolRow). r.memory) c.pool_row.ensures.value in
    omega (arith, had-within c.args.definitions.now c.args.row.now, reserved-after c.args.definitions.now c.args.row.now)
