use Rattle.std.proofs.Common.{subst, sym, ap, ◌∙◌, true, ◌≡◌}
use Rattle.rm_base.specs.declared.rows.PoolRow.{PoolRow}
use Rattle.rm_base.specs.Ranges.{is_pool_in_range}
use Rattle.rm_rules.specs.PoolStatements.{changed_pool, altered_pool}
use Rattle.rm_rules.proofs.PoolLaws.{altered-in_range}
use Rattle.pool_table.proofs.pools.altered_pool.Goals as goal

pub returns-clause-in_range : goal.returns-clause-in_range
returns-clause-in_range c =
    let same : c.changed_pool.result ≡ altered_pool c.args.definitions.now c.args.name c.args.change.now =
    c.changed_pool.ensures ∙ ap (λ (r : PoolRow). changed_pool c.args.definitions.now r c.args.change.now) c.pool_row.ensures.value in
    subst (λ (r : PoolRow). is_pool_in_range r ≡ true) (sym same) (altered-in_range c.args.definitions.now c.args.name c.args.change.now c.requires.sound c.requires.formed)
