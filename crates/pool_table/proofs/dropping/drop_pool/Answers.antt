use Rattle.std.proofs.Common.{not, rules}
use Rattle.std.proofs.lemmas.Fn.{filter_same}
use Rattle.rm_base.specs.Name.{same_name}
use Rattle.rm_base.specs.declared.rows.PoolRow.{PoolRow}
use Rattle.rm_rules.specs.DropPool.{names_pool}
use Rattle.pool_table.proofs.dropping.drop_pool.Goals as goal

pub returns : goal.returns
returns c =
    let pools = filter_same _ (λ (r : PoolRow). not (same_name r.name c.args.name)) _ (λ x b f' k. search rules) _ _ c.retain.ensures in
    let grants = filter_same _ (λ g. not (names_pool c.args.name g)) _ (λ x b f' k. search rules) _ _ c.retain-2.ensures in
    cc
