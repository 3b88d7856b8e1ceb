use Rattle.std.proofs.Common.{ap, sym, ◌∙◌, ℕ, List, max}
use Rattle.rm_base.specs.declared.rows.PoolRow.{PoolRow}
use Rattle.rm_rules.specs.PoolStatements.{pools_with, chain_from, length_through}
use Rattle.pool_table.specs.Longest.{longest_of_others}
use Rattle.pool_table.proofs.ChainsAfter.{longest-others}
use Rattle.pool_table.proofs.chains.longest_through.Goals as goal

pub returns-clause-value : goal.returns-clause-value
returns-clause-value c =
    let row = c.args.row.now in
    let pools = c.args.definitions.now.pools in
    c.max.ensures
    ∙ ap (λ (n : ℕ). max n c.longest_of_others.result) c.length_through-own.ensures.value
    ∙ ap (λ (n : ℕ). max (length_through row.name (chain_from (pools_with row c.rows-rows.result.now) row)) n) c.longest_of_others.ensures.value
    ∙ ap (λ (rows : List PoolRow). max (length_through row.name (chain_from (pools_with row rows) row)) (longest_of_others (pools_with row rows) row.name rows)) c.rows-rows.ensures.rows
    ∙ sym (longest-others (pools_with row pools) row pools c.requires.pools_distinct)
