use Rattle.std.proofs.Common.{ap, sym, ◌∙◌, ◌-◌, List}
use Rattle.std.specs.List.{list_all}
use Rattle.rm_base.specs.declared.limits.TheConstants.{CHAIN_MOST}
use Rattle.rm_base.specs.declared.rows.PoolRow.{PoolRow}
use Rattle.rm_rules.specs.Sound.{chain_ends, are_grants_distinct}
use Rattle.pool_table.proofs.SoundParts.{and-five, and-first}
use Rattle.pool_table.proofs.soundness.are_links_right.Goals as goal

pub returns-then-are_grants_known : goal.returns-then-are_grants_known
returns-then-are_grants_known c =
    let chains = c.do_chains_end.ensures ∙ ap (λ (pools : List PoolRow). list_all (λ r. chain_ends pools (CHAIN_MOST - 1) r.cascade) pools) c.rows.ensures.rows in
    and-five _ _ _ _ _ _ (sym chains ∙ c.if-do_chains_end.true) (sym c.are_user_pools_there.ensures ∙ c.if-are_user_pools_there.true)
    (sym c.are_role_pools_there.ensures ∙ c.if-are_role_pools_there.true) (sym c.are_grants_known.ensures ∙ c.if-are_grants_known.true)
    (c.are_grants_distinct.ensures ∙ ap are_grants_distinct c.rows-grants.ensures.rows)

pub returns-else-do_chains_end : goal.returns-else-do_chains_end
returns-else-do_chains_end c =
    let chains = c.do_chains_end.ensures ∙ ap (λ (pools : List PoolRow). list_all (λ r. chain_ends pools (CHAIN_MOST - 1) r.cascade) pools) c.rows.ensures.rows in
    and-first _ _ _ chains c.if-do_chains_end.false
