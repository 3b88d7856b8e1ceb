use Rattle.std.proofs.Common.{◌∙◌, ap, map, List, arith}
use Rattle.std.proofs.lemmas.List.{take_all}
use Rattle.rm_base.specs.declared.rows.PoolRow.{PoolRow}
use Rattle.rm_rules.specs.Holdings.{reserve, reserves_of}
use Rattle.accounts.proofs.Places.{reserves-first}
use Rattle.accounts.proofs.sizes.first_reserves.Goals as goal

pub returns : goal.returns
returns c =
    let rows = c.user_pools-row-items.result.now in
    c.loop-row.invariant
    ∙ ap (λ (rs : List PoolRow). map (λ (r : PoolRow). reserve (r, r.memory)) rs) (take_all c.loop-row.row-index rows (omega arith))
    ∙ reserves-first rows
    ∙ ap (λ (rs : List PoolRow). reserves_of rs (map (λ (r : PoolRow). r.memory) rs)) c.user_pools-row-items.ensures.rows
