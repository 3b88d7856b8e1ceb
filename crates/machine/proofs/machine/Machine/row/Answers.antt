use Rattle.std.proofs.Common.{◌≡◌, true, sym, ap, subst, ◌∙◌, List, Option}
use Rattle.std.specs.Option.{unwrap_or}
use Rattle.rm_base.specs.declared.rows.PoolRow.{PoolRow}
use Rattle.rm_base.specs.Definitions.{default_pool_row}
use Rattle.rm_base.specs.Name.{same_name}
use Rattle.rm_base.specs.Ranges.{is_pool_in_range}
use Rattle.rm_rules.specs.State.{State}
use Rattle.rm_rules.specs.Definitions.{pool_called, pool_row}
use Rattle.rm_rules.proofs.Places.{find-found, find-absent}
use Rattle.rm_rules.proofs.PoolLaws.{pool_row_in_range}
use Rattle.machine.proofs.machine.Machine.row.Goals as goal

pub returns-in-Some-clause-value : goal.returns-in-Some-clause-value
returns-in-Some-clause-value c =
    let pool = c.args.pool in
    let found = find-found (λ (r : PoolRow). same_name r.name pool) c.rows-rows.result.now c.in-Some.place c.index-rows-place.result (sym c.in-Some.ensures.value) c.index-rows-place.is in
    sym (ap (λ (o : Option PoolRow). unwrap_or o (default_pool_row pool)) found)
    ∙ ap (λ (l : List PoolRow). unwrap_or (pool_called l pool) (default_pool_row pool)) c.rows-rows.ensures.rows
    ∙ ap (λ (s : State). pool_row s.definitions pool) c.self.view_is

pub returns-in-Some-clause-in_range : goal.returns-in-Some-clause-in_range
returns-in-Some-clause-in_range c =
    let pool = c.args.pool in
    let found = find-found (λ (r : PoolRow). same_name r.name pool) c.rows-rows.result.now c.in-Some.place c.index-rows-place.result (sym c.in-Some.ensures.value) c.index-rows-place.is in
    let value = sym (ap (λ (o : Option PoolRow). unwrap_or o (default_pool_row pool)) found)
    ∙ ap (λ (l : List PoolRow). unwrap_or (pool_called l pool) (default_pool_row pool)) c.rows-rows.ensures.rows
    ∙ ap (λ (s : State). pool_row s.definitions pool) c.self.view_is in
    subst (λ (r : PoolRow). is_pool_in_range r ≡ true) (sym value) (pool_row_in_range c.args.self.now.definitions pool c.requires)

pub returns-in-None-clause-value : goal.returns-in-None-clause-value
returns-in-None-clause-value c =
    let pool = c.args.pool in
    let absent = find-absent (λ (r : PoolRow). same_name r.name pool) c.rows-rows.result.now (sym c.in-None.ensures.value) in
    c.default_pool_row.ensures
    ∙ sym (ap (λ (o : Option PoolRow). unwrap_or o (default_pool_row pool)) absent)
    ∙ ap (λ (l : List PoolRow). unwrap_or (pool_called l pool) (default_pool_row pool)) c.rows-rows.ensures.rows
    ∙ ap (λ (s : State). pool_row s.definitions pool) c.self.view_is
