use Rattle.std.proofs.Common.{◌≡◌, List, [], map, sym, ap, ◌∙◌, arith}
use Rattle.rm_base.specs.declared.rows.PoolRow.{PoolRow}
use Rattle.rm_rules.specs.declared.state.Holding.{Holding}
use Rattle.rm_rules.specs.declared.state.Reserve.{Reserve}
use Rattle.rm_rules.specs.Definitions.{user_pools}
use Rattle.rm_rules.specs.Holdings.{Holdings, reserves_of}
use Rattle.rm_rules.specs.Accounting.{kept_back}
use Rattle.accounts.specs.Numbers.{numbers_of}
use Rattle.accounts.proofs.Keeping.{kept_first, kept_new}
use Rattle.accounts.proofs.holdings.Accounts.new.Goals as goal

pub first_numbers-requires-clause-fits : goal.first_numbers-requires-clause-fits
first_numbers-requires-clause-fits c =
    let k = kept_first c.args.definitions.now c.requires.sound in
    let first : List PoolRow → List Reserve = λ rows. reserves_of (user_pools rows) (map (λ (r : PoolRow). r.memory) (user_pools rows)) in
    let listed : c.in_ok-reserves.reserves ≡ first c.rows.result.now = c.in_ok-reserves.ensures in
    omega (
      arith,
      k.within,
      k.in_force_most,
      ap kept_back (c.rows-2.ensures.rows ∙ listed ∙ ap first c.rows.ensures.rows),
    )

pub invariant_of-result-2 : goal.invariant_of-result-2
invariant_of-result-2 c =
    let h : Holdings = record { in_force = c.total-in_force.result; reserves = c.reserves.inside.rows.items; grants = c.in_ok-new.field-0 } in
    let first : List PoolRow → List Reserve = λ rows. reserves_of (user_pools rows) (map (λ (r : PoolRow). r.memory) (user_pools rows)) in
    let listed : c.in_ok-reserves.reserves ≡ first c.rows.result.now = c.in_ok-reserves.ensures in
    let none : c.in_ok-new.field-0 ≡ [] = c.in_ok-new.ensures in
    let made : List Reserve → List Holding → Holdings = λ es gs. record { in_force = c.total-in_force.result; reserves = es; grants = gs } in
    let same : c.rows-2.result.now ≡ c.reserves.inside.rows.items = c.rows-2.ensures.rows ∙ sym c.reserves.view_is in
    let start : c.in_ok-kept.kept ≡ numbers_of (made c.rows-2.result.now []) = c.in_ok-kept.ensures in
    record {
      balanced = kept_new c.args.definitions.now c.rows.result.now h c.requires.sound c.rows.ensures.rows c.total-in_force.ensures.value (c.reserves.view_is ∙ listed) none;
      numbers = start ∙ (λ j. numbers_of (made (same j) (sym none j)));
    }
