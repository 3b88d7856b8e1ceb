use Rattle.std.proofs.Common.{◌+◌, List, length, get_or, refl, sym, ap, ◌∙◌, arith}
use Rattle.rm_rules.specs.declared.state.Reserve.{Reserve}
use Rattle.rm_rules.specs.Definitions.{user_pools}
use Rattle.rm_rules.specs.Shuffle.{grown_reserves}
use Rattle.accounts.proofs.Places.{lengths-same, all_done}
use Rattle.accounts.proofs.Turns.{IsTurn, turn-names, turn-grows}
use Rattle.accounts.proofs.sizes.grow.Goals as goal

pub bounds-rows-i : goal.bounds-rows-i
bounds-rows-i c =
    let rows = c.user_pools-row-items.ensures.rows ∙ ap user_pools c.rows.ensures.rows in
    let same = lengths-same c.args.definitions.now c.user_pools-row-items.result.now c.loop-i.reserves rows (c.requires.same_pools ∙ sym c.loop-i.invariant.names) in
    omega (arith, same, ap (λ (l : List Reserve). length l) c.rows-in-loop-i.ensures.rows)

pub set-requires : goal.set-requires
set-requires c =
    let rows = c.user_pools-row-items.ensures.rows ∙ ap user_pools c.rows.ensures.rows in
    let same = lengths-same c.args.definitions.now c.user_pools-row-items.result.now c.loop-i.reserves rows (c.requires.same_pools ∙ sym c.loop-i.invariant.names) in
    (omega arith, omega (arith, same))

pub loop-i-preserved : goal.loop-i-preserved
loop-i-preserved c =
    let d = c.args.definitions.now in
    let rows = c.user_pools-row-items.result.now in
    let es = c.loop-i.reserves in
    let e = c.index-rows-i.result in
    let more = c.growth_to-more.result in
    let turn : IsTurn d rows es c.set.new.self c.loop-i.i c.row-item.result e (e.size + more) = record {
      sound = c.requires.sound;
      rows_are = c.user_pools-row-items.ensures.rows ∙ ap user_pools c.rows.ensures.rows;
      same = c.requires.same_pools ∙ sym c.loop-i.invariant.names;
      within = c.loop-i-test.true;
      at_row = c.row-item.is;
      at = c.index-rows-i.is ∙ ap (λ (l : List Reserve). get_or l c.loop-i.i e) c.rows-in-loop-i.ensures.rows;
      written = c.set.ensures;
    } in
    record {
      less = omega (arith, c.spare_after-spare.ensures, c.loop-i.invariant.less);
      names = turn-names d rows es c.set.new.self c.loop-i.i c.row-item.result e (e.size + more) turn ∙ c.loop-i.invariant.names;
      sizes = turn-grows d c.args.grants.now rows es c.set.new.self (grown_reserves d c.args.grants.now c.args.free c.args.reserves.now) c.loop-i.i c.row-item.result e c.loop-i.spare more c.spare_after-spare.result turn c.growth_to-more.ensures.value c.spare_after-spare.ensures c.loop-i.invariant.sizes;
    }

pub returns : goal.returns
returns c =
    let d = c.args.definitions.now in
    let rows = c.user_pools-row-items.ensures.rows ∙ ap user_pools c.rows.ensures.rows in
    let same = lengths-same d c.user_pools-row-items.result.now c.loop-i.reserves rows (c.requires.same_pools ∙ sym c.loop-i.invariant.names) in
    all_done (grown_reserves d c.args.grants.now c.loop-i.spare) c.loop-i.reserves (grown_reserves d c.args.grants.now c.args.free c.args.reserves.now) c.loop-i.i (omega (arith, same)) refl c.loop-i.invariant.sizes
