use Rattle.std.proofs.Common.{◌≡◌, ◌<◌, List, length, sym, ap, ◌∙◌, arith}
use Rattle.std.specs.List.{list_all}
use Rattle.std.proofs.lemmas.List.{take_all}
use Rattle.rm_rules.specs.declared.state.Reserve.{Reserve}
use Rattle.rm_rules.specs.Definitions.{user_pools, memory_size}
use Rattle.accounts.specs.Sizes.{is_settled}
use Rattle.accounts.proofs.Places.{lengths-same, memory-at}
use Rattle.accounts.proofs.Settled.{settled-turn}
use Rattle.accounts.proofs.sizes.are_settled.Goals as goal

pub bounds-reserves-i : goal.bounds-reserves-i
bounds-reserves-i c =
    let rows = c.user_pools-row-items.ensures.rows ∙ ap user_pools c.rows.ensures.rows in
    omega (arith, lengths-same c.args.definitions.now c.user_pools-row-items.result.now c.args.reserves.now rows c.requires.same_pools, c.loop-i-test.true)

pub bounds-reserves-i-in-loop-i : goal.bounds-reserves-i-in-loop-i
bounds-reserves-i-in-loop-i c =
    let rows = c.user_pools-row-items.ensures.rows ∙ ap user_pools c.rows.ensures.rows in
    omega (arith, lengths-same c.args.definitions.now c.user_pools-row-items.result.now c.args.reserves.now rows c.requires.same_pools, c.loop-i-test.true)

pub loop-i-preserved : goal.loop-i-preserved
loop-i-preserved c =
    let d = c.args.definitions.now in
    let es = c.args.reserves.now in
    let i = c.loop-i.i in
    let e = c.index-reserves-i.result in
    let rows = c.user_pools-row-items.ensures.rows ∙ ap user_pools c.rows.ensures.rows in
    let within : i < length es = omega (arith, lengths-same d c.user_pools-row-items.result.now es rows c.requires.same_pools, c.loop-i-test.true) in
    let memory = memory-at d c.user_pools-row-items.result.now es i c.row-item.result e c.requires.sound rows c.requires.same_pools c.loop-i-test.true c.row-item.is c.index-reserves-i.is in
    let size : e.size ≡ memory_size d e.pool = omega (arith, c.if-reserves-i.false, memory, ap (λ (x : Reserve). x.size) c.index-reserves-i.is) in
    settled-turn d es i e within c.index-reserves-i.is size c.loop-i.invariant

pub returns : goal.returns
returns c _ =
    let d = c.args.definitions.now in
    let rows = c.user_pools-row-items.ensures.rows ∙ ap user_pools c.rows.ensures.rows in
    let same = lengths-same d c.user_pools-row-items.result.now c.args.reserves.now rows c.requires.same_pools in
    ap (λ (l : List Reserve). list_all (is_settled d) l) (sym (take_all c.loop-i.i c.args.reserves.now (omega (arith, same, c.loop-i-test.false)))) ∙ c.loop-i.invariant
