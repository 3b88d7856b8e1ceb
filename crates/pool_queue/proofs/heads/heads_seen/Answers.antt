use Rattle.std.proofs.Common.{◌≡◌, ◌<◌, Bool, true, false, not, List, length, get_or, ap, ◌∙◌, arith, refl}
use Rattle.rm_rules.specs.Sound.{has_pool}
use Rattle.pool_queue.specs.declared.lines.Arrived.{Arrived}
use Rattle.pool_queue.specs.declared.heads.Head.{Head}
use Rattle.pool_queue.specs.Heads.{with_head, candidates_of, heads_of}
use Rattle.pool_queue.specs.Queue.{is_large}
use Rattle.pool_queue.proofs.Best.{takes}
use Rattle.pool_queue.proofs.Scan.{head-passes}
use Rattle.pool_queue.proofs.Transferring.{line-filled}
use Rattle.pool_queue.proofs.heads.heads_seen.Goals as goal

pub bounds-rows-0 : goal.bounds-rows-0
bounds-rows-0 g c =
    let lines = c.args.lines.now in
    let i = c.loop-line.line-index in
    let l = c.line-item.result in
    let filled = line-filled lines i l c.loop-line-test.true c.line-item.is c.requires.filled in
    let some : 0 < length l.waiters = omega (arith, filled) in
    omega (arith, some, ap (λ (xs : List Arrived). length xs) c.rows.ensures.rows)

pub head_of-requires-clause-known : goal.head_of-requires-clause-known
head_of-requires-clause-known g c =
    let lines = c.args.lines.now in
    let i = c.loop-line.line-index in
    let l = c.line-item.result in
    let filled = line-filled lines i l c.loop-line-test.true c.line-item.is c.requires.filled in
    let some : 0 < length l.waiters = omega (arith, filled) in
    let at = c.index-rows-0.is ∙ ap (λ (xs : List Arrived). get_or xs 0 c.index-rows-0.result) c.rows.ensures.rows in
    head-passes (λ (a : Arrived). has_pool c.args.definitions.now a.waiter.pool) lines i l c.index-rows-0.result c.loop-line-test.true c.line-item.is some at c.requires.known

from-not : (b : Bool) → not b ≡ true → b ≡ false
from-not true e = absurd (cc)
from-not false e = refl

pub head_of-requires-clause-small : goal.head_of-requires-clause-small
head_of-requires-clause-small g c =
    let lines = c.args.lines.now in
    let i = c.loop-line.line-index in
    let l = c.line-item.result in
    let filled = line-filled lines i l c.loop-line-test.true c.line-item.is c.requires.filled in
    let some : 0 < length l.waiters = omega (arith, filled) in
    let at = c.index-rows-0.is ∙ ap (λ (xs : List Arrived). get_or xs 0 c.index-rows-0.result) c.rows.ensures.rows in
    from-not (is_large c.args.definitions.now c.index-rows-0.result.waiter)
    (head-passes (λ (a : Arrived). not (is_large c.args.definitions.now a.waiter)) lines i l c.index-rows-0.result c.loop-line-test.true c.line-item.is some at c.requires.small)

pub loop-line-preserved : goal.loop-line-preserved
loop-line-preserved g c =
    let lines = c.args.lines.now in
    let i = c.loop-line.line-index in
    let l = c.line-item.result in
    let filled = line-filled lines i l c.loop-line-test.true c.line-item.is c.requires.filled in
    let some : 0 < length l.waiters = omega (arith, filled) in
    let d = c.args.definitions.now in
    let k = g.R.Room.holdings c.args.room.now in
    let at = c.index-rows-0.is ∙ ap (λ (xs : List Arrived). get_or xs 0 c.index-rows-0.result) c.rows.ensures.rows in
    takes d k c.loop-line.candidates c.with-candidates.result (candidates_of d k (heads_of lines)) lines i l c.index-rows-0.result c.loop-line-test.true c.line-item.is some at
    (c.with-candidates.ensures ∙ ap (λ (h : Head). with_head c.loop-line.candidates h) c.head_of.ensures) c.loop-line.invariant
