use Rattle.std.proofs.Common.{◌<◌, ◌-◌, List, length, sym, subst, ◌∙◌, arith}
use Rattle.pool_queue.specs.declared.lines.Arrived.{Arrived}
use Rattle.pool_queue.specs.declared.lines.Line.{Line}
use Rattle.pool_queue.specs.Lines.{merged, IsRising}
use Rattle.pool_queue.proofs.Merging.{line-rising, last-rising}
use Rattle.pool_queue.proofs.sequence.merged.Goals as goal

pub merge-requires-clause-first : goal.merge-requires-clause-first
merge-requires-clause-first c =
    let lines = c.args.lines.now in
    let i = c.loop-i.i - 1 in
    let within : i < length lines = omega (arith, c.loop-i.invariant.within, c.loop-i-test.true) in
    let rises = line-rising lines i c.index-lines-i.result (merged lines) within c.index-lines-i.is c.requires.split c.requires.rising in
    subst (λ (xs : List Arrived). IsRising xs) (sym c.rows.ensures.rows) (subst (λ (l : Line). IsRising l.waiters) c.index-lines-i.is rises)

pub merge-requires-clause-second : goal.merge-requires-clause-second
merge-requires-clause-second c =
    let lines = c.args.lines.now in
    subst (λ (xs : List Arrived). IsRising xs) (sym (c.deref.ensures.value ∙ c.loop-i.invariant.items)) (last-rising c.loop-i.i lines (merged lines) c.requires.split c.requires.rising)
