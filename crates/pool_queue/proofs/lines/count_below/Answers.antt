use Rattle.std.proofs.Common.{◌≡◌, List, count_by, ap, ◌∙◌, arith}
use Rattle.std.specs.Int.Signed.{lt_z}
use Rattle.pool_queue.specs.declared.lines.Arrived.{Arrived}
use Rattle.pool_queue.proofs.Counts.{counts-more, count_below-within}
use Rattle.pool_queue.proofs.lines.count_below.Goals as goal

pub overflow_add-count : goal.overflow_add-count
overflow_add-count c =
    let lower = λ (a : Arrived). lt_z a.number c.args.than.now.number in
    let here : c.count_lower-count.result ≡ count_by lower c.line-item.result.waiters =
    c.count_lower-count.ensures ∙ ap (λ (xs : List Arrived). count_by lower xs) c.rows.ensures.rows in
    omega (
      arith,
      here,
      counts-more c.args.than.now.number c.args.lines.now c.loop-line.line-index c.line-item.result c.loop-line-test.true c.line-item.is,
      c.loop-line.invariant,
      count_below-within c.args.than.now.number c.args.lines.now,
      c.requires,
    )
