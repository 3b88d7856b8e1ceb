use Rattle.std.proofs.Common.{List, Option, nat_eq, find, drop, ◌+◌, ap, ◌∙◌}
use Rattle.pool_queue.specs.declared.lines.Arrived.{Arrived}
use Rattle.pool_queue.specs.Lines.{earlier, first_of_lines, count_below}
use Rattle.pool_queue.proofs.Finding.{lines-more}
use Rattle.pool_queue.proofs.sequence.behind.Goals as goal

pub loop-line-preserved : goal.loop-line-preserved
loop-line-preserved c =
    let test = λ (a : Arrived). nat_eq (count_below a.number c.args.lines.now) c.args.count in
    let rest = first_of_lines test (drop (c.loop-line.line-index + 1) c.args.lines.now) in
    ap (λ (o : Option Arrived). earlier o rest)
    (c.earlier-first.ensures ∙ ap (λ (o : Option Arrived). earlier c.loop-line.first o) (c.behind_in.ensures ∙ ap (λ (xs : List Arrived). find test xs) c.rows.ensures.rows))
    ∙ lines-more test c.loop-line.first c.args.lines.now c.loop-line.line-index c.line-item.result c.loop-line-test.true c.line-item.is
    ∙ c.loop-line.invariant
