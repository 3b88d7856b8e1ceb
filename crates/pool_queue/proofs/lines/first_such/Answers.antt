use Rattle.std.proofs.Common.{List, Option, find, drop, ◌+◌, ap, ◌∙◌}
use Rattle.pool_queue.specs.declared.lines.Arrived.{Arrived}
use Rattle.pool_queue.specs.Lines.{earlier, first_of_lines}
use Rattle.pool_queue.proofs.Finding.{lines-more}
use Rattle.pool_queue.proofs.lines.first_such.Goals as goal

pub loop-line-preserved : goal.loop-line-preserved
loop-line-preserved g c =
    let test = λ (a : Arrived). g.T.Test.passes c.args.test.now a.waiter in
    let rest = first_of_lines test (drop (c.loop-line.line-index + 1) c.args.lines.now) in
    ap (λ (o : Option Arrived). earlier o rest)
    (c.earlier-first.ensures ∙ ap (λ (o : Option Arrived). earlier c.loop-line.first o) (c.first_in.ensures ∙ ap (λ (xs : List Arrived). find test xs) c.rows.ensures.rows))
    ∙ lines-more test c.loop-line.first c.args.lines.now c.loop-line.line-index c.line-item.result c.loop-line-test.true c.line-item.is
    ∙ c.loop-line.invariant
