use Rattle.std.proofs.Common.{Option, List, find, ap, ◌∙◌}
use Rattle.std.specs.Prelude.{option_map}
use Rattle.rm_rules.specs.declared.state.Waiter.{Waiter}
use Rattle.pool_queue.specs.declared.lines.Arrived.{Arrived}
use Rattle.pool_queue.specs.declared.lines.Line.{Line}
use Rattle.pool_queue.specs.Lines.{first_of_lines}
use Rattle.pool_queue.proofs.Finding.{first-query}
use Rattle.pool_queue.proofs.waiting.Queue.first_that.Goals as goal

pub returns : goal.returns
returns g c =
    let test = g.T.Test.passes c.args.test.now in
    c.waiter_in.ensures
    ∙ ap (λ (o : Option Arrived). option_map (λ (a : Arrived). a.waiter) o)
    (c.first_such.ensures ∙ ap (λ (ls : List Line). first_of_lines (λ (a : Arrived). test a.waiter) ls) c.deref.ensures.value)
    ∙ first-query test c.self.inside.lines.items c.self.invariant.ordered
    ∙ ap (λ (ws : List Waiter). find test ws) c.self.view_is
