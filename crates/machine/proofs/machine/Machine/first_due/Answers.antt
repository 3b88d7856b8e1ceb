use Rattle.std.proofs.Common.{◌≡◌, ap, sym, ◌∙◌, Some}
use Rattle.pool_queue.specs.Queue.{query_of}
use Rattle.rm_rules.specs.State.{State}
use Rattle.rm_rules.specs.Deadlines.{first_due}
use Rattle.machine.proofs.Settling.{number-due}
use Rattle.machine.proofs.machine.Machine.first_due.Goals as goal

pub returns : goal.returns
returns c =
    let s = c.args.self.now in
    let picked : query_of (first_due s) ≡ Some c.in_ok-query.query = ap (λ (t : State). query_of (first_due t)) (sym c.self.view_is) ∙ sym c.due.ensures.value ∙ c.in_ok-query.was in
    c.waiter_called.ensures ∙ number-due s c.in_ok-query.query c.requires picked
