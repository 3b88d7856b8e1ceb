use Rattle.std.proofs.Common.{eqb, ap, ◌∙◌}
use Rattle.std.specs.List.{find}
use Rattle.rm_rules.specs.declared.state.Waiter.{Waiter}
use Rattle.rm_rules.specs.State.{State}
use Rattle.machine.proofs.machine.Machine.waiter_called.Goals as goal

pub returns : goal.returns
returns c = c.waiter_called.ensures ∙ ap (λ (s : State). find (λ (w : Waiter). eqb w.query c.args.query) s.waiting) c.self.view_is
