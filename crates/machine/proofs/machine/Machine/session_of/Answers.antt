use Rattle.std.proofs.Common.{sym, ap, ◌∙◌}
use Rattle.rm_rules.specs.State.{State, session_called}
use Rattle.machine.proofs.Submitting.{called-own}
use Rattle.machine.proofs.machine.Machine.session_of.Goals as goal

pub returns-then-x-seat-clause-open : goal.returns-then-x-seat-clause-open
returns-then-x-seat-clause-open c =
    let found = ap (λ (s : State). session_called s.sessions c.args.number) (sym c.self.view_is) ∙ sym c.called.ensures ∙ c.in-Some.is in
    called-own c.args.self.now.sessions c.args.number c.in-Some.x found
