use Rattle.std.proofs.Common.{sym, ap, ◌∙◌}
use Rattle.rm_rules.specs.State.{State, runner_of}
use Rattle.machine.proofs.Running.{running-own}
use Rattle.machine.proofs.machine.Machine.give_way.Goals as goal

pub requeue-requires-clause-runs : goal.requeue-requires-clause-runs
requeue-requires-clause-runs c =
    running-own c.args.self.now.running c.args.x.now.number c.in-Some.r (ap (λ (s : State). runner_of s.running c.args.x.now.number) (sym c.self.view_is) ∙ sym c.of.ensures ∙ c.in-Some.is)
