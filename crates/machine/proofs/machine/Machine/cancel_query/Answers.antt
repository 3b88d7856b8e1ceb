use Rattle.std.proofs.Common.{sym, ap, ◌∙◌}
use Rattle.rm_rules.specs.State.{State, runner_of, waiter_of}
use Rattle.machine.proofs.Running.{running-own}
use Rattle.machine.proofs.Settling.{session-may-leave}
use Rattle.machine.proofs.machine.Machine.cancel_query.Goals as goal

pub end_as-requires-clause-leaves : goal.end_as-requires-clause-leaves
end_as-requires-clause-leaves c =
    session-may-leave c.args.self.now c.args.y.now.number c.in-Some.w c.requires.in_phase c.requires.numbered
    (ap (λ (s : State). waiter_of s.waiting c.args.y.now.number) (sym c.self.view_is) ∙ sym c.waiter_of.ensures ∙ c.in-Some.is)

pub ask_to_stop-requires : goal.ask_to_stop-requires
ask_to_stop-requires c =
    running-own c.args.self.now.running c.args.y.now.number c.in-Some-of.r
    (ap (λ (s : State). runner_of s.running c.args.y.now.number) (sym c.self.view_is) ∙ sym c.of.ensures ∙ c.in-Some-of.is)
