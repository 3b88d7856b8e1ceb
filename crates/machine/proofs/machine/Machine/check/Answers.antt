use Rattle.std.proofs.Common.{rules, ◌≤◌, sym, ap, ◌∙◌, arith}
use Rattle.rm_base.specs.declared.limits.TheConstants.{MOMENT_MOST}
use Rattle.rm_rules.specs.State.{State, runner_of}
use Rattle.machine.proofs.Inside.{sound_inside}
use Rattle.machine.proofs.Running.{running-own}
use Rattle.machine.proofs.Moving.{run-inside}
use Rattle.machine.proofs.machine.Machine.check.Goals as goal

pub running_time-running-requires-clause-started : goal.running_time-running-requires-clause-started
running_time-running-requires-clause-started c =
    let found = ap (λ (s : State). runner_of s.running c.args.x.now.number) (sym c.self.view_is) ∙ sym c.of.ensures ∙ c.in-Some.is in
    (run-inside c.self.inside c.args.self.now c.args.x.now.number c.in-Some.r c.self.view_is c.requires.timed found).started

pub running_time-running-requires-clause-ran : goal.running_time-running-requires-clause-ran
running_time-running-requires-clause-ran c =
    let found = ap (λ (s : State). runner_of s.running c.args.x.now.number) (sym c.self.view_is) ∙ sym c.of.ensures ∙ c.in-Some.is in
    let ran = (run-inside c.self.inside c.args.self.now c.args.x.now.number c.in-Some.r c.self.view_is c.requires.timed found).ran in
    let most : c.in-Some.r.start ≤ MOMENT_MOST = search rules in
    omega (arith, ran, most)

pub verdict-requires : goal.verdict-requires
verdict-requires c = sound_inside c.self.inside c.args.self.now c.self.view_is c.requires.sound

pub send_to-requires-clause-runs : goal.send_to-requires-clause-runs
send_to-requires-clause-runs c =
    let found = ap (λ (s : State). runner_of s.running c.args.x.now.number) (sym c.self.view_is) ∙ sym c.of.ensures ∙ c.in-Some.is in
    running-own c.args.self.now.running c.args.x.now.number c.in-Some.r found
