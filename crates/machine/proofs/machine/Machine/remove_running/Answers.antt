use Rattle.std.proofs.Common.{sym, ap, ◌∙◌}
use Rattle.rm_rules.specs.State.{State, runner_of}
use Rattle.machine.proofs.Running.{none-leaves, running-own, once-inside}
use Rattle.machine.proofs.Inside.{bytes-given, seen-given}
use Rattle.machine.proofs.machine.Machine.remove_running.Goals as goal

pub returns-in_default-clause-state : goal.returns-in_default-clause-state
returns-in_default-clause-state c =
    none-leaves c.args.self.now c.args.session (ap (λ (s : State). runner_of s.running c.args.session) (sym c.self.view_is) ∙ sym c.of.ensures ∙ c.in_default.is)

pub end-requires-clause-runs : goal.end-requires-clause-runs
end-requires-clause-runs c = running-own c.self.inside.runs.running c.args.session c.in-Some.r (sym c.of.ensures ∙ c.in-Some.is)

pub end-requires-clause-once : goal.end-requires-clause-once
end-requires-clause-once c = once-inside c.self.inside c.args.self.now c.self.view_is c.requires

pub invariant_of-self : goal.invariant_of-self
invariant_of-self c =
    let m = c.self.inside in
    let found = running-own m.runs.running c.args.session c.in-Some.r (sym c.of.ensures ∙ c.in-Some.is) in
    record {
      bytes = bytes-given m c.args.self.now c.in-Some.r.session c.in-Some.r c.end.new.self.accounts c.end.new.self.running c.self.view_is c.self.invariant c.requires found c.end.ensures.accounts c.end.ensures.running;
      journal = c.self.invariant.journal;
      counted = c.self.invariant.counted;
    }

pub returns-clause-state : goal.returns-clause-state
returns-clause-state c =
    seen-given c.self.inside c.args.self.now c.args.session c.in-Some.r c.end.new.self.accounts c.end.new.self.running c.self.view_is (sym c.of.ensures ∙ c.in-Some.is) c.end.ensures.accounts c.end.ensures.running
