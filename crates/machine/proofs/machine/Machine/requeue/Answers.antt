use Rattle.std.proofs.Common.{ap}
use Rattle.rm_rules.specs.declared.state.Waiter.{Waiter}
use Rattle.machine.proofs.Inside.{bytes-given}
use Rattle.machine.proofs.Moving.{runs-inside, run-inside, waits-inside}
use Rattle.machine.proofs.Running.{once-inside}
use Rattle.machine.proofs.machine.Machine.requeue.Goals as goal

pub end-requires-clause-once : goal.end-requires-clause-once
end-requires-clause-once c = once-inside c.self.inside c.args.self.now c.self.view_is c.requires.healthy.numbered

pub requeued-requires-clause-ran : goal.requeued-requires-clause-ran
requeued-requires-clause-ran c = (run-inside c.self.inside c.args.self.now c.args.r.now.session c.args.r.now c.self.view_is c.requires.healthy.timed c.requires.runs).ran

pub requeued-requires-clause-started : goal.requeued-requires-clause-started
requeued-requires-clause-started c = (run-inside c.self.inside c.args.self.now c.args.r.now.session c.args.r.now c.self.view_is c.requires.healthy.timed c.requires.runs).started

pub join-requires-clause-absent : goal.join-requires-clause-absent
join-requires-clause-absent c = waits-inside c.self.inside c.args.self.now c.args.r.now c.requeued.result c.self.view_is c.requires.healthy.numbered c.requires.runs (ap (λ (w : Waiter). w.query) c.requeued.ensures)

pub move_of-requires-clause-ran : goal.move_of-requires-clause-ran
move_of-requires-clause-ran c = (run-inside c.self.inside c.args.self.now c.args.r.now.session c.args.r.now c.self.view_is c.requires.healthy.timed c.requires.runs).ran

pub move_of-requires-clause-started : goal.move_of-requires-clause-started
move_of-requires-clause-started c = (run-inside c.self.inside c.args.self.now c.args.r.now.session c.args.r.now c.self.view_is c.requires.healthy.timed c.requires.runs).started

pub invariant_of-self : goal.invariant_of-self
invariant_of-self c =
    let found = runs-inside c.self.inside c.args.self.now c.args.r.now.session c.args.r.now c.self.view_is c.requires.runs in
    record {
      bytes = bytes-given c.self.inside c.args.self.now c.args.r.now.session c.args.r.now c.end.new.self.accounts c.end.new.self.running c.self.view_is c.self.invariant c.requires.healthy.numbered found c.end.ensures.accounts c.end.ensures.running;
      journal = c.self.invariant.journal;
      counted = c.self.invariant.counted;
    }
