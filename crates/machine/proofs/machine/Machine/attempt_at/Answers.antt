use Rattle.std.proofs.Common.{◌||◌, ◌∙◌, Bool, sym, ap}
use Rattle.machine.proofs.Entering.{attempted-is, healthy-moved, healthy-found}
use Rattle.machine.proofs.machine.Machine.attempt_at.Goals as goal

pub end_due-timed-requires : goal.end_due-timed-requires
end_due-timed-requires c = healthy-moved c.args.self.now c.args.at c.move_to.new.self c.move_to.ensures.state c.requires.healthy

pub attempt-done-requires-clause-healthy : goal.attempt-done-requires-clause-healthy
attempt-done-requires-clause-healthy c =
    healthy-found c.args.self.now c.args.at c.move_to.new.self c.end_due-timed.new.self c.move_to.ensures.state c.end_due-timed.ensures.state c.requires.healthy

pub returns-then-timed : goal.returns-then-timed
returns-then-timed c =
    attempted-is c.args.self.now c.args.seat c.args.at c.args.event.now c.move_to.new.self c.end_due-timed.new.self c.attempt-done.new.self c.end_due-timed.result c.end_due-timed.result c.attempt-done.result c.move_to.ensures.state
    c.end_due-timed.ensures.state c.end_due-timed.ensures.some c.attempt-done.ensures (c.if-timed.true ∙ sym (ap (λ (b : Bool). b || c.attempt-done.result.changed) c.if-timed.true))

pub returns-else-timed : goal.returns-else-timed
returns-else-timed c =
    attempted-is c.args.self.now c.args.seat c.args.at c.args.event.now c.move_to.new.self c.end_due-timed.new.self c.attempt-done.new.self c.end_due-timed.result _ c.attempt-done.result c.move_to.ensures.state
    c.end_due-timed.ensures.state c.end_due-timed.ensures.some c.attempt-done.ensures (sym (ap (λ (b : Bool). b || c.attempt-done.result.changed) c.if-timed.false))
