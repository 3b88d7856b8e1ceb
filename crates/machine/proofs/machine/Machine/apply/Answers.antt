use Rattle.std.proofs.Common.{◌∙◌, ap, sym}
use Rattle.rm_rules.specs.State.{State}
use Rattle.rm_rules.specs.Step.{Outcome}
use Rattle.machine.proofs.Entering.{unsettled, step-entered, step-quiet, moved-quiet, healthy-moved}
use Rattle.machine.proofs.machine.Machine.apply.Goals as goal

pub enter-requires : goal.enter-requires
enter-requires c =
    unsettled c.args.self.now c.args.seat c.args.at c.args.event.now c.attempt_at-done.new.self c.attempt_at-done.result c.requires.healthy c.requires.formed c.attempt_at-done.ensures c.if-done.true

pub leave-requires : goal.leave-requires
leave-requires c =
    let moved = moved-quiet c.args.self.now c.args.seat c.args.at c.args.event.now c.attempt_at-done.new.self c.attempt_at-done.result c.attempt_at-done.ensures c.if-done.false in
    healthy-moved c.args.self.now c.args.at c.attempt_at-done.new.self moved c.requires.healthy

pub returns-then-done-clause-state : goal.returns-then-done-clause-state
returns-then-done-clause-state c =
    c.enter.ensures.state
    ∙ sym (ap (λ (o : Outcome). o.state) (step-entered c.args.self.now c.args.seat c.args.at c.args.event.now c.attempt_at-done.new.self c.attempt_at-done.result c.attempt_at-done.ensures c.if-done.true))

pub returns-then-done-clause-reply : goal.returns-then-done-clause-reply
returns-then-done-clause-reply c =
    c.enter.ensures.reply
    ∙ sym (ap (λ (o : Outcome). o.reply) (step-entered c.args.self.now c.args.seat c.args.at c.args.event.now c.attempt_at-done.new.self c.attempt_at-done.result c.attempt_at-done.ensures c.if-done.true))

pub returns-then-done-clause-entry : goal.returns-then-done-clause-entry
returns-then-done-clause-entry c =
    c.enter.ensures.entry
    ∙ sym (ap (λ (o : Outcome). o.entry) (step-entered c.args.self.now c.args.seat c.args.at c.args.event.now c.attempt_at-done.new.self c.attempt_at-done.result c.attempt_at-done.ensures c.if-done.true))

pub returns-else-done-clause-state : goal.returns-else-done-clause-state
returns-else-done-clause-state c =
    let s = c.args.self.now in
    let t = c.attempt_at-done.new.self in
    let done = c.attempt_at-done.result in
    let moved = moved-quiet s c.args.seat c.args.at c.args.event.now t done c.attempt_at-done.ensures c.if-done.false in
    c.leave.ensures.state
    ∙ ap (λ (u : State). let v : State = record u { clock = c.self.inside.clock } in v) moved
    ∙ ap (λ (u : State). let v : State = record s { clock = u.clock } in v) c.self.view_is
    ∙ sym (ap (λ (o : Outcome). o.state) (step-quiet s c.args.seat c.args.at c.args.event.now t done c.attempt_at-done.ensures c.if-done.false))

pub returns-else-done-clause-reply : goal.returns-else-done-clause-reply
returns-else-done-clause-reply c =
    c.leave.ensures.reply
    ∙ sym (ap (λ (o : Outcome). o.reply) (step-quiet c.args.self.now c.args.seat c.args.at c.args.event.now c.attempt_at-done.new.self c.attempt_at-done.result c.attempt_at-done.ensures c.if-done.false))

pub returns-else-done-clause-entry : goal.returns-else-done-clause-entry
returns-else-done-clause-entry c =
    c.leave.ensures.entry
    ∙ sym (ap (λ (o : Outcome). o.entry) (step-quiet c.args.self.now c.args.seat c.args.at c.args.event.now c.attempt_at-done.new.self c.attempt_at-done.result c.attempt_at-done.ensures c.if-done.false))
