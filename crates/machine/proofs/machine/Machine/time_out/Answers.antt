use Rattle.std.proofs.Common.{ℕ, ap, ◌∙◌}
use Rattle.std.specs.Option.{unwrap_or}
use Rattle.rm_base.specs.declared.reply.End.TheVariants as end
use Rattle.rm_rules.specs.State.{State}
use Rattle.rm_rules.specs.Deadlines.{deadline_of, ended_as}
use Rattle.machine.proofs.Inside.{sound_inside}
use Rattle.machine.proofs.machine.Machine.time_out.Goals as goal

pub deadline-deadline-requires : goal.deadline-deadline-requires
deadline-deadline-requires c = sound_inside c.self.inside c.args.self.now c.self.view_is c.requires.sound

pub returns : goal.returns
returns c =
    let at = c.deadline-deadline.ensures ∙ ap (λ (t : State). unwrap_or (deadline_of t.definitions c.args.w) c.args.w.queued) c.self.view_is in
    c.end_as.ensures ∙ ap (λ (n : ℕ). ended_as (end.TimedOut n) c.args.self.now c.args.w) at
