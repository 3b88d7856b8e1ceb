use Rattle.std.proofs.Common.{◌≡◌, ℕ, Some, Option, sym, ap, ◌∙◌, subst}
use Rattle.machine.specs.Desk.{DeskState}
use Rattle.workload.proofs.Standing.{EndsSeen, finish-seen}
use Rattle.workload.proofs.lone.Lone.finish.Goals as goal

pub invariant_of-self : goal.invariant_of-self
invariant_of-self c =
    let h =
    finish-seen c.args.self.now c.self.inside.desk.state c.apply-answered.new.self.state c.apply-answered.result.reply c.args.at c.self.view_is
    c.entries-entries.ensures.healthy c.self.invariant c.requires.asked (ap (λ (x : DeskState). x.state) c.apply-answered.ensures.state) c.apply-answered.ensures.reply in
    h.lone
