use Rattle.std.proofs.Common.{subst}
use Rattle.rm_rules.specs.Sound.{IsSound}
use Rattle.machine.specs.Desk.{DeskState}
use Rattle.machine.proofs.desk.Desk.look.Goals as goal

pub returns-in_err-look-clause-sound : goal.returns-in_err-look-clause-sound
returns-in_err-look-clause-sound c = subst (λ (d : DeskState). IsSound d.first) c.self.view_is c.self.invariant.sound

pub returns-clause-sound : goal.returns-clause-sound
returns-clause-sound c = subst (λ (d : DeskState). IsSound d.first) c.self.view_is c.self.invariant.sound
