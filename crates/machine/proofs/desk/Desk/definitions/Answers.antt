use Rattle.std.proofs.Common.{sym, subst}
use Rattle.rm_rules.specs.Sound.{IsSound}
use Rattle.machine.proofs.desk.Desk.definitions.Goals as goal

pub returns-clause-sound : goal.returns-clause-sound
returns-clause-sound c = subst IsSound (sym c.definitions.ensures) c.self.invariant.healthy.sound
