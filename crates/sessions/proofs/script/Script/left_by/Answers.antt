use Rattle.std.proofs.Common.{sym, subst}
use Rattle.rm_rules.specs.Sound.{IsSound}
use Rattle.sessions.proofs.script.Script.left_by.Goals as goal

pub apply-requires-clause-sound : goal.apply-requires-clause-sound
apply-requires-clause-sound c = subst IsSound (sym (c.in_ok-next.ensures)) c.definitions.ensures.sound
