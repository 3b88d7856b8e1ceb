use Rattle.std.proofs.Common.{sym, subst}
use Rattle.rm_rules.specs.Sound.{IsSound}
use Rattle.pool_queue.proofs.heads.head_of.Goals as goal

pub judge-requires-clause-sound : goal.judge-requires-clause-sound
judge-requires-clause-sound g c = subst IsSound (sym c.requires.same) c.requires.sound
