use Rattle.std.proofs.Common.{length}
use Rattle.machine.proofs.Settling.{EndsLarge}
use Rattle.machine.proofs.machine.Machine.end_too_large.Given as goal

abbrev pub invariant-loop-w : goal.invariant-loop-w
invariant-loop-w l = EndsLarge l.initial.self l.self

abbrev pub decreases-loop-w : goal.decreases-loop-w
decreases-loop-w l = length l.self.waiting
