use Rattle.std.proofs.Common.{length}
use Rattle.machine.proofs.Settling.{Admits}
use Rattle.machine.proofs.machine.Machine.admit_entitled.Given as goal

abbrev pub invariant-loop-w : goal.invariant-loop-w
invariant-loop-w l = Admits l.initial.self l.self

abbrev pub decreases-loop-w : goal.decreases-loop-w
decreases-loop-w l = length l.self.waiting
