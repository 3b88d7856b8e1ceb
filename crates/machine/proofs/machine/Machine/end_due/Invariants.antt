use Rattle.std.proofs.Common.{length}
use Rattle.machine.proofs.Settling.{EndsDue}
use Rattle.machine.proofs.machine.Machine.end_due.Given as goal

abbrev pub invariant-loop-w : goal.invariant-loop-w
invariant-loop-w l = EndsDue l.initial.self l.self

abbrev pub decreases-loop-w : goal.decreases-loop-w
decreases-loop-w l = length l.self.waiting
