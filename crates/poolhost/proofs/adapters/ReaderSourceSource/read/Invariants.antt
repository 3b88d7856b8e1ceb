use Rattle.std.proofs.Common.{◌≡◌}
use Rattle.poolhost.proofs.adapters.ReaderSourceSource.read.Given as goal

abbrev pub invariant-loop : goal.invariant-loop
invariant-loop g l = l.self.faults ≡ l.initial.self.faults
