use Rattle.std.proofs.Common.{◌≡◌, length}
use Rattle.poolhost.proofs.kits_of.Given as goal

abbrev pub invariant-loop : goal.invariant-loop
invariant-loop l = length l.kits.items ≡ l.counter
