use Rattle.std.proofs.Common.{◌≡◌, drop}
use Rattle.query_plan.specs.Resolving.{called_twice}
use Rattle.query_plan.proofs.resolving.called_twice.Given as goal

abbrev pub invariant-loop-i : goal.invariant-loop-i
invariant-loop-i l = called_twice l.tables l.i (drop l.i l.tables) ≡ called_twice l.tables 0 l.tables
