use Rattle.std.proofs.Common.{◌≡◌, drop}
use Rattle.query_plan.specs.Resolving.{found_from}
use Rattle.query_plan.proofs.resolving.found.Given as goal

abbrev pub invariant-loop-i : goal.invariant-loop-i
invariant-loop-i l = found_from l.tables l.i l.reference (drop l.i l.scope) ≡ found_from l.tables 0 l.reference l.scope
