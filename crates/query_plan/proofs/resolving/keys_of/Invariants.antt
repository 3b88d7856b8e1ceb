use Rattle.std.proofs.Common.{◌≡◌, drop}
use Rattle.query_plan.specs.Resolving.{each, key_of}
use Rattle.query_plan.proofs.Eaches.{onto}
use Rattle.query_plan.proofs.resolving.keys_of.Given as goal

abbrev pub invariant-loop-key : goal.invariant-loop-key
invariant-loop-key l = onto l.out (each (key_of l.names) (drop l.key-index l.keys)) ≡ each (key_of l.names) l.keys
