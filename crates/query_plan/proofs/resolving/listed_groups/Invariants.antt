use Rattle.std.proofs.Common.{◌≡◌, drop}
use Rattle.query_plan.specs.Resolving.{each, group_of}
use Rattle.query_plan.proofs.Eaches.{onto}
use Rattle.query_plan.proofs.resolving.listed_groups.Given as goal

abbrev pub invariant-loop-column : goal.invariant-loop-column
invariant-loop-column l =
    onto l.out (each (group_of l.tables l.scope) (drop l.column-index l.groups)) ≡ each (group_of l.tables l.scope) l.groups
