use Rattle.std.proofs.Common.{◌≡◌}
use Rattle.workload.specs.Generator.{draw, table_a}
use Rattle.workload.proofs.tables.table_a.Given as goal

abbrev pub invariant-loop-i : goal.invariant-loop-i
invariant-loop-i l = record {
  table : l.table ≡ table_a l.i l.seed;
  drawn : l.x ≡ draw l.seed l.i;
}
