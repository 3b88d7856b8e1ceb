use Rattle.std.proofs.Common.{◌≡◌, [], ◌∷◌, map}
use Rattle.std.specs.List.{range_with_len}
use Rattle.rm_base.specs.TableSeen.{TableSeen}
use Rattle.workload.specs.Generator.{int_column, name_k, name_w, row_of_b}
use Rattle.workload.proofs.tables.table_b.Given as goal

abbrev pub invariant-loop-i : goal.invariant-loop-i
invariant-loop-i l = l.table ≡ record { columns = int_column name_k ∷ int_column name_w ∷ []; rows = map row_of_b (range_with_len 0 l.i) }
