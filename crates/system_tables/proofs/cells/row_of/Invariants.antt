use Rattle.std.proofs.Common.{◌≡◌, take, map, length, vec_len, vec_capacity}
use Rattle.system_tables.specs.Cells.{cell_value}
use Rattle.system_tables.proofs.cells.row_of.Given as goal

abbrev pub invariant-loop-cell : goal.invariant-loop-cell
invariant-loop-cell l =
    (l.values.items ≡ map cell_value (take l.cell-index l.cells)) × (vec_len l.values ≡ l.cell-index) × (vec_capacity l.values ≡ length l.cells)
