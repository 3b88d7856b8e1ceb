use Rattle.std.proofs.Common.{◌≡◌, take, map, length, vec_len, vec_capacity}
use Rattle.system_tables.specs.TableRows.{acquisition_shown}
use Rattle.system_tables.proofs.acquisitions.acquisition_rows.Given as goal

abbrev pub invariant-loop-r : goal.invariant-loop-r
invariant-loop-r l =
    (l.rows.items ≡ map acquisition_shown (take l.r-index l.running)) × (vec_len l.rows ≡ l.r-index) × (vec_capacity l.rows ≡ length l.running)
