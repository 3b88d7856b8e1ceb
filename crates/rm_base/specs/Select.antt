-- The least memory that serves a SELECT.
use Rattle.std.specs.Prelude.{ℕ, ◌+◌, ◌-◌, ◌*◌, length}
use Rattle.rm_base.specs.declared.limits.TheConstants.{FLOOR_OF_ONE, FLOOR_OF_MORE}
use Rattle.rm_base.specs.declared.select.Select.{Select}

-- its floor: so much for one table, and so much more for each further one
abbrev pub select_floor : Select → ℕ
select_floor s = FLOOR_OF_ONE + FLOOR_OF_MORE * (length s.tables - 1)
