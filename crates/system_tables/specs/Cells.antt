-- What the cells of system tables show.
use Rattle.std.specs.Prelude.{ℕ, ◌^◌, pos, nat_lt, List, Option, Some, None, codes, decimal, if◌then◌else◌}
use Rattle.rm_base.specs.declared.name.Name.{Name}
use Rattle.rm_base.specs.declared.snapshot.Condition.{Condition}
use Rattle.rm_base.specs.declared.snapshot.Condition.TheVariants as condition
use Rattle.rm_base.specs.declared.statement.Level.{Level}
use Rattle.rm_base.specs.declared.statement.Level.TheVariants as level
use Rattle.rm_base.specs.declared.value.Value.{Value}
use Rattle.rm_base.specs.declared.value.Value.TheVariants.{Null, Int, Words}
use Rattle.rm_base.specs.Name.{name_text}
use Rattle.system_tables.specs.declared.cells.Cell.{Cell}
use Rattle.system_tables.specs.declared.cells.Cell.TheVariants as cell

-- a number: an Int, or where it is too great for one, the text of its digits, which is printed alike
abbrev pub number : ℕ → Value
number n = if nat_lt n (2 ^ 63) then Int (pos n) else Words (decimal n)

abbrev pub name : Name → Value
name n = Words (name_text n)

-- what is not set is Null
abbrev pub number_if_set : Option ℕ → Value
number_if_set None = Null
number_if_set (Some n) = number n

abbrev pub name_if_set : Option Name → Value
name_if_set None = Null
name_if_set (Some n) = name n

abbrev pub level_text : Level → List ℕ
level_text level.Low = codes "low"
level_text level.Medium = codes "medium"
level_text level.High = codes "high"

abbrev pub condition_text : Condition → List ℕ
condition_text condition.Idle = codes "idle"
condition_text condition.Waiting = codes "waiting"
condition_text condition.Running = codes "running"
condition_text condition.Ended = codes "ended"

-- the value of a cell
abbrev pub cell_value : Cell → Value
cell_value (cell.Number n) = number n
cell_value (cell.NumberIfSet n) = number_if_set n
cell_value (cell.Priority n) = Int n
cell_value (cell.Name n) = name n
cell_value (cell.NameIfSet n) = name_if_set n
cell_value (cell.Level l) = Words (level_text l)
cell_value (cell.Condition c) = Words (condition_text c)
