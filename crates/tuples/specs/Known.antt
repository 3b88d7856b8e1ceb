-- What a column's value is, where there may be no such column.
use Rattle.std.specs.Prelude.{Option, Some, None}
use denote.Ref.{Bor}
use Rattle.rm_base.specs.declared.value.Value.{Value}
use Rattle.rm_base.specs.declared.value.Value.TheVariants.{Null}

-- the value that is borrowed; where there is none it is Null
abbrev pub known : Option (Bor Value) → Value
known None = Null
known (Some v) = v.now
