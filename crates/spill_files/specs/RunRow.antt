-- The values of a row of a run.
use Rattle.std.specs.Prelude.{List}
use Rattle.rm_base.specs.declared.value.Value.{Value}
use Rattle.tuples.specs.Tuple.{tuple_values}
use Rattle.spill_files.specs.declared.run_row.RunRow.{RunRow}
use Rattle.spill_files.specs.declared.run_row.RunRow.TheVariants.{Made, Joined}

abbrev pub run_row : RunRow → List Value
run_row (Made row) = row
run_row (Joined tuple) = tuple_values tuple
