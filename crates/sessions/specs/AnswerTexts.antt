-- What a script prints of tables and answers.
use Rattle.std.specs.Prelude.{ℕ, ℤ, List, [], ◌∷◌, ◌++◌, map, length, codes, nat_le, if◌then◌else◌, decimal}
use Rattle.std.specs.Fmt.{signed_decimal}
use Rattle.csv.specs.Writing.{row_text, default_writer}
use Rattle.csv_tables.specs.declared.load_error.LoadError.{LoadError}
use Rattle.csv_tables.specs.declared.load_error.LoadError.TheVariants as fault
use Rattle.query_run.specs.Running.{RunOutcome, run_outcome}
use Rattle.query_run.specs.Running.RunOutcome.{Meant, Spills}
use Rattle.rm_base.specs.declared.name.Name.{Name}
use Rattle.rm_base.specs.declared.select.Select.{Select}
use Rattle.rm_base.specs.declared.value.Value.{Value}
use Rattle.rm_base.specs.declared.value.Value.TheVariants.{Null, Int, Words}
use Rattle.rm_base.specs.Name.{name_text}
use Rattle.rm_base.specs.Select.{select_floor}
use Rattle.rm_base.specs.TableSeen.{TableSeen}
use Rattle.rm_rules.specs.Meaning.{SelectOutcome}
use Rattle.rm_rules.specs.Meaning.SelectOutcome.{Answer, SumOutOfRange, AnswerTooLarge}
use Rattle.system_tables.specs.declared.rows.Shown.{Shown}

-- the text of a cell: Null is empty, an Int its digits, a Text its bytes
abbrev pub cell_text : Value → List ℕ
cell_text Null = []
cell_text (Int n) = signed_decimal n
cell_text (Words text) = text

-- the line of a row: as `csv` writes it with its default settings
abbrev pub row_line : List Value → List ℕ
row_line row = row_text default_writer (map cell_text row)

-- the lines of rows, one after the other
abbrev pub rows_text : List (List Value) → List ℕ
rows_text [] = []
rows_text (row ∷ rows) = row_line row ++ rows_text rows

-- a table that is shown: the line of its columns' names, and its rows
abbrev pub shown_text : Shown → List ℕ
shown_text table = row_text default_writer table.columns ++ rows_text table.rows

-- the line that tells how many rows follow, and the line of their columns' names
abbrev pub rows_head : Name → List (List ℕ) → ℕ → List ℕ
rows_head session names count = name_text session ++ (codes " rows " ++ (decimal count ++ (10 ∷ [] ++ row_text default_writer names)))

-- the line that tells of a sum outside 64 bits, of an answer that is too large, and of a run that does not fit its grant
abbrev pub sum_line : Name → ℕ → ℤ → List ℕ
sum_line session column sum = name_text session ++ (codes " failed sum " ++ (decimal column ++ (codes " " ++ (signed_decimal sum ++ 10 ∷ []))))

abbrev pub large_line : Name → ℕ → List ℕ
large_line session rows = name_text session ++ (codes " failed answer " ++ (decimal rows ++ 10 ∷ []))

abbrev pub spill_line : Name → List ℕ
spill_line session = name_text session ++ codes " failed needsspill\n"

-- what a SELECT prints, by its columns' names and how it ends
abbrev pub meant_text : Name → List (List ℕ) → SelectOutcome → List ℕ
meant_text session names (Answer rows) = rows_head session names (length rows) ++ rows_text rows
meant_text session names (SumOutOfRange column sum) = sum_line session column sum
meant_text session names (AnswerTooLarge rows) = large_line session rows

-- what the run of a plan prints
abbrev pub outcome_text : Name → List (List ℕ) → RunOutcome → List ℕ
outcome_text session names (Meant outcome) = meant_text session names outcome
outcome_text session names Spills = spill_line session

-- how a plan's run ends with this grant; with less than its floor it would keep nothing
abbrev pub plan_outcome : ℕ → Select → List TableSeen → RunOutcome
plan_outcome grant plan tables = if nat_le (select_floor plan) grant then run_outcome grant plan tables else Spills

-- the first fault of a file of CSV; want of memory is none
abbrev pub fault_text : LoadError → List ℕ
fault_text (fault.Header column) = codes "header " ++ decimal column
fault_text (fault.Columns count) = codes "columns " ++ decimal count
fault_text (fault.Width number) = codes "width " ++ decimal number
fault_text (fault.Value number column) = codes "value " ++ (decimal number ++ (codes " " ++ decimal column))
fault_text fault.Rows = codes "rows"
fault_text fault.TooLarge = codes "large"
fault_text fault.Memory = []

-- the line of a table that was loaded, and of one that was not
abbrev pub loaded_text : Name → ℕ → List ℕ
loaded_text name rows = codes "table " ++ (name_text name ++ (codes " rows " ++ (decimal rows ++ 10 ∷ [])))

abbrev pub unloaded_text : Name → List ℕ → List ℕ
unloaded_text name why = codes "table " ++ (name_text name ++ (codes " refused " ++ (why ++ 10 ∷ [])))
