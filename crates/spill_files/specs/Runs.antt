-- Runs of rows: what they stand for, and what they may hold.
use Rattle.std.specs.Prelude.{◌≡◌, ◌≤◌, ℕ, ◌-◌, ◌&&◌, Bool, true, List, [], ◌∷◌, ◌++◌, map, length, nat_le, Option, Some, None}
use Rattle.std.specs.List.{list_all}
use Rattle.rm_base.specs.declared.limits.TheConstants.{ROW_VALUES_MOST, CELL_MOST}
use Rattle.rm_base.specs.declared.value.Value.{Value}
use Rattle.rm_base.specs.declared.value.Value.TheVariants.{Null, Int, Words}
use Rattle.rm_base.specs.Values.{rows_measure}
use Rattle.rm_outside.specs.Spool.{Files}
use Rattle.spill_files.specs.declared.run_row.RunRow.{RunRow}
use Rattle.spill_files.specs.RunRow.{run_row}

-- a value is no Text that is longer than a cell
abbrev pub is_short : Value → Bool
is_short Null = true
is_short (Int n) = true
is_short (Words text) = nat_le (length text) CELL_MOST

-- a row that a run may have: one of a SELECT's width, with no Text that is longer than a cell
abbrev pub is_spillable : List Value → Bool
is_spillable row = nat_le (length row) ROW_VALUES_MOST && list_all is_short row

-- a run: its rows in order, how many of them were handed out, and what it holds of the meter
pub record Run : Type 0 where
  pub rows : List (List Value)
  pub place : ℕ
  pub charge : ℕ

-- the run of these rows
abbrev pub run_of : List RunRow → ℕ → ℕ → Run
run_of rows place charge = record { rows = map run_row rows; place = place; charge = charge }

-- a run holds what its rows measure, and all of them are rows that a run may have
pub record IsRight (run : Run) : Type 0 where
  pub charge : run.charge ≡ rows_measure run.rows
  pub place : run.place ≤ length run.rows
  pub spillable : list_all is_spillable run.rows ≡ true

-- a run stands for the rows that were handed out and those that are still to come
pub record Holds (run : Run) (files : Files) (done left : List (List Value)) : Type 0 where
  pub rows : done ++ left ≡ run.rows
  pub place : length done ≡ run.place

-- a row was handed out, and the others are still to come, or there was none
abbrev pub Gives : Run → Files → List (List Value) → List (List Value) → Option (List Value) → Type 0
Gives run files done left None = (left ≡ []) × Holds run files done left
Gives run files done left (Some row) =
    (more : List (List Value)) × (left ≡ row ∷ more) × Holds run files (done ++ row ∷ []) more

-- how many rows are still to come
abbrev pub rows_left : Run → ℕ
rows_left run = length run.rows - run.place

-- how many rows were handed out
abbrev pub taken : Option (List Value) → ℕ
taken None = 0
taken (Some row) = 1
