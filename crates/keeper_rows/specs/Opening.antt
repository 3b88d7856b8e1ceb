-- With which definitions a host begins.
use Rattle.std.specs.Prelude.{◌≡◌, ℕ, ◌≤◌, Bool, false, ◌&&◌, Option, IfSome, Result, IsErrOf}
use Rattle.rm_base.specs.declared.definitions.Definitions.{Definitions}
use Rattle.rm_outside.specs.Faults.{Rose}
use Rattle.rm_outside.specs.Stored.{StoredRows, IsNewlyLoaded, restored}
use Rattle.pool_table.specs.Soundness.{are_numbers_in_range, are_counts_in_range, are_values_in_range, are_names_right, is_total_right, are_links_right}
use Rattle.keeper_rows.specs.declared.opening.OpenError.{OpenError}
use Rattle.keeper_rows.specs.declared.opening.OpenError.TheVariants.{Failed, Memory}
use Rattle.rm_outside.specs.declared.outside.Outside.{Outside}
use Rattle.rm_outside.specs.declared.outside.Outside.TheVariants as outside

-- the definitions are sound
abbrev pub is_sound : Definitions → Bool
is_sound d =
    are_numbers_in_range d
    && (are_counts_in_range d
    && (are_values_in_range d
    && (are_names_right d
    && (is_total_right d
    && are_links_right d))))

-- on a machine with this memory and these cores a store gave definitions that are not sound; where it tells its rows, these
-- are the definitions for which they stand
pub record GaveUnsound (told : Option StoredRows) (memory cores : ℕ) : Type 0 where
  pub given : Definitions
  pub newly : IsNewlyLoaded given memory cores
  pub unsound : is_sound given ≡ false
  pub rows : IfSome told (λ rows. given ≡ restored rows memory cores)

-- why a host can't begin, by what the load of its store answers
abbrev pub open_error : Outside → OpenError
open_error outside.Failed = Failed
open_error outside.Memory = Memory

-- a count of faults never falls, and the store could not be read only where it rose
pub record HasOpenCause {T : Type 0} (before now : ℕ) (result : Result T OpenError) : Type 0 where
  pub later : before ≤ now
  pub failed : IsErrOf result Failed → Rose before now
