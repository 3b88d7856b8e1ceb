use Rattle.std.specs.Prelude.{◌≡◌, ◌<◌, ◌≤◌, ℕ, List, length, Option, Some, Result, ⊤, IsNone, IsErrOf}
use Rattle.std.specs.Option.{IsSomeAnd}
use Rattle.std.specs.Map.{lookup}
use Rattle.std.specs.Str.{bytes_eq}
use Rattle.rm_outside.specs.declared.shelf.ShelfError.{ShelfError}
use Rattle.rm_outside.specs.declared.shelf.ShelfError.TheVariants.{Failed, Missing, TooLong, Memory}
use Rattle.rm_base.specs.declared.limits.TheConstants.{FILE_MOST}
use Rattle.rm_outside.specs.Faults.{Rose}

-- a load answers Failed only where the count of faults rose, and a file that is missing counts nothing
pub record HasShelfCause {T : Type 0} (before now : ℕ) (result : Result T ShelfError) : Type 0 where
  pub later : before ≤ now
  pub failed : IsErrOf result Failed → Rose before now
  pub missing : IsErrOf result Missing → now ≡ before

-- the bytes are those of the file that is there, and no more than a load may give
pub record IsWholeFile (file : Option (List ℕ)) (bytes : List ℕ) : Type 0 where
  pub same : file ≡ Some bytes
  pub fits : length bytes ≤ FILE_MOST

-- what the file at a path says of the error of its load
abbrev pub Explains : Option (List ℕ) → ShelfError → Type 0
Explains file Failed = ⊤
Explains file Missing = IsNone file
Explains file TooLong = IsSomeAnd file (λ bytes. FILE_MOST < length bytes)
Explains file Memory = ⊤

-- the bytes of the first file with this path, in a list of paths and bytes
abbrev pub file_at : List (List ℕ × List ℕ) → List ℕ → Option (List ℕ)
file_at files path = lookup (λ name. bytes_eq name path) files
