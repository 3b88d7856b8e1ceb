-- Errors of opening a file that say that no file has the path.
use Rattle.std.specs.Prelude.{◌≡◌, ◌⊎◌}
use Rattle.std.specs.declared.io.ErrorKind.{ErrorKind}
use Rattle.std.specs.declared.io.ErrorKind.TheVariants.{NotFound, NotADirectory, InvalidInput, InvalidFilename}

-- nothing is found there, the path leads through a file, no name of a file may be so, or it is too long for one
abbrev pub IsOfNoFile : ErrorKind → Type 0
IsOfNoFile kind = (kind ≡ NotFound) ⊎ ((kind ≡ NotADirectory) ⊎ ((kind ≡ InvalidInput) ⊎ (kind ≡ InvalidFilename)))
