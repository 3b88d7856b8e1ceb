use Rattle.std.specs.Prelude.{◌≡◌, ◌≢◌, ◌+◌, ℕ, Bool, true, false, List, [], length, take, drop, Option, Some, None, ⊤, ◌⊎◌}
use Rattle.std.specs.Io.KnownBytes.{Keeps, Appends}
use Rattle.rm_outside.specs.Faults.{counted}

-- what a spool tells of its files, by their numbers
pub record Files : Type 0 where
  -- whether the file is live
  pub is_live : ℕ → Bool
  -- the length of a live file
  pub size : ℕ → ℕ
  -- the bytes of a file, where told; a number that has no file has none
  pub bytes : ℕ → Option (List ℕ)

-- a file is as it was
pub record SameFile (old new : Files) (number : ℕ) : Type 0 where
  pub is_live : new.is_live number ≡ old.is_live number
  pub size : new.size number ≡ old.size number
  pub bytes : Keeps (old.bytes number) (new.bytes number)

-- every file is as it was
abbrev pub FilesStay : Files → Files → Type 0
FilesStay old new = (number : ℕ) → SameFile old new number

-- every file but one is as it was
abbrev pub OthersStay : Files → Files → ℕ → Type 0
OthersStay old new number = (other : ℕ) → other ≢ number → SameFile old new other

-- where a file's bytes are told, it has none now
abbrev pub IsBare : Option (List ℕ) → Option (List ℕ) → Type 0
IsBare None new = ⊤
IsBare (Some xs) new = new ≡ Some []

-- where a file's bytes are told, it has them still, or none now
abbrev pub IsKeptOrBare : Option (List ℕ) → Option (List ℕ) → Type 0
IsKeptOrBare None new = ⊤
IsKeptOrBare (Some xs) new = (new ≡ Some xs) ⊎ (new ≡ Some [])

-- a new file is live, and empty
pub record Creates (old new : Files) (number : ℕ) : Type 0 where
  pub was_free : old.is_live number ≡ false
  pub is_live : new.is_live number ≡ true
  pub size : new.size number ≡ 0
  pub bytes : IsBare (old.bytes number) (new.bytes number)
  pub others : OthersStay old new number

-- a live file grew by a piece
pub record Extends (old new : Files) (number : ℕ) (piece : List ℕ) : Type 0 where
  pub is_live : new.is_live number ≡ true
  pub size : new.size number ≡ old.size number + length piece
  pub bytes : Appends (old.bytes number) (new.bytes number) piece
  pub others : OthersStay old new number

-- a live file grew by the front of a piece, perhaps by nothing of it, and the count of bytes by as many
abbrev pub ExtendsByFront : Files → Files → ℕ → List ℕ → ℕ → ℕ → Type 0
ExtendsByFront old new number piece before now =
    (taken : ℕ) × (Extends old new number (take taken piece)) × (now ≡ counted before (length (take taken piece)))

-- a file is no longer live
pub record Removes (old new : Files) (number : ℕ) : Type 0 where
  pub is_dead : new.is_live number ≡ false
  pub bytes : IsKeptOrBare (old.bytes number) (new.bytes number)
  pub others : OthersStay old new number

-- where a file's bytes are told, these are those from a place on
abbrev pub IsPart : Option (List ℕ) → ℕ → List ℕ → Type 0
IsPart None at part = ⊤
IsPart (Some bytes) at part = part ≡ take (length part) (drop at bytes)
