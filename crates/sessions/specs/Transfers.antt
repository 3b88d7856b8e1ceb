-- What a run has read and written.
use Rattle.std.specs.Prelude.{◌≡◌, ℕ, ◌+◌, ◌≤◌, List, ◌++◌, length, Option}
use Rattle.std.specs.Io.KnownBytes.{Appends, Consumes, IsAtEnd}
use Rattle.rm_base.specs.declared.limits.TheConstants.{SCRIPT_MOST}
use Rattle.sessions.specs.declared.failure.Failure.{Failure}
use Rattle.sessions.specs.declared.failure.Failure.TheVariants.{Usage, BadLine, ReadFault, ShelfFault, WriteFault, BadTable, OpenFault, CommitFault, Memory, TooLong, Unsound}
use Rattle.sessions.specs.World.{Seen, HasFailed}

-- a front of the bytes that were left was read, of at most one byte more than a script may have
pub record ReadFront (before now : Option (List ℕ)) : Type 0 where
  pub bytes : List ℕ
  pub read : Consumes before now bytes
  pub within : length bytes ≤ SCRIPT_MOST + 1

-- these bytes were read, to the end
pub record IsWholeInput (before now : Option (List ℕ)) (bytes : List ℕ) : Type 0 where
  pub read : Consumes before now bytes
  pub at_end : IsAtEnd now
  pub fits : length bytes ≤ SCRIPT_MOST

-- one byte more than a script may have was read, and no second one
pub record IsTooLong (before now : Option (List ℕ)) : Type 0 where
  pub bytes : List ℕ
  pub read : Consumes before now bytes
  pub long : length bytes ≡ SCRIPT_MOST + 1

-- why the input could not be read
abbrev pub ExplainsInput : Seen (Option (List ℕ)) → Seen (Option (List ℕ)) → Failure → Type 0
ExplainsInput old new Usage = ⊥
ExplainsInput old new BadLine = ⊥
ExplainsInput old new ReadFault = HasFailed old new
ExplainsInput old new ShelfFault = ⊥
ExplainsInput old new WriteFault = ⊥
ExplainsInput old new BadTable = ⊥
ExplainsInput old new OpenFault = ⊥
ExplainsInput old new CommitFault = ⊥
ExplainsInput old new Memory = Unit {0}
ExplainsInput old new TooLong = IsTooLong old.told new.told
ExplainsInput old new Unsound = ⊥

-- the front of a text was written, and no more
pub record WroteFront (before now : Option (List ℕ)) (text : List ℕ) : Type 0 where
  pub front : List ℕ
  pub rest : List ℕ
  pub split : text ≡ front ++ rest
  pub wrote : Appends before now front

-- why a text was not written whole, of which the front was written
abbrev pub ExplainsOutput : Seen (Option (List ℕ)) → Seen (Option (List ℕ)) → List ℕ → Failure → Type 0
ExplainsOutput old new text Usage = ⊥
ExplainsOutput old new text BadLine = ⊥
ExplainsOutput old new text ReadFault = ⊥
ExplainsOutput old new text ShelfFault = ⊥
ExplainsOutput old new text WriteFault = WroteFront old.told new.told text × HasFailed old new
ExplainsOutput old new text BadTable = ⊥
ExplainsOutput old new text OpenFault = ⊥
ExplainsOutput old new text CommitFault = ⊥
ExplainsOutput old new text Memory = WroteFront old.told new.told text
ExplainsOutput old new text TooLong = ⊥
ExplainsOutput old new text Unsound = ⊥
