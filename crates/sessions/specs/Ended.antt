-- How a script ends, and what its end leaves.
use Rattle.std.specs.Prelude.{◌≡◌, ◌≢◌, ◌<◌, ◌≤◌, ◌⊎◌, ℕ, Bool, true, false, length, List, Option, Some, None, IsSome, IfSome, Result, Ok, Err}
use Rattle.std.specs.Io.KnownBytes.{Keeps, IsAtEnd}
use Rattle.std.specs.Str.Lines.{lines}
use Rattle.rm_base.specs.declared.limits.TheConstants.{SCRIPT_MOST}
use Rattle.rm_rules.specs.Sound.{IsSound}
use Rattle.rm_outside.specs.Stored.{StoredRows}
use Rattle.keeper_rows.specs.Opening.{is_sound}
use Rattle.options.specs.declared.script.ScriptOptions.{ScriptOptions}
use Rattle.options.specs.declared.status.TheConstants.{DONE, USAGE, BAD_LINE, READ_FAULT, WRITE_FAULT, BAD_TABLE, KEEPER_FAULT, NO_MEMORY, TOO_LONG, UNSOUND}
use Rattle.options.specs.Script.{script_options}
use Rattle.sessions.specs.declared.failure.Failure.{Failure}
use Rattle.sessions.specs.declared.failure.Failure.TheVariants.{Usage, BadLine, ReadFault, ShelfFault, WriteFault, BadTable, OpenFault, CommitFault, Memory, TooLong, Unsound}
use Rattle.sessions.specs.Running.{EndedWhole, StoppedAtTable, StoppedAtStatement, LeftRows}
use Rattle.sessions.specs.Script.{Files, ScriptEnd, script_start, first_state, first_definitions, script_with, IsOneHistory}
use Rattle.sessions.specs.Transfers.{ReadFront, IsTooLong, WroteFront}
use Rattle.sessions.specs.Turns.{ScriptState}
use Rattle.sessions.specs.World.{World, HasFailed, WhereTold, CountsNoFault, IsGiven}

-- a script whose words and stored rows are read: how it ends, by its bytes and the files
abbrev pub Scripted : Type 0
Scripted = List ℕ → Files → ScriptEnd

-- a script with these options, or with none, and these stored rows
abbrev pub with_rows : Option ScriptOptions → StoredRows → Scripted
with_rows options stored bytes files = script_with options bytes files stored

-- what holds of how a script ends, over what the world gives it
abbrev pub OfScript : Scripted → World → (ScriptEnd → Type 0) → Type 0
OfScript script world P = (bytes : List ℕ) (files : Files) → IsGiven world bytes files → P (script bytes files)

-- the script ended with this status: its whole text was written, and its rows are stored
abbrev pub WroteWhole : Scripted → World → World → ℕ → Type 0
WroteWhole script old new status = OfScript script old (λ end. EndedWhole end old.output.told new.output.told new.keeper.told status)

-- the front of the script's text was written, and no more
abbrev pub WrotePart : Scripted → World → World → Type 0
WrotePart script old new = OfScript script old (λ end. WroteFront old.output.told new.output.told end.text)

-- what holds of the lines of a script and of its first state, over what the world gives it
abbrev pub OfLines : Option ScriptOptions → StoredRows → World → (Files → ScriptState → List (List ℕ) → Type 0) → Type 0
OfLines None stored world P = ⊥
OfLines (Some options) stored world P =
    (bytes : List ℕ) (files : Files) → IsGiven world bytes files → P files (first_state (first_definitions options stored)) (lines bytes)

-- what the lines print before one that loads a table was written whole, and no more
abbrev pub WroteToTable : Option ScriptOptions → StoredRows → World → World → Type 0
WroteToTable options stored old new = OfLines options stored old (λ files first lines. StoppedAtTable files first lines old.output.told new.output.told)

-- what the lines print before a statement that is accepted was written whole, and no more
abbrev pub WroteToStatement : Option ScriptOptions → StoredRows → World → World → Type 0
WroteToStatement options stored old new = OfLines options stored old (λ files first lines. StoppedAtStatement files first lines old.output.told new.output.told)

-- nothing was written
abbrev pub WroteNothing : World → World → Type 0
WroteNothing old new = Keeps old.output.told new.output.told

-- the input is no longer than a script may be
abbrev pub IsShort : World → Type 0
IsShort old = IfSome old.input.told (λ bytes. length bytes ≤ SCRIPT_MOST)

-- whether the definitions for which these rows stand are sound on the machine that the options name
abbrev pub opens : Option ScriptOptions → StoredRows → Bool
opens None stored = false
opens (Some options) stored = is_sound (first_definitions options stored)

-- the script was read to its end, the stored definitions were taken, and its lines were run
pub record HasRunLines (options : Option ScriptOptions) (stored : StoredRows) (old new : World) : Type 0 where
  pub known : IsSome options
  pub read : IsAtEnd new.input.told
  pub short : IsShort old
  pub opened : opens options stored ≡ true

-- the rows that are stored, where the store still tells them, are those that it told before
abbrev pub KeepsRows : World → World → Type 0
KeepsRows old new = WhereTold new.keeper.told (λ rows. old.keeper.told ≡ Some rows)

-- the script was read to its end, and the stored definitions were not sound on its machine
pub record HasNotOpened (options : Option ScriptOptions) (stored : StoredRows) (old new : World) : Type 0 where
  pub known : IsSome options
  pub short : IsShort old
  pub unsound : opens options stored ≡ false
  pub nothing : WroteNothing old new
  pub stays : KeepsRows old new

-- what a script with these options, or with none, leaves that begins with these stored rows and ends so
abbrev pub EndsAs : Option ScriptOptions → StoredRows → World → World → Result (Unit {0}) Failure → Type 0
EndsAs options stored old new (Ok done) = HasRunLines options stored old new × WroteWhole (with_rows options stored) old new DONE
EndsAs options stored old new (Err Usage) = (options ≡ None) × WroteNothing old new × KeepsRows old new
EndsAs options stored old new (Err BadLine) = HasRunLines options stored old new × WroteWhole (with_rows options stored) old new BAD_LINE
EndsAs options stored old new (Err ReadFault) = IsSome options × WroteNothing old new × HasFailed old.input new.input
EndsAs options stored old new (Err ShelfFault) = HasRunLines options stored old new × WroteToTable options stored old new × HasFailed old.shelf new.shelf
EndsAs options stored old new (Err WriteFault) = HasRunLines options stored old new × WrotePart (with_rows options stored) old new × HasFailed old.output new.output
EndsAs options stored old new (Err BadTable) = HasRunLines options stored old new × WroteWhole (with_rows options stored) old new BAD_TABLE
EndsAs options stored old new (Err OpenFault) = IsSome options × WroteNothing old new × HasFailed old.keeper new.keeper × IsShort old
EndsAs options stored old new (Err CommitFault) = HasRunLines options stored old new × WroteToStatement options stored old new × HasFailed old.keeper new.keeper
EndsAs options stored old new (Err Memory) = WrotePart (with_rows options stored) old new
EndsAs options stored old new (Err TooLong) = IsSome options × WroteNothing old new × IsTooLong old.input.told new.input.told × KeepsRows old new
EndsAs options stored old new (Err Unsound) = HasNotOpened options stored old new

-- the rows that are stored at a script's end: those that were stored, or those that a front of its lines leaves
abbrev pub AreLeft : Option ScriptOptions → StoredRows → World → World → StoredRows → Type 0
AreLeft None stored old new rows = rows ≡ stored
AreLeft (Some options) stored old new rows =
    OfLines (Some options) stored old (λ files first lines. LeftRows files first lines old.output.told new.output.told rows)

-- What the run of a script leaves that ended so. `stored` are the rows of the definitions that its store gave it; they are
-- those that the store told, where it still tells its rows at the end.
pub record HasEnded (options : Option ScriptOptions) (old new : World) (result : Result (Unit {0}) Failure) : Type 0 where
  pub stored : StoredRows
  pub told : IsSome new.keeper.told → old.keeper.told ≡ Some stored
  pub ends : EndsAs options stored old new result
  pub rows : WhereTold new.keeper.told (AreLeft options stored old new)

-- what the run of a script leaves, by the words of the command line and its status
pub record IsRun (words : List (List ℕ)) (old new : World) (status : ℕ) : Type 0 where
  -- the rows of the definitions that the store gave: those that it told, where it still tells its rows at the end
  pub stored : StoredRows
  pub told : IsSome new.keeper.told → old.keeper.told ≡ Some stored
  -- where no fault was counted and memory was not wanting, the text, the status and the rows that are left are the script's
  pub exact : CountsNoFault old new → status ≢ NO_MEMORY → WroteWhole (with_rows (script_options words) stored) old new status
  -- from sound definitions the script's journal is one legal history of the machine, and the bytes add up after each entry
  pub one_history : (options : ScriptOptions) → script_options words ≡ Some options → IsSound (first_definitions options stored)
      → OfScript (with_rows (script_options words) stored) old (IsOneHistory (script_start (first_definitions options stored)))
  -- when each status comes
  pub usage : status ≡ USAGE → script_options words ≡ None
  pub outside : script_options words ≡ None → (status ≡ USAGE) ⊎ (status ≡ NO_MEMORY)
  pub read_fault : status ≡ READ_FAULT → HasFailed old.input new.input ⊎ HasFailed old.shelf new.shelf
  pub write_fault : status ≡ WRITE_FAULT → HasFailed old.output new.output
  pub keeper_fault : status ≡ KEEPER_FAULT → HasFailed old.keeper new.keeper
  pub too_long : status ≡ TOO_LONG → IsTooLong old.input.told new.input.told
  pub never_run : IfSome old.input.told (λ bytes. SCRIPT_MOST < length bytes
      → (status ≡ USAGE) ⊎ ((status ≡ READ_FAULT) ⊎ ((status ≡ NO_MEMORY) ⊎ (status ≡ TOO_LONG))))
  pub unsound : status ≡ UNSOUND → opens (script_options words) stored ≡ false
  pub never_opened : opens (script_options words) stored ≡ false
      → (status ≡ USAGE) ⊎ ((status ≡ READ_FAULT) ⊎ ((status ≡ NO_MEMORY) ⊎ ((status ≡ TOO_LONG) ⊎ ((status ≡ KEEPER_FAULT) ⊎ (status ≡ UNSOUND)))))
  pub known : (status ≡ DONE) ⊎ ((status ≡ USAGE) ⊎ ((status ≡ BAD_LINE) ⊎ ((status ≡ READ_FAULT) ⊎ ((status ≡ WRITE_FAULT) ⊎ ((status ≡ BAD_TABLE) ⊎ ((status ≡ KEEPER_FAULT) ⊎ ((status ≡ NO_MEMORY) ⊎ ((status ≡ TOO_LONG) ⊎ (status ≡ UNSOUND)))))))))
  -- what was read: at most one byte more than a script may have, and all of it where the script has run
  pub reads : ReadFront old.input.told new.input.told
  pub read_whole : (status ≡ DONE) ⊎ ((status ≡ BAD_LINE) ⊎ (status ≡ BAD_TABLE)) → IsAtEnd new.input.told
  -- what was written and stored, whatever was counted
  pub own : (status ≡ DONE) ⊎ ((status ≡ BAD_LINE) ⊎ (status ≡ BAD_TABLE)) → WroteWhole (with_rows (script_options words) stored) old new status
  pub nothing : (status ≡ USAGE) ⊎ ((status ≡ TOO_LONG) ⊎ (status ≡ UNSOUND)) → WroteNothing old new
  -- a fault of reading is the input's, and then nothing was written, or the shelf's
  pub unread : status ≡ READ_FAULT → (HasFailed old.input new.input × WroteNothing old new) ⊎ (HasFailed old.shelf new.shelf × WroteToTable (script_options words) stored old new)
  -- a fault of the store comes before the first line, and then nothing was written, or at a statement that is accepted
  pub unstored : status ≡ KEEPER_FAULT → WroteNothing old new ⊎ WroteToStatement (script_options words) stored old new
  pub front : (status ≡ WRITE_FAULT) ⊎ (status ≡ NO_MEMORY) → WrotePart (with_rows (script_options words) stored) old new
  -- the rows that are stored at the end, whatever was counted: those that a front of the lines leaves, of which at most the
  -- last was not answered whole
  pub rows : WhereTold new.keeper.told (AreLeft (script_options words) stored old new)
