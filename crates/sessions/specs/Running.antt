-- A script that runs, and what its lines leave.
use Rattle.std.specs.Prelude.{Result, Ok, Err, ◌≡◌, ◌≤◌, ℕ, Bool, true, false, List, [], ◌∷◌, ◌++◌, length, Option, Some, string_bytes}
use Rattle.std.specs.Io.KnownBytes.{Appends}
use Rattle.rm_base.specs.declared.definitions.Definitions.{Definitions}
use Rattle.rm_base.specs.declared.event.Event.{Event}
use Rattle.rm_base.specs.declared.event.Event.TheVariants as event
use Rattle.rm_base.specs.declared.name.Name.{Name}
use Rattle.rm_base.specs.declared.refusal.Refusal.{Refusal}
use Rattle.rm_base.specs.declared.reply.Reply.{Reply}
use Rattle.rm_base.specs.declared.statement.Statement.{Statement}
use Rattle.rm_outside.specs.Stored.{StoredRows, rows_of}
use Rattle.rm_rules.specs.Acceptance.{accepted}
use Rattle.rm_rules.specs.Step.{step}
use Rattle.pool_sql.specs.Reading.{read_of}
use Rattle.sessions.specs.declared.script.Turned.{Turned}
use Rattle.sessions.specs.declared.script.Turned.TheVariants as turned
use Rattle.sessions.specs.declared.failure.Failure.{Failure}
use Rattle.sessions.specs.declared.failure.Failure.TheVariants.{Usage, BadLine, ReadFault, ShelfFault, WriteFault, BadTable, OpenFault, CommitFault, Memory, TooLong, Unsound}
use Rattle.options.specs.declared.status.TheConstants.{DONE, BAD_LINE, BAD_TABLE}
use Rattle.sessions.specs.Answered.{answer_text}
use Rattle.sessions.specs.AnswerTexts.{shown_text}
use Rattle.sessions.specs.Commands.{Command, Load, Sql, Request, command_of}
use Rattle.sessions.specs.Held.{PrintsAs}
use Rattle.sessions.specs.Script.{Files, ScriptEnd, turn_end, line_turn, lines_end, state_after}
use Rattle.sessions.specs.SessionNames.{session_named}
use Rattle.sessions.specs.Transfers.{WroteFront}
use Rattle.sessions.specs.Turns.{ScriptState, Turn, Bad, Goes, Stops, session_turn}
use Rattle.sessions.specs.World.{Seen, HasFailed, WhereTold}

-- a turn that was done, with the state that it left
abbrev pub seen_turn : Turned → ScriptState → Turn
seen_turn turned.Bad s = Bad
seen_turn (turned.Goes text) s = Goes (string_bytes text) s
seen_turn (turned.Answers answer) s = Goes (answer_text answer) s
seen_turn (turned.Shows before table) s = Goes (string_bytes before ++ shown_text table) s
seen_turn (turned.Stops text) s = Stops (string_bytes text) BAD_TABLE s

-- by this event no session ends, and no query of its session ends, gives way, or is told to
abbrev pub keeps_sessions : Event → Bool
keeps_sessions (event.Define statement) = true
keeps_sessions (event.Open user) = true
keeps_sessions (event.SetPool session pool) = true
keeps_sessions (event.SetCap session cap) = true
keeps_sessions (event.Submit session floor) = true
keeps_sessions (event.Poll session) = true
keeps_sessions (event.Check session) = false
keeps_sessions (event.GiveWay session) = false
keeps_sessions (event.Finish session) = false
keeps_sessions (event.Cancel by target) = true
keeps_sessions (event.Close session) = false

-- what was asked of the session of this name was done, and the text tells of it
abbrev pub DoesRequest : ScriptState → ScriptState → Name → Request → List ℕ → Type 0
DoesRequest old new session request text =
    Goes text new ≡ session_turn old session request (session_named old.names session)

-- one machine call of this event, with a reply that prints as this one
pub record Makes (old new : ScriptState) (event : Event) (answer : Reply) : Type 0 where
  pub reply : PrintsAs answer (step old.machine 0 old.moment event).reply
  pub state : new ≡ record old { machine = (step old.machine 0 old.moment event).state }

-- the line loads a table
abbrev pub IsTableLine : List ℕ → Type 0
IsTableLine line = (name : Name) × (path : List ℕ) × (command_of line ≡ Some (Load name path))

-- the text is read as a statement that is accepted over these definitions
pub record IsAccepted (text : List ℕ) (definitions : Definitions) : Type 0 where
  pub statement : Statement
  pub left : Definitions
  pub reads : read_of text ≡ Ok statement
  pub accepts : accepted definitions statement ≡ Ok left

-- the line is a statement that is accepted over these definitions
abbrev pub IsStatementLine : List ℕ → Definitions → Type 0
IsStatementLine line definitions = (text : List ℕ) × (command_of line ≡ Some (Sql text)) × IsAccepted text definitions

-- what a shelf tells
abbrev pub SeenShelf : Type 0
SeenShelf = Seen (Option Files)

-- what a store tells
abbrev pub SeenKeeper : Type 0
SeenKeeper = Seen (Option StoredRows)

-- why a load may end a script: the shelf failed, or memory was wanting
abbrev pub IsLoadFault : SeenShelf → SeenShelf → Failure → Type 0
IsLoadFault old new Usage = ⊥
IsLoadFault old new BadLine = ⊥
IsLoadFault old new ReadFault = ⊥
IsLoadFault old new ShelfFault = HasFailed old new
IsLoadFault old new WriteFault = ⊥
IsLoadFault old new BadTable = ⊥
IsLoadFault old new OpenFault = ⊥
IsLoadFault old new CommitFault = ⊥
IsLoadFault old new Memory = Unit {0}
IsLoadFault old new TooLong = ⊥
IsLoadFault old new Unsound = ⊥

-- why a commit may end a script: the store failed, or memory was wanting
abbrev pub IsCommitFault : SeenKeeper → SeenKeeper → Failure → Type 0
IsCommitFault old new Usage = ⊥
IsCommitFault old new BadLine = ⊥
IsCommitFault old new ReadFault = ⊥
IsCommitFault old new ShelfFault = ⊥
IsCommitFault old new WriteFault = ⊥
IsCommitFault old new BadTable = ⊥
IsCommitFault old new OpenFault = ⊥
IsCommitFault old new CommitFault = HasFailed old new
IsCommitFault old new Memory = Unit {0}
IsCommitFault old new TooLong = ⊥
IsCommitFault old new Unsound = ⊥

-- why a statement that was read may end a script, by whether it is accepted: the store failed, or memory was wanting
abbrev pub IsStatementFault : Result Definitions Refusal → SeenKeeper → SeenKeeper → Failure → Type 0
IsStatementFault (Ok left) old new failure = IsCommitFault old new failure
IsStatementFault (Err refusal) old new failure = failure ≡ Memory

-- why the text of a statement may end a script over these definitions: it is accepted and the store failed, or memory was
-- wanting
abbrev pub IsTextFault : List ℕ → Definitions → SeenKeeper → SeenKeeper → Failure → Type 0
IsTextFault text definitions old new Usage = ⊥
IsTextFault text definitions old new BadLine = ⊥
IsTextFault text definitions old new ReadFault = ⊥
IsTextFault text definitions old new ShelfFault = ⊥
IsTextFault text definitions old new WriteFault = ⊥
IsTextFault text definitions old new BadTable = ⊥
IsTextFault text definitions old new OpenFault = ⊥
IsTextFault text definitions old new CommitFault = IsAccepted text definitions × HasFailed old new
IsTextFault text definitions old new Memory = Unit {0}
IsTextFault text definitions old new TooLong = ⊥
IsTextFault text definitions old new Unsound = ⊥

-- why a command, or a line, may end a script before its turn is done
abbrev pub IsCommandFault : Command → Definitions → SeenShelf → SeenShelf → SeenKeeper → SeenKeeper → Failure → Type 0
IsCommandFault command definitions shelf shelf' keeper keeper' Usage = ⊥
IsCommandFault command definitions shelf shelf' keeper keeper' BadLine = ⊥
IsCommandFault command definitions shelf shelf' keeper keeper' ReadFault = ⊥
IsCommandFault command definitions shelf shelf' keeper keeper' ShelfFault = ((name : Name) × (path : List ℕ) × (command ≡ Load name path)) × HasFailed shelf shelf'
IsCommandFault command definitions shelf shelf' keeper keeper' WriteFault = ⊥
IsCommandFault command definitions shelf shelf' keeper keeper' BadTable = ⊥
IsCommandFault command definitions shelf shelf' keeper keeper' OpenFault = ⊥
IsCommandFault command definitions shelf shelf' keeper keeper' CommitFault = ((text : List ℕ) × (command ≡ Sql text) × IsAccepted text definitions) × HasFailed keeper keeper'
IsCommandFault command definitions shelf shelf' keeper keeper' Memory = Unit {0}
IsCommandFault command definitions shelf shelf' keeper keeper' TooLong = ⊥
IsCommandFault command definitions shelf shelf' keeper keeper' Unsound = ⊥

abbrev pub IsLineFault : List ℕ → Definitions → SeenShelf → SeenShelf → SeenKeeper → SeenKeeper → Failure → Type 0
IsLineFault line definitions shelf shelf' keeper keeper' Usage = ⊥
IsLineFault line definitions shelf shelf' keeper keeper' BadLine = ⊥
IsLineFault line definitions shelf shelf' keeper keeper' ReadFault = ⊥
IsLineFault line definitions shelf shelf' keeper keeper' ShelfFault = IsTableLine line × HasFailed shelf shelf'
IsLineFault line definitions shelf shelf' keeper keeper' WriteFault = ⊥
IsLineFault line definitions shelf shelf' keeper keeper' BadTable = ⊥
IsLineFault line definitions shelf shelf' keeper keeper' OpenFault = ⊥
IsLineFault line definitions shelf shelf' keeper keeper' CommitFault = IsStatementLine line definitions × HasFailed keeper keeper'
IsLineFault line definitions shelf shelf' keeper keeper' Memory = Unit {0}
IsLineFault line definitions shelf shelf' keeper keeper' TooLong = ⊥
IsLineFault line definitions shelf shelf' keeper keeper' Unsound = ⊥

-- which counts of faults rose where lines ended so
abbrev pub IsCause : Seen (Option (List ℕ)) → Seen (Option (List ℕ)) → SeenShelf → SeenShelf → SeenKeeper → SeenKeeper → Failure → Type 0
IsCause out out' shelf shelf' keeper keeper' Usage = ⊥
IsCause out out' shelf shelf' keeper keeper' BadLine = Unit {0}
IsCause out out' shelf shelf' keeper keeper' ReadFault = ⊥
IsCause out out' shelf shelf' keeper keeper' ShelfFault = HasFailed shelf shelf'
IsCause out out' shelf shelf' keeper keeper' WriteFault = HasFailed out out'
IsCause out out' shelf shelf' keeper keeper' BadTable = Unit {0}
IsCause out out' shelf shelf' keeper keeper' OpenFault = ⊥
IsCause out out' shelf shelf' keeper keeper' CommitFault = HasFailed keeper keeper'
IsCause out out' shelf shelf' keeper keeper' Memory = Unit {0}
IsCause out out' shelf shelf' keeper keeper' TooLong = ⊥
IsCause out out' shelf shelf' keeper keeper' Unsound = ⊥

-- the rows are those that a turn leaves stored, which began with these definitions
abbrev pub IsStoredBy : Definitions → Turn → StoredRows → Type 0
IsStoredBy before Bad rows = rows ≡ rows_of before
IsStoredBy before (Goes text s) rows = rows ≡ rows_of s.machine.definitions
IsStoredBy before (Stops text status s) rows = rows ≡ rows_of s.machine.definitions

-- a script ended: its whole text was written, and its status and the stored rows, where told, are these
pub record EndedWhole (end : ScriptEnd) (before now : Option (List ℕ)) (told : Option StoredRows) (status : ℕ) : Type 0 where
  pub wrote : Appends before now end.text
  pub same : end.status ≡ status
  pub rows : WhereTold told (λ rows. rows ≡ end.stored)

-- of these lines those before one that loads a table were done, and what they print was written whole, and no more
pub record StoppedAtTable (files : Files) (first : ScriptState) (lines : List (List ℕ)) (before now : Option (List ℕ)) : Type 0 where
  pub done : List (List ℕ)
  pub line : List ℕ
  pub more : List (List ℕ)
  pub split : lines ≡ done ++ line ∷ more
  pub loads : IsTableLine line
  pub went_on : (lines_end files 1 first done).status ≡ DONE
  pub wrote : Appends before now (lines_end files 1 first done).text

-- the same before a statement that is accepted
pub record StoppedAtStatement (files : Files) (first : ScriptState) (lines : List (List ℕ)) (before now : Option (List ℕ)) : Type 0 where
  pub done : List (List ℕ)
  pub line : List ℕ
  pub more : List (List ℕ)
  pub state : ScriptState
  pub split : lines ≡ done ++ line ∷ more
  pub went_on : state_after files first done ≡ Some state
  pub states : IsStatementLine line state.machine.definitions
  pub wrote : Appends before now (lines_end files 1 first done).text

-- The rows are those that a front of these lines leaves stored; what all but the last of them print was written whole, and
-- of the last one a part.
pub record LeftRows (files : Files) (first : ScriptState) (lines : List (List ℕ)) (before now : Option (List ℕ)) (rows : StoredRows) : Type 0 where
  pub whole : List (List ℕ)
  pub last : List (List ℕ)
  pub more : List (List ℕ)
  pub part : List ℕ
  pub rest : List ℕ
  pub split : lines ≡ whole ++ last ++ more
  pub one : length last ≤ 1
  pub text : (lines_end files 1 first (whole ++ last)).text ≡ (lines_end files 1 first whole).text ++ part ++ rest
  pub wrote : Appends before now ((lines_end files 1 first whole).text ++ part)
  pub stored : rows ≡ (lines_end files 1 first (whole ++ last)).stored

-- what these lines left of the output and of the store, by how the run of them ended
abbrev pub LinesEnded : Files → ScriptState → List (List ℕ) → Option (List ℕ) → Option (List ℕ) → Option StoredRows → Result (Unit {0}) Failure → Type 0
LinesEnded files first lines before now told (Ok done) = EndedWhole (lines_end files 1 first lines) before now told DONE
LinesEnded files first lines before now told (Err Usage) = ⊥
LinesEnded files first lines before now told (Err BadLine) = EndedWhole (lines_end files 1 first lines) before now told BAD_LINE
LinesEnded files first lines before now told (Err ReadFault) = ⊥
LinesEnded files first lines before now told (Err ShelfFault) = StoppedAtTable files first lines before now
LinesEnded files first lines before now told (Err WriteFault) = WroteFront before now (lines_end files 1 first lines).text
LinesEnded files first lines before now told (Err BadTable) = EndedWhole (lines_end files 1 first lines) before now told BAD_TABLE
LinesEnded files first lines before now told (Err OpenFault) = ⊥
LinesEnded files first lines before now told (Err CommitFault) = StoppedAtStatement files first lines before now
LinesEnded files first lines before now told (Err Memory) = WroteFront before now (lines_end files 1 first lines).text
LinesEnded files first lines before now told (Err TooLong) = ⊥
LinesEnded files first lines before now told (Err Unsound) = ⊥

-- a line printed its text, and the script goes on
pub record WentOn (files : Files) (old new : ScriptState) (line : List ℕ) (before now : Option (List ℕ)) : Type 0 where
  pub text : List ℕ
  pub turn : line_turn files old line ≡ Goes text new
  pub wrote : Appends before now text

-- what the last line that was begun left of the output and of the store, by how the script ends there
abbrev pub EndsSo : ScriptEnd → Option (List ℕ) → Option (List ℕ) → Option StoredRows → Failure → Type 0
EndsSo end before now told Usage = ⊥
EndsSo end before now told BadLine = EndedWhole end before now told BAD_LINE
EndsSo end before now told ReadFault = ⊥
EndsSo end before now told ShelfFault = Appends before now []
EndsSo end before now told WriteFault = WroteFront before now end.text
EndsSo end before now told BadTable = EndedWhole end before now told BAD_TABLE
EndsSo end before now told OpenFault = ⊥
EndsSo end before now told CommitFault = Appends before now []
EndsSo end before now told Memory = WroteFront before now end.text
EndsSo end before now told TooLong = ⊥
EndsSo end before now told Unsound = ⊥

-- a line that ends a script by a fault of the shelf loads a table, and one that ends it by a fault of the store is a
-- statement that is accepted over the definitions in force
abbrev pub IsEndedBy : List ℕ → Definitions → Failure → Type 0
IsEndedBy line definitions Usage = Unit {0}
IsEndedBy line definitions BadLine = Unit {0}
IsEndedBy line definitions ReadFault = Unit {0}
IsEndedBy line definitions ShelfFault = IsTableLine line
IsEndedBy line definitions WriteFault = Unit {0}
IsEndedBy line definitions BadTable = Unit {0}
IsEndedBy line definitions OpenFault = Unit {0}
IsEndedBy line definitions CommitFault = IsStatementLine line definitions
IsEndedBy line definitions Memory = Unit {0}
IsEndedBy line definitions TooLong = Unit {0}
IsEndedBy line definitions Unsound = Unit {0}

-- a script ended at the line of this number, however it would have gone on
pub record EndedAt (files : Files) (number : ℕ) (state : ScriptState) (line : List ℕ) (before now : Option (List ℕ)) (told : Option StoredRows) (failure : Failure) : Type 0 where
  pub ends : (next : ScriptState → ScriptEnd) → EndsSo (turn_end number state (line_turn files state line) next) before now told failure
  pub by_line : IsEndedBy line state.machine.definitions failure

-- the rows are those before a line of this number of which nothing was written, or those that it leaves stored, of whose
-- text a part was written
pub record LineLeft (files : Files) (number : ℕ) (state : ScriptState) (line : List ℕ) (before now : Option (List ℕ)) (rows : StoredRows) : Type 0 where
  pub last : List (List ℕ)
  pub more : List (List ℕ)
  pub split : line ∷ [] ≡ last ++ more
  pub front : WroteFront before now (lines_end files number state last).text
  pub stored : rows ≡ (lines_end files number state last).stored
