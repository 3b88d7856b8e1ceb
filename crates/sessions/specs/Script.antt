-- A script as a function from bytes to bytes.
use Rattle.std.specs.Prelude.{ℕ, ◌+◌, Bool, true, ◌==◌, not, nat_lt, List, [], ◌∷◌, ◌++◌, length, Option, Some, None, if◌then◌else◌}
use Rattle.std.specs.Str.Lines.{lines}
use Rattle.rm_base.specs.declared.limits.TheConstants.{SCRIPT_ROOM, SCRIPT_MOST}
use Rattle.rm_base.specs.declared.entry.Entry.{Entry}
use Rattle.rm_base.specs.declared.definitions.Definitions.{Definitions}
use Rattle.rm_outside.specs.Stored.{StoredRows, rows_of, restored}
use Rattle.keeper_rows.specs.Opening.{is_sound}
use Rattle.rm_rules.specs.State.{State, start}
use Rattle.rm_rules.specs.Replay.{IsLegal}
use Rattle.rm_rules.specs.Conserved.{ConservedAfterEach}
use Rattle.rm_rules.specs.Grants.{BytesAreKept}
use Rattle.options.specs.declared.script.ScriptOptions.{ScriptOptions}
use Rattle.options.specs.declared.status.TheConstants.{DONE, USAGE, BAD_LINE, TOO_LONG, UNSOUND}
use Rattle.sessions.specs.Commands.{Command, command_of}
use Rattle.sessions.specs.Lines.{is_readable}
use Rattle.options.specs.Script.{script_options}
use Rattle.sessions.specs.Texts.{bad_text}
use Rattle.sessions.specs.Turns.{ScriptState, Turn, Bad, Goes, Stops, turn}

-- the files that a script may load, by their paths
abbrev pub Files : Type 0
Files = List ℕ → Option (List ℕ)

-- what a line does that gives this command, or none
abbrev pub command_turn : Files → ScriptState → Option Command → Turn
command_turn files s None = Bad
command_turn files s (Some command) = turn files s command

-- a line that is empty or begins with `#` prints nothing
abbrev pub is_comment : List ℕ → Bool
is_comment [] = true
is_comment (byte ∷ bytes) = byte == 35

-- what a line does
abbrev pub line_turn : Files → ScriptState → List ℕ → Turn
line_turn files s line =
    if not (is_readable line) then Bad
    else (if is_comment line then Goes [] s else command_turn files s (command_of line))

-- what a script printed, the status with which it ended, the machine's journal, and the rows that are stored
pub record ScriptEnd : Type 0 where
  pub text : List ℕ
  pub status : ℕ
  pub journal : List Entry
  pub stored : StoredRows

-- an end in this state: the stored rows are those of the definitions in force
abbrev pub ended : List ℕ → ℕ → ScriptState → ScriptEnd
ended text status s = record { text = text; status = status; journal = s.machine.journal; stored = rows_of s.machine.definitions }

-- an end, with this text before its own
abbrev pub after_text : List ℕ → ScriptEnd → ScriptEnd
after_text text end = record end { text = text ++ end.text }

-- how a script ends whose line of this number does this turn, by how it ends that goes on
abbrev pub turn_end : ℕ → ScriptState → Turn → (ScriptState → ScriptEnd) → ScriptEnd
turn_end number s Bad next = ended (bad_text number) BAD_LINE s
turn_end number s (Goes text state) next = after_text text (next state)
turn_end number s (Stops text status state) next = ended text status state

-- how a script ends that goes on with these lines, the first of which has this number; lines are counted from 1
abbrev pub lines_end : Files → ℕ → ScriptState → List (List ℕ) → ScriptEnd
lines_end files number s [] = ended [] DONE s
lines_end files number s (line ∷ more) = turn_end number s (line_turn files s line) (λ next. lines_end files (number + 1) next more)

-- the state with which a turn goes on, if it does
abbrev pub next_state : Turn → (ScriptState → Option ScriptState) → Option ScriptState
next_state Bad next = None
next_state (Goes text state) next = next state
next_state (Stops text status state) next = None

-- the state after these lines, if the script goes on after each of them
abbrev pub state_after : Files → ScriptState → List (List ℕ) → Option ScriptState
state_after files s [] = Some s
state_after files s (line ∷ more) = next_state (line_turn files s line) (λ next. state_after files next more)

-- the machine as a script finds it that begins with these definitions
abbrev pub script_start : Definitions → State
script_start definitions = start definitions SCRIPT_ROOM

-- a script before its first line
abbrev pub first_state : Definitions → ScriptState
first_state definitions = record { machine = script_start definitions; names = []; plans = []; tables = []; moment = 0 }

-- an end before the first line
abbrev pub no_script : ℕ → StoredRows → ScriptEnd
no_script status stored = record { text = []; status = status; journal = []; stored = stored }

-- the definitions with which a script with these options begins, by the rows that are stored
abbrev pub first_definitions : ScriptOptions → StoredRows → Definitions
first_definitions options stored = restored stored options.memory options.cores

-- a script of these lines, over these files: it begins with the stored definitions, where they are sound on its machine
abbrev pub opened_script : ScriptOptions → List (List ℕ) → Files → StoredRows → ScriptEnd
opened_script options lines files stored =
    if is_sound (first_definitions options stored) then lines_end files 1 (first_state (first_definitions options stored)) lines
    else no_script UNSOUND stored

-- a script with these options, over these bytes, files and stored rows
abbrev pub script_with : Option ScriptOptions → List ℕ → Files → StoredRows → ScriptEnd
script_with None bytes files stored = no_script USAGE stored
script_with (Some options) bytes files stored =
    if nat_lt SCRIPT_MOST (length bytes) then no_script TOO_LONG stored
    else opened_script options (lines bytes) files stored

-- what a script prints, the status with which it ends and the rows that it leaves stored, by the words of the command
-- line, the bytes of the script, the files that it may load and the rows that are stored
abbrev pub script : List (List ℕ) → List ℕ → Files → StoredRows → ScriptEnd
script words bytes files stored = script_with (script_options words) bytes files stored

-- a script's journal is one legal history of the machine from this state; the quantity is conserved there and after each
-- of its entries; and no entry takes or changes a grant that it does not release, raises the memory in force but with the
-- total, or admits a query past its pool's cap
pub record IsOneHistory (first : State) (end : ScriptEnd) : Type 0 where
  pub legal : IsLegal first end.journal
  pub conserved : ConservedAfterEach first end.journal
  pub kept : BytesAreKept first end.journal
