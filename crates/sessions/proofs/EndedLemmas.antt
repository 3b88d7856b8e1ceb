-- What a script leaves, by how it ended.
use Rattle.std.proofs.Common.{◌≡◌, ℕ, ◌≤◌, true, false, cond, ltb, List, [], length, Option, Some, None, Result, Ok, Err, refl, sym, ap, ◌∙◌, subst, arith, append-nil}
use Rattle.std.specs.Option.{IfSome, IsSome}
use Rattle.std.specs.Prelude.{IfErr, IsErrOf}
use Rattle.std.specs.Io.KnownBytes.{Appends, Keeps}
use Rattle.std.proofs.KnownBytes.{Consumes-whole}
use Rattle.std.specs.Str.Lines.{lines}
use Rattle.std.proofs.lemmas.Bool.{false≢true}
use Rattle.std.proofs.lemmas.Bool.Decides.{nat_tests}
use Rattle.rm_base.specs.declared.definitions.Definitions.{Definitions}
use Rattle.rm_base.specs.declared.limits.TheConstants.{SCRIPT_MOST}
use Rattle.rm_outside.specs.Stored.{StoredRows, IsNewlyLoaded, restored, rows_of, fresh_rows}
use Rattle.keeper_rows.specs.Opening.{is_sound, GaveUnsound, HasOpenCause}
use Rattle.keeper_rows.specs.declared.opening.OpenError.{OpenError}
use Rattle.keeper_rows.specs.declared.opening.OpenError.TheVariants as opening
use Rattle.options.specs.declared.script.ScriptOptions.{ScriptOptions}
use Rattle.options.specs.declared.status.TheConstants.{DONE, BAD_LINE, BAD_TABLE, TOO_LONG, UNSOUND}
use Rattle.sessions.specs.declared.failure.Failure.{Failure}
use Rattle.sessions.specs.declared.failure.Failure.TheVariants.{Usage, BadLine, ReadFault, ShelfFault, WriteFault, BadTable, OpenFault, CommitFault, Memory, TooLong, Unsound}
use Rattle.sessions.specs.Ended.{OfScript, OfLines, HasRunLines, KeepsRows, WroteNothing, with_rows, opens, EndsAs, AreLeft, HasEnded}
use Rattle.sessions.specs.Failures.{open_failure}
use Rattle.sessions.specs.Running.{IsCause, EndedWhole, StoppedAtTable, StoppedAtStatement, LeftRows, LinesEnded}
use Rattle.sessions.specs.Script.{Files, ScriptEnd, no_script, opened_script, script_with, first_state, first_definitions, lines_end}
use Rattle.sessions.specs.Transfers.{IsWholeInput, ExplainsInput, WroteFront}
use Rattle.sessions.specs.Turns.{ScriptState}
use Rattle.sessions.specs.World.{World, HasFailed, WhereTold}
use Rattle.sessions.proofs.RunLemmas.{wrote_nothing}

-- a script within its limit whose stored definitions are sound has the lines of its bytes
opened-turn : (o : ScriptOptions) (ls : List (List ℕ)) (files : Files) (stored : StoredRows) → opens (Some o) stored ≡ true
    → opened_script o ls files stored ≡ lines_end files 1 (first_state (first_definitions o stored)) ls
opened-turn o ls files stored sound = ap (λ b. cond b (lines_end files 1 (first_state (first_definitions o stored)) ls) (no_script UNSOUND stored)) sound

pub unopened-turn : (o : ScriptOptions) (ls : List (List ℕ)) (files : Files) (stored : StoredRows) → opens (Some o) stored ≡ false
    → opened_script o ls files stored ≡ no_script UNSOUND stored
unopened-turn o ls files stored unsound = ap (λ b. cond b (lines_end files 1 (first_state (first_definitions o stored)) ls) (no_script UNSOUND stored)) unsound

pub short-turn : (o : ScriptOptions) (bytes : List ℕ) (files : Files) (stored : StoredRows) → length bytes ≤ SCRIPT_MOST
    → script_with (Some o) bytes files stored ≡ opened_script o (lines bytes) files stored
short-turn o bytes files stored fits =
    let is : ltb SCRIPT_MOST (length bytes) ≡ false = grind (arith, nat_tests) in
    ap (λ b. cond b (no_script TOO_LONG stored) (opened_script o (lines bytes) files stored)) is

short-script : (o : ScriptOptions) (bytes : List ℕ) (files : Files) (stored : StoredRows) → opens (Some o) stored ≡ true → length bytes ≤ SCRIPT_MOST
    → script_with (Some o) bytes files stored ≡ lines_end files 1 (first_state (first_definitions o stored)) (lines bytes)
short-script o bytes files stored sound fits = short-turn o bytes files stored fits ∙ opened-turn o (lines bytes) files stored sound

-- what a script leaves that wrote nothing and had not the memory that it needed
pub unrun : (o : Option ScriptOptions) (stored : StoredRows) (old new : World) → WroteNothing old new → EndsAs o stored old new (Err Memory)
unrun o stored old new kept = λ bytes files given. wrote_nothing old.output.told new.output.told (script_with o bytes files stored).text kept

pub some-told : (told : Option StoredRows) (P : StoredRows → Type 0) → IfSome told P → WhereTold told P
some-told None P h rows is = absurd (cc)
some-told (Some x) P h rows is = let same : x ≡ rows = cc in subst P same h

-- the rows that a store tells, or those of a fresh one
abbrev told_rows : Option StoredRows → StoredRows
told_rows None = fresh_rows
told_rows (Some rows) = rows

told-is : (told : Option StoredRows) (rows : StoredRows) → told ≡ Some rows → told ≡ Some (told_rows told)
told-is None rows is = is ∙ ap Some (absurd (cc))
told-is (Some x) rows is = refl

was-told : (now before : Option StoredRows) → ((rows : StoredRows) → now ≡ Some rows → before ≡ Some rows) → IsSome now → before ≡ Some (told_rows before)
was-told None before stays some = absurd (false≢true some)
was-told (Some rows) before stays some = told-is before rows (stays rows refl)

pub nothing_appended : (a b : Option (List ℕ)) → Keeps a b → Appends a b []
nothing_appended None b h = tt
nothing_appended (Some x) None h = absurd h
nothing_appended (Some x) (Some y) h = h ∙ sym (append-nil x)

-- where nothing was written and nothing stored, the rows are those of no line
none-left : (o : Option ScriptOptions) (stored : StoredRows) (old new : World) (rows : StoredRows) → WroteNothing old new → rows ≡ stored → AreLeft o stored old new rows
none-left None stored old new rows kept is = is
none-left (Some options) stored old new rows kept is = λ bytes files given. record {
  whole = [];
  last = [];
  more = lines bytes;
  part = [];
  rest = [];
  split = refl;
  one = omega arith;
  text = refl;
  wrote = nothing_appended old.output.told new.output.told kept;
  stored = is;
}

pub same-some : {A : Type 0} (x y : A) → Some x ≡ Some y → x ≡ y
same-some x y is = cc

-- a script that ended before its first line with the rows as they were
pub ended-early : (o : Option ScriptOptions) (old new : World) (r : Result (Unit {0}) Failure) → WroteNothing old new → KeepsRows old new
    → ((stored : StoredRows) → EndsAs o stored old new r) → HasEnded o old new r
ended-early o old new r kept stays ends =
    let rows = told_rows old.keeper.told in
    let told = was-told new.keeper.told old.keeper.told stays in
    record {
      stored = rows;
      told = told;
      ends = ends rows;
      rows = λ now is. none-left o rows old new now kept (same-some now rows (sym (stays now is) ∙ told (subst (λ (q : Option StoredRows). IsSome q) (sym is) refl)));
    }

-- what a script leaves whose input could not be read
pub unread : (o : ScriptOptions) (old new : World) (f : Failure) → ExplainsInput old.input new.input f → WroteNothing old new → KeepsRows old new → (stored : StoredRows)
    → EndsAs (Some o) stored old new (Err f)
unread o old new Usage h kept stays stored = absurd h
unread o old new BadLine h kept stays stored = absurd h
unread o old new ReadFault h kept stays stored = (refl, kept, h)
unread o old new ShelfFault h kept stays stored = absurd h
unread o old new WriteFault h kept stays stored = absurd h
unread o old new BadTable h kept stays stored = absurd h
unread o old new OpenFault h kept stays stored = absurd h
unread o old new CommitFault h kept stays stored = absurd h
unread o old new Memory h kept stays stored = unrun (Some o) stored old new kept
unread o old new TooLong h kept stays stored = (refl, kept, h, stays)
unread o old new Unsound h kept stays stored = absurd h

-- the input was read whole
short-input : (old new : World) (bytes : List ℕ) → IsWholeInput old.input.told new.input.told bytes → IfSome old.input.told (λ b. length b ≤ SCRIPT_MOST)
short-input old new bytes whole = Consumes-whole old.input.told new.input.told bytes (λ b. length b ≤ SCRIPT_MOST) whole.read whole.at_end whole.fits

-- definitions of this machine are those for which their rows stand
restored-rows : (d : Definitions) (memory cores : ℕ) → IsNewlyLoaded d memory cores → restored (rows_of d) memory cores ≡ d
restored-rows d memory cores newly =
    ap (λ (m : ℕ). restored (rows_of d) m cores) (sym newly.on_memory)
    ∙ ap (λ (c : ℕ). restored (rows_of d) d.memory c) (sym newly.on_cores)
    ∙ ap (λ (n : ℕ). let x : Definitions = record d { changes = n } in x) (sym newly.unchanged)

-- the rows of the definitions that a store gave are those that it tells
gave-rows : (d : Definitions) (memory cores : ℕ) (told : Option StoredRows) (rows : StoredRows) → IfSome told (λ r. d ≡ restored r memory cores) → told ≡ Some rows → rows ≡ rows_of d
gave-rows d memory cores told rows given is =
    let gives : IfSome (Some rows) (λ r. d ≡ restored r memory cores) = subst (λ (q : Option StoredRows). IfSome q (λ r. d ≡ restored r memory cores)) is given in
    ap rows_of (sym gives)

-- what a store told before, if it still tells
pub told-before : (before now : Option StoredRows) (rows : StoredRows) → WhereTold now (λ r. before ≡ Some r) → WhereTold now (λ r. r ≡ rows) → IsSome now → before ≡ Some rows
told-before before None rows stays is some = absurd (false≢true some)
told-before before (Some r) rows stays is some = stays r refl ∙ ap Some (is r refl)

-- a script whose stored definitions are not sound
pub unsound-ends : (o : ScriptOptions) (old new : World) (bytes : List ℕ) → IsWholeInput old.input.told new.input.told bytes → WroteNothing old new → KeepsRows old new
    → GaveUnsound new.keeper.told o.memory o.cores → HasEnded (Some o) old new (Err Unsound)
unsound-ends o old new bytes whole kept stays gave =
    let rows = rows_of gave.given in
    let same = restored-rows gave.given o.memory o.cores gave.newly in
    let told_now : WhereTold new.keeper.told (λ now. now ≡ rows) = λ now is. gave-rows gave.given o.memory o.cores new.keeper.told now gave.rows is in
    record {
      stored = rows;
      told = told-before old.keeper.told new.keeper.told rows stays told_now;
      ends = record {
        known = refl;
        short = short-input old new bytes whole;
        unsound = ap is_sound same ∙ gave.unsound;
        nothing = kept;
        stays = stays;
      };
      rows = λ now is. none-left (Some o) rows old new now kept (told_now now is);
    }

-- why a store gave no definitions
abbrev ExplainsOpen : World → World → ScriptOptions → OpenError → Type 0
ExplainsOpen old new o opening.Failed = HasFailed old.keeper new.keeper
ExplainsOpen old new o opening.Unsound = GaveUnsound new.keeper.told o.memory o.cores
ExplainsOpen old new o opening.Memory = Unit {0}

explained-open : (old new : World) (o : ScriptOptions) (e : OpenError) → HasOpenCause old.keeper.faults new.keeper.faults (let r : Result Definitions OpenError = Err e in r)
    → (IsErrOf (let r : Result Definitions OpenError = Err e in r) opening.Unsound → GaveUnsound new.keeper.told o.memory o.cores) → ExplainsOpen old new o e
explained-open old new o opening.Failed cause gave = cause.failed refl
explained-open old new o opening.Unsound cause gave = gave refl
explained-open old new o opening.Memory cause gave = tt

unopened-turned : (o : ScriptOptions) (old new : World) (bytes : List ℕ) (e : OpenError) → IsWholeInput old.input.told new.input.told bytes → WroteNothing old new → KeepsRows old new
    → ExplainsOpen old new o e → HasEnded (Some o) old new (Err (open_failure e))
unopened-turned o old new bytes opening.Failed whole kept stays h = ended-early (Some o) old new (Err OpenFault) kept stays (λ stored. (refl, kept, h, short-input old new bytes whole))
unopened-turned o old new bytes opening.Unsound whole kept stays h = unsound-ends o old new bytes whole kept stays h
unopened-turned o old new bytes opening.Memory whole kept stays h = ended-early (Some o) old new (Err Memory) kept stays (λ stored. unrun (Some o) stored old new kept)

pub unopened : (o : ScriptOptions) (old new : World) (bytes : List ℕ) (e : OpenError) → IsWholeInput old.input.told new.input.told bytes → WroteNothing old new → KeepsRows old new
    → HasOpenCause old.keeper.faults new.keeper.faults (let r : Result Definitions OpenError = Err e in r)
    → (IsErrOf (let r : Result Definitions OpenError = Err e in r) opening.Unsound → GaveUnsound new.keeper.told o.memory o.cores) → HasEnded (Some o) old new (Err (open_failure e))
unopened o old new bytes e whole kept stays cause gave = unopened-turned o old new bytes e whole kept stays (explained-open old new o e cause gave)

-- what holds of how the lines end that were read to the end, holds of the script
of_script : (o : ScriptOptions) (stored : StoredRows) (old new : World) (bytes : List ℕ) (P : ScriptEnd → Type 0) → opens (Some o) stored ≡ true
    → IsWholeInput old.input.told new.input.told bytes → WhereTold old.shelf.told (λ files. P (lines_end files 1 (first_state (first_definitions o stored)) (lines bytes)))
    → OfScript (with_rows (Some o) stored) old P
of_script o stored old new bytes P sound whole h given files is =
    let Q : List ℕ → Type 0 = λ b. P (script_with (Some o) b files stored) in
    let here : Q bytes = subst P (sym (short-script o bytes files stored sound whole.fits)) (h files is.of_shelf) in
    subst (λ (q : Option (List ℕ)). IfSome q Q) is.of_input (Consumes-whole old.input.told new.input.told bytes Q whole.read whole.at_end here)

-- the same of its lines
of_lines : (o : ScriptOptions) (stored : StoredRows) (old new : World) (bytes : List ℕ) (P : Files → ScriptState → List (List ℕ) → Type 0)
    → IsWholeInput old.input.told new.input.told bytes → WhereTold old.shelf.told (λ files. P files (first_state (first_definitions o stored)) (lines bytes))
    → OfLines (Some o) stored old P
of_lines o stored old new bytes P whole h given files is =
    let Q : List ℕ → Type 0 = λ b. P files (first_state (first_definitions o stored)) (lines b) in
    subst (λ (q : Option (List ℕ)). IfSome q Q) is.of_input (Consumes-whole old.input.told new.input.told bytes Q whole.read whole.at_end (h files is.of_shelf))

has_run_lines : (o : ScriptOptions) (stored : StoredRows) (old new : World) (bytes : List ℕ) → opens (Some o) stored ≡ true → IsWholeInput old.input.told new.input.told bytes
    → HasRunLines (Some o) stored old new
has_run_lines o stored old new bytes sound whole = record { known = refl; read = whole.at_end; short = short-input old new bytes whole; opened = sound }

-- why the run of lines ended, where it did before their end
abbrev pub OnCause : World → World → Result (Unit {0}) Failure → Type 0
OnCause old new (Ok done) = Unit {0}
OnCause old new (Err f) = IsCause old.output new.output old.shelf new.shelf old.keeper new.keeper f

pub on-cause : (old new : World) (r : Result (Unit {0}) Failure) → IfErr r (IsCause old.output new.output old.shelf new.shelf old.keeper new.keeper) → OnCause old new r
on-cause old new (Ok done) h = tt
on-cause old new (Err f) h = h

-- what a script leaves whose lines were run
abbrev RanLines : ScriptOptions → StoredRows → World → World → List ℕ → Result (Unit {0}) Failure → Type 0
RanLines o stored old new bytes r =
    WhereTold old.shelf.told (λ files. LinesEnded files (first_state (first_definitions o stored)) (lines bytes) old.output.told new.output.told new.keeper.told r)

ran-turn : (o : ScriptOptions) (stored : StoredRows) (old new : World) (bytes : List ℕ) (r : Result (Unit {0}) Failure) → opens (Some o) stored ≡ true
    → IsWholeInput old.input.told new.input.told bytes → OnCause old new r → RanLines o stored old new bytes r → EndsAs (Some o) stored old new r
ran-turn o stored old new bytes (Ok done) sound whole cause h =
    (has_run_lines o stored old new bytes sound whole, of_script o stored old new bytes (λ e. EndedWhole e old.output.told new.output.told new.keeper.told DONE) sound whole h)
ran-turn o stored old new bytes (Err Usage) sound whole cause h = absurd cause
ran-turn o stored old new bytes (Err BadLine) sound whole cause h =
    (has_run_lines o stored old new bytes sound whole, of_script o stored old new bytes (λ e. EndedWhole e old.output.told new.output.told new.keeper.told BAD_LINE) sound whole h)
ran-turn o stored old new bytes (Err ReadFault) sound whole cause h = absurd cause
ran-turn o stored old new bytes (Err ShelfFault) sound whole cause h =
    (has_run_lines o stored old new bytes sound whole, of_lines o stored old new bytes (λ files first ls. StoppedAtTable files first ls old.output.told new.output.told) whole h, cause)
ran-turn o stored old new bytes (Err WriteFault) sound whole cause h =
    (has_run_lines o stored old new bytes sound whole, of_script o stored old new bytes (λ e. WroteFront old.output.told new.output.told e.text) sound whole h, cause)
ran-turn o stored old new bytes (Err BadTable) sound whole cause h =
    (has_run_lines o stored old new bytes sound whole, of_script o stored old new bytes (λ e. EndedWhole e old.output.told new.output.told new.keeper.told BAD_TABLE) sound whole h)
ran-turn o stored old new bytes (Err OpenFault) sound whole cause h = absurd cause
ran-turn o stored old new bytes (Err CommitFault) sound whole cause h =
    (has_run_lines o stored old new bytes sound whole, of_lines o stored old new bytes (λ files first ls. StoppedAtStatement files first ls old.output.told new.output.told) whole h, cause)
ran-turn o stored old new bytes (Err Memory) sound whole cause h = of_script o stored old new bytes (λ e. WroteFront old.output.told new.output.told e.text) sound whole h
ran-turn o stored old new bytes (Err TooLong) sound whole cause h = absurd cause
ran-turn o stored old new bytes (Err Unsound) sound whole cause h = absurd cause

-- what the run of lines leaves, from the definitions that the store gave
pub record Ran (o : ScriptOptions) (d : Definitions) (old opened new : World) (bytes : List ℕ) (r : Result (Unit {0}) Failure) : Type 0 where
  pub newly : IsNewlyLoaded d o.memory o.cores
  pub sound : is_sound d ≡ true
  pub given : IfSome opened.keeper.told (λ rows. d ≡ restored rows o.memory o.cores)
  pub stays : IfSome opened.keeper.told (λ rows. old.keeper.told ≡ Some rows)
  pub told : IsSome new.keeper.told → IsSome opened.keeper.told
  pub whole : IsWholeInput old.input.told new.input.told bytes
  pub cause : OnCause old new r
  pub ends : WhereTold old.shelf.told (λ files. LinesEnded files (first_state d) (lines bytes) old.output.told new.output.told new.keeper.told r)
  pub left : WhereTold old.shelf.told (λ files. WhereTold new.keeper.told (λ rows. LeftRows files (first_state d) (lines bytes) old.output.told new.output.told rows))

opened-told : (before opened : Option StoredRows) (d : Definitions) (memory cores : ℕ) → IfSome opened (λ rows. d ≡ restored rows memory cores)
    → IfSome opened (λ rows. before ≡ Some rows) → IsSome opened → before ≡ Some (rows_of d)
opened-told before None d memory cores given stays some = absurd (false≢true some)
opened-told before (Some rows) d memory cores given stays some = stays ∙ ap (λ (x : Definitions). Some (rows_of x)) (sym given)

pub ran : (o : ScriptOptions) (d : Definitions) (old opened new : World) (bytes : List ℕ) (r : Result (Unit {0}) Failure) → Ran o d old opened new bytes r → HasEnded (Some o) old new r
ran o d old opened new bytes r h =
    let stored = rows_of d in
    let same : d ≡ first_definitions o stored = sym (restored-rows d o.memory o.cores h.newly) in
    let ends = subst (λ (x : Definitions). WhereTold old.shelf.told (λ files. LinesEnded files (first_state x) (lines bytes) old.output.told new.output.told new.keeper.told r)) same h.ends in
    let left =
    subst (λ (x : Definitions). WhereTold old.shelf.told (λ files. WhereTold new.keeper.told (λ rows. LeftRows files (first_state x) (lines bytes) old.output.told new.output.told rows))) same h.left in
    record {
      stored = stored;
      told = λ some. opened-told old.keeper.told opened.keeper.told d o.memory o.cores h.given h.stays (h.told some);
      ends = ran-turn o stored old new bytes r (ap is_sound (sym same) ∙ h.sound) h.whole h.cause ends;
      rows = λ rows is.
          of_lines o stored old new bytes (λ files first ls. LeftRows files first ls old.output.told new.output.told rows) h.whole (λ files told. left files told rows is);
    }
