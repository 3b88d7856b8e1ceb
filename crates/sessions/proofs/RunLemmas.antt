-- How a script's lines run and end.
use Rattle.std.proofs.Common.{◌≡◌, ◌⊎◌, inl, inr, ℕ, ◌+◌, ◌≤◌, List, [], ◌∷◌, ◌++◌, length, Option, Some, None, Result, Ok, Err, refl, sym, ap, ◌∙◌, subst, arith, append_assoc, append-nil, length-append}
use Rattle.std.specs.Prelude.{IfErr, OnOk}
use Rattle.std.specs.Io.KnownBytes.{Appends, Keeps}
use Rattle.std.proofs.KnownBytes.{Appends-trans, Appends-nil, Keeps-refl}
use Rattle.std.specs.Str.Lines.{lines}
use Rattle.sessions.specs.declared.failure.Failure.{Failure}
use Rattle.sessions.specs.declared.failure.Failure.TheVariants.{Usage, BadLine, ReadFault, ShelfFault, WriteFault, BadTable, OpenFault, CommitFault, Memory, TooLong, Unsound}
use Rattle.options.specs.declared.status.TheConstants.{DONE, BAD_LINE, BAD_TABLE}
use Rattle.sessions.specs.Running.{IsCause, StoppedAtTable, StoppedAtStatement, EndedWhole, LeftRows, LineLeft, IsStoredBy, LinesEnded, WentOn, EndsSo, IsEndedBy, EndedAt, IsTableLine, IsStatementLine, IsLoadFault, IsStatementFault, IsTextFault, IsCommandFault, IsLineFault, SeenShelf, SeenKeeper}
use Rattle.rm_base.specs.declared.definitions.Definitions.{Definitions}
use Rattle.rm_base.specs.declared.name.Name.{Name}
use Rattle.rm_base.specs.declared.refusal.Refusal.{Refusal}
use Rattle.rm_base.specs.declared.statement.Statement.{Statement}
use Rattle.rm_outside.specs.Stored.{StoredRows, rows_of}
use Rattle.rm_rules.specs.Acceptance.{accepted}
use Rattle.pool_sql.specs.Reading.{read_of}
use Rattle.sessions.specs.Commands.{Command, Load, Sql, command_of}
use Rattle.sessions.specs.Script.{Files, ScriptEnd, after_text, ended, turn_end, line_turn, lines_end, next_state, state_after}
use Rattle.sessions.specs.Texts.{bad_text}
use Rattle.sessions.specs.Transfers.{WroteFront, ExplainsOutput}
use Rattle.sessions.specs.Turns.{ScriptState, Turn, Bad, Goes, Stops, read_turn, turn}
use Rattle.sessions.specs.World.{Seen, WhereTold, TellsRows}

-- nothing of a text was written
pub wrote_nothing : (a b : Option (List ℕ)) (text : List ℕ) → Keeps a b → WroteFront a b text
wrote_nothing None b text h = record { front = []; rest = text; split = refl; wrote = tt }
wrote_nothing (Some x) None text h = absurd h
wrote_nothing (Some x) (Some y) text h = record { front = []; rest = text; split = refl; wrote = h ∙ sym (append-nil x) }

-- the front of a text is the front of a longer one
pub longer : (a b : Option (List ℕ)) (text more : List ℕ) → WroteFront a b text → WroteFront a b (text ++ more)
longer a b text more w =
    record { front = w.front; rest = w.rest ++ more; split = ap (λ l. l ++ more) w.split ∙ append_assoc w.front w.rest more; wrote = w.wrote }

-- what was written before stands before it
pub after : (a b c : Option (List ℕ)) (done text : List ℕ) → Appends a b done → WroteFront b c text → WroteFront a c (done ++ text)
after a b c done text first w =
    record {
      front = done ++ w.front;
      rest = w.rest;
      split = ap (λ l. done ++ l) w.split ∙ sym (append_assoc done w.front w.rest);
      wrote = Appends-trans a b c done w.front first w.wrote;
    }

-- what a sink says of a text that it did not take whole, for a text that is longer, or begins before
pub explains-longer : (old new : Seen (Option (List ℕ))) (text more : List ℕ) (f : Failure) → ExplainsOutput old new text f → ExplainsOutput old new (text ++ more) f
explains-longer old new text more Usage h = absurd h
explains-longer old new text more BadLine h = absurd h
explains-longer old new text more ReadFault h = absurd h
explains-longer old new text more ShelfFault h = absurd h
explains-longer old new text more WriteFault h = (longer old.told new.told text more h.0, h.1)
explains-longer old new text more BadTable h = absurd h
explains-longer old new text more OpenFault h = absurd h
explains-longer old new text more CommitFault h = absurd h
explains-longer old new text more Memory h = longer old.told new.told text more h
explains-longer old new text more TooLong h = absurd h
explains-longer old new text more Unsound h = absurd h

pub explains-after : (a b c : Seen (Option (List ℕ))) (done text : List ℕ) (f : Failure) → a.faults ≤ b.faults → Appends a.told b.told done → ExplainsOutput b c text f
    → ExplainsOutput a c (done ++ text) f
explains-after a b c done text Usage later first h = absurd h
explains-after a b c done text BadLine later first h = absurd h
explains-after a b c done text ReadFault later first h = absurd h
explains-after a b c done text ShelfFault later first h = absurd h
explains-after a b c done text WriteFault later first h = (after a.told b.told c.told done text first h.0, omega (arith, later, h.1))
explains-after a b c done text BadTable later first h = absurd h
explains-after a b c done text OpenFault later first h = absurd h
explains-after a b c done text CommitFault later first h = absurd h
explains-after a b c done text Memory later first h = after a.told b.told c.told done text first h
explains-after a b c done text TooLong later first h = absurd h
explains-after a b c done text Unsound later first h = absurd h

-- what was written whole is a front of what is longer
pub front-whole : (a b : Option (List ℕ)) (done more : List ℕ) → Appends a b done → WroteFront a b (done ++ more)
front-whole a b done more h = record { front = done; rest = more; split = refl; wrote = h }

-- the text of a line could not be written, and the script's text is longer
unwritten : (old new : Seen (Option (List ℕ))) (text more : List ℕ) (end : ScriptEnd) (told : Option StoredRows) (f : Failure) → end.text ≡ text ++ more → ExplainsOutput old new text f
    → EndsSo end old.told new.told told f
unwritten old new text more end told Usage same h = absurd h
unwritten old new text more end told BadLine same h = absurd h
unwritten old new text more end told ReadFault same h = absurd h
unwritten old new text more end told ShelfFault same h = absurd h
unwritten old new text more end told WriteFault same h = subst (WroteFront old.told new.told) (sym same) (longer old.told new.told text more h.0)
unwritten old new text more end told BadTable same h = absurd h
unwritten old new text more end told OpenFault same h = absurd h
unwritten old new text more end told CommitFault same h = absurd h
unwritten old new text more end told Memory same h = subst (WroteFront old.told new.told) (sym same) (longer old.told new.told text more h)
unwritten old new text more end told TooLong same h = absurd h
unwritten old new text more end told Unsound same h = absurd h

unwritten-line : (line : List ℕ) (d : Definitions) (old new : Seen (Option (List ℕ))) (text : List ℕ) (f : Failure) → ExplainsOutput old new text f → IsEndedBy line d f
unwritten-line line d old new text Usage h = tt
unwritten-line line d old new text BadLine h = tt
unwritten-line line d old new text ReadFault h = tt
unwritten-line line d old new text ShelfFault h = absurd h
unwritten-line line d old new text WriteFault h = tt
unwritten-line line d old new text BadTable h = tt
unwritten-line line d old new text OpenFault h = tt
unwritten-line line d old new text CommitFault h = absurd h
unwritten-line line d old new text Memory h = tt
unwritten-line line d old new text TooLong h = tt
unwritten-line line d old new text Unsound h = tt

-- of such a text the front was written
pub unwritten-front : (old new : Seen (Option (List ℕ))) (text : List ℕ) (f : Failure) → ExplainsOutput old new text f → WroteFront old.told new.told text
unwritten-front old new text Usage h = absurd h
unwritten-front old new text BadLine h = absurd h
unwritten-front old new text ReadFault h = absurd h
unwritten-front old new text ShelfFault h = absurd h
unwritten-front old new text WriteFault h = h.0
unwritten-front old new text BadTable h = absurd h
unwritten-front old new text OpenFault h = absurd h
unwritten-front old new text CommitFault h = absurd h
unwritten-front old new text Memory h = h
unwritten-front old new text TooLong h = absurd h
unwritten-front old new text Unsound h = absurd h

pub printed-ends : (files : Files) (number : ℕ) (s s' : ScriptState) (line : List ℕ) (old new : Seen (Option (List ℕ))) (text : List ℕ) (told : Option StoredRows) (f : Failure)
    → line_turn files s line ≡ Goes text s' → ExplainsOutput old new text f → EndedAt files number s line old.told new.told told f
printed-ends files number s s' line old new text told f turn err = record {
  ends = λ next. unwritten old new text (next s').text (turn_end number s (line_turn files s line) next) told f (ap (λ t. (turn_end number s t next).text) turn) err;
  by_line = unwritten-line line s.machine.definitions old new text f err;
}

-- the same with its turn of any kind, whose text was written in part, and whose rows are stored
pub line-left : (files : Files) (number : ℕ) (s : ScriptState) (line : List ℕ) (a b : Option (List ℕ)) (rows : StoredRows) (end : ScriptEnd) → lines_end files number s (line ∷ []) ≡ end
    → WroteFront a b end.text → rows ≡ end.stored → LineLeft files number s line a b rows
line-left files number s line a b rows end is front stored = record {
  last = line ∷ [];
  more = [];
  split = refl;
  front = subst (λ (e : ScriptEnd). WroteFront a b e.text) (sym is) front;
  stored = stored ∙ ap (λ (e : ScriptEnd). e.stored) (sym is);
}

pub printed-left : (files : Files) (number : ℕ) (s s' : ScriptState) (line : List ℕ) (old new : Seen (Option (List ℕ))) (text : List ℕ) (rows : StoredRows) (f : Failure)
    → line_turn files s line ≡ Goes text s' → ExplainsOutput old new text f → rows ≡ rows_of s'.machine.definitions → LineLeft files number s line old.told new.told rows
printed-left files number s s' line old new text rows f turn err stored =
    line-left files number s line old.told new.told rows (after_text text (ended [] DONE s')) (ap (λ t. turn_end number s t (λ (n : ScriptState). ended [] DONE n)) turn)
    (subst (WroteFront old.told new.told) (sym (append-nil text)) (unwritten-front old new text f err)) stored

-- the text of a line that ends the script was written in part
pub bad-left : (files : Files) (number : ℕ) (s : ScriptState) (line : List ℕ) (a b : Option (List ℕ)) (rows : StoredRows) → line_turn files s line ≡ Bad
    → WroteFront a b (bad_text number) → rows ≡ rows_of s.machine.definitions → LineLeft files number s line a b rows
bad-left files number s line a b rows turn front stored =
    line-left files number s line a b rows (ended (bad_text number) BAD_LINE s) (ap (λ t. turn_end number s t (λ (n : ScriptState). ended [] DONE n)) turn) front stored

pub stops-left : (files : Files) (number : ℕ) (s s' : ScriptState) (line : List ℕ) (a b : Option (List ℕ)) (text : List ℕ) (status : ℕ) (rows : StoredRows)
    → line_turn files s line ≡ Stops text status s' → WroteFront a b text → rows ≡ rows_of s'.machine.definitions → LineLeft files number s line a b rows
stops-left files number s s' line a b text status rows turn front stored =
    line-left files number s line a b rows (ended text status s') (ap (λ t. turn_end number s t (λ (n : ScriptState). ended [] DONE n)) turn) front stored

-- nothing of the line was done, or all but to write its text
begun-left : (files : Files) (number : ℕ) (s : ScriptState) (line : List ℕ) (a b : Option (List ℕ)) (rows : StoredRows) (t : Turn) → line_turn files s line ≡ t → Keeps a b
    → IsStoredBy s.machine.definitions t rows → LineLeft files number s line a b rows
begun-left files number s line a b rows Bad turn kept stored = bad-left files number s line a b rows turn (wrote_nothing a b (bad_text number) kept) stored
begun-left files number s line a b rows (Goes text s') turn kept stored =
    line-left files number s line a b rows (after_text text (ended [] DONE s')) (ap (λ t. turn_end number s t (λ (n : ScriptState). ended [] DONE n)) turn)
    (wrote_nothing a b (text ++ []) kept) stored
begun-left files number s line a b rows (Stops text status s') turn kept stored = stops-left files number s s' line a b text status rows turn (wrote_nothing a b text kept) stored

pub undone-left : (files : Files) (number : ℕ) (s : ScriptState) (line : List ℕ) (a b : Option (List ℕ)) (rows : StoredRows) → Keeps a b
    → (rows ≡ rows_of s.machine.definitions) ⊎ ((files' : Files) → IsStoredBy s.machine.definitions (line_turn files' s line) rows) → LineLeft files number s line a b rows
undone-left files number s line a b rows kept (inl before) = record {
  last = [];
  more = line ∷ [];
  split = refl;
  front = wrote_nothing a b [] kept;
  stored = before;
}
undone-left files number s line a b rows kept (inr after) = begun-left files number s line a b rows (line_turn files s line) refl kept (after files)

-- a line that could not be done ends the script, and nothing is written of it
pub failed-ends : (files : Files) (number : ℕ) (s : ScriptState) (line : List ℕ) (out : Option (List ℕ)) (told : Option StoredRows) (x y : SeenShelf) (k l : SeenKeeper) (f : Failure)
    → IsLineFault line s.machine.definitions x y k l f → EndedAt files number s line out out told f
failed-ends files number s line out told x y k l Usage h = absurd h
failed-ends files number s line out told x y k l BadLine h = absurd h
failed-ends files number s line out told x y k l ReadFault h = absurd h
failed-ends files number s line out told x y k l ShelfFault h = record { ends = λ next. Appends-nil out; by_line = h.0 }
failed-ends files number s line out told x y k l WriteFault h = absurd h
failed-ends files number s line out told x y k l BadTable h = absurd h
failed-ends files number s line out told x y k l OpenFault h = absurd h
failed-ends files number s line out told x y k l CommitFault h = record { ends = λ next. Appends-nil out; by_line = h.0 }
failed-ends files number s line out told x y k l Memory h =
    record { ends = λ next. wrote_nothing out out (turn_end number s (line_turn files s line) next).text (Keeps-refl out); by_line = tt }
failed-ends files number s line out told x y k l TooLong h = absurd h
failed-ends files number s line out told x y k l Unsound h = absurd h

-- a bad line, and one whose table is none, whose text was written whole
pub bad-ends : (files : Files) (number : ℕ) (s : ScriptState) (line : List ℕ) (a b : Option (List ℕ)) (told : Option StoredRows) → line_turn files s line ≡ Bad
    → Appends a b (bad_text number) → TellsRows told s.machine.definitions → EndedAt files number s line a b told BadLine
bad-ends files number s line a b told turn wrote agrees = record {
  ends = λ next. subst (λ (t : Turn). EndedWhole (turn_end number s t next) a b told BAD_LINE) (sym turn) (record { wrote = wrote; same = refl; rows = agrees });
  by_line = tt;
}

pub stops-ends : (files : Files) (number : ℕ) (s s' : ScriptState) (line : List ℕ) (a b : Option (List ℕ)) (text : List ℕ) (told : Option StoredRows)
    → line_turn files s line ≡ Stops text BAD_TABLE s' → Appends a b text → TellsRows told s'.machine.definitions → EndedAt files number s line a b told BadTable
stops-ends files number s s' line a b text told turn wrote agrees = record {
  ends = λ next. subst (λ (t : Turn). EndedWhole (turn_end number s t next) a b told BAD_TABLE) (sym turn) (record { wrote = wrote; same = refl; rows = agrees });
  by_line = tt;
}

-- the rows that a turn leaves stored, by what it is
pub turned-rows : (d : Definitions) (told : Option StoredRows) (t u : Turn) → t ≡ u → WhereTold told (IsStoredBy d t) → WhereTold told (IsStoredBy d u)
turned-rows d told t u is h = subst (λ (x : Turn). WhereTold told (IsStoredBy d x)) is h

pub whole-front : (a b : Option (List ℕ)) (text : List ℕ) → Appends a b text → WroteFront a b text
whole-front a b text h = record { front = text; rest = []; split = sym (append-nil text); wrote = h }

pub on_ok-always : {T E : Type 0} (r : Result T E) (P : Type 0) → P → OnOk r P
on_ok-always (Ok x) P p = p
on_ok-always (Err e) P p = tt

-- what the text of a statement leaves stored, its line does
pub text-left : (s : ScriptState) (text : List ℕ) (rows : StoredRows)
    → (rows ≡ rows_of s.machine.definitions) ⊎ IsStoredBy s.machine.definitions (read_turn s (read_of text)) rows
    → (rows ≡ rows_of s.machine.definitions) ⊎ ((files : Files) → IsStoredBy s.machine.definitions (turn files s (Sql text)) rows)
text-left s text rows (inl h) = inl h
text-left s text rows (inr h) = inr (λ files. h)

-- a script as far as it has run: the lines that it has done, and what it has written
pub record HasRun (files : Files) (bytes rest : List ℕ) (first now : ScriptState) (number : ℕ) (before after : Option (List ℕ)) : Type 0 where
  pub passed : List (List ℕ)
  pub done : List ℕ
  pub split : lines bytes ≡ passed ++ lines rest
  pub wrote : Appends before after done
  pub same : (more : List (List ℕ)) → lines_end files 1 first (passed ++ more) ≡ after_text done (lines_end files number now more)
  pub reaches : (more : List (List ℕ)) → state_after files first (passed ++ more) ≡ state_after files now more

pub has_run-begins : (files : Files) (bytes : List ℕ) (first : ScriptState) (out : Option (List ℕ)) → HasRun files bytes bytes first first 1 out out
has_run-begins files bytes first out = record { passed = []; done = []; split = refl; wrote = Appends-nil out; same = λ more. refl; reaches = λ more. refl }

pub has_run-more : (files : Files) (bytes rest more line : List ℕ) (first now next : ScriptState) (number : ℕ) (a b c : Option (List ℕ)) → HasRun files bytes rest first now number a b
    → lines rest ≡ line ∷ lines more → WentOn files now next line b c → HasRun files bytes more first next (number + 1) a c
has_run-more files bytes rest more line first now next number a b c run cut went =
    let turned : (ls : List (List ℕ)) → lines_end files number now (line ∷ ls) ≡ after_text went.text (lines_end files (number + 1) next ls) =
    λ ls. ap (λ t. turn_end number now t (λ s. lines_end files (number + 1) s ls)) went.turn in
    record {
      passed = run.passed ++ line ∷ [];
      done = run.done ++ went.text;
      split = run.split ∙ ap (λ ls. run.passed ++ ls) cut ∙ sym (append_assoc run.passed (line ∷ []) (lines more));
      wrote = Appends-trans a b c run.done went.text run.wrote went.wrote;
      same = λ ls. ap (lines_end files 1 first) (append_assoc run.passed (line ∷ []) ls) ∙ run.same (line ∷ ls) ∙ ap (after_text run.done) (turned ls)
          ∙ ap (λ l. let e = lines_end files (number + 1) next ls in let p : ScriptEnd = record e { text = l } in p) (sym (append_assoc run.done went.text (lines_end files (number + 1) next ls).text));
      reaches = λ ls. ap (state_after files first) (append_assoc run.passed (line ∷ []) ls) ∙ run.reaches (line ∷ ls) ∙ ap (λ t. next_state t (λ s. state_after files s ls)) went.turn;
    }

-- a whole end with a text before it
whole-after : (a b c : Option (List ℕ)) (done : List ℕ) (end : ScriptEnd) (told : Option StoredRows) (status : ℕ) → Appends a b done → EndedWhole end b c told status
    → EndedWhole (after_text done end) a c told status
whole-after a b c done end told status wrote h = record { wrote = Appends-trans a b c done end.text wrote h.wrote; same = h.same; rows = h.rows }

-- how the lines ended whose last one ended so
ended-after : (files : Files) (first : ScriptState) (ls : List (List ℕ)) (a b c : Option (List ℕ)) (done : List ℕ) (end : ScriptEnd) (told : Option StoredRows) (f : Failure)
    → lines_end files 1 first ls ≡ after_text done end → Appends a b done → EndsSo end b c told f → (f ≡ ShelfFault → StoppedAtTable files first ls a c)
    → (f ≡ CommitFault → StoppedAtStatement files first ls a c) → LinesEnded files first ls a c told (Err f)
ended-after files first ls a b c done end told Usage same wrote h table statement = absurd h
ended-after files first ls a b c done end told BadLine same wrote h table statement =
    subst (λ (e : ScriptEnd). EndedWhole e a c told BAD_LINE) (sym same) (whole-after a b c done end told BAD_LINE wrote h)
ended-after files first ls a b c done end told ReadFault same wrote h table statement = absurd h
ended-after files first ls a b c done end told ShelfFault same wrote h table statement = table refl
ended-after files first ls a b c done end told WriteFault same wrote h table statement =
    subst (λ (e : ScriptEnd). WroteFront a c e.text) (sym same) (after a b c done end.text wrote h)
ended-after files first ls a b c done end told BadTable same wrote h table statement =
    subst (λ (e : ScriptEnd). EndedWhole e a c told BAD_TABLE) (sym same) (whole-after a b c done end told BAD_TABLE wrote h)
ended-after files first ls a b c done end told OpenFault same wrote h table statement = absurd h
ended-after files first ls a b c done end told CommitFault same wrote h table statement = statement refl
ended-after files first ls a b c done end told Memory same wrote h table statement =
    subst (λ (e : ScriptEnd). WroteFront a c e.text) (sym same) (after a b c done end.text wrote h)
ended-after files first ls a b c done end told TooLong same wrote h table statement = absurd h
ended-after files first ls a b c done end told Unsound same wrote h table statement = absurd h

-- what the lines that were done print
front-end : (files : Files) (bytes rest : List ℕ) (first now : ScriptState) (number : ℕ) (a b : Option (List ℕ)) → (run : HasRun files bytes rest first now number a b)
    → lines_end files 1 first run.passed ≡ after_text run.done (lines_end files number now [])
front-end files bytes rest first now number a b run = ap (lines_end files 1 first) (sym (append-nil run.passed)) ∙ run.same []

front-wrote : (files : Files) (bytes rest : List ℕ) (first now : ScriptState) (number : ℕ) (a b c : Option (List ℕ)) → (run : HasRun files bytes rest first now number a b)
    → Appends b c [] → Appends a c (lines_end files 1 first run.passed).text
front-wrote files bytes rest first now number a b c run none =
    subst (Appends a c) (sym (ap (λ (e : ScriptEnd). e.text) (front-end files bytes rest first now number a b run))) (Appends-trans a b c run.done [] run.wrote none)

-- what was done before a line that loads a table, or that is a statement
stopped-at : (files : Files) (bytes rest more line : List ℕ) (first now : ScriptState) (number : ℕ) (a b c : Option (List ℕ)) → HasRun files bytes rest first now number a b
    → lines rest ≡ line ∷ lines more → IsTableLine line → Appends b c [] → StoppedAtTable files first (lines bytes) a c
stopped-at files bytes rest more line first now number a b c run cut loads none = record {
  done = run.passed;
  line = line;
  more = lines more;
  split = run.split ∙ ap (λ ls. run.passed ++ ls) cut;
  loads = loads;
  went_on = ap (λ (e : ScriptEnd). e.status) (front-end files bytes rest first now number a b run);
  wrote = front-wrote files bytes rest first now number a b c run none;
}

stopped-before : (files : Files) (bytes rest more line : List ℕ) (first now : ScriptState) (number : ℕ) (a b c : Option (List ℕ)) → HasRun files bytes rest first now number a b
    → lines rest ≡ line ∷ lines more → IsStatementLine line now.machine.definitions → Appends b c [] → StoppedAtStatement files first (lines bytes) a c
stopped-before files bytes rest more line first now number a b c run cut states none = record {
  done = run.passed;
  line = line;
  more = lines more;
  state = now;
  split = run.split ∙ ap (λ ls. run.passed ++ ls) cut;
  went_on = ap (state_after files first) (sym (append-nil run.passed)) ∙ run.reaches [];
  states = states;
  wrote = front-wrote files bytes rest first now number a b c run none;
}

by_line : (line : List ℕ) (d : Definitions) (f g : Failure) → f ≡ g → IsEndedBy line d f → IsEndedBy line d g
by_line line d f g is h = subst (IsEndedBy line d) is h

ends_as : (end : ScriptEnd) (b c : Option (List ℕ)) (told : Option StoredRows) (f g : Failure) → f ≡ g → EndsSo end b c told f → EndsSo end b c told g
ends_as end b c told f g is h = subst (EndsSo end b c told) is h

pub has_run-ends : (files : Files) (bytes rest more line : List ℕ) (first now : ScriptState) (number : ℕ) (a b c : Option (List ℕ)) (told : Option StoredRows) (f : Failure)
    → HasRun files bytes rest first now number a b → lines rest ≡ line ∷ lines more → EndedAt files number now line b c told f → LinesEnded files first (lines bytes) a c told (Err f)
has_run-ends files bytes rest more line first now number a b c told f run cut h =
    let next : ScriptState → ScriptEnd = λ s. lines_end files (number + 1) s (lines more) in
    let tail = turn_end number now (line_turn files now line) next in
    let whole : lines_end files 1 first (lines bytes) ≡ after_text run.done tail =
    ap (lines_end files 1 first) (run.split ∙ ap (λ ls. run.passed ++ ls) cut) ∙ run.same (line ∷ lines more) in
    let d = now.machine.definitions in
    ended-after files first (lines bytes) a b c run.done tail told f whole run.wrote (h.ends next)
    (λ is. stopped-at files bytes rest more line first now number a b c run cut (by_line line d f ShelfFault is h.by_line) (ends_as tail b c told f ShelfFault is (h.ends next)))
    (λ is. stopped-before files bytes rest more line first now number a b c run cut (by_line line d f CommitFault is h.by_line) (ends_as tail b c told f CommitFault is (h.ends next)))

pub has_run-whole : (files : Files) (bytes rest : List ℕ) (first now : ScriptState) (number : ℕ) (a b : Option (List ℕ)) (told : Option StoredRows)
    → HasRun files bytes rest first now number a b → lines rest ≡ [] → TellsRows told now.machine.definitions → LinesEnded files first (lines bytes) a b told (Ok tt)
has_run-whole files bytes rest first now number a b told run none agrees =
    let whole : lines_end files 1 first (lines bytes) ≡ after_text run.done (lines_end files number now []) =
    ap (lines_end files 1 first) (run.split ∙ ap (λ ls. run.passed ++ ls) none) ∙ run.same [] in
    let end : EndedWhole (after_text run.done (lines_end files number now [])) a b told DONE = record {
      wrote = subst (Appends a b) (sym (append-nil run.done)) run.wrote;
      same = refl;
      rows = agrees;
    } in
    subst (λ (e : ScriptEnd). EndedWhole e a b told DONE) (sym whole) end

-- the rows that are left where the lines end
one-last : (line : List ℕ) (last more : List (List ℕ)) → line ∷ [] ≡ last ++ more → length last ≤ 1
one-last line last more split = omega (arith, ap length split, length-append last more)

pub has_run-left : (files : Files) (bytes rest more line : List ℕ) (first now : ScriptState) (number : ℕ) (a b c : Option (List ℕ)) (rows : StoredRows)
    → HasRun files bytes rest first now number a b → lines rest ≡ line ∷ lines more → LineLeft files number now line b c rows → LeftRows files first (lines bytes) a c rows
has_run-left files bytes rest more line first now number a b c rows run cut h =
    let end = lines_end files number now h.last in
    let passed = ap (λ (e : ScriptEnd). e.text) (front-end files bytes rest first now number a b run) ∙ append-nil run.done in
    record {
      whole = run.passed;
      last = h.last;
      more = h.more ++ lines more;
      part = h.front.front;
      rest = h.front.rest;
      split =
          run.split ∙ ap (λ ls. run.passed ++ ls) cut
          ∙ ap (λ ls. run.passed ++ (ls ++ lines more)) h.split
          ∙ ap (λ ls. run.passed ++ ls) (append_assoc h.last h.more (lines more))
          ∙ sym (append_assoc run.passed h.last (h.more ++ lines more));
      one = one-last line h.last h.more h.split;
      text =
          ap (λ (e : ScriptEnd). e.text) (run.same h.last) ∙ ap (λ t. run.done ++ t) h.front.split
          ∙ ap (λ t. t ++ (h.front.front ++ h.front.rest)) (sym passed)
          ∙ sym (append_assoc (lines_end files 1 first run.passed).text h.front.front h.front.rest);
      wrote = subst (λ t. Appends a c (t ++ h.front.front)) (sym passed) (Appends-trans a b c run.done h.front.front run.wrote h.front.wrote);
      stored = h.stored ∙ ap (λ (e : ScriptEnd). e.stored) (sym (run.same h.last));
    }

pub has_run-left_whole : (files : Files) (bytes rest : List ℕ) (first now : ScriptState) (number : ℕ) (a b : Option (List ℕ)) (rows : StoredRows)
    → HasRun files bytes rest first now number a b → lines rest ≡ [] → rows ≡ rows_of now.machine.definitions → LeftRows files first (lines bytes) a b rows
has_run-left_whole files bytes rest first now number a b rows run none stored =
    let whole = front-end files bytes rest first now number a b run in
    let passed = ap (λ (e : ScriptEnd). e.text) whole ∙ append-nil run.done in
    record {
      whole = run.passed;
      last = [];
      more = [];
      part = [];
      rest = [];
      split = run.split ∙ ap (λ ls. run.passed ++ ls) none ∙ sym (append-nil (run.passed ++ []));
      one = omega arith;
      text = ap (λ (ls : List (List ℕ)). (lines_end files 1 first ls).text) (append-nil run.passed)
          ∙ sym (append-nil (lines_end files 1 first run.passed).text) ∙ sym (append-nil ((lines_end files 1 first run.passed).text ++ []));
      wrote = subst (λ t. Appends a b (t ++ [])) (sym passed) (subst (Appends a b) (sym (append-nil run.done)) run.wrote);
      stored = stored ∙ ap (λ (e : ScriptEnd). e.stored) (sym (run.same []));
    }

-- a cause that rose later rose since the beginning
pub cause-later : (a b c : Seen (Option (List ℕ))) (x y z : SeenShelf) (k l m : SeenKeeper) (f : Failure) → a.faults ≤ b.faults → x.faults ≤ y.faults → k.faults ≤ l.faults
    → IsCause b c y z l m f → IsCause a c x z k m f
cause-later a b c x y z k l m Usage out shelf keeper h = absurd h
cause-later a b c x y z k l m BadLine out shelf keeper h = tt
cause-later a b c x y z k l m ReadFault out shelf keeper h = absurd h
cause-later a b c x y z k l m ShelfFault out shelf keeper h = omega (arith, shelf, h)
cause-later a b c x y z k l m WriteFault out shelf keeper h = omega (arith, out, h)
cause-later a b c x y z k l m BadTable out shelf keeper h = tt
cause-later a b c x y z k l m OpenFault out shelf keeper h = absurd h
cause-later a b c x y z k l m CommitFault out shelf keeper h = omega (arith, keeper, h)
cause-later a b c x y z k l m Memory out shelf keeper h = tt
cause-later a b c x y z k l m TooLong out shelf keeper h = absurd h
cause-later a b c x y z k l m Unsound out shelf keeper h = absurd h

pub if_err-weaker : {T E : Type 0} (r : Result T E) (P Q : E → Type 0) → ((e : E) → P e → Q e) → IfErr r P → IfErr r Q
if_err-weaker (Ok x) P Q weaker h = tt
if_err-weaker (Err e) P Q weaker h = weaker e h

-- a fault of a load is one of its command, and so is one of a statement's text
pub load-fault : (name : Name) (path : List ℕ) (d : Definitions) (old new : SeenShelf) (k l : SeenKeeper) (f : Failure) → IsLoadFault old new f
    → IsCommandFault (Load name path) d old new k l f
load-fault name path d old new k l Usage h = absurd h
load-fault name path d old new k l BadLine h = absurd h
load-fault name path d old new k l ReadFault h = absurd h
load-fault name path d old new k l ShelfFault h = ((name, path, refl), h)
load-fault name path d old new k l WriteFault h = absurd h
load-fault name path d old new k l BadTable h = absurd h
load-fault name path d old new k l OpenFault h = absurd h
load-fault name path d old new k l CommitFault h = absurd h
load-fault name path d old new k l Memory h = tt
load-fault name path d old new k l TooLong h = absurd h
load-fault name path d old new k l Unsound h = absurd h

pub text-fault : (text : List ℕ) (d : Definitions) (old new : SeenShelf) (k l : SeenKeeper) (f : Failure) → IsTextFault text d k l f → IsCommandFault (Sql text) d old new k l f
text-fault text d old new k l Usage h = absurd h
text-fault text d old new k l BadLine h = absurd h
text-fault text d old new k l ReadFault h = absurd h
text-fault text d old new k l ShelfFault h = absurd h
text-fault text d old new k l WriteFault h = absurd h
text-fault text d old new k l BadTable h = absurd h
text-fault text d old new k l OpenFault h = absurd h
text-fault text d old new k l CommitFault h = ((text, refl, h.0), h.1)
text-fault text d old new k l Memory h = tt
text-fault text d old new k l TooLong h = absurd h
text-fault text d old new k l Unsound h = absurd h

-- and that one of its line
pub command-fault : (line : List ℕ) (c : Command) (d : Definitions) (old new : SeenShelf) (k l : SeenKeeper) (f : Failure) → command_of line ≡ Some c
    → IsCommandFault c d old new k l f → IsLineFault line d old new k l f
command-fault line c d old new k l Usage is h = absurd h
command-fault line c d old new k l BadLine is h = absurd h
command-fault line c d old new k l ReadFault is h = absurd h
command-fault line c d old new k l ShelfFault is h = ((h.0.0, h.0.1, is ∙ ap Some h.0.2), h.1)
command-fault line c d old new k l WriteFault is h = absurd h
command-fault line c d old new k l BadTable is h = absurd h
command-fault line c d old new k l OpenFault is h = absurd h
command-fault line c d old new k l CommitFault is h = ((h.0.0, is ∙ ap Some h.0.1, h.0.2), h.1)
command-fault line c d old new k l Memory is h = tt
command-fault line c d old new k l TooLong is h = absurd h
command-fault line c d old new k l Unsound is h = absurd h

-- a statement's fault, by whether it is accepted
statement-turn : (text : List ℕ) (d : Definitions) (statement : Statement) (r : Result Definitions Refusal) (k l : SeenKeeper) (f : Failure) → read_of text ≡ Ok statement
    → accepted d statement ≡ r → IsStatementFault r k l f → IsTextFault text d k l f
statement-turn text d statement (Err refusal) k l f reads is h = subst (IsTextFault text d k l) (sym h) tt
statement-turn text d statement (Ok left) k l Usage reads is h = absurd h
statement-turn text d statement (Ok left) k l BadLine reads is h = absurd h
statement-turn text d statement (Ok left) k l ReadFault reads is h = absurd h
statement-turn text d statement (Ok left) k l ShelfFault reads is h = absurd h
statement-turn text d statement (Ok left) k l WriteFault reads is h = absurd h
statement-turn text d statement (Ok left) k l BadTable reads is h = absurd h
statement-turn text d statement (Ok left) k l OpenFault reads is h = absurd h
statement-turn text d statement (Ok left) k l CommitFault reads is h = (record { statement = statement; left = left; reads = reads; accepts = is }, h)
statement-turn text d statement (Ok left) k l Memory reads is h = tt
statement-turn text d statement (Ok left) k l TooLong reads is h = absurd h
statement-turn text d statement (Ok left) k l Unsound reads is h = absurd h

pub statement-fault : (text : List ℕ) (d : Definitions) (statement : Statement) (k l : SeenKeeper) (f : Failure) → read_of text ≡ Ok statement
    → IsStatementFault (accepted d statement) k l f → IsTextFault text d k l f
statement-fault text d statement k l f reads h = statement-turn text d statement (accepted d statement) k l f reads refl h
