-- A script's journal is one legal history of the machine, and each of its entries keeps the bytes.
use Rattle.std.proofs.Common.{◌≡◌, ℕ, ◌+◌, Bool, true, false, cond, ltb, List, [], ◌∷◌, length, Option, Some, None, Result, Ok, Err, refl, sym, ap, ◌∙◌, subst}
use Rattle.pool_sql.specs.Reading.{read_of}
use Rattle.pool_sql.proofs.Texts.{read_of-spells, spells-well_formed}
use Rattle.rm_base.specs.declared.definitions.Definitions.{Definitions}
use Rattle.rm_base.specs.declared.entry.Entry.{Entry}
use Rattle.rm_base.specs.declared.event.Event.{Event}
use Rattle.rm_base.specs.declared.event.Event.TheVariants as event
use Rattle.rm_base.specs.declared.limits.TheConstants.{SCRIPT_ROOM, SCRIPT_MOST}
use Rattle.std.specs.Str.Lines.{lines}
use Rattle.options.specs.declared.status.TheConstants.{TOO_LONG, UNSOUND}
use Rattle.rm_base.specs.declared.name.Name.{Name}
use Rattle.rm_base.specs.declared.refusal.Refusal.{Refusal}
use Rattle.rm_base.specs.declared.reply.Reply.{Reply}
use Rattle.rm_base.specs.declared.reply.Reply.TheVariants as reply
use Rattle.rm_base.specs.declared.limits.TheConstants.{FILE_MOST}
use Rattle.rm_base.specs.declared.select.Select.{Select}
use Rattle.rm_base.specs.declared.statement.Statement.{Statement}
use Rattle.rm_base.specs.Select.{select_floor}
use Rattle.rm_base.specs.TableSeen.{TableSeen}
use Rattle.csv_tables.specs.declared.load_error.LoadError.{LoadError}
use Rattle.csv_tables.specs.Loading.{table_of}
use Rattle.csv_tables.specs.Named.{catalog_of}
use Rattle.query_plan.specs.Reading.{read_of as select_of}
use Rattle.std.specs.Prelude.{codes}
use Rattle.options.specs.declared.status.TheConstants.{BAD_TABLE}
use Rattle.sessions.specs.AnswerTexts.{unloaded_text}
use Rattle.rm_base.specs.WellFormed.{IsWellFormed}
use Rattle.rm_outside.specs.Stored.{StoredRows, rows_of}
use Rattle.rm_rules.specs.Sound.{IsSound}
use Rattle.keeper_rows.specs.Opening.{is_sound}
use Rattle.rm_rules.specs.State.{State}
use Rattle.rm_rules.specs.Acceptance.{accepted}
use Rattle.rm_rules.specs.Step.{step}
use Rattle.rm_rules.specs.Replay.{replay, IsFormed, IsLegal}
use Rattle.rm_rules.proofs.Laws.{legal-step, replay-step, conserved-after-each, healthy-start}
use Rattle.rm_rules.proofs.Histories.{bytes-from}
use Rattle.machine.specs.Looked.{snapshot_of}
use Rattle.system_tables.specs.declared.rows.Shown.{Shown}
use Rattle.system_tables.specs.TableRows.{shown_of}
use Rattle.options.specs.declared.script.ScriptOptions.{ScriptOptions}
use Rattle.sessions.specs.Commands.{Request, SetPool, SetCap, Ask, Poll, Check, Way, Done, Cancel, Close, Command, At, Sql, Open, Query, Load, Show, Of, command_of}
use Rattle.options.specs.Script.{script_options}
use Rattle.sessions.specs.Script.{Files, command_turn, line_turn, is_comment, ScriptEnd, turn_end, lines_end, no_script, script_start, first_state, first_definitions, opened_script, script_with, script, IsOneHistory}
use Rattle.sessions.specs.Turns.{ScriptState, Turn, Bad, Goes, Stops, judged_turn, read_turn, chosen_turn, after_open, opened_turn, opening_turn, after_close, close_turn, after_submit, query_turn, query_for, after_poll, poll_turn, way_turn, after_finish, finish_turn, end_turn, told_first, checked_turn, done_turn, cancel_turn, loaded_turn, file_turn, has_no_place, show_turn, request_turn, session_turn, turn}
use Rattle.sessions.specs.Plans.{plan_of}
use Rattle.sessions.specs.SessionNames.{session_named}
use Rattle.sessions.specs.Texts.{line_text}
use Rattle.sessions.proofs.DefinedLaws.{IsOfSession, formed-session, session-definitions}
use Rattle.sessions.specs.Running.{IsStoredBy}

-- a fact of the machine that a turn leaves, where it leaves one
abbrev OnTurn : (State → Type 0) → Turn → Type 0
OnTurn P Bad = Unit {0}
OnTurn P (Goes text s) = P s.machine
OnTurn P (Stops text status s) = P s.machine

-- what a choice between a bad line and a turn keeps
bad_or : (P : State → Type 0) (b : Bool) (t : Turn) → OnTurn P t → OnTurn P (cond b Bad t)
bad_or P true t h = tt
bad_or P false t h = h

-- a fact that each machine call keeps
abbrev IsKeptByCalls : (State → Type 0) → Type 0
IsKeptByCalls P = (m : State) (at : ℕ) (e : Event) → IsFormed e → P m → P (step m 0 at e).state

-- a fact that each machine call keeps which defines nothing
abbrev pub IsKeptBySessions : (State → Type 0) → Type 0
IsKeptBySessions P = (m : State) (at : ℕ) (e : Event) → IsOfSession e → P m → P (step m 0 at e).state

by_sessions : (P : State → Type 0) → IsKeptByCalls P → IsKeptBySessions P
by_sessions P each m at e of h = each m at e (formed-session e of) h

-- what each machine call keeps, each turn keeps
judged : (P : State → Type 0) → IsKeptByCalls P → (s : ScriptState) (statement : Statement) → IsFormed (event.Define statement) → (r : Result Definitions Refusal)
    → P s.machine → OnTurn P (judged_turn s statement r)
judged P each s statement formed (Err refusal) h = h
judged P each s statement formed (Ok d) h = each s.machine s.moment (event.Define statement) formed h

reads : (P : State → Type 0) → IsKeptByCalls P → (s : ScriptState) (r : Result Statement Refusal) → ((statement : Statement) → r ≡ Ok statement → IsWellFormed statement)
    → P s.machine → OnTurn P (read_turn s r)
reads P each s (Err refusal) ranged h = h
reads P each s (Ok statement) ranged h = judged P each s statement (ranged statement refl) (accepted s.machine.definitions statement) h

chooses : (P : State → Type 0) → IsKeptBySessions P → (s : ScriptState) (session : Name) (number : ℕ) (pool : Option Name) → P s.machine → OnTurn P (chosen_turn s session number pool)
chooses P each s session number None h = h
chooses P each s session number (Some pool) h = each s.machine s.moment (event.SetPool number pool) tt h

follows_open : (P : State → Type 0) → IsKeptBySessions P → (s : ScriptState) (session : Name) (pool : Option Name) (r : Reply) → P s.machine → OnTurn P (opened_turn s session pool r)
follows_open P each s session pool (reply.Opened number) h = chooses P each s session number pool h
follows_open P each s session pool _ h = h

after_open-machine : (s : ScriptState) (session : Name) (r : Reply) → (after_open s session r).machine ≡ s.machine
after_open-machine s session (reply.Opened number) = refl
after_open-machine s session _ = refl

opens : (P : State → Type 0) → IsKeptBySessions P → (s : ScriptState) (session user : Name) (pool : Option Name) → P s.machine → OnTurn P (opening_turn s session user pool)
opens P each s session user pool h =
    let o = step s.machine 0 s.moment (event.Open user) in
    let t : ScriptState = record s { machine = o.state } in
    follows_open P each (after_open t session o.reply) session pool o.reply (subst P (sym (after_open-machine t session o.reply)) (each s.machine s.moment (event.Open user) tt h))

after_close-machine : (s : ScriptState) (session : Name) (number : ℕ) (r : Reply) → (after_close s session number r).machine ≡ s.machine
after_close-machine s session number reply.Closed = refl
after_close-machine s session number _ = refl

closes : (P : State → Type 0) → IsKeptBySessions P → (s : ScriptState) (session : Name) (number : ℕ) → P s.machine → OnTurn P (close_turn s session number)
closes P each s session number h =
    let o = step s.machine 0 s.moment (event.Close number) in
    subst P (sym (after_close-machine (record s { machine = o.state }) session number o.reply)) (each s.machine s.moment (event.Close number) tt h)

after_submit-machine : (s : ScriptState) (number : ℕ) (plan : Select) (r : Reply) → (after_submit s number plan r).machine ≡ s.machine
after_submit-machine s number plan (reply.Admitted query pool grant own borrowed) = refl
after_submit-machine s number plan (reply.Waiting query place) = refl
after_submit-machine s number plan _ = refl

queries : (P : State → Type 0) → IsKeptBySessions P → (s : ScriptState) (session : Name) (number : ℕ) (r : Result Select Refusal) → P s.machine → OnTurn P (query_turn s session number r)
queries P each s session number (Err refusal) h = h
queries P each s session number (Ok plan) h =
    let e : Event = event.Submit number (select_floor plan) in
    let o = step s.machine 0 s.moment e in
    subst P (sym (after_submit-machine (record s { machine = o.state }) number plan o.reply)) (each s.machine s.moment e tt h)

for_query : (P : State → Type 0) → IsKeptBySessions P → (s : ScriptState) (session : Name) (text : List ℕ) (o : Option ℕ) → P s.machine → OnTurn P (query_for s session text o)
for_query P each s session text None h = tt
for_query P each s session text (Some number) h = queries P each s session number (select_of (catalog_of s.tables) text) h

after_poll-machine : (s : ScriptState) (number : ℕ) (r : Reply) → (after_poll s number r).machine ≡ s.machine
after_poll-machine s number (reply.Ended end) = refl
after_poll-machine s number _ = refl

polls : (P : State → Type 0) → IsKeptBySessions P → (s : ScriptState) (session : Name) (number : ℕ) → P s.machine → OnTurn P (poll_turn s session number)
polls P each s session number h =
    let o = step s.machine 0 s.moment (event.Poll number) in
    subst P (sym (after_poll-machine (record s { machine = o.state }) number o.reply)) (each s.machine s.moment (event.Poll number) tt h)

ways : (P : State → Type 0) → IsKeptBySessions P → (s : ScriptState) (session : Name) (number : ℕ) → P s.machine → OnTurn P (way_turn s session number)
ways P each s session number h =
    let o = step s.machine 0 s.moment (event.GiveWay number) in
    subst P (sym (after_poll-machine (record s { machine = o.state }) number o.reply)) (each s.machine s.moment (event.GiveWay number) tt h)

after_finish-machine : (s : ScriptState) (number : ℕ) (r : Reply) → (after_finish s number r).machine ≡ s.machine
after_finish-machine s number (reply.Released grant) = refl
after_finish-machine s number _ = refl

finishes : (P : State → Type 0) → IsKeptBySessions P → (s : ScriptState) (session : Name) (number : ℕ) → P s.machine → OnTurn P (finish_turn s session number)
finishes P each s session number h =
    let o = step s.machine 0 s.moment (event.Finish number) in
    subst P (sym (after_finish-machine (record s { machine = o.state }) number o.reply)) (each s.machine s.moment (event.Finish number) tt h)

ends : (P : State → Type 0) → IsKeptBySessions P → (s : ScriptState) (session : Name) (number : ℕ) → P s.machine → OnTurn P (end_turn s session number)
ends P each s session number h =
    let o = step s.machine 0 s.moment (event.Finish number) in
    subst P (sym (after_finish-machine (record s { machine = o.state }) number o.reply)) (each s.machine s.moment (event.Finish number) tt h)

first_told : (P : State → Type 0) (first : List ℕ) (t : Turn) → OnTurn P t → OnTurn P (told_first first t)
first_told P first Bad h = tt
first_told P first (Goes text s) h = h
first_told P first (Stops text status s) h = h

checked : (P : State → Type 0) → IsKeptBySessions P → (s : ScriptState) (session : Name) (number : ℕ) (r : Reply) → P s.machine → OnTurn P (checked_turn s session number r)
checked P each s session number reply.Go h = finishes P each s session number h
checked P each s session number (reply.MovedOn pool) h =
    first_told P (line_text session (reply.MovedOn pool)) (finish_turn s session number) (finishes P each s session number h)
checked P each s session number (reply.GiveWay pool) h = first_told P (line_text session (reply.GiveWay pool)) (way_turn s session number) (ways P each s session number h)
checked P each s session number (reply.CapEnded which ran cap) h =
    first_told P (line_text session (reply.CapEnded which ran cap)) (end_turn s session number) (ends P each s session number h)
checked P each s session number reply.Stopping h = first_told P (line_text session reply.Stopping) (end_turn s session number) (ends P each s session number h)
checked P each s session number _ h = h

dones : (P : State → Type 0) → IsKeptBySessions P → (s : ScriptState) (session : Name) (number : ℕ) (plan : Option Select) → P s.machine → OnTurn P (done_turn s session number plan)
dones P each s session number None h = finishes P each s session number h
dones P each s session number (Some plan) h =
    let o = step s.machine 0 s.moment (event.Check number) in
    checked P each (record s { machine = o.state }) session number o.reply (each s.machine s.moment (event.Check number) tt h)

cancels : (P : State → Type 0) → IsKeptBySessions P → (s : ScriptState) (session : Name) (number : ℕ) (target : Option ℕ) → P s.machine → OnTurn P (cancel_turn s session number target)
cancels P each s session number None h = tt
cancels P each s session number (Some target) h = each s.machine s.moment (event.Cancel number target) tt h

loads : (P : State → Type 0) (s : ScriptState) (name : Name) (r : Result TableSeen LoadError) → P s.machine → OnTurn P (loaded_turn s name r)
loads P s name (Err fault) h = h
loads P s name (Ok table) h = h

of_file : (P : State → Type 0) (s : ScriptState) (name : Name) (file : Option (List ℕ)) → P s.machine → OnTurn P (file_turn s name file)
of_file P s name None h = h
of_file P s name (Some bytes) h =
    elim (ltb FILE_MOST (length bytes)) as (λ b. OnTurn P (cond b (Stops (unloaded_text name (codes "long")) BAD_TABLE s) (loaded_turn s name (table_of bytes)))) [
      | true ↦ h
      | false ↦ loads P s name (table_of bytes) h
    ]

shows : (P : State → Type 0) (s : ScriptState) (r : Result Shown Refusal) → P s.machine → OnTurn P (show_turn s r)
shows P s (Err refusal) h = h
shows P s (Ok table) h = h

requests : (P : State → Type 0) → IsKeptBySessions P → (s : ScriptState) (session : Name) (number : ℕ) (r : Request) → P s.machine → OnTurn P (request_turn s session number r)
requests P each s session number (SetPool pool) h = each s.machine s.moment (event.SetPool number pool) tt h
requests P each s session number (SetCap cap) h = each s.machine s.moment (event.SetCap number cap) tt h
requests P each s session number (Ask floor) h = each s.machine s.moment (event.Submit number floor) tt h
requests P each s session number Poll h = polls P each s session number h
requests P each s session number Check h = each s.machine s.moment (event.Check number) tt h
requests P each s session number Way h = ways P each s session number h
requests P each s session number Done h = dones P each s session number (plan_of s.plans number) h
requests P each s session number (Cancel target) h = cancels P each s session number (session_named s.names target) h
requests P each s session number Close h = closes P each s session number h

for_session : (P : State → Type 0) → IsKeptBySessions P → (s : ScriptState) (session : Name) (r : Request) (o : Option ℕ) → P s.machine → OnTurn P (session_turn s session r o)
for_session P each s session r None h = tt
for_session P each s session r (Some number) h = requests P each s session number r h

-- `sql` alone defines
abbrev pub IsNoStatement : Command → Type 0
IsNoStatement (At moment) = Unit {0}
IsNoStatement (Sql text) = ⊥
IsNoStatement (Open session user pool) = Unit {0}
IsNoStatement (Query session text) = Unit {0}
IsNoStatement (Load name path) = Unit {0}
IsNoStatement (Show name) = Unit {0}
IsNoStatement (Of session r) = Unit {0}

rest_keeps : (P : State → Type 0) → IsKeptBySessions P → (files : Files) (s : ScriptState) (c : Command) → IsNoStatement c → P s.machine → OnTurn P (turn files s c)
rest_keeps P each files s (At moment) free h = bad_or P _ (Goes [] (record s { moment = moment })) h
rest_keeps P each files s (Sql text) free h = absurd free
rest_keeps P each files s (Open session user pool) free h = bad_or P _ (opening_turn s session user pool) (opens P each s session user pool h)
rest_keeps P each files s (Query session text) free h = for_query P each s session text (session_named s.names session) h
rest_keeps P each files s (Load name path) free h = bad_or P (has_no_place s.tables name) (file_turn s name (files path)) (of_file P s name (files path) h)
rest_keeps P each files s (Show name) free h = shows P s (shown_of (snapshot_of s.machine) name) h
rest_keeps P each files s (Of session r) free h = for_session P each s session r (session_named s.names session) h

turn_keeps : (P : State → Type 0) → IsKeptByCalls P → (files : Files) (s : ScriptState) (c : Command) → P s.machine → OnTurn P (turn files s c)
turn_keeps P each files s (At moment) h = rest_keeps P (by_sessions P each) files s (At moment) tt h
turn_keeps P each files s (Sql text) h = reads P each s (read_of text) (λ st is. spells-well_formed text st ((read_of-spells text st).0 is)) h
turn_keeps P each files s (Open session user pool) h = rest_keeps P (by_sessions P each) files s (Open session user pool) tt h
turn_keeps P each files s (Query session text) h = rest_keeps P (by_sessions P each) files s (Query session text) tt h
turn_keeps P each files s (Load name path) h = rest_keeps P (by_sessions P each) files s (Load name path) tt h
turn_keeps P each files s (Show name) h = rest_keeps P (by_sessions P each) files s (Show name) tt h
turn_keeps P each files s (Of session r) h = rest_keeps P (by_sessions P each) files s (Of session r) tt h

-- the rows that a turn leaves stored which defines nothing
stored-turn : (d : Definitions) (t : Turn) (rows : StoredRows) → OnTurn (λ m. m.definitions ≡ d) t → rows ≡ rows_of d → IsStoredBy d t rows
stored-turn d Bad rows on h = h
stored-turn d (Goes text s) rows on h = h ∙ ap rows_of (sym on)
stored-turn d (Stops text status s) rows on h = h ∙ ap rows_of (sym on)

pub rest-stored : (s : ScriptState) (c : Command) (t : Turn) (rows : StoredRows) → IsNoStatement c → t ≡ turn (λ path. None) s c → rows ≡ rows_of s.machine.definitions
    → IsStoredBy s.machine.definitions t rows
rest-stored s c t rows free is h =
    let d = s.machine.definitions in
    let P : State → Type 0 = λ m. m.definitions ≡ d in
    stored-turn d t rows
    (subst (OnTurn P) (sym is) (rest_keeps P (λ m at e of before. session-definitions m 0 at e of ∙ before) (λ path. None) s c free refl)) h

command_keeps : (P : State → Type 0) → IsKeptByCalls P → (files : Files) (s : ScriptState) (o : Option Command) → P s.machine → OnTurn P (command_turn files s o)
command_keeps P each files s None h = tt
command_keeps P each files s (Some c) h = turn_keeps P each files s c h

line_keeps : (P : State → Type 0) → IsKeptByCalls P → (files : Files) (s : ScriptState) (line : List ℕ) → P s.machine → OnTurn P (line_turn files s line)
line_keeps P each files s line h =
    bad_or P _ (cond (is_comment line) (Goes [] s) (command_turn files s (command_of line)))
    (elim (is_comment line) as (λ b. OnTurn P (cond b (Goes [] s) (command_turn files s (command_of line)))) [
      | true ↦ h
      | false ↦ command_keeps P each files s (command_of line) h
    ])

-- what each machine call keeps holds of the journal with which the lines end
turn_end-keeps : (P : State → Type 0) (J : List Entry → Type 0) → ((m : State) → P m → J m.journal) → (n : ℕ) (s : ScriptState) (t : Turn) (next : ScriptState → ScriptEnd)
    → P s.machine → OnTurn P t → ((s' : ScriptState) → P s'.machine → J (next s').journal) → J (turn_end n s t next).journal
turn_end-keeps P J tells n s Bad next h k more = tells s.machine h
turn_end-keeps P J tells n s (Goes text s') next h k more = more s' k
turn_end-keeps P J tells n s (Stops text status s') next h k more = tells s'.machine k

lines_end-keeps : (P : State → Type 0) (J : List Entry → Type 0) → ((m : State) → P m → J m.journal) → IsKeptByCalls P
    → (files : Files) (n : ℕ) (s : ScriptState) (lines : List (List ℕ)) → P s.machine → J (lines_end files n s lines).journal
lines_end-keeps P J tells each files n s [] h = tells s.machine h
lines_end-keeps P J tells each files n s (line ∷ more) h =
    turn_end-keeps P J tells n s (line_turn files s line) (λ next. lines_end files (n + 1) next more) h (line_keeps P each files s line h)
    (λ s' k. lines_end-keeps P J tells each files (n + 1) s' more k)

-- the machine's journal is legal, and leads to the machine
pub record IsHistory (first m : State) : Type 0 where
  pub legal : IsLegal first m.journal
  pub replays : replay first m.journal ≡ m

history-step : (first : State) → IsKeptByCalls (IsHistory first)
history-step first m at e formed h = record { legal = legal-step first m 0 at e formed h.legal h.replays; replays = replay-step first m 0 at e h.replays }

pub legal-lines : (files : Files) (first : State) (n : ℕ) (s : ScriptState) (lines : List (List ℕ)) → IsHistory first s.machine → IsLegal first (lines_end files n s lines).journal
legal-lines files first n s lines h =
    lines_end-keeps (IsHistory first) (IsLegal first) (λ m k. k.legal) (history-step first) files n s lines h

-- the journal of a script is a legal history from its first state
legal-opened : (o : ScriptOptions) (ls : List (List ℕ)) (files : Files) (stored : StoredRows) (b : Bool)
    → IsLegal (script_start (first_definitions o stored)) (cond b (lines_end files 1 (first_state (first_definitions o stored)) ls) (no_script UNSOUND stored)).journal
legal-opened o ls files stored true =
    let d = first_definitions o stored in
    legal-lines files (script_start d) 1 (first_state d) ls (record { legal = tt; replays = refl })
legal-opened o ls files stored false = tt

legal : (o : ScriptOptions) (bytes : List ℕ) (files : Files) (stored : StoredRows) → IsLegal (script_start (first_definitions o stored)) (script_with (Some o) bytes files stored).journal
legal o bytes files stored =
    elim (ltb SCRIPT_MOST (length bytes)) as (λ b. IsLegal (script_start (first_definitions o stored)) (cond b (no_script TOO_LONG stored) (opened_script o (lines bytes) files stored)).journal) [
      | true ↦ tt
      | false ↦ legal-opened o (lines bytes) files stored (is_sound (first_definitions o stored))
    ]

-- the headline, for scripts: what every legal history from sound definitions keeps, a script's does
pub one_history : (words : List (List ℕ)) (bytes : List ℕ) (files : Files) (stored : StoredRows) (o : ScriptOptions) → script_options words ≡ Some o → IsSound (first_definitions o stored)
    → IsOneHistory (script_start (first_definitions o stored)) (script words bytes files stored)
one_history words bytes files stored o h sound =
    let d = first_definitions o stored in
    let entries = (script_with (Some o) bytes files stored).journal in
    let all_legal = legal o bytes files stored in
    let is : IsOneHistory (script_start d) (script_with (Some o) bytes files stored) = record {
      legal = all_legal;
      conserved = conserved-after-each d SCRIPT_ROOM entries sound all_legal;
      kept = bytes-from (script_start d) entries all_legal (healthy-start d SCRIPT_ROOM sound);
    } in
    subst (λ (q : Option ScriptOptions). IsOneHistory (script_start d) (script_with q bytes files stored)) (sym h) is
