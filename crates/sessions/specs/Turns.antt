-- What each line of a script does.
use Rattle.std.specs.Prelude.{ℕ, Bool, ◌||◌, codes, nat_lt, nat_le, length, List, [], ◌∷◌, ◌++◌, Option, Some, None, Result, Ok, Err, if◌then◌else◌}
use Rattle.rm_base.specs.declared.definitions.Definitions.{Definitions}
use Rattle.rm_base.specs.declared.event.Event.{Event}
use Rattle.rm_base.specs.declared.event.Event.TheVariants as event
use Rattle.rm_base.specs.declared.name.Name.{Name}
use Rattle.rm_base.specs.declared.refusal.Refusal.{Refusal}
use Rattle.rm_base.specs.declared.reply.Reply.{Reply}
use Rattle.rm_base.specs.declared.reply.Reply.TheVariants as reply
use Rattle.rm_base.specs.declared.statement.Statement.{Statement}
use Rattle.rm_base.specs.declared.limits.TheConstants.{FILE_MOST, TABLES_MOST}
use Rattle.rm_base.specs.declared.select.Select.{Select}
use Rattle.rm_base.specs.Select.{select_floor}
use Rattle.rm_base.specs.TableSeen.{TableSeen}
use Rattle.csv_tables.specs.declared.load_error.LoadError.{LoadError}
use Rattle.csv_tables.specs.declared.tables.NamedTable.{NamedTable}
use Rattle.csv_tables.specs.Loading.{table_of}
use Rattle.csv_tables.specs.Named.{has_table, catalog_of}
use Rattle.pool_sql.specs.Reading.{read_of}
use Rattle.query_plan.specs.Reading.{read_of as select_of}
use Rattle.query_run.specs.Running.{tables_called}
use Rattle.rm_rules.specs.Acceptance.{accepted}
use Rattle.rm_rules.specs.State.{State}
use Rattle.rm_rules.specs.Step.{step}
use Rattle.machine.specs.Looked.{snapshot_of}
use Rattle.system_tables.specs.declared.rows.Shown.{Shown}
use Rattle.system_tables.specs.TableRows.{shown_of}
use Rattle.sessions.specs.Commands.{Request, SetPool, SetCap, Ask, Poll, Check, Way, Done, Cancel, Close, Command, At, Sql, Open, Query, Load, Show, Of}
use Rattle.sessions.specs.declared.plans.KeptPlan.{KeptPlan}
use Rattle.options.specs.declared.status.TheConstants.{BAD_TABLE}
use Rattle.sessions.specs.AnswerTexts.{outcome_text, plan_outcome, fault_text, loaded_text, unloaded_text, shown_text}
use Rattle.sessions.specs.Plans.{plan_of, with_plan, without_plan}
use Rattle.sessions.specs.SessionNames.{NamedSession, has_session, session_named, without_name}
use Rattle.sessions.specs.Texts.{line_text, queued_text, chosen_text, bare_text}

-- the state of a script: the machine's, the script's names of the open sessions, the plans that it keeps for them, its
-- tables, and its moment
pub record ScriptState : Type 0 where
  pub machine : State
  pub names : List NamedSession
  pub plans : List KeptPlan
  pub tables : List NamedTable
  pub moment : ℕ

-- what one line of a script does: it is bad, it prints a text and leaves a state, or it prints a text and ends the script
-- with a status
pub data Turn : Type 0 where
  Bad : Turn
  Goes : (text : List ℕ) (state : ScriptState) → Turn
  Stops : (text : List ℕ) (status : ℕ) (state : ScriptState) → Turn

-- a machine call of a script, at its moment and from its one seat, and the text that its reply is printed as
abbrev pub called : ScriptState → Event → (Reply → List ℕ) → Turn
called s e text =
    let o = step s.machine 0 s.moment e in
    Goes (text o.reply) (record s { machine = o.state })

-- `at N`: the moment never falls
abbrev pub at_turn : ScriptState → ℕ → Turn
at_turn s moment = if nat_lt moment s.moment then Bad else Goes [] (record s { moment = moment })

-- a statement, by whether it is accepted: a refused one reaches no machine
abbrev pub judged_turn : ScriptState → Statement → Result Definitions Refusal → Turn
judged_turn s statement (Err refusal) = Goes (bare_text (reply.Refused refusal)) s
judged_turn s statement (Ok definitions) = called s (event.Define statement) bare_text

-- a statement that was read
abbrev pub statement_turn : ScriptState → Statement → Turn
statement_turn s statement = judged_turn s statement (accepted s.machine.definitions statement)

-- `sql TEXT`, by what TEXT is read as
abbrev pub read_turn : ScriptState → Result Statement Refusal → Turn
read_turn s (Err refusal) = Goes (bare_text (reply.Refused refusal)) s
read_turn s (Ok statement) = statement_turn s statement

-- the script's names, with one more
abbrev pub with_name : ScriptState → Name → ℕ → ScriptState
with_name s session number = record s { names = s.names ++ record { name = session; session = number } ∷ [] }

-- a session that was opened chooses a pool, if one is named
abbrev pub chosen_turn : ScriptState → Name → ℕ → Option Name → Turn
chosen_turn s session number None = Goes (line_text session (reply.Opened number)) s
chosen_turn s session number (Some pool) = called s (event.SetPool number pool) (chosen_text session number)

-- the script's names after the reply to Open: a session that was opened has its name, whether or not its pool is set
abbrev pub after_open : ScriptState → Name → Reply → ScriptState
after_open s session (reply.Opened number) = with_name s session number
after_open s session answer = s

-- what follows Open
abbrev pub opened_turn : ScriptState → Name → Option Name → Reply → Turn
opened_turn s session pool (reply.Opened number) = chosen_turn s session number pool
opened_turn s session pool answer = Goes (line_text session answer) s

-- Open, and what follows it
abbrev pub opening_turn : ScriptState → Name → Name → Option Name → Turn
opening_turn s session user pool =
    let o = step s.machine 0 s.moment (event.Open user) in
    opened_turn (after_open (record s { machine = o.state }) session o.reply) session pool o.reply

-- `open S USER` or `open S USER POOL`: bad where a session has the name
abbrev pub open_turn : ScriptState → Name → Name → Option Name → Turn
open_turn s session user pool = if has_session s.names session then Bad else opening_turn s session user pool

-- the script after the reply to Close: a session that is gone leaves its name free, and no plan is kept for it
abbrev pub after_close : ScriptState → Name → ℕ → Reply → ScriptState
after_close s session number reply.Closed = record s { names = without_name session s.names; plans = without_plan number s.plans }
after_close s session number answer = s

-- `close S`
abbrev pub close_turn : ScriptState → Name → ℕ → Turn
close_turn s session number =
    let o = step s.machine 0 s.moment (event.Close number) in
    Goes (line_text session o.reply) (after_close (record s { machine = o.state }) session number o.reply)

-- the script after the reply to the Submit of a plan, which is kept while its query waits or runs
abbrev pub after_submit : ScriptState → ℕ → Select → Reply → ScriptState
after_submit s number plan (reply.Admitted query pool grant own borrowed) = record s { plans = with_plan number plan s.plans }
after_submit s number plan (reply.Waiting query place) = record s { plans = with_plan number plan s.plans }
after_submit s number plan answer = s

-- `query S TEXT`, by what TEXT is read as over the script's tables: a refused one reaches no machine
abbrev pub query_turn : ScriptState → Name → ℕ → Result Select Refusal → Turn
query_turn s session number (Err refusal) = Goes (line_text session (reply.Refused refusal)) s
query_turn s session number (Ok plan) =
    let o = step s.machine 0 s.moment (event.Submit number (select_floor plan)) in
    Goes (queued_text session o.reply) (after_submit (record s { machine = o.state }) number plan o.reply)

-- the same for the session that has the name: bad where none has
abbrev pub query_for : ScriptState → Name → List ℕ → Option ℕ → Turn
query_for s session text None = Bad
query_for s session text (Some number) = query_turn s session number (select_of (catalog_of s.tables) text)

-- the script after the reply to Poll or GiveWay: no plan is kept of a query whose end was told
abbrev pub after_poll : ScriptState → ℕ → Reply → ScriptState
after_poll s number (reply.Ended end) = record s { plans = without_plan number s.plans }
after_poll s number answer = s

-- `poll S`
abbrev pub poll_turn : ScriptState → Name → ℕ → Turn
poll_turn s session number =
    let o = step s.machine 0 s.moment (event.Poll number) in
    Goes (line_text session o.reply) (after_poll (record s { machine = o.state }) number o.reply)

-- the script after the reply to Finish: no plan is kept of a query whose grant was released
abbrev pub after_finish : ScriptState → ℕ → Reply → ScriptState
after_finish s number (reply.Released grant) = record s { plans = without_plan number s.plans }
after_finish s number answer = s

-- `way S`: the plan of a query that gave way is kept while it waits, or runs anew
abbrev pub way_turn : ScriptState → Name → ℕ → Turn
way_turn s session number =
    let o = step s.machine 0 s.moment (event.GiveWay number) in
    Goes (queued_text session o.reply) (after_poll (record s { machine = o.state }) number o.reply)

-- what is printed of a query that ends, by the plan that is kept for S and the reply to Finish: the plan runs with the grant
-- of its query
abbrev pub done_text : List NamedTable → Name → Option Select → Reply → List ℕ
done_text tables session None answer = line_text session answer
done_text tables session (Some plan) (reply.Released grant) =
    outcome_text session plan.names (plan_outcome grant plan (tables_called tables plan.tables)) ++ line_text session (reply.Released grant)
done_text tables session (Some plan) answer = line_text session answer

-- the plan of S runs, where one is kept, and its query ends; no plan runs where no query does
abbrev pub finish_turn : ScriptState → Name → ℕ → Turn
finish_turn s session number =
    let o = step s.machine 0 s.moment (event.Finish number) in
    Goes (done_text s.tables session (plan_of s.plans number) o.reply) (after_finish (record s { machine = o.state }) number o.reply)

-- the query of S ends, and its plan does not run
abbrev pub end_turn : ScriptState → Name → ℕ → Turn
end_turn s session number =
    let o = step s.machine 0 s.moment (event.Finish number) in
    Goes (line_text session o.reply) (after_finish (record s { machine = o.state }) number o.reply)

-- a turn that prints this first
abbrev pub told_first : List ℕ → Turn → Turn
told_first first Bad = Bad
told_first first (Goes text state) = Goes (first ++ text) state
told_first first (Stops text status state) = Stops (first ++ text) status state

-- what `done S` does with a plan, by the reply to Check
abbrev pub checked_turn : ScriptState → Name → ℕ → Reply → Turn
checked_turn s session number reply.Go = finish_turn s session number
checked_turn s session number (reply.MovedOn pool) = told_first (line_text session (reply.MovedOn pool)) (finish_turn s session number)
checked_turn s session number (reply.GiveWay pool) = told_first (line_text session (reply.GiveWay pool)) (way_turn s session number)
checked_turn s session number (reply.CapEnded which ran cap) = told_first (line_text session (reply.CapEnded which ran cap)) (end_turn s session number)
checked_turn s session number reply.Stopping = told_first (line_text session reply.Stopping) (end_turn s session number)
checked_turn s session number answer = Goes (line_text session answer) s

-- `done S`, by the plan that is kept for S: only a query with a plan is checked
abbrev pub done_turn : ScriptState → Name → ℕ → Option Select → Turn
done_turn s session number None = finish_turn s session number
done_turn s session number (Some plan) =
    let o = step s.machine 0 s.moment (event.Check number) in
    checked_turn (record s { machine = o.state }) session number o.reply

-- `cancel S T`, by the session that has the name T: bad where none has
abbrev pub cancel_turn : ScriptState → Name → ℕ → Option ℕ → Turn
cancel_turn s session number None = Bad
cancel_turn s session number (Some target) = called s (event.Cancel number target) (line_text session)

-- a table that a file's bytes are, or are not: then the script ends
abbrev pub loaded_turn : ScriptState → Name → Result TableSeen LoadError → Turn
loaded_turn s name (Err fault) = Stops (unloaded_text name (fault_text fault)) BAD_TABLE s
loaded_turn s name (Ok table) =
    Goes (loaded_text name (length table.rows)) (record s { tables = s.tables ++ record { name = name; table = table } ∷ [] })

-- a table of the file that is there
abbrev pub file_turn : ScriptState → Name → Option (List ℕ) → Turn
file_turn s name None = Stops (unloaded_text name (codes "missing")) BAD_TABLE s
file_turn s name (Some bytes) =
    if nat_lt FILE_MOST (length bytes) then Stops (unloaded_text name (codes "long")) BAD_TABLE s
    else loaded_turn s name (table_of bytes)

-- there is room for no table of this name: a table has it, or there are as many as there may be
abbrev pub has_no_place : List NamedTable → Name → Bool
has_no_place tables name = has_table tables name || nat_le TABLES_MOST (length tables)

-- `table NAME PATH`
abbrev pub table_turn : (List ℕ → Option (List ℕ)) → ScriptState → Name → List ℕ → Turn
table_turn files s name path = if has_no_place s.tables name then Bad else file_turn s name (files path)

-- `show NAME`, by what NAME shows of the state as it stands, which stays as it is
abbrev pub show_turn : ScriptState → Result Shown Refusal → Turn
show_turn s (Err refusal) = Goes (bare_text (reply.Refused refusal)) s
show_turn s (Ok table) = Goes (shown_text table) s

-- what is asked of the session S of this number
abbrev pub request_turn : ScriptState → Name → ℕ → Request → Turn
request_turn s session number (SetPool pool) = called s (event.SetPool number pool) (line_text session)
request_turn s session number (SetCap cap) = called s (event.SetCap number cap) (line_text session)
request_turn s session number (Ask floor) = called s (event.Submit number floor) (queued_text session)
request_turn s session number Poll = poll_turn s session number
request_turn s session number Check = called s (event.Check number) (line_text session)
request_turn s session number Way = way_turn s session number
request_turn s session number Done = done_turn s session number (plan_of s.plans number)
request_turn s session number (Cancel target) = cancel_turn s session number (session_named s.names target)
request_turn s session number Close = close_turn s session number

-- what is asked of S, by the session that has the name: bad where none has
abbrev pub session_turn : ScriptState → Name → Request → Option ℕ → Turn
session_turn s session request None = Bad
session_turn s session request (Some number) = request_turn s session number request

-- what a command does, where these are the files
abbrev pub turn : (List ℕ → Option (List ℕ)) → ScriptState → Command → Turn
turn files s (At moment) = at_turn s moment
turn files s (Sql text) = read_turn s (read_of text)
turn files s (Open session user pool) = open_turn s session user pool
turn files s (Query session text) = query_for s session text (session_named s.names session)
turn files s (Load name path) = table_turn files s name path
turn files s (Show name) = show_turn s (shown_of (snapshot_of s.machine) name)
turn files s (Of session request) = session_turn s session request (session_named s.names session)
