-- The command that a line of a script gives.
use Rattle.std.specs.Prelude.{ℕ, if◌then◌else◌, nat_lt, length, List, [], ◌∷◌, Option, Some, None, option_map, codes}
use Rattle.std.specs.List.{before_first, after_first}
use Rattle.std.specs.Option.{option_and_then}
use Rattle.std.specs.Str.{bytes_eq}
use Rattle.rm_base.specs.declared.name.Name.{Name}
use Rattle.sessions.specs.declared.command.Verb.{Verb}
use Rattle.sessions.specs.declared.command.Verb.TheVariants as verb
use Rattle.sessions.specs.declared.command.Request.{Request as Asked}
use Rattle.sessions.specs.declared.command.Request.TheVariants as asked
use Rattle.sessions.specs.declared.command.Command.{Command as Told}
use Rattle.sessions.specs.declared.command.Command.TheVariants as told
use Rattle.rm_base.specs.Name.{name_of}
use Rattle.sessions.specs.Numbers.{script_number, positive_of, cap_of}
use Rattle.sessions.specs.Words.{is_space, line_words, one_behind, two_behind, three_behind}

-- what a line asks of a session
pub data Request : Type 0 where
  SetPool : (pool : Name) → Request
  SetCap : (cap : Option ℕ) → Request
  Ask : (floor : ℕ) → Request
  Poll : Request
  Check : Request
  Way : Request
  Done : Request
  Cancel : (target : Name) → Request
  Close : Request

-- what a line of a script asks for
pub data Command : Type 0 where
  At : (moment : ℕ) → Command
  Sql : (text : List ℕ) → Command
  Open : (session user : Name) → (pool : Option Name) → Command
  Query : (session : Name) (text : List ℕ) → Command
  Load : (name : Name) (path : List ℕ) → Command
  Show : (name : Name) → Command
  Of : (session : Name) → Request → Command

-- what a request and a command of the program are seen as
abbrev pub seen_request : Asked → Request
seen_request (asked.SetPool pool) = SetPool pool
seen_request (asked.SetCap cap) = SetCap cap
seen_request (asked.Ask floor) = Ask floor
seen_request asked.Poll = Poll
seen_request asked.Check = Check
seen_request asked.Way = Way
seen_request asked.Done = Done
seen_request (asked.Cancel target) = Cancel target
seen_request asked.Close = Close

abbrev pub seen_command : Told → Command
seen_command (told.At moment) = At moment.value
seen_command (told.Sql text) = Sql text.now
seen_command (told.Open session user pool) = Open session user pool
seen_command (told.Query session text) = Query session text.now
seen_command (told.Load name path) = Load name path.now
seen_command (told.Show name) = Show name
seen_command (told.Of session request) = Of session (seen_request request)

-- the verb that a word is, compared as written
abbrev pub verb_of : List ℕ → Option Verb
verb_of word =
    if bytes_eq word (codes "at") then Some verb.At
    else (if bytes_eq word (codes "sql") then Some verb.Sql
    else (if bytes_eq word (codes "open") then Some verb.Open
    else (if bytes_eq word (codes "set") then Some verb.Set
    else (if bytes_eq word (codes "ask") then Some verb.Ask
    else (if bytes_eq word (codes "poll") then Some verb.Poll
    else (if bytes_eq word (codes "done") then Some verb.Done
    else (if bytes_eq word (codes "close") then Some verb.Close
    else (if bytes_eq word (codes "query") then Some verb.Query
    else (if bytes_eq word (codes "table") then Some verb.Table
    else (if bytes_eq word (codes "check") then Some verb.Check
    else (if bytes_eq word (codes "way") then Some verb.Way
    else (if bytes_eq word (codes "cancel") then Some verb.Cancel
    else (if bytes_eq word (codes "show") then Some verb.Show else None)))))))))))))

-- what stands before the first space of a line
abbrev pub first_word : List ℕ → List ℕ
first_word line = before_first is_space line

-- what stands behind the first space of a line, where it has one
abbrev pub text_behind : List ℕ → Option (List ℕ)
text_behind line = if nat_lt (length (first_word line)) (length line) then Some (after_first is_space line) else None

-- what two words make, where both are read, or three
abbrev pub with_both : {A B : Type 0} → (A → B → Command) → Option A → Option B → Option Command
with_both make None b = None
with_both make (Some a) None = None
with_both make (Some a) (Some b) = Some (make a b)

abbrev pub with_three : {A B C : Type 0} → (A → B → C → Command) → Option A → Option B → Option C → Option Command
with_three make None b c = None
with_three make (Some a) None c = None
with_three make (Some a) (Some b) None = None
with_three make (Some a) (Some b) (Some c) = Some (make a b c)

-- `S`, of which this is asked
abbrev pub plain_form : Request → List (List ℕ) → Option Command
plain_form request words = option_and_then (λ session. option_map (λ s. Of s request) (name_of session)) (one_behind words)

-- `N`
abbrev pub moment_form : List (List ℕ) → Option Command
moment_form words = option_and_then (λ moment. option_map At (script_number moment)) (one_behind words)

-- `S FLOOR`
abbrev pub floor_form : List (List ℕ) → Option Command
floor_form words = option_and_then (λ (session, floor). with_both (λ s n. Of s (Ask n)) (name_of session) (positive_of floor)) (two_behind words)

-- `S T`
abbrev pub cancel_form : List (List ℕ) → Option Command
cancel_form words = option_and_then (λ (session, target). with_both (λ s t. Of s (Cancel t)) (name_of session) (name_of target)) (two_behind words)

-- `S USER`
abbrev pub user_form : List ℕ × List ℕ → Option Command
user_form (session, user) = with_both (λ s u. Open s u None) (name_of session) (name_of user)

-- `S USER POOL`
abbrev pub user_pool_form : List ℕ × List ℕ × List ℕ → Option Command
user_pool_form (session, user, pool) = with_three (λ s u p. Open s u (Some p)) (name_of session) (name_of user) (name_of pool)

-- `S USER`, or else `S USER POOL`
abbrev pub open_forms : Option (List ℕ × List ℕ) → Option (List ℕ × List ℕ × List ℕ) → Option Command
open_forms (Some pair) triple = user_form pair
open_forms None triple = option_and_then user_pool_form triple

-- `S pool POOL` or `S cap CAP`, where `pool` and `cap` are compared as written
abbrev pub set_form : List ℕ × List ℕ × List ℕ → Option Command
set_form (session, key, value) =
    if bytes_eq key (codes "pool") then with_both (λ s p. Of s (SetPool p)) (name_of session) (name_of value)
    else (if bytes_eq key (codes "cap") then with_both (λ s c. Of s (SetCap c)) (name_of session) (cap_of value) else None)

-- a text without the spaces at its front
abbrev pub without_spaces : List ℕ → List ℕ
without_spaces [] = []
without_spaces (byte ∷ bytes) = if is_space byte then without_spaces bytes else byte ∷ bytes

-- the query of a session: its name, and the text behind the one space that follows it
abbrev pub query_of : List ℕ → Option (List ℕ) → Option Command
query_of name text = option_and_then (λ t. option_map (λ s. Query s t) (name_of name)) text

-- `S TEXT`, of what stands behind the first space of the line
abbrev pub query_form : List ℕ → Option Command
query_form words = query_of (first_word words) (text_behind words)

-- `NAME PATH`
abbrev pub table_form : List (List ℕ) → Option Command
table_form words = option_and_then (λ (name, path). option_map (λ n. Load n path) (name_of name)) (two_behind words)

-- `NAME`
abbrev pub show_form : List (List ℕ) → Option Command
show_form words = option_and_then (λ name. option_map Show (name_of name)) (one_behind words)

-- the command of a line that begins with a verb, by the forms that the verb may have behind it
abbrev pub command_with : Verb → List ℕ → Option Command
command_with verb.At line = moment_form (line_words line)
command_with verb.Sql line = option_map Sql (text_behind line)
command_with verb.Open line = open_forms (two_behind (line_words line)) (three_behind (line_words line))
command_with verb.Set line = option_and_then set_form (three_behind (line_words line))
command_with verb.Ask line = floor_form (line_words line)
command_with verb.Poll line = plain_form Poll (line_words line)
command_with verb.Done line = plain_form Done (line_words line)
command_with verb.Close line = plain_form Close (line_words line)
command_with verb.Query line = option_and_then (λ words. query_form (without_spaces words)) (text_behind line)
command_with verb.Table line = table_form (line_words line)
command_with verb.Check line = plain_form Check (line_words line)
command_with verb.Way line = plain_form Way (line_words line)
command_with verb.Cancel line = cancel_form (line_words line)
command_with verb.Show line = show_form (line_words line)

-- the command that a line gives, where its first word is a verb and what follows has a form of that verb
abbrev pub command_of : List ℕ → Option Command
command_of line = option_and_then (λ verb. command_with verb line) (verb_of (first_word line))
