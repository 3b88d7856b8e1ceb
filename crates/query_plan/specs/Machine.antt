-- how the words of a SELECT are read, one by one
use Rattle.std.specs.Prelude.{ℕ, ℤ, Bool, true, false, ◌&&◌, nat_le, if◌then◌else◌, Option, Some, None, option_map, Result, Ok, Err, List, [], ◌∷◌, codes}
use Rattle.rm_base.specs.declared.catalog.CatalogTable.{CatalogTable}
use Rattle.rm_base.specs.declared.limits.TheConstants.{LIMIT_MOST}
use Rattle.rm_base.specs.declared.name.Name.{Name}
use Rattle.rm_base.specs.declared.select.Op.{Op}
use Rattle.rm_words.specs.declared.token.Symbol.TheVariants as symbol
use Rattle.rm_words.specs.Names.{name_of}
use Rattle.rm_words.specs.Token.{Token, Bare, Number, Quoted, Sign, is_key, undoubled}
use Rattle.rm_words.specs.Reading.{Reader}
use Rattle.query_plan.specs.declared.part.Clause.{Clause}
use Rattle.query_plan.specs.declared.part.Clause.TheVariants as clause
use Rattle.query_plan.specs.declared.part.Partial.{Partial}
use Rattle.query_plan.specs.declared.part.Partial.TheVariants as partial
use Rattle.query_plan.specs.declared.part.Purpose.{Purpose}
use Rattle.query_plan.specs.declared.part.Purpose.TheVariants as purpose
use Rattle.query_plan.specs.declared.part.Side.{Side}
use Rattle.query_plan.specs.declared.part.Side.TheVariants as side
use Rattle.query_plan.specs.declared.part.Turn.{Turn}
use Rattle.query_plan.specs.declared.part.Turn.TheVariants.{Goes, Ends, Stops}
use Rattle.query_plan.specs.declared.progress.Progress.{Progress}
use Rattle.query_plan.specs.declared.progress.Progress.TheVariants.{Start, In, By, Ended}
use Rattle.query_plan.specs.declared.raw.Function.{Function}
use Rattle.query_plan.specs.declared.raw.Function.TheVariants as function
use Rattle.query_plan.specs.declared.raw.KeyBy.{KeyBy}
use Rattle.query_plan.specs.declared.raw.KeyBy.TheVariants as by
use Rattle.query_plan.specs.declared.raw.RawItem.{RawItem}
use Rattle.query_plan.specs.declared.raw.RawOperand.{RawOperand}
use Rattle.query_plan.specs.declared.raw.RawOperand.TheVariants as operand
use Rattle.query_plan.specs.declared.raw.RawPart.{RawPart}
use Rattle.query_plan.specs.declared.raw.RawPart.TheVariants as part
use Rattle.query_plan.specs.declared.raw.RawSelect.{RawSelect}
use Rattle.query_plan.specs.declared.raw.RawTest.{RawTest}
use Rattle.query_plan.specs.declared.raw.RawValue.{RawValue}
use Rattle.query_plan.specs.declared.raw.RawValue.TheVariants as value
use Rattle.query_plan.specs.declared.raw.Reference.{Reference}
use Rattle.query_plan.specs.declared.raw.Slot.{Slot}
use Rattle.query_plan.specs.declared.raw.Slot.TheVariants as slot
use Rattle.query_plan.specs.Raw.{added, empty, has_room}
use Rattle.query_plan.specs.Grammar.{bare_column, clause_of, function_word, int_of, is_whole, negative_of, op_of, qualified_column}
use Rattle.query_plan.specs.Scope.{is_listed}
use Rattle.query_plan.specs.Word.{Word}

-- the symbol `.`
abbrev pub is_dot : Token → Bool
is_dot (Sign symbol.Dot) = true
is_dot _ = false

-- the symbol `(`
abbrev pub is_open : Token → Bool
is_open (Sign symbol.Open) = true
is_open _ = false

-- the symbol `)`
abbrev pub is_close : Token → Bool
is_close (Sign symbol.Close) = true
is_close _ = false

-- the symbol `*`
abbrev pub is_star : Token → Bool
is_star (Sign symbol.Star) = true
is_star _ = false

-- the symbol `,`
abbrev pub is_comma : Token → Bool
is_comma (Sign symbol.Comma) = true
is_comma _ = false

-- the symbol `;`
abbrev pub is_semicolon : Token → Bool
is_semicolon (Sign symbol.Semicolon) = true
is_semicolon _ = false

-- how a word compares
abbrev pub op_in : Token → Option Op
op_in (Sign s) = op_of s
op_in _ = None

-- the function whose key word this is
abbrev pub function_in : Token → Option Function
function_in t =
    if is_key t (function_word function.Count) then Some function.Count
    else (if is_key t (function_word function.Sum) then Some function.Sum
    else (if is_key t (function_word function.Min) then Some function.Min
    else (if is_key t (function_word function.Max) then Some function.Max
    else None)))

-- COUNT
abbrev pub is_count : Function → Bool
is_count function.Count = true
is_count _ = false

-- an item without AS
abbrev pub item_of : ℕ → RawValue → RawItem
item_of place v = record { place = place; value = v; name = None }

-- a comparison
abbrev pub test_of : RawOperand → Op → ℕ → RawOperand → RawTest
test_of l o place r = record { left = l; op = o; place = place; right = r }

-- an operand is read
abbrev pub operand_read : Side → RawOperand → Partial
operand_read side.Left o = partial.Left o
operand_read (side.Right l o place) r = partial.Test (test_of l o place r)

-- a column is read
abbrev pub column_read : Purpose → Reference → Partial
column_read (purpose.Item place) r = partial.Value place (value.Column r)
column_read (purpose.Argument place f) r = partial.Unclosed place (value.Of f r)
column_read purpose.Group r = partial.Group r
column_read (purpose.Operand which) r = operand_read which (operand.Column r)

-- an Int is read
abbrev pub int_read : Side → Option ℤ → Option Partial
int_read which o = option_map (λ z. operand_read which (operand.Int z)) o

-- the first word of an operand
abbrev pub operand_begun : Side → Token → Option Partial
operand_begun which (Bare word) = option_map (λ n. partial.Named (purpose.Operand which) n) (name_of (Bare word))
operand_begun which (Number n) = int_read which (int_of n)
operand_begun which (Quoted text) = Some (operand_read which (operand.Words (undoubled text)))
operand_begun which (Sign symbol.Minus) = Some (partial.Minus which)
operand_begun which (Sign _) = None

-- the first word of an item: a function, or else a name
abbrev pub value_begun : ℕ → Option Function → Token → Option Partial
value_begun place None t = option_map (λ n. partial.Named (purpose.Item place) n) (name_of t)
value_begun place (Some f) t = Some (partial.Function place f)

abbrev pub item_begun : Word → Option Partial
item_begun w = value_begun w.place (function_in w.says) w.says

-- the first word of a select list
abbrev pub list_begun : ℕ → Token → Option Partial
list_begun place (Sign symbol.Star) = Some (partial.All place)
list_begun place t = item_begun (record { place = place; says = t })

-- the first word of a key: a name, or the number of a column of the select list
abbrev pub key_begun : List CatalogTable → RawSelect → Token → Option Partial
key_begun catalog raw (Number n) = if is_listed catalog raw n then Some (partial.KeyBy (by.Number n)) else None
key_begun catalog raw t = option_map (λ n. partial.KeyBy (by.Name n)) (name_of t)

-- the number of a LIMIT
abbrev pub limit_begun : Token → Option Partial
limit_begun (Number n) = if nat_le n LIMIT_MOST then Some (partial.Limit n) else None
limit_begun _ = None

-- the first word of what is due
abbrev pub begun_in : List CatalogTable → RawSelect → Slot → Word → Option Partial
begun_in catalog raw slot.List w = list_begun w.place w.says
begun_in catalog raw slot.Item w = item_begun w
begun_in catalog raw slot.Table w = option_map (λ n. partial.TableNamed n) (name_of w.says)
begun_in catalog raw slot.Joined w = option_map (λ n. partial.TableNamed n) (name_of w.says)
begun_in catalog raw slot.On w = operand_begun side.Left w.says
begun_in catalog raw slot.Test w = operand_begun side.Left w.says
begun_in catalog raw slot.Group w = option_map (λ n. partial.Named purpose.Group n) (name_of w.says)
begun_in catalog raw slot.Key w = key_begun catalog raw w.says
begun_in catalog raw slot.Limit w = limit_begun w.says

-- the same, where there may be one more
abbrev pub begun : List CatalogTable → RawSelect → Slot → Word → Option Partial
begun catalog raw s w = if has_room raw s then begun_in catalog raw s w else None

-- a word that is taken, if it is
abbrev pub goes : Option Partial → Turn
goes None = Stops
goes (Some p) = Goes p

-- a word behind what an item gives
abbrev pub value_turn : ℕ → RawValue → Token → Turn
value_turn place v t = if is_key t (codes "AS") then Goes (partial.ValueAs place v) else Ends (part.Item (item_of place v))

-- a word behind a function's key word
abbrev pub function_turn : ℕ → Function → Token → Turn
function_turn place f t = if is_open t then Goes (partial.Opened place f) else Stops

-- a word behind that and `(`
abbrev pub opened_turn : ℕ → Function → Token → Turn
opened_turn place f t =
    if is_count f && is_star t then Goes (partial.Unclosed place value.CountAll)
    else goes (option_map (λ n. partial.Named (purpose.Argument place f) n) (name_of t))

-- a word where `)` is due
abbrev pub unclosed_turn : ℕ → RawValue → Token → Turn
unclosed_turn place v t = if is_close t then Goes (partial.Value place v) else Stops

-- a word behind a comparison's left operand
abbrev pub left_turn : RawOperand → Word → Turn
left_turn l w = goes (option_map (λ o. partial.Compared l o w.place) (op_in w.says))

-- a word behind a column that is named alone, and that is no `.`
abbrev pub unqualified_turn : Purpose → Name → Word → Turn
unqualified_turn (purpose.Item place) n w = value_turn place (value.Column (bare_column n)) w.says
unqualified_turn (purpose.Argument place f) n w = unclosed_turn place (value.Of f (bare_column n)) w.says
unqualified_turn purpose.Group n w = Ends (part.Group (bare_column n))
unqualified_turn (purpose.Operand side.Left) n w = left_turn (operand.Column (bare_column n)) w
unqualified_turn (purpose.Operand (side.Right l o place)) n w =
    Ends (part.Test (test_of l o place (operand.Column (bare_column n))))

-- a word behind a column's name, or behind what its table is called by
abbrev pub named_turn : Purpose → Name → Word → Turn
named_turn p n w = if is_dot w.says then Goes (partial.Dotted p n) else unqualified_turn p n w

-- a word behind what a column's table is called by, and `.`
abbrev pub dotted_turn : Purpose → Name → Option Name → Turn
dotted_turn p q None = Stops
dotted_turn p q (Some n) = Goes (column_read p (qualified_column q n))

-- a word behind AS and what an item gives
abbrev pub alias_turn : ℕ → RawValue → Option Name → Turn
alias_turn place v None = Stops
alias_turn place v (Some n) = Goes (partial.Item (record { place = place; value = v; name = Some n }))

-- a word behind AS and a table's name
abbrev pub call_turn : Name → Option Name → Turn
call_turn n None = Stops
call_turn n (Some m) = Goes (partial.Table (record { name = n; call = m }))

-- a word behind a table's name
abbrev pub called_turn : Name → Option Name → Turn
called_turn n None = Ends (part.Table (record { name = n; call = n }))
called_turn n (Some m) = Goes (partial.Table (record { name = n; call = m }))

abbrev pub table_turn : Name → Token → Turn
table_turn n t = if is_key t (codes "AS") then Goes (partial.TableAs n) else called_turn n (name_of t)

-- a word behind a `-`
abbrev pub minus_turn : Side → Token → Turn
minus_turn which (Number n) = goes (int_read which (negative_of n))
minus_turn which _ = Stops

-- a word behind what a key names
abbrev pub key_turn : KeyBy → Token → Turn
key_turn k t =
    if is_key t (codes "ASC") then Goes (partial.Key (record { by = k; falling = false }))
    else (if is_key t (codes "DESC") then Goes (partial.Key (record { by = k; falling = true }))
    else Ends (part.Key (record { by = k; falling = false })))

-- a word behind a part so far
abbrev pub turn : List CatalogTable → RawSelect → Slot → Partial → Word → Turn
turn catalog raw s partial.Due w = goes (begun catalog raw s w)
turn catalog raw s (partial.All place) w = Ends (part.All place)
turn catalog raw s (partial.Named p n) w = named_turn p n w
turn catalog raw s (partial.Dotted p q) w = dotted_turn p q (name_of w.says)
turn catalog raw s (partial.Function place f) w = function_turn place f w.says
turn catalog raw s (partial.Opened place f) w = opened_turn place f w.says
turn catalog raw s (partial.Unclosed place v) w = unclosed_turn place v w.says
turn catalog raw s (partial.Value place v) w = value_turn place v w.says
turn catalog raw s (partial.ValueAs place v) w = alias_turn place v (name_of w.says)
turn catalog raw s (partial.Item i) w = Ends (part.Item i)
turn catalog raw s (partial.TableNamed n) w = table_turn n w.says
turn catalog raw s (partial.TableAs n) w = call_turn n (name_of w.says)
turn catalog raw s (partial.Table t) w = Ends (part.Table t)
turn catalog raw s (partial.Minus which) w = minus_turn which w.says
turn catalog raw s (partial.Left l) w = left_turn l w
turn catalog raw s (partial.Compared l o place) w = goes (operand_begun (side.Right l o place) w.says)
turn catalog raw s (partial.Test t) w = Ends (part.Test t)
turn catalog raw s (partial.Group r) w = Ends (part.Group r)
turn catalog raw s (partial.KeyBy k) w = key_turn k w.says
turn catalog raw s (partial.Key k) w = Ends (part.Key k)
turn catalog raw s (partial.Limit n) w = Ends (part.Limit n)

-- what a column that is named alone makes of its part
abbrev pub unqualified_part : Purpose → Name → Option RawPart
unqualified_part (purpose.Item place) n = Some (part.Item (item_of place (value.Column (bare_column n))))
unqualified_part (purpose.Argument place f) n = None
unqualified_part purpose.Group n = Some (part.Group (bare_column n))
unqualified_part (purpose.Operand side.Left) n = None
unqualified_part (purpose.Operand (side.Right l o place)) n =
    Some (part.Test (test_of l o place (operand.Column (bare_column n))))

-- the part that the words are, if they are one
abbrev pub part_of : Partial → Option RawPart
part_of (partial.All place) = Some (part.All place)
part_of (partial.Named p n) = unqualified_part p n
part_of (partial.Value place v) = Some (part.Item (item_of place v))
part_of (partial.Item i) = Some (part.Item i)
part_of (partial.TableNamed n) = Some (part.Table (record { name = n; call = n }))
part_of (partial.Table t) = Some (part.Table t)
part_of (partial.Test t) = Some (part.Test t)
part_of (partial.Group r) = Some (part.Group r)
part_of (partial.KeyBy k) = Some (part.Key (record { by = k; falling = false }))
part_of (partial.Key k) = Some (part.Key k)
part_of (partial.Limit n) = Some (part.Limit n)
part_of _ = None

-- a word between two parts: a key word, `,` or `;`
pub data Mark : Type 0 where
  Key : List ℕ → Mark
  Comma : Mark
  Semicolon : Mark

-- the word is this
abbrev pub is_mark : Token → Mark → Bool
is_mark t (Key word) = is_key t word
is_mark t Comma = is_comma t
is_mark t Semicolon = is_semicolon t

-- a word between two parts, and where it leads
abbrev pub Edge : Type 0
Edge = Mark × Progress

-- a part is due
abbrev pub due : RawSelect → Slot → Progress
due raw s = In raw s partial.Due

-- the first of these that the word is
abbrev pub on_edge : List Edge → Token → Option Progress
on_edge [] t = None
on_edge (e ∷ es) t = if is_mark t e.0 then Some e.1 else on_edge es t

-- where a SELECT may end
abbrev pub last_edges : RawSelect → List Edge
last_edges raw = (Semicolon, Ended raw) ∷ []

-- where LIMIT may follow
abbrev pub unlimited_edges : RawSelect → List Edge
unlimited_edges raw = (Key (codes "LIMIT"), due raw slot.Limit) ∷ last_edges raw

-- where ORDER BY may follow
abbrev pub unordered_edges : RawSelect → List Edge
unordered_edges raw = (Key (codes "ORDER"), By raw slot.Key) ∷ unlimited_edges raw

-- where GROUP BY may follow
abbrev pub ungrouped_edges : RawSelect → List Edge
ungrouped_edges raw = (Key (codes "GROUP"), By raw slot.Group) ∷ unordered_edges raw

-- where JOIN and WHERE may follow
abbrev pub joinable_edges : RawSelect → List Edge
joinable_edges raw =
    (Key (codes "JOIN"), due raw slot.Joined) ∷ (Key (codes "WHERE"), due raw slot.Test) ∷ ungrouped_edges raw

-- which words may stand behind a clause, and where each leads
abbrev pub edges : RawSelect → Clause → List Edge
edges raw clause.Begin = (Key (codes "SELECT"), due raw slot.List) ∷ []
edges raw clause.All = (Key (codes "FROM"), due raw slot.Table) ∷ []
edges raw clause.Items = (Comma, due raw slot.Item) ∷ (Key (codes "FROM"), due raw slot.Table) ∷ []
edges raw clause.Tables = joinable_edges raw
edges raw clause.Joined = (Key (codes "ON"), due raw slot.On) ∷ []
edges raw clause.Ons = (Key (codes "AND"), due raw slot.On) ∷ joinable_edges raw
edges raw clause.Tests = (Key (codes "AND"), due raw slot.Test) ∷ ungrouped_edges raw
edges raw clause.Groups = (Comma, due raw slot.Group) ∷ unordered_edges raw
edges raw clause.Keys = (Comma, due raw slot.Key) ∷ unlimited_edges raw
edges raw clause.Limited = last_edges raw

-- a word behind a part
abbrev pub led : RawSelect → Clause → Token → Option Progress
led raw k t = on_edge (edges raw k) t

-- where the turn of a part leads
abbrev pub turned : RawSelect → Slot → Token → Turn → Option Progress
turned raw s t (Goes p) = Some (In raw s p)
turned raw s t (Ends x) = led (added raw x) (clause_of s x) t
turned raw s t Stops = None

-- one word more, if it may stand there
abbrev pub step : List CatalogTable → Progress → Word → Option Progress
step catalog Start w = led empty clause.Begin w.says
step catalog (In raw s p) w = turned raw s w.says (turn catalog raw s p w)
step catalog (By raw s) w = if is_key w.says (codes "BY") then Some (due raw s) else None
step catalog (Ended raw) w = None

-- the SELECT that a last part makes, if it may be the last
abbrev pub closed : RawSelect → Slot → Option RawPart → Option RawSelect
closed raw s None = None
closed raw s (Some x) = if is_whole (clause_of s x) then Some (added raw x) else None

-- the SELECT that the words so far are, if they are one
abbrev pub finish : Progress → Option RawSelect
finish Start = None
finish (In raw s p) = closed raw s (part_of p)
finish (By raw s) = None
finish (Ended raw) = Some raw

-- a word that may not stand there ends the reading, and there is one reason for that
abbrev pub or_stops : Option Progress → Result Progress (Unit {0})
or_stops None = Err tt
or_stops (Some q) = Ok q

-- the reader of SELECTs over a catalog
abbrev pub reader : List CatalogTable → Reader Word RawSelect (Unit {0}) Progress
reader catalog = record { start = Start; step = λ p w. or_stops (step catalog p w); finish = λ p. finish p }
