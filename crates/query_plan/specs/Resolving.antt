-- what the names of a SELECT stand for: its plan, or the first refusal in the order of its text
use Rattle.std.specs.Prelude.{◌≡◌, ◌<◌, ◌≤◌, ℕ, ◌+◌, ◌-◌, Bool, true, false, ◌&&◌, ◌||◌, not, nat_eq, nat_le, nat_lt, if◌then◌else◌, Option, Some, None, is_none, count_by, map, take, codes, Result, Ok, Err, List, [], ◌∷◌, length}
use Rattle.std.specs.List.{list_all, list_any, position_from}
use Rattle.std.specs.Str.{bytes_eq}
use Rattle.rm_base.specs.declared.catalog.CatalogTable.{CatalogTable}
use Rattle.rm_base.specs.declared.catalog.ColumnKind.{ColumnKind}
use Rattle.rm_base.specs.declared.catalog.ColumnKind.TheVariants as kind
use Rattle.rm_base.specs.declared.limits.TheConstants.{GROUP_COLUMNS_MOST, ITEMS_MOST, SELECT_TABLES_MOST}
use Rattle.rm_base.specs.declared.name.Name.{Name}
use Rattle.rm_base.specs.declared.refusal.Refusal.{Refusal}
use Rattle.rm_base.specs.declared.refusal.Refusal.TheVariants.{NoSuchColumn, Ambiguous, TypeClash, NotGrouped, TooManyTables}
use Rattle.rm_base.specs.declared.select.Item.{Item}
use Rattle.rm_base.specs.declared.select.Item.TheVariants as item
use Rattle.rm_base.specs.declared.select.Op.{Op}
use Rattle.rm_base.specs.declared.select.Operand.TheVariants.{Column, Fixed}
use Rattle.rm_base.specs.declared.select.OrderKey.{OrderKey}
use Rattle.rm_base.specs.declared.select.Select.{Select}
use Rattle.rm_base.specs.declared.select.Test.{Test}
use Rattle.rm_base.specs.declared.value.Value.TheVariants.{Int, Words}
use Rattle.rm_base.specs.Name.{name_text, same_name}
use Rattle.query_plan.specs.declared.raw.Function.{Function}
use Rattle.query_plan.specs.declared.raw.Function.TheVariants as function
use Rattle.query_plan.specs.declared.raw.KeyBy.{KeyBy}
use Rattle.query_plan.specs.declared.raw.KeyBy.TheVariants as by
use Rattle.query_plan.specs.declared.raw.RawCondition.{RawCondition}
use Rattle.query_plan.specs.declared.raw.RawItem.{RawItem}
use Rattle.query_plan.specs.declared.raw.RawKey.{RawKey}
use Rattle.query_plan.specs.declared.raw.RawOperand.{RawOperand}
use Rattle.query_plan.specs.declared.raw.RawOperand.TheVariants as operand
use Rattle.query_plan.specs.declared.raw.RawSelect.{RawSelect}
use Rattle.query_plan.specs.declared.raw.RawTable.{RawTable}
use Rattle.query_plan.specs.declared.raw.RawTest.{RawTest}
use Rattle.query_plan.specs.declared.raw.RawValue.{RawValue}
use Rattle.query_plan.specs.declared.raw.RawValue.TheVariants as value
use Rattle.query_plan.specs.declared.raw.Reference.{Reference}
use Rattle.query_plan.specs.declared.reading.ReadError.{ReadError}
use Rattle.query_plan.specs.declared.reading.ReadError.TheVariants.{Refused, Memory}
use Rattle.query_plan.specs.declared.resolving.Compared.{Compared}
use Rattle.query_plan.specs.declared.scope.Found.{Found}
use Rattle.query_plan.specs.declared.scope.Here.{Here}
use Rattle.query_plan.specs.Scope.{is_listed, scope_from}

-- the answer of the next step, where there is no refusal yet
abbrev pub and_then : {A B : Type 0} → Result A Refusal → (A → Result B Refusal) → Result B Refusal
and_then (Ok x) next = next x
and_then (Err why) next = Err why

-- each one's answer, or the first refusal
abbrev pub each : {A B : Type 0} → (A → Result B Refusal) → List A → Result (List B) Refusal
each f [] = Ok []
each f (x ∷ xs) = and_then (f x) (λ y. and_then (each f xs) (λ ys. Ok (y ∷ ys)))

-- the table is called so, where the reference says what it is called by
abbrev pub is_called : Option Name → Name → Bool
is_called None call = true
is_called (Some q) call = same_name call q

-- the reference may mean the column, where so many tables are there
abbrev pub is_meant : ℕ → Reference → Here → Bool
is_meant count r h = nat_lt h.table count && same_name h.column.name r.column && is_called r.qualifier h.call

-- the first column that a reference may mean, where the first of these is the n-th
abbrev pub found_from : ℕ → ℕ → Reference → List Here → Option Found
found_from count n r [] = None
found_from count n r (h ∷ hs) =
    if is_meant count r h then Some (record { column = n; table = h.table; kind = h.column.kind })
    else found_from count (n + 1) r hs

-- the reference may mean a column of another table too
abbrev pub is_elsewhere : ℕ → Reference → Found → Here → Bool
is_elsewhere count r found h = is_meant count r h && not (nat_eq h.table found.table)

-- a column that is named alone and that two tables have
abbrev pub is_ambiguous : ℕ → Reference → Found → List Here → Bool
is_ambiguous count r found scope = is_none r.qualifier && list_any (is_elsewhere count r found) scope

-- a table is called so
abbrev pub is_call : List RawTable → Name → Bool
is_call tables name = list_any (λ t. same_name t.call name) tables

-- which name of a reference is unknown: what its table is called by, or else its column
abbrev pub unknown_name : List RawTable → Option Name → Name → Name
unknown_name tables None column = column
unknown_name tables (Some q) column = if is_call tables q then column else q

-- the column that a reference names, where these tables are there
abbrev pub looked_up : List RawTable → List Here → Reference → Option Found → Result Found Refusal
looked_up tables scope r None = Err (NoSuchColumn (unknown_name tables r.qualifier r.column))
looked_up tables scope r (Some found) =
    if is_ambiguous (length tables) r found scope then Err (Ambiguous r.column) else Ok found

abbrev pub column_of : List RawTable → List Here → Reference → Result Found Refusal
column_of tables scope r = looked_up tables scope r (found_from (length tables) 0 r scope)

-- what is compared, and whether it is an Int or a Text
abbrev pub operand_of : List RawTable → List Here → RawOperand → Result Compared Refusal
operand_of tables scope (operand.Column r) =
    and_then (column_of tables scope r) (λ found. Ok (record { operand = Column found.column; kind = found.kind }))
operand_of tables scope (operand.Int z) = Ok (record { operand = Fixed (Int z); kind = kind.Int })
operand_of tables scope (operand.Words text) = Ok (record { operand = Fixed (Words text); kind = kind.Words })

-- both are Ints, or both Texts
abbrev pub same_kind : ColumnKind → ColumnKind → Bool
same_kind kind.Int kind.Int = true
same_kind kind.Words kind.Words = true
same_kind _ _ = false

-- the comparison of two operands by an operator that stands at a place
abbrev pub compared_at : ℕ → Op → Compared → Compared → Result Test Refusal
compared_at place o l r =
    if same_kind l.kind r.kind then Ok (record { left = l.operand; op = o; right = r.operand }) else Err (TypeClash place)

-- a comparison
abbrev pub test_of : List RawTable → List Here → RawTest → Result Test Refusal
test_of tables scope t =
    and_then (operand_of tables scope t.left) (λ l.
    and_then (operand_of tables scope t.right) (λ r.
    compared_at t.place t.op l r))

-- the first call name that a table before it has, where the first of these tables is the n-th
abbrev pub called_twice : List RawTable → ℕ → List RawTable → Option Name
called_twice tables n [] = None
called_twice tables n (t ∷ ts) = if is_call (take n tables) t.call then Some t.call else called_twice tables (n + 1) ts

-- the answer, where no call name is used twice
abbrev pub unless_twice : Option Name → Result Test Refusal → Result Test Refusal
unless_twice None answer = answer
unless_twice (Some name) answer = Err (Ambiguous name)

-- a comparison behind tables: those alone are there, and their call names come first
abbrev pub condition_of : List RawTable → List Here → RawCondition → Result Test Refusal
condition_of tables scope c =
    let there : List RawTable = take c.tables tables in
    unless_twice (called_twice there 0 there) (test_of there scope c.test)

-- an aggregate
abbrev pub is_aggregate : RawValue → Bool
is_aggregate (value.Column r) = false
is_aggregate value.CountAll = true
is_aggregate (value.Of f r) = true

-- there is a GROUP BY or an aggregate
abbrev pub is_grouped : RawSelect → Bool
is_grouped raw = nat_lt 0 (length raw.groups) || list_any (λ i. is_aggregate i.value) raw.items

-- what a reference names is this column
abbrev pub is_found_at : ℕ → Result Found Refusal → Bool
is_found_at c (Ok found) = nat_eq found.column c
is_found_at c (Err why) = false

-- GROUP BY has the column
abbrev pub is_group : RawSelect → List Here → ℕ → Bool
is_group raw scope c = list_any (λ r. is_found_at c (column_of raw.tables scope r)) raw.groups

-- the column may be an item
abbrev pub may_stand : RawSelect → List Here → ℕ → Bool
may_stand raw scope c = not (is_grouped raw) || is_group raw scope c

-- a column as an item that starts at a place
abbrev pub plain_item : RawSelect → List Here → ℕ → Found → Result Item Refusal
plain_item raw scope place found =
    if may_stand raw scope found.column then Ok (item.Column found.column) else Err (NotGrouped place)

-- Ints
abbrev pub is_int : ColumnKind → Bool
is_int kind.Int = true
is_int kind.Words = false

-- a function of a column as an item that starts at a place
abbrev pub function_item : ℕ → Function → Found → Result Item Refusal
function_item place function.Count found = Ok (item.Count found.column)
function_item place function.Sum found = if is_int found.kind then Ok (item.Sum found.column) else Err (TypeClash place)
function_item place function.Min found = Ok (item.Min found.column)
function_item place function.Max found = Ok (item.Max found.column)

-- what an item gives that starts at a place
abbrev pub value_of : RawSelect → List Here → ℕ → RawValue → Result Item Refusal
value_of raw scope place (value.Column r) = and_then (column_of raw.tables scope r) (plain_item raw scope place)
value_of raw scope place value.CountAll = Ok item.CountAll
value_of raw scope place (value.Of f r) = and_then (column_of raw.tables scope r) (function_item place f)

-- an item of the select list
abbrev pub item_of : RawSelect → List Here → RawItem → Result Item Refusal
item_of raw scope i = value_of raw scope i.place i.value

-- all columns, the first of these being the n-th
abbrev pub all_from : ℕ → List Here → List Item
all_from n [] = []
all_from n (h ∷ hs) = item.Column n ∷ all_from (n + 1) hs

-- the output columns: all columns for `*`
abbrev pub items_of : RawSelect → List Here → Option ℕ → Result (List Item) Refusal
items_of raw scope None = each (item_of raw scope) raw.items
items_of raw scope (Some place) = if is_grouped raw then Err (NotGrouped place) else Ok (all_from 0 scope)

-- what a function's output column is called
abbrev pub function_name : Function → List ℕ
function_name function.Count = codes "count"
function_name function.Sum = codes "sum"
function_name function.Min = codes "min"
function_name function.Max = codes "max"

-- what an output column is called without AS: as its column, or else as its function
abbrev pub value_name : RawValue → List ℕ
value_name (value.Column r) = name_text r.column
value_name value.CountAll = function_name function.Count
value_name (value.Of f r) = function_name f

-- what an output column is called: as AS says, where that stands there
abbrev pub name_or : Option Name → List ℕ → List ℕ
name_or None other = other
name_or (Some n) other = name_text n

abbrev pub item_name : RawItem → List ℕ
item_name i = name_or i.name (value_name i.value)

-- a column's name
abbrev pub column_name : Here → List ℕ
column_name h = name_text h.column.name

-- the names of the output columns
abbrev pub output_names : List Here → Option ℕ → List RawItem → List (List ℕ)
output_names scope None items = map item_name items
output_names scope (Some place) items = map column_name scope

-- a column of GROUP BY
abbrev pub group_of : List RawTable → List Here → Reference → Result ℕ Refusal
group_of tables scope r = and_then (column_of tables scope r) (λ found. Ok found.column)

-- the columns of GROUP BY, where there are groups
abbrev pub grouped_by : Bool → Result (List ℕ) Refusal → Result (Option (List ℕ)) Refusal
grouped_by false columns = Ok None
grouped_by true columns = and_then columns (λ cs. Ok (Some cs))

abbrev pub groups_of : RawSelect → List Here → Result (Option (List ℕ)) Refusal
groups_of raw scope = grouped_by (is_grouped raw) (each (group_of raw.tables scope) raw.groups)

-- the output column that a name means, where it stands first
abbrev pub named_output : List (List ℕ) → Name → Option ℕ → Result ℕ Refusal
named_output names n None = Err (NoSuchColumn n)
named_output names n (Some i) = if nat_lt 1 (count_by (bytes_eq (name_text n)) names) then Err (Ambiguous n) else Ok i

-- the output column that a key means
abbrev pub output_of : List (List ℕ) → KeyBy → Result ℕ Refusal
output_of names (by.Name n) = named_output names n (position_from (bytes_eq (name_text n)) 0 names)
output_of names (by.Number n) = Ok (n - 1)

-- a key of ORDER BY
abbrev pub key_of : List (List ℕ) → RawKey → Result OrderKey Refusal
key_of names k = and_then (output_of names k.by) (λ i. Ok (record { column = i; falling = k.falling }))

-- the plan of a SELECT whose tables have these columns
abbrev pub planned : RawSelect → List Here → Result Select Refusal
planned raw scope =
    and_then (items_of raw scope raw.all) (λ items.
    and_then (each (condition_of raw.tables scope) raw.tests) (λ tests.
    and_then (groups_of raw scope) (λ groups.
    let names = output_names scope raw.all raw.items in
    and_then (each (key_of names) raw.keys) (λ keys.
    Ok (record {
      tables = map (λ t. t.name) raw.tables;
      tests = tests;
      items = items;
      names = names;
      groups = groups;
      order = record { keys = keys; limit = raw.limit };
    })))))

-- what a SELECT means over a catalog
abbrev pub resolved : List CatalogTable → RawSelect → Result Select Refusal
resolved catalog raw =
    if nat_lt SELECT_TABLES_MOST (length raw.tables) then Err (TooManyTables SELECT_TABLES_MOST)
    else and_then (scope_from catalog 0 raw.tables) (λ scope. planned raw scope)

-- what is answered is what the definition gives; want of memory says nothing of it
abbrev pub IsAnswer : {A : Type 0} → Result A Refusal → Result A ReadError → Type 0
IsAnswer given (Ok x) = given ≡ Ok x
IsAnswer given (Err (Refused why)) = given ≡ Err why
IsAnswer given (Err Memory) = Unit {0}

-- a key names its output column, or is the number of one of so many
abbrev pub counts_output : ℕ → KeyBy → Bool
counts_output count (by.Name n) = true
counts_output count (by.Number n) = nat_le n count

-- the same of the key
abbrev pub counts_among : ℕ → RawKey → Bool
counts_among count k = counts_output count k.by

-- a key names its output column, or is the number of one
abbrev pub is_key_listed : List CatalogTable → RawSelect → KeyBy → Bool
is_key_listed catalog raw (by.Name n) = true
is_key_listed catalog raw (by.Number n) = is_listed catalog raw n

-- what holds of each SELECT that words are: it has a table, and no more items and columns of GROUP BY than it may have, and
-- the numbers among its keys are those of output columns
pub record IsRaw (catalog : List CatalogTable) (raw : RawSelect) : Type 0 where
  pub some_table : 0 < length raw.tables
  pub few_items : length raw.items ≤ ITEMS_MOST
  pub few_groups : length raw.groups ≤ GROUP_COLUMNS_MOST
  pub listed : list_all (λ k. is_key_listed catalog raw k.by) raw.keys ≡ true
