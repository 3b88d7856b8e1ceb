-- which words are a SELECT, and which may stand at the front of one
use Rattle.std.specs.Prelude.{◌≡◌, ℕ, ◌^◌, ℤ, pos, neg_ℤ, Bool, true, false, nat_le, nat_lt, if◌then◌else◌, Option, Some, None, List, [], ◌∷◌, ◌++◌, codes}
use Rattle.rm_base.specs.declared.catalog.CatalogTable.{CatalogTable}
use Rattle.rm_base.specs.declared.limits.TheConstants.{LIMIT_MOST}
use Rattle.rm_base.specs.declared.name.Name.{Name}
use Rattle.rm_base.specs.declared.select.Op.{Op}
use Rattle.rm_base.specs.declared.select.Op.TheVariants as op
use Rattle.rm_words.specs.declared.token.Symbol.{Symbol}
use Rattle.rm_words.specs.declared.token.Symbol.TheVariants as symbol
use Rattle.rm_words.specs.Token.{undoubled}
use Rattle.query_plan.specs.declared.part.Clause.{Clause}
use Rattle.query_plan.specs.declared.part.Clause.TheVariants as clause
use Rattle.query_plan.specs.declared.raw.Function.{Function}
use Rattle.query_plan.specs.declared.raw.Function.TheVariants as function
use Rattle.query_plan.specs.declared.raw.KeyBy.{KeyBy}
use Rattle.query_plan.specs.declared.raw.KeyBy.TheVariants as by
use Rattle.query_plan.specs.declared.raw.RawItem.{RawItem}
use Rattle.query_plan.specs.declared.raw.RawKey.{RawKey}
use Rattle.query_plan.specs.declared.raw.RawOperand.{RawOperand}
use Rattle.query_plan.specs.declared.raw.RawOperand.TheVariants.{Column, Int, Words}
use Rattle.query_plan.specs.declared.raw.RawPart.{RawPart}
use Rattle.query_plan.specs.declared.raw.RawPart.TheVariants as part
use Rattle.query_plan.specs.declared.raw.RawSelect.{RawSelect}
use Rattle.query_plan.specs.declared.raw.RawTable.{RawTable}
use Rattle.query_plan.specs.declared.raw.RawTest.{RawTest}
use Rattle.query_plan.specs.declared.raw.RawValue.{RawValue}
use Rattle.query_plan.specs.declared.raw.RawValue.TheVariants as value
use Rattle.query_plan.specs.declared.raw.Reference.{Reference}
use Rattle.query_plan.specs.declared.raw.Slot.{Slot}
use Rattle.query_plan.specs.declared.raw.Slot.TheVariants as slot
use Rattle.query_plan.specs.Raw.{added, empty, has_room}
use Rattle.query_plan.specs.Scope.{is_listed}
use Rattle.query_plan.specs.Word.{Word, key_at, name_at, number_at, quoted_at, sign_at}

-- a number as an Int, where it has 64 bits
abbrev pub int_of : ℕ → Option ℤ
int_of n = if nat_lt n (2 ^ 63) then Some (pos n) else None

-- a number behind a `-`
abbrev pub negative_of : ℕ → Option ℤ
negative_of n = if nat_le n (2 ^ 63) then Some (neg_ℤ (pos n)) else None

-- how a symbol compares
abbrev pub op_of : Symbol → Option Op
op_of symbol.Equal = Some op.Equal
op_of symbol.Unequal = Some op.Unequal
op_of symbol.Less = Some op.Less
op_of symbol.AtMost = Some op.AtMost
op_of symbol.Greater = Some op.Greater
op_of symbol.AtLeast = Some op.AtLeast
op_of _ = None

-- a column that is named alone
abbrev pub bare_column : Name → Reference
bare_column n = record { qualifier = None; column = n }

-- a column behind what its table is called by
abbrev pub qualified_column : Name → Name → Reference
qualified_column q n = record { qualifier = Some q; column = n }

-- a column whose first word starts at a place
pub data IsColumn : ℕ → Reference → List Word → Type 0 where
  unqualified : (a : ℕ) (n : Name) → IsColumn a (bare_column n) (name_at a n ∷ [])
  qualified : (a b c : ℕ) (q n : Name)
      → IsColumn a (qualified_column q n) (name_at a q ∷ sign_at b symbol.Dot ∷ name_at c n ∷ [])

-- the key word of a function
abbrev pub function_word : Function → List ℕ
function_word function.Count = codes "COUNT"
function_word function.Sum = codes "SUM"
function_word function.Min = codes "MIN"
function_word function.Max = codes "MAX"

-- what an item gives whose first word starts at a place
pub data IsValue : ℕ → RawValue → List Word → Type 0 where
  plain : (a : ℕ) (r : Reference) (ws : List Word) → IsColumn a r ws → IsValue a (value.Column r) ws
  count_all : (a b c d : ℕ)
      → IsValue a value.CountAll (key_at a (codes "COUNT") ∷ sign_at b symbol.Open ∷ sign_at c symbol.Star ∷ sign_at d symbol.Close ∷ [])
  function_of : (a b c d : ℕ) (f : Function) (r : Reference) (ws : List Word) → IsColumn c r ws
      → IsValue a (value.Of f r) (((key_at a (function_word f) ∷ sign_at b symbol.Open ∷ []) ++ ws) ++ sign_at d symbol.Close ∷ [])

-- an item of the select list
pub data IsItem : RawItem → List Word → Type 0 where
  unnamed : (a : ℕ) (v : RawValue) (ws : List Word) → IsValue a v ws
      → IsItem (record { place = a; value = v; name = None }) ws
  named_as : (a b c : ℕ) (v : RawValue) (n : Name) (ws : List Word) → IsValue a v ws
      → IsItem (record { place = a; value = v; name = Some n }) (ws ++ key_at b (codes "AS") ∷ name_at c n ∷ [])

-- a table, which is called by its second name or by its own
pub data IsTable : RawTable → List Word → Type 0 where
  uncalled : (a : ℕ) (n : Name) → IsTable (record { name = n; call = n }) (name_at a n ∷ [])
  called : (a b : ℕ) (n m : Name) → IsTable (record { name = n; call = m }) (name_at a n ∷ name_at b m ∷ [])
  called_as : (a b c : ℕ) (n m : Name)
      → IsTable (record { name = n; call = m }) (name_at a n ∷ key_at b (codes "AS") ∷ name_at c m ∷ [])

-- what is compared
pub data IsOperand : RawOperand → List Word → Type 0 where
  of_column : (a : ℕ) (r : Reference) (ws : List Word) → IsColumn a r ws → IsOperand (Column r) ws
  of_number : (a n : ℕ) (z : ℤ) → int_of n ≡ Some z → IsOperand (Int z) (number_at a n ∷ [])
  of_negative : (a b n : ℕ) (z : ℤ) → negative_of n ≡ Some z
      → IsOperand (Int z) (sign_at a symbol.Minus ∷ number_at b n ∷ [])
  of_text : (a : ℕ) (text : List ℕ) → IsOperand (Words (undoubled text)) (quoted_at a text ∷ [])

-- a comparison
pub data IsTest : RawTest → List Word → Type 0 where
  compared : (a : ℕ) (l r : RawOperand) (s : Symbol) (o : Op) (ls rs : List Word)
      → IsOperand l ls → op_of s ≡ Some o → IsOperand r rs
      → IsTest (record { left = l; op = o; place = a; right = r }) ((ls ++ sign_at a s ∷ []) ++ rs)

-- what a key of ORDER BY names: an output column, by its name or by its number
pub data IsKeyBy (catalog : List CatalogTable) (raw : RawSelect) : KeyBy → List Word → Type 0 where
  by_name : (a : ℕ) (n : Name) → IsKeyBy catalog raw (by.Name n) (name_at a n ∷ [])
  by_number : (a n : ℕ) → is_listed catalog raw n ≡ true → IsKeyBy catalog raw (by.Number n) (number_at a n ∷ [])

-- a key of ORDER BY
pub data IsKey (catalog : List CatalogTable) (raw : RawSelect) : RawKey → List Word → Type 0 where
  undirected : (k : KeyBy) (ws : List Word) → IsKeyBy catalog raw k ws → IsKey catalog raw (record { by = k; falling = false }) ws
  rising : (a : ℕ) (k : KeyBy) (ws : List Word) → IsKeyBy catalog raw k ws
      → IsKey catalog raw (record { by = k; falling = false }) (ws ++ key_at a (codes "ASC") ∷ [])
  falling : (a : ℕ) (k : KeyBy) (ws : List Word) → IsKeyBy catalog raw k ws
      → IsKey catalog raw (record { by = k; falling = true }) (ws ++ key_at a (codes "DESC") ∷ [])

-- an item of the select list is due
abbrev pub takes_item : Slot → Bool
takes_item slot.List = true
takes_item slot.Item = true
takes_item _ = false

-- a table is due
abbrev pub takes_table : Slot → Bool
takes_table slot.Table = true
takes_table slot.Joined = true
takes_table _ = false

-- a comparison is due
abbrev pub takes_test : Slot → Bool
takes_test slot.On = true
takes_test slot.Test = true
takes_test _ = false

-- what a slot takes, behind what was read
pub data IsPart (catalog : List CatalogTable) (raw : RawSelect) : Slot → RawPart → List Word → Type 0 where
  all : (a : ℕ) → IsPart catalog raw slot.List (part.All a) (sign_at a symbol.Star ∷ [])
  item : (s : Slot) (i : RawItem) (ws : List Word) → takes_item s ≡ true → IsItem i ws → IsPart catalog raw s (part.Item i) ws
  table : (s : Slot) (t : RawTable) (ws : List Word) → takes_table s ≡ true → IsTable t ws → IsPart catalog raw s (part.Table t) ws
  test : (s : Slot) (t : RawTest) (ws : List Word) → takes_test s ≡ true → IsTest t ws → IsPart catalog raw s (part.Test t) ws
  group : (a : ℕ) (r : Reference) (ws : List Word) → IsColumn a r ws → IsPart catalog raw slot.Group (part.Group r) ws
  key : (k : RawKey) (ws : List Word) → IsKey catalog raw k ws → IsPart catalog raw slot.Key (part.Key k) ws
  limit : (a n : ℕ) → nat_le n LIMIT_MOST ≡ true → IsPart catalog raw slot.Limit (part.Limit n) (number_at a n ∷ [])

-- the clause of a table
abbrev pub table_clause : Slot → Clause
table_clause slot.Joined = clause.Joined
table_clause _ = clause.Tables

-- the clause of a comparison
abbrev pub test_clause : Slot → Clause
test_clause slot.On = clause.Ons
test_clause _ = clause.Tests

-- the clause that a part belongs to, by what was due
abbrev pub clause_of : Slot → RawPart → Clause
clause_of s (part.All a) = clause.All
clause_of s (part.Item i) = clause.Items
clause_of s (part.Table t) = table_clause s
clause_of s (part.Test t) = test_clause s
clause_of s (part.Group r) = clause.Groups
clause_of s (part.Key k) = clause.Keys
clause_of s (part.Limit n) = clause.Limited

-- FROM may follow
abbrev pub is_list : Clause → Bool
is_list clause.All = true
is_list clause.Items = true
is_list _ = false

-- JOIN and WHERE may follow
abbrev pub is_joinable : Clause → Bool
is_joinable clause.Tables = true
is_joinable clause.Ons = true
is_joinable _ = false

-- GROUP BY may follow
abbrev pub is_ungrouped : Clause → Bool
is_ungrouped clause.Tests = true
is_ungrouped k = is_joinable k

-- ORDER BY may follow
abbrev pub is_unordered : Clause → Bool
is_unordered clause.Groups = true
is_unordered k = is_ungrouped k

-- LIMIT may follow
abbrev pub is_unlimited : Clause → Bool
is_unlimited clause.Keys = true
is_unlimited k = is_unordered k

-- a SELECT may end here
abbrev pub is_whole : Clause → Bool
is_whole clause.Limited = true
is_whole k = is_unlimited k

-- which words lead from a clause to a slot
pub data Leads : Clause → List Word → Slot → Type 0 where
  select : (a : ℕ) → Leads clause.Begin (key_at a (codes "SELECT") ∷ []) slot.List
  item_comma : (a : ℕ) → Leads clause.Items (sign_at a symbol.Comma ∷ []) slot.Item
  from : (k : Clause) (a : ℕ) → is_list k ≡ true → Leads k (key_at a (codes "FROM") ∷ []) slot.Table
  join : (k : Clause) (a : ℕ) → is_joinable k ≡ true → Leads k (key_at a (codes "JOIN") ∷ []) slot.Joined
  on : (a : ℕ) → Leads clause.Joined (key_at a (codes "ON") ∷ []) slot.On
  and_on : (a : ℕ) → Leads clause.Ons (key_at a (codes "AND") ∷ []) slot.On
  filter : (k : Clause) (a : ℕ) → is_joinable k ≡ true → Leads k (key_at a (codes "WHERE") ∷ []) slot.Test
  and : (a : ℕ) → Leads clause.Tests (key_at a (codes "AND") ∷ []) slot.Test
  group_by : (k : Clause) (a b : ℕ) → is_ungrouped k ≡ true
      → Leads k (key_at a (codes "GROUP") ∷ key_at b (codes "BY") ∷ []) slot.Group
  group_comma : (a : ℕ) → Leads clause.Groups (sign_at a symbol.Comma ∷ []) slot.Group
  order_by : (k : Clause) (a b : ℕ) → is_unordered k ≡ true
      → Leads k (key_at a (codes "ORDER") ∷ key_at b (codes "BY") ∷ []) slot.Key
  key_comma : (a : ℕ) → Leads clause.Keys (sign_at a symbol.Comma ∷ []) slot.Key
  limit_to : (k : Clause) (a : ℕ) → is_unlimited k ≡ true → Leads k (key_at a (codes "LIMIT") ∷ []) slot.Limit

-- the parts of a SELECT from its first on, the last of them of this clause; no list has more than it may have
pub data IsSelect (catalog : List CatalogTable) : Clause → RawSelect → List Word → Type 0 where
  nothing : IsSelect catalog clause.Begin empty []
  more : (k : Clause) (raw : RawSelect) (s : Slot) (x : RawPart) (ws lead vs : List Word)
      → IsSelect catalog k raw ws → Leads k lead s → has_room raw s ≡ true → IsPart catalog raw s x vs
      → IsSelect catalog (clause_of s x) (added raw x) ((ws ++ lead) ++ vs)

-- the words are the SELECT
pub data Spells (catalog : List CatalogTable) : List Word → RawSelect → Type 0 where
  unended : (k : Clause) (raw : RawSelect) (ws : List Word) → IsSelect catalog k raw ws → is_whole k ≡ true
      → Spells catalog ws raw
  ended : (k : Clause) (raw : RawSelect) (a : ℕ) (ws : List Word) → IsSelect catalog k raw ws → is_whole k ≡ true
      → Spells catalog (ws ++ sign_at a symbol.Semicolon ∷ []) raw

-- the words are a SELECT, or its front up to where the next part is one too many
pub data IsWholeOrFull (catalog : List CatalogTable) : List Word → Type 0 where
  whole : (raw : RawSelect) (ws : List Word) → Spells catalog ws raw → IsWholeOrFull catalog ws
  full : (k : Clause) (raw : RawSelect) (s : Slot) (ws lead : List Word)
      → IsSelect catalog k raw ws → Leads k lead s → has_room raw s ≡ false → IsWholeOrFull catalog (ws ++ lead)

-- the words may stand at the front: a word that begins one part too many is the first that may not
abbrev pub IsFront : List CatalogTable → List Word → Type 0
IsFront catalog ws = (rest : List Word) × IsWholeOrFull catalog (ws ++ rest)
