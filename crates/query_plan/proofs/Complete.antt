-- every SELECT is read
use Rattle.std.proofs.Common.{◌≡◌, ℕ, true, false, if◌then◌else◌, Option, Some, None, Ok, List, [], ◌∷◌, ◌++◌, refl, ◌∙◌, ap, codes}
use Rattle.rm_base.specs.declared.catalog.CatalogTable.{CatalogTable}
use Rattle.rm_base.specs.declared.name.Name.{Name}
use Rattle.rm_words.specs.declared.token.Symbol.TheVariants as symbol
use Rattle.rm_words.specs.Names.{key, name_called, name_of}
use Rattle.rm_words.specs.Token.{Token, Sign, is_key}
use Rattle.rm_words.specs.Reading.{onward, run}
use Rattle.rm_words.proofs.Readings.{prefix-read, run-after}
use Rattle.rm_words.proofs.Results.{some_is, none_some}
use Rattle.query_plan.specs.declared.part.Clause.{Clause}
use Rattle.query_plan.specs.declared.part.Clause.TheVariants as clause
use Rattle.query_plan.specs.declared.part.Partial.{Partial}
use Rattle.query_plan.specs.declared.part.Partial.TheVariants as partial
use Rattle.query_plan.specs.declared.part.Purpose.{Purpose}
use Rattle.query_plan.specs.declared.part.Purpose.TheVariants as purpose
use Rattle.query_plan.specs.declared.part.Side.TheVariants as side
use Rattle.query_plan.specs.declared.part.Turn.{Turn}
use Rattle.query_plan.specs.declared.part.Turn.TheVariants.{Goes, Ends, Stops}
use Rattle.query_plan.specs.declared.progress.Progress.{Progress}
use Rattle.query_plan.specs.declared.progress.Progress.TheVariants.{Start, In, By, Ended}
use Rattle.query_plan.specs.declared.raw.RawOperand.TheVariants as operand
use Rattle.query_plan.specs.declared.raw.RawPart.{RawPart}
use Rattle.query_plan.specs.declared.raw.RawPart.TheVariants as part
use Rattle.query_plan.specs.declared.raw.RawSelect.{RawSelect}
use Rattle.query_plan.specs.declared.raw.RawValue.{RawValue}
use Rattle.query_plan.specs.declared.raw.RawValue.TheVariants as value
use Rattle.query_plan.specs.declared.raw.Slot.{Slot}
use Rattle.query_plan.specs.declared.raw.Slot.TheVariants as slot
use Rattle.query_plan.specs.Word.{Word, key_at, sign_at}
use Rattle.query_plan.specs.Grammar.{IsSelect, nothing, more, Leads, select, item_comma, from, join, on, and_on, filter, and, group_by, group_comma, order_by, key_comma, limit_to, Spells, unended, ended, IsWholeOrFull, whole, full, IsFront, bare_column, is_joinable, is_list, is_ungrouped, is_unlimited, is_unordered, is_whole}
use Rattle.query_plan.specs.Machine.{called_turn, due, finish, closed, is_dot, item_of, led, or_stops, part_of, reader, step, test_of, turn, turned, unqualified_part, unqualified_turn, value_turn}
use Rattle.query_plan.proofs.PartsRead.{go, on_goes, part-read}

-- a word that belongs to no part
record Separates (t : Token) : Type 0 where
  no_dot : is_dot t ≡ false
  no_as : is_key t (codes "AS") ≡ false
  no_asc : is_key t (codes "ASC") ≡ false
  no_desc : is_key t (codes "DESC") ≡ false
  no_name : name_of t ≡ None

select_separates : Separates (key (codes "SELECT"))
unfolding name_called
select_separates = record { no_dot = refl; no_as = refl; no_asc = refl; no_desc = refl; no_name = refl }

from_separates : Separates (key (codes "FROM"))
unfolding name_called
from_separates = record { no_dot = refl; no_as = refl; no_asc = refl; no_desc = refl; no_name = refl }

join_separates : Separates (key (codes "JOIN"))
unfolding name_called
join_separates = record { no_dot = refl; no_as = refl; no_asc = refl; no_desc = refl; no_name = refl }

on_separates : Separates (key (codes "ON"))
unfolding name_called
on_separates = record { no_dot = refl; no_as = refl; no_asc = refl; no_desc = refl; no_name = refl }

where_separates : Separates (key (codes "WHERE"))
unfolding name_called
where_separates = record { no_dot = refl; no_as = refl; no_asc = refl; no_desc = refl; no_name = refl }

and_separates : Separates (key (codes "AND"))
unfolding name_called
and_separates = record { no_dot = refl; no_as = refl; no_asc = refl; no_desc = refl; no_name = refl }

group_separates : Separates (key (codes "GROUP"))
unfolding name_called
group_separates = record { no_dot = refl; no_as = refl; no_asc = refl; no_desc = refl; no_name = refl }

order_separates : Separates (key (codes "ORDER"))
unfolding name_called
order_separates = record { no_dot = refl; no_as = refl; no_asc = refl; no_desc = refl; no_name = refl }

limit_separates : Separates (key (codes "LIMIT"))
unfolding name_called
limit_separates = record { no_dot = refl; no_as = refl; no_asc = refl; no_desc = refl; no_name = refl }

comma_separates : Separates (Sign symbol.Comma)
comma_separates = record { no_dot = refl; no_as = refl; no_asc = refl; no_desc = refl; no_name = refl }

semicolon_separates : Separates (Sign symbol.Semicolon)
semicolon_separates = record { no_dot = refl; no_as = refl; no_asc = refl; no_desc = refl; no_name = refl }

-- a part that may end does so before such a word
some_ends : (x y : RawPart) → Some x ≡ Some y → Ends x ≡ Ends y
some_ends x y h = ap (λ z. Ends z) (some_is x y h)

value-ends : (a : ℕ) (v : RawValue) (t : Token) (x : RawPart) → Separates t → Some (part.Item (item_of a v)) ≡ Some x
    → value_turn a v t ≡ Ends x
value-ends a v t x sep h =
    ap (λ b. if b then Goes (partial.ValueAs a v) else Ends (part.Item (item_of a v))) sep.no_as ∙ some_ends (part.Item (item_of a v)) x h

unqualified-ends : (p : Purpose) (n : Name) (w : Word) (x : RawPart) → Separates w.says → unqualified_part p n ≡ Some x
    → unqualified_turn p n w ≡ Ends x
unqualified-ends (purpose.Item a) n w x sep h = value-ends a (value.Column (bare_column n)) w.says x sep h
unqualified-ends (purpose.Argument a f) n w x sep h = absurd (none_some x h)
unqualified-ends purpose.Group n w x sep h = some_ends (part.Group (bare_column n)) x h
unqualified-ends (purpose.Operand side.Left) n w x sep h = absurd (none_some x h)
unqualified-ends (purpose.Operand (side.Right l o a)) n w x sep h =
    some_ends (part.Test (test_of l o a (operand.Column (bare_column n)))) x h

ends_before : (catalog : List CatalogTable) (raw : RawSelect) (s : Slot) (p : Partial) (w : Word) (x : RawPart) → Separates w.says → part_of p ≡ Some x
    → turn catalog raw s p w ≡ Ends x
ends_before catalog raw s partial.Due w x sep h = absurd (none_some x h)
ends_before catalog raw s (partial.All a) w x sep h = some_ends (part.All a) x h
ends_before catalog raw s (partial.Named p n) w x sep h =
    ap (λ b. if b then Goes (partial.Dotted p n) else unqualified_turn p n w) sep.no_dot ∙ unqualified-ends p n w x sep h
ends_before catalog raw s (partial.Dotted p n) w x sep h = absurd (none_some x h)
ends_before catalog raw s (partial.Function a f) w x sep h = absurd (none_some x h)
ends_before catalog raw s (partial.Opened a f) w x sep h = absurd (none_some x h)
ends_before catalog raw s (partial.Unclosed a v) w x sep h = absurd (none_some x h)
ends_before catalog raw s (partial.Value a v) w x sep h = value-ends a v w.says x sep h
ends_before catalog raw s (partial.ValueAs a v) w x sep h = absurd (none_some x h)
ends_before catalog raw s (partial.Item i) w x sep h = some_ends (part.Item i) x h
ends_before catalog raw s (partial.TableNamed n) w x sep h =
    ap (λ b. if b then Goes (partial.TableAs n) else called_turn n (name_of w.says)) sep.no_as
    ∙ ap (called_turn n) sep.no_name ∙ some_ends (part.Table (record { name = n; call = n })) x h
ends_before catalog raw s (partial.TableAs n) w x sep h = absurd (none_some x h)
ends_before catalog raw s (partial.Table t) w x sep h = some_ends (part.Table t) x h
ends_before catalog raw s (partial.Minus which) w x sep h = absurd (none_some x h)
ends_before catalog raw s (partial.Left l) w x sep h = absurd (none_some x h)
ends_before catalog raw s (partial.Compared l o a) w x sep h = absurd (none_some x h)
ends_before catalog raw s (partial.Test t) w x sep h = some_ends (part.Test t) x h
ends_before catalog raw s (partial.Group r) w x sep h = some_ends (part.Group r) x h
ends_before catalog raw s (partial.KeyBy k) w x sep h =
    ap (λ b. if b then Goes (partial.Key (record { by = k; falling = false }))
    else (if is_key w.says (codes "DESC") then Goes (partial.Key (record { by = k; falling = true })) else Ends (part.Key (record { by = k; falling = false })))) sep.no_asc
    ∙ ap (λ b. if b then Goes (partial.Key (record { by = k; falling = true })) else Ends (part.Key (record { by = k; falling = false }))) sep.no_desc
    ∙ some_ends (part.Key (record { by = k; falling = false })) x h
ends_before catalog raw s (partial.Key k) w x sep h = some_ends (part.Key k) x h
ends_before catalog raw s (partial.Limit n) w x sep h = some_ends (part.Limit n) x h

-- the words of a part are read
go-turn : (catalog : List CatalogTable) (raw : RawSelect) (s : Slot) (t : Token) (r : Turn) (ws : List Word) (q : Partial)
    → on_goes r (λ p. go catalog raw s p ws) ≡ Some q
    → ((p : Partial) → go catalog raw s p ws ≡ Some q → run (reader catalog) (In raw s p) ws ≡ Ok (In raw s q))
    → onward (or_stops (turned raw s t r)) (λ p. run (reader catalog) p ws) ≡ Ok (In raw s q)
go-turn catalog raw s t (Goes p) ws q h rest = rest p h
go-turn catalog raw s t (Ends x) ws q h rest = absurd (none_some q h)
go-turn catalog raw s t Stops ws q h rest = absurd (none_some q h)

go-run : (catalog : List CatalogTable) (raw : RawSelect) (s : Slot) (p : Partial) (ws : List Word) (q : Partial) → go catalog raw s p ws ≡ Some q
    → run (reader catalog) (In raw s p) ws ≡ Ok (In raw s q)
go-run catalog raw s p [] q h = ap (λ r. Ok (In raw s r)) (some_is p q h)
go-run catalog raw s p (w ∷ ws) q h = go-turn catalog raw s w.says (turn catalog raw s p w) ws q h (λ r rest. go-run catalog raw s r ws q rest)

-- a SELECT so far is read, and words that belong to no part lead on behind its last one
record IsReady (catalog : List CatalogTable) (k : Clause) (raw : RawSelect) (ws : List Word) : Type 0 where
  last : Progress
  reads : run (reader catalog) Start ws ≡ Ok last
  leads_on : (w : Word) → Separates w.says → step catalog last w ≡ led raw k w.says
  ends : finish last ≡ (if is_whole k then Some raw else None)

one-run : (catalog : List CatalogTable) (p : Progress) (w : Word) (q : Progress) (o : Option Progress) → step catalog p w ≡ o → o ≡ Some q
    → run (reader catalog) p (w ∷ []) ≡ Ok q
one-run catalog p w q o steps is = ap (λ s. onward (or_stops s) (λ r. Ok r)) (steps ∙ is)

from-led : (raw : RawSelect) (k : Clause) → is_list k ≡ true → led raw k (key (codes "FROM")) ≡ Some (due raw slot.Table)
from-led raw clause.All h = refl
from-led raw clause.Items h = refl
from-led raw clause.Begin h = absurd cc
from-led raw clause.Tables h = absurd cc
from-led raw clause.Joined h = absurd cc
from-led raw clause.Ons h = absurd cc
from-led raw clause.Tests h = absurd cc
from-led raw clause.Groups h = absurd cc
from-led raw clause.Keys h = absurd cc
from-led raw clause.Limited h = absurd cc

join-led : (raw : RawSelect) (k : Clause) → is_joinable k ≡ true → led raw k (key (codes "JOIN")) ≡ Some (due raw slot.Joined)
join-led raw clause.Tables h = refl
join-led raw clause.Ons h = refl
join-led raw clause.Begin h = absurd cc
join-led raw clause.All h = absurd cc
join-led raw clause.Items h = absurd cc
join-led raw clause.Joined h = absurd cc
join-led raw clause.Tests h = absurd cc
join-led raw clause.Groups h = absurd cc
join-led raw clause.Keys h = absurd cc
join-led raw clause.Limited h = absurd cc

where-led : (raw : RawSelect) (k : Clause) → is_joinable k ≡ true → led raw k (key (codes "WHERE")) ≡ Some (due raw slot.Test)
where-led raw clause.Tables h = refl
where-led raw clause.Ons h = refl
where-led raw clause.Begin h = absurd cc
where-led raw clause.All h = absurd cc
where-led raw clause.Items h = absurd cc
where-led raw clause.Joined h = absurd cc
where-led raw clause.Tests h = absurd cc
where-led raw clause.Groups h = absurd cc
where-led raw clause.Keys h = absurd cc
where-led raw clause.Limited h = absurd cc

group-led : (raw : RawSelect) (k : Clause) → is_ungrouped k ≡ true → led raw k (key (codes "GROUP")) ≡ Some (By raw slot.Group)
group-led raw clause.Tables h = refl
group-led raw clause.Ons h = refl
group-led raw clause.Tests h = refl
group-led raw clause.Begin h = absurd cc
group-led raw clause.All h = absurd cc
group-led raw clause.Items h = absurd cc
group-led raw clause.Joined h = absurd cc
group-led raw clause.Groups h = absurd cc
group-led raw clause.Keys h = absurd cc
group-led raw clause.Limited h = absurd cc

order-led : (raw : RawSelect) (k : Clause) → is_unordered k ≡ true → led raw k (key (codes "ORDER")) ≡ Some (By raw slot.Key)
order-led raw clause.Tables h = refl
order-led raw clause.Ons h = refl
order-led raw clause.Tests h = refl
order-led raw clause.Groups h = refl
order-led raw clause.Begin h = absurd cc
order-led raw clause.All h = absurd cc
order-led raw clause.Items h = absurd cc
order-led raw clause.Joined h = absurd cc
order-led raw clause.Keys h = absurd cc
order-led raw clause.Limited h = absurd cc

limit-led : (raw : RawSelect) (k : Clause) → is_unlimited k ≡ true → led raw k (key (codes "LIMIT")) ≡ Some (due raw slot.Limit)
limit-led raw clause.Tables h = refl
limit-led raw clause.Ons h = refl
limit-led raw clause.Tests h = refl
limit-led raw clause.Groups h = refl
limit-led raw clause.Keys h = refl
limit-led raw clause.Begin h = absurd cc
limit-led raw clause.All h = absurd cc
limit-led raw clause.Items h = absurd cc
limit-led raw clause.Joined h = absurd cc
limit-led raw clause.Limited h = absurd cc

semicolon-led : (raw : RawSelect) (k : Clause) → is_whole k ≡ true → led raw k (Sign symbol.Semicolon) ≡ Some (Ended raw)
semicolon-led raw clause.Tables h = refl
semicolon-led raw clause.Ons h = refl
semicolon-led raw clause.Tests h = refl
semicolon-led raw clause.Groups h = refl
semicolon-led raw clause.Keys h = refl
semicolon-led raw clause.Limited h = refl
semicolon-led raw clause.Begin h = absurd cc
semicolon-led raw clause.All h = absurd cc
semicolon-led raw clause.Items h = absurd cc
semicolon-led raw clause.Joined h = absurd cc

-- the words that lead on are read
lead-run : (catalog : List CatalogTable) (k : Clause) (raw : RawSelect) (ws lead : List Word) (s : Slot) (ready : IsReady catalog k raw ws)
    → Leads k lead s → run (reader catalog) ready.last lead ≡ Ok (due raw s)
lead-run catalog _ raw ws _ _ ready (select a) =
    one-run catalog ready.last (key_at a (codes "SELECT")) (due raw slot.List) (led raw clause.Begin (key (codes "SELECT")))
    (ready.leads_on (key_at a (codes "SELECT")) select_separates) refl
lead-run catalog _ raw ws _ _ ready (item_comma a) =
    one-run catalog ready.last (sign_at a symbol.Comma) (due raw slot.Item) (led raw clause.Items (Sign symbol.Comma))
    (ready.leads_on (sign_at a symbol.Comma) comma_separates) refl
lead-run catalog _ raw ws _ _ ready (from k a is) =
    one-run catalog ready.last (key_at a (codes "FROM")) (due raw slot.Table) (led raw k (key (codes "FROM")))
    (ready.leads_on (key_at a (codes "FROM")) from_separates) (from-led raw k is)
lead-run catalog _ raw ws _ _ ready (join k a is) =
    one-run catalog ready.last (key_at a (codes "JOIN")) (due raw slot.Joined) (led raw k (key (codes "JOIN")))
    (ready.leads_on (key_at a (codes "JOIN")) join_separates) (join-led raw k is)
lead-run catalog _ raw ws _ _ ready (on a) =
    one-run catalog ready.last (key_at a (codes "ON")) (due raw slot.On) (led raw clause.Joined (key (codes "ON")))
    (ready.leads_on (key_at a (codes "ON")) on_separates) refl
lead-run catalog _ raw ws _ _ ready (and_on a) =
    one-run catalog ready.last (key_at a (codes "AND")) (due raw slot.On) (led raw clause.Ons (key (codes "AND")))
    (ready.leads_on (key_at a (codes "AND")) and_separates) refl
lead-run catalog _ raw ws _ _ ready (filter k a is) =
    one-run catalog ready.last (key_at a (codes "WHERE")) (due raw slot.Test) (led raw k (key (codes "WHERE")))
    (ready.leads_on (key_at a (codes "WHERE")) where_separates) (where-led raw k is)
lead-run catalog _ raw ws _ _ ready (and a) =
    one-run catalog ready.last (key_at a (codes "AND")) (due raw slot.Test) (led raw clause.Tests (key (codes "AND")))
    (ready.leads_on (key_at a (codes "AND")) and_separates) refl
lead-run catalog _ raw ws _ _ ready (group_by k a b is) =
    ap (λ o. onward (or_stops o) (λ p. run (reader catalog) p (key_at b (codes "BY") ∷ [])))
    (ready.leads_on (key_at a (codes "GROUP")) group_separates ∙ group-led raw k is)
lead-run catalog _ raw ws _ _ ready (group_comma a) =
    one-run catalog ready.last (sign_at a symbol.Comma) (due raw slot.Group) (led raw clause.Groups (Sign symbol.Comma))
    (ready.leads_on (sign_at a symbol.Comma) comma_separates) refl
lead-run catalog _ raw ws _ _ ready (order_by k a b is) =
    ap (λ o. onward (or_stops o) (λ p. run (reader catalog) p (key_at b (codes "BY") ∷ [])))
    (ready.leads_on (key_at a (codes "ORDER")) order_separates ∙ order-led raw k is)
lead-run catalog _ raw ws _ _ ready (key_comma a) =
    one-run catalog ready.last (sign_at a symbol.Comma) (due raw slot.Key) (led raw clause.Keys (Sign symbol.Comma))
    (ready.leads_on (sign_at a symbol.Comma) comma_separates) refl
lead-run catalog _ raw ws _ _ ready (limit_to k a is) =
    one-run catalog ready.last (key_at a (codes "LIMIT")) (due raw slot.Limit) (led raw k (key (codes "LIMIT")))
    (ready.leads_on (key_at a (codes "LIMIT")) limit_separates) (limit-led raw k is)

led-ready : (catalog : List CatalogTable) (k : Clause) (raw : RawSelect) (ws lead : List Word) (s : Slot) (ready : IsReady catalog k raw ws)
    → Leads k lead s → run (reader catalog) Start (ws ++ lead) ≡ Ok (due raw s)
led-ready catalog k raw ws lead s ready leads =
    run-after (reader catalog) ws lead ready.last ready.reads ∙ lead-run catalog k raw ws lead s ready leads

select-ready : (catalog : List CatalogTable) (k : Clause) (raw : RawSelect) (ws : List Word) → IsSelect catalog k raw ws
    → IsReady catalog k raw ws
select-ready catalog _ _ _ nothing = record { last = Start; reads = refl; leads_on = λ w sep. refl; ends = refl }
select-ready catalog _ _ _ (more k raw s x ws lead vs so_far leads room is) =
    let read = part-read catalog raw s x vs room is in
    record {
      last = In raw s read.last;
      reads =
          run-after (reader catalog) (ws ++ lead) vs (due raw s)
          (led-ready catalog k raw ws lead s (select-ready catalog k raw ws so_far) leads)
          ∙ go-run catalog raw s partial.Due vs read.last read.reads;
      leads_on = λ w sep. ap (turned raw s w.says) (ends_before catalog raw s read.last w x sep read.makes);
      ends = ap (closed raw s) read.makes;
    }

-- a spelled SELECT is what the reading gives
pub record Gives (catalog : List CatalogTable) (ws : List Word) (raw : RawSelect) : Type 0 where
  pub last : Progress
  pub reads : run (reader catalog) Start ws ≡ Ok last
  pub gives : finish last ≡ Some raw

pub spells-gives : (catalog : List CatalogTable) (ws : List Word) (raw : RawSelect) → Spells catalog ws raw → Gives catalog ws raw
spells-gives catalog _ _ (unended k raw ws so_far whole_clause) =
    let ready = select-ready catalog k raw ws so_far in
    record {
      last = ready.last;
      reads = ready.reads;
      gives = ready.ends ∙ ap (λ b. if b then Some raw else None) whole_clause;
    }
spells-gives catalog _ _ (ended k raw a ws so_far whole_clause) =
    let ready = select-ready catalog k raw ws so_far in
    record {
      last = Ended raw;
      reads =
          run-after (reader catalog) ws (sign_at a symbol.Semicolon ∷ []) ready.last ready.reads
          ∙ one-run catalog ready.last (sign_at a symbol.Semicolon) (Ended raw) (led raw k (Sign symbol.Semicolon))
          (ready.leads_on (sign_at a symbol.Semicolon) semicolon_separates) (semicolon-led raw k whole_clause);
      gives = refl;
    }

whole_or_full-read : (catalog : List CatalogTable) (ws : List Word) → IsWholeOrFull catalog ws
    → (p : Progress) × (run (reader catalog) Start ws ≡ Ok p)
whole_or_full-read catalog _ (whole raw ws spells) = let gives = spells-gives catalog ws raw spells in (gives.last, gives.reads)
whole_or_full-read catalog _ (full k raw s ws lead so_far leads no_room) =
    (due raw s, led-ready catalog k raw ws lead s (select-ready catalog k raw ws so_far) leads)

-- a front is read
pub front-read : (catalog : List CatalogTable) (ws : List Word) → IsFront catalog ws
    → (p : Progress) × (run (reader catalog) Start ws ≡ Ok p)
front-read catalog ws front =
    let read = whole_or_full-read catalog (ws ++ front.0) front.1 in prefix-read (reader catalog) ws front.0 read.0 read.1
