-- every part of a SELECT is read
use Rattle.std.proofs.Common.{◌≡◌, ℕ, Bool, true, false, if◌then◌else◌, Option, Some, None, option_map, List, [], ◌∷◌, ◌++◌, refl, sym, ◌∙◌, ap, codes}
use Rattle.rm_base.specs.declared.catalog.CatalogTable.{CatalogTable}
use Rattle.rm_base.specs.declared.name.Name.{Name}
use Rattle.rm_base.specs.declared.select.Op.{Op}
use Rattle.rm_base.specs.Name.{name_text}
use Rattle.rm_words.specs.declared.token.Symbol.{Symbol}
use Rattle.rm_words.specs.declared.token.Symbol.TheVariants as symbol
use Rattle.rm_words.specs.Names.{key, name, name_called, name_of}
use Rattle.rm_words.specs.Token.{Bare, Sign, folded, is_key, undoubled}
use Rattle.rm_words.proofs.Keys.{is_key-eq}
use Rattle.rm_words.proofs.NameLemmas.{name_called-text}
use Rattle.rm_words.proofs.Results.{some_is, none_some}
use Rattle.query_plan.specs.declared.part.Partial.{Partial}
use Rattle.query_plan.specs.declared.part.Partial.TheVariants as partial
use Rattle.query_plan.specs.declared.part.Purpose.{Purpose}
use Rattle.query_plan.specs.declared.part.Purpose.TheVariants as purpose
use Rattle.query_plan.specs.declared.part.Side.{Side}
use Rattle.query_plan.specs.declared.part.Side.TheVariants as side
use Rattle.query_plan.specs.declared.part.Turn.{Turn}
use Rattle.query_plan.specs.declared.part.Turn.TheVariants.{Goes, Ends, Stops}
use Rattle.query_plan.specs.declared.raw.Function.{Function}
use Rattle.query_plan.specs.declared.raw.Function.TheVariants as function
use Rattle.query_plan.specs.declared.raw.KeyBy.{KeyBy}
use Rattle.query_plan.specs.declared.raw.KeyBy.TheVariants as by
use Rattle.query_plan.specs.declared.raw.RawItem.{RawItem}
use Rattle.query_plan.specs.declared.raw.RawKey.{RawKey}
use Rattle.query_plan.specs.declared.raw.RawOperand.{RawOperand}
use Rattle.query_plan.specs.declared.raw.RawOperand.TheVariants as operand
use Rattle.query_plan.specs.declared.raw.RawPart.{RawPart}
use Rattle.query_plan.specs.declared.raw.RawPart.TheVariants as part
use Rattle.query_plan.specs.declared.raw.RawSelect.{RawSelect}
use Rattle.query_plan.specs.declared.raw.RawTable.{RawTable}
use Rattle.query_plan.specs.declared.raw.RawTest.{RawTest}
use Rattle.query_plan.specs.declared.raw.RawValue.{RawValue}
use Rattle.query_plan.specs.declared.raw.RawValue.TheVariants as value
use Rattle.query_plan.specs.declared.raw.Reference.{Reference}
use Rattle.query_plan.specs.declared.raw.Slot.{Slot}
use Rattle.query_plan.specs.declared.raw.Slot.TheVariants as slot
use Rattle.query_plan.specs.Raw.{has_room}
use Rattle.query_plan.specs.Word.{Word, key_at, name_at, number_at, quoted_at, sign_at}
use Rattle.query_plan.specs.Grammar.{IsColumn, unqualified, qualified, IsValue, plain, count_all, function_of, IsItem, unnamed, named_as, IsTable, uncalled, called, called_as, IsOperand, of_column, of_number, of_negative, of_text, IsTest, compared, IsKeyBy, by_name, by_number, IsKey, undirected, rising, falling, IsPart, all, item, table, test, group, key as key_part, limit, bare_column, function_word, op_of, qualified_column, takes_item, takes_table, takes_test}
use Rattle.query_plan.specs.Machine.{alias_turn, begun_in, call_turn, called_turn, column_read, dotted_turn, function_in, goes, int_read, is_dot, opened_turn, operand_begun, operand_read, part_of, turn, unqualified_part, unqualified_turn, value_begun}

-- what a part's next words make of it, if they belong to it
abbrev pub on_goes : Turn → (Partial → Option Partial) → Option Partial
on_goes (Goes q) next = next q
on_goes (Ends x) next = None
on_goes Stops next = None

abbrev pub go : List CatalogTable → RawSelect → Slot → Partial → List Word → Option Partial
go catalog raw s p [] = Some p
go catalog raw s p (w ∷ ws) = on_goes (turn catalog raw s p w) (λ q. go catalog raw s q ws)

go-turn : (catalog : List CatalogTable) (raw : RawSelect) (s : Slot) (t : Turn) (us ws : List Word) (q : Partial)
    → on_goes t (λ r. go catalog raw s r us) ≡ Some q
    → ((r : Partial) → go catalog raw s r us ≡ Some q → go catalog raw s r (us ++ ws) ≡ go catalog raw s q ws)
    → on_goes t (λ r. go catalog raw s r (us ++ ws)) ≡ go catalog raw s q ws
go-turn catalog raw s (Goes r) us ws q h rest = rest r h
go-turn catalog raw s (Ends x) us ws q h rest = absurd (none_some q h)
go-turn catalog raw s Stops us ws q h rest = absurd (none_some q h)

-- what follows is read from where the front ended
pub go-after : (catalog : List CatalogTable) (raw : RawSelect) (s : Slot) (p : Partial) (us ws : List Word) (q : Partial) → go catalog raw s p us ≡ Some q
    → go catalog raw s p (us ++ ws) ≡ go catalog raw s q ws
go-after catalog raw s p [] ws q h = ap (λ r. go catalog raw s r ws) (some_is p q h)
go-after catalog raw s p (u ∷ us) ws q h = go-turn catalog raw s (turn catalog raw s p u) us ws q h (λ r rest. go-after catalog raw s r us ws q rest)

go-one : (catalog : List CatalogTable) (raw : RawSelect) (s : Slot) (p : Partial) (w : Word) (q : Partial) → turn catalog raw s p w ≡ Goes q
    → go catalog raw s p (w ∷ []) ≡ Some q
go-one catalog raw s p w q h = ap (λ t. on_goes t (λ r. Some r)) h

go-more : (catalog : List CatalogTable) (raw : RawSelect) (s : Slot) (p : Partial) (us : List Word) (w : Word) (q r : Partial) → go catalog raw s p us ≡ Some q
    → turn catalog raw s q w ≡ Goes r → go catalog raw s p (us ++ w ∷ []) ≡ Some r
go-more catalog raw s p us w q r h turns = go-after catalog raw s p us (w ∷ []) q h ∙ go-one catalog raw s q w r turns

-- a part so far that goes on and ends as another does, but for a `.`
record Stands (catalog : List CatalogTable) (raw : RawSelect) (s : Slot) (q r : Partial) : Type 0 where
  turns : (w : Word) → is_dot w.says ≡ false → turn catalog raw s q w ≡ turn catalog raw s r w
  part : part_of q ≡ part_of r

-- what reading these words leads to
record Leads_to (catalog : List CatalogTable) (raw : RawSelect) (s : Slot) (d : Partial) (ws : List Word) (r : Partial) : Type 0 where
  last : Partial
  reads : go catalog raw s d ws ≡ Some last
  stands : Stands catalog raw s last r

itself : (catalog : List CatalogTable) (raw : RawSelect) (s : Slot) (q : Partial) → Stands catalog raw s q q
itself catalog raw s q = record { turns = λ w h. refl; part = refl }

unqualified-turns : (catalog : List CatalogTable) (raw : RawSelect) (s : Slot) (p : Purpose) (n : Name) (w : Word)
    → unqualified_turn p n w ≡ turn catalog raw s (column_read p (bare_column n)) w
unqualified-turns catalog raw s (purpose.Item a) n w = refl
unqualified-turns catalog raw s (purpose.Argument a f) n w = refl
unqualified-turns catalog raw s purpose.Group n w = refl
unqualified-turns catalog raw s (purpose.Operand side.Left) n w = refl
unqualified-turns catalog raw s (purpose.Operand (side.Right l o a)) n w = refl

unqualified-parts : (p : Purpose) (n : Name) → unqualified_part p n ≡ part_of (column_read p (bare_column n))
unqualified-parts (purpose.Item a) n = refl
unqualified-parts (purpose.Argument a f) n = refl
unqualified-parts purpose.Group n = refl
unqualified-parts (purpose.Operand side.Left) n = refl
unqualified-parts (purpose.Operand (side.Right l o a)) n = refl

named-stands : (catalog : List CatalogTable) (raw : RawSelect) (s : Slot) (p : Purpose) (n : Name)
    → Stands catalog raw s (partial.Named p n) (column_read p (bare_column n))
named-stands catalog raw s p n = record {
  turns = λ w h.
      ap (λ b. if b then Goes (partial.Dotted p n) else unqualified_turn p n w) h ∙ unqualified-turns catalog raw s p n w;
  part = unqualified-parts p n;
}

-- a column is read from where its first name goes on as one
column-go : (catalog : List CatalogTable) (raw : RawSelect) (s : Slot) (d : Partial) (p : Purpose) (a : ℕ) (r : Reference) (ws : List Word)
    → ((n : Name) → turn catalog raw s d (name_at a n) ≡ Goes (partial.Named p n)) → IsColumn a r ws
    → Leads_to catalog raw s d ws (column_read p r)
column-go catalog raw s d p _ _ _ first (unqualified a n) = record {
  last = partial.Named p n;
  reads = go-one catalog raw s d (name_at a n) (partial.Named p n) (first n);
  stands = named-stands catalog raw s p n;
}
column-go catalog raw s d p _ _ _ first (qualified a b c q n) = record {
  last = column_read p (qualified_column q n);
  reads =
      ap (λ t. on_goes t (λ r. go catalog raw s r (sign_at b symbol.Dot ∷ name_at c n ∷ []))) (first q)
      ∙ ap (λ o. on_goes (dotted_turn p q o) (λ r. Some r)) (name_called-text n);
  stands = itself catalog raw s (column_read p (qualified_column q n));
}

-- a name as the first word of an operand
name-operand : (which : Side) (n : Name) → goes (operand_begun which (name n)) ≡ Goes (partial.Named (purpose.Operand which) n)
name-operand which n = ap (λ o. goes (option_map (λ m. partial.Named (purpose.Operand which) m) o)) (name_called-text n)

-- an operand is read from where its first word goes on as one
operand-go : (catalog : List CatalogTable) (raw : RawSelect) (s : Slot) (d : Partial) (which : Side) (o : RawOperand) (ws : List Word)
    → ((w : Word) → turn catalog raw s d w ≡ goes (operand_begun which w.says)) → IsOperand o ws
    → Leads_to catalog raw s d ws (operand_read which o)
operand-go catalog raw s d which _ _ first (of_column a r ws column) =
    column-go catalog raw s d (purpose.Operand which) a r ws (λ n. first (name_at a n) ∙ name-operand which n) column
operand-go catalog raw s d which _ _ first (of_number a n z is) = record {
  last = operand_read which (operand.Int z);
  reads =
      go-one catalog raw s d (number_at a n) (operand_read which (operand.Int z))
      (first (number_at a n) ∙ ap (λ i. goes (int_read which i)) is);
  stands = itself catalog raw s (operand_read which (operand.Int z));
}
operand-go catalog raw s d which _ _ first (of_negative a b n z is) = record {
  last = operand_read which (operand.Int z);
  reads =
      ap (λ t. on_goes t (λ r. go catalog raw s r (number_at b n ∷ []))) (first (sign_at a symbol.Minus))
      ∙ ap (λ i. on_goes (goes (int_read which i)) (λ r. Some r)) is;
  stands = itself catalog raw s (operand_read which (operand.Int z));
}
operand-go catalog raw s d which _ _ first (of_text a text) = record {
  last = operand_read which (operand.Words (undoubled text));
  reads = go-one catalog raw s d (quoted_at a text) (operand_read which (operand.Words (undoubled text))) (first (quoted_at a text));
  stands = itself catalog raw s (operand_read which (operand.Words (undoubled text)));
}

op-no_dot : (s : Symbol) (o : Op) → op_of s ≡ Some o → is_dot (Sign s) ≡ false
op-no_dot symbol.Dot o h = absurd (none_some o h)
op-no_dot symbol.AtMost o h = refl
op-no_dot symbol.AtLeast o h = refl
op-no_dot symbol.Unequal o h = refl
op-no_dot symbol.Open o h = refl
op-no_dot symbol.Close o h = refl
op-no_dot symbol.Comma o h = refl
op-no_dot symbol.Star o h = refl
op-no_dot symbol.Equal o h = refl
op-no_dot symbol.Less o h = refl
op-no_dot symbol.Greater o h = refl
op-no_dot symbol.Semicolon o h = refl
op-no_dot symbol.Minus o h = refl

-- a part that is read
pub record PartRead (catalog : List CatalogTable) (raw : RawSelect) (s : Slot) (x : RawPart) (ws : List Word) : Type 0 where
  pub last : Partial
  pub reads : go catalog raw s partial.Due ws ≡ Some last
  pub makes : part_of last ≡ Some x

due-turn : (catalog : List CatalogTable) (raw : RawSelect) (s : Slot) (w : Word) → has_room raw s ≡ true
    → turn catalog raw s partial.Due w ≡ goes (begun_in catalog raw s w)
due-turn catalog raw s w room = ap (λ b. goes (if b then begun_in catalog raw s w else None)) room

test-go : (catalog : List CatalogTable) (raw : RawSelect) (s : Slot) (t : RawTest) (ws : List Word)
    → ((w : Word) → turn catalog raw s partial.Due w ≡ goes (operand_begun side.Left w.says)) → IsTest t ws
    → PartRead catalog raw s (part.Test t) ws
test-go catalog raw s _ _ begins (compared a l r g o ls rs left sign right) =
    let first = operand-go catalog raw s partial.Due side.Left l ls begins left in
    let second = operand-go catalog raw s (partial.Compared l o a) (side.Right l o a) r rs (λ w. refl) right in
    let op_turn : turn catalog raw s first.last (sign_at a g) ≡ Goes (partial.Compared l o a) =
    first.stands.turns (sign_at a g) (op-no_dot g o sign) ∙ ap (λ i. goes (option_map (λ x. partial.Compared l x a) i)) sign in
    record {
      last = second.last;
      reads =
          go-after catalog raw s partial.Due (ls ++ sign_at a g ∷ []) rs (partial.Compared l o a)
          (go-more catalog raw s partial.Due ls (sign_at a g) first.last (partial.Compared l o a) first.reads op_turn)
          ∙ second.reads;
      makes = second.stands.part;
    }

test-read : (catalog : List CatalogTable) (raw : RawSelect) (s : Slot) (t : RawTest) (ws : List Word) → has_room raw s ≡ true
    → takes_test s ≡ true → IsTest t ws → PartRead catalog raw s (part.Test t) ws
test-read catalog raw slot.On t ws room takes is =
    test-go catalog raw slot.On t ws (λ w. due-turn catalog raw slot.On w room) is
test-read catalog raw slot.Test t ws room takes is =
    test-go catalog raw slot.Test t ws (λ w. due-turn catalog raw slot.Test w room) is
test-read catalog raw slot.List t ws room takes is = absurd cc
test-read catalog raw slot.Item t ws room takes is = absurd cc
test-read catalog raw slot.Table t ws room takes is = absurd cc
test-read catalog raw slot.Joined t ws room takes is = absurd cc
test-read catalog raw slot.Group t ws room takes is = absurd cc
test-read catalog raw slot.Key t ws room takes is = absurd cc
test-read catalog raw slot.Limit t ws room takes is = absurd cc

-- no name is a reserved word
name-not_key : (n : Name) (k : List ℕ) (b : Bool) → is_key (name n) k ≡ b → name_called (folded k) ≡ None → b ≡ false
name-not_key n k false is reserved = refl
name-not_key n k true is reserved =
    let same : name_text n ≡ folded k = bare_is (name_text n) (folded k) (is_key-eq (name n) k is) in
    absurd (none_some n (sym reserved ∙ ap name_called (sym same) ∙ name_called-text n))
  where
    bare_is : (a b : List ℕ) → Bare a ≡ Bare b → a ≡ b
    bare_is a b h = cc

as_reserved : name_called (folded (codes "AS")) ≡ None
unfolding name_called
as_reserved = refl

-- no name is the key word of a function
reserved : (f : Function) → name_called (folded (function_word f)) ≡ None
unfolding name_called
reserved function.Count = refl
reserved function.Sum = refl
reserved function.Min = refl
reserved function.Max = refl

not_function : (a b c d : Bool) → a ≡ false → b ≡ false → c ≡ false → d ≡ false
    → (if a then Some function.Count else (if b then Some function.Sum
    else (if c then Some function.Min else (if d then Some function.Max else None)))) ≡ None
not_function false false false false is_a is_b is_c is_d = refl
not_function true b c d is_a is_b is_c is_d = absurd cc
not_function false true c d is_a is_b is_c is_d = absurd cc
not_function false false true d is_a is_b is_c is_d = absurd cc
not_function false false false true is_a is_b is_c is_d = absurd cc

name-no_function : (n : Name) → function_in (name n) ≡ None
name-no_function n =
    not_function (is_key (name n) (function_word function.Count)) (is_key (name n) (function_word function.Sum))
    (is_key (name n) (function_word function.Min)) (is_key (name n) (function_word function.Max))
    (no function.Count) (no function.Sum) (no function.Min) (no function.Max)
  where
    no : (f : Function) → is_key (name n) (function_word f) ≡ false
    no f = name-not_key n (function_word f) (is_key (name n) (function_word f)) refl (reserved f)

-- the key word of a function is read as the function
word-function_in : (f : Function) → function_in (key (function_word f)) ≡ Some f
word-function_in function.Count = refl
word-function_in function.Sum = refl
word-function_in function.Min = refl
word-function_in function.Max = refl

name-begun : (a : ℕ) (n : Name) → goes (value_begun a (function_in (name n)) (name n)) ≡ Goes (partial.Named (purpose.Item a) n)
name-begun a n =
    ap (λ o. goes (value_begun a o (name n))) (name-no_function n)
    ∙ ap (λ o. goes (option_map (λ m. partial.Named (purpose.Item a) m) o)) (name_called-text n)

-- behind `(` a name is what the function takes
opened-named : (a c : ℕ) (f : Function) (n : Name) → opened_turn a f (name n) ≡ Goes (partial.Named (purpose.Argument a f) n)
opened-named a c function.Count n = ap (λ o. goes (option_map (λ m. partial.Named (purpose.Argument a function.Count) m) o)) (name_called-text n)
opened-named a c function.Sum n = ap (λ o. goes (option_map (λ m. partial.Named (purpose.Argument a function.Sum) m) o)) (name_called-text n)
opened-named a c function.Min n = ap (λ o. goes (option_map (λ m. partial.Named (purpose.Argument a function.Min) m) o)) (name_called-text n)
opened-named a c function.Max n = ap (λ o. goes (option_map (λ m. partial.Named (purpose.Argument a function.Max) m) o)) (name_called-text n)

-- how an item begins: with a name, or with the key word of a function
record Begins (catalog : List CatalogTable) (raw : RawSelect) (s : Slot) : Type 0 where
  named : (a : ℕ) (n : Name) → turn catalog raw s partial.Due (name_at a n) ≡ Goes (partial.Named (purpose.Item a) n)
  calls : (a : ℕ) (f : Function) → turn catalog raw s partial.Due (key_at a (function_word f)) ≡ Goes (partial.Function a f)

-- what an item gives is read from where its first word goes on as one
value-go : (catalog : List CatalogTable) (raw : RawSelect) (s : Slot) (a : ℕ) (v : RawValue) (ws : List Word) → Begins catalog raw s
    → IsValue a v ws → Leads_to catalog raw s partial.Due ws (partial.Value a v)
value-go catalog raw s _ _ _ begins (plain a r ws column) =
    column-go catalog raw s partial.Due (purpose.Item a) a r ws (begins.named a) column
value-go catalog raw s _ _ _ begins (count_all a b c d) =
    let rest : List Word = sign_at b symbol.Open ∷ sign_at c symbol.Star ∷ sign_at d symbol.Close ∷ [] in
    record {
      last = partial.Value a value.CountAll;
      reads = ap (λ t. on_goes t (λ r. go catalog raw s r rest)) (begins.calls a function.Count);
      stands = itself catalog raw s (partial.Value a value.CountAll);
    }
value-go catalog raw s _ _ _ begins (function_of a b c d f r ws column) =
    let front : List Word = key_at a (function_word f) ∷ sign_at b symbol.Open ∷ [] in
    let opens : go catalog raw s partial.Due front ≡ Some (partial.Opened a f) =
    ap (λ t. on_goes t (λ p. go catalog raw s p (sign_at b symbol.Open ∷ []))) (begins.calls a f) in
    let read = column-go catalog raw s (partial.Opened a f) (purpose.Argument a f) c r ws (λ n. opened-named a c f n) column in
    record {
      last = partial.Value a (value.Of f r);
      reads =
          go-more catalog raw s partial.Due (front ++ ws) (sign_at d symbol.Close) read.last (partial.Value a (value.Of f r))
          (go-after catalog raw s partial.Due front ws (partial.Opened a f) opens ∙ read.reads)
          (read.stands.turns (sign_at d symbol.Close) refl);
      stands = itself catalog raw s (partial.Value a (value.Of f r));
    }

item-go : (catalog : List CatalogTable) (raw : RawSelect) (s : Slot) (i : RawItem) (ws : List Word) → Begins catalog raw s → IsItem i ws
    → PartRead catalog raw s (part.Item i) ws
item-go catalog raw s _ _ begins (unnamed a v ws gives) =
    let read = value-go catalog raw s a v ws begins gives in
    record { last = read.last; reads = read.reads; makes = read.stands.part }
item-go catalog raw s _ _ begins (named_as a b c v n ws gives) =
    let read = value-go catalog raw s a v ws begins gives in
    let i : RawItem = record { place = a; value = v; name = Some n } in
    record {
      last = partial.Item i;
      reads =
          go-after catalog raw s partial.Due ws (key_at b (codes "AS") ∷ name_at c n ∷ []) read.last read.reads
          ∙ ap (λ t. on_goes t (λ p. go catalog raw s p (name_at c n ∷ []))) (read.stands.turns (key_at b (codes "AS")) refl)
          ∙ ap (λ o. on_goes (alias_turn a v o) (λ p. Some p)) (name_called-text n);
      makes = refl;
    }

list-begins : (catalog : List CatalogTable) (raw : RawSelect) → Begins catalog raw slot.List
list-begins catalog raw = record {
  named = λ a n. name-begun a n;
  calls = λ a f. ap (λ o. goes (value_begun a o (key (function_word f)))) (word-function_in f);
}

item-begins : (catalog : List CatalogTable) (raw : RawSelect) → has_room raw slot.Item ≡ true → Begins catalog raw slot.Item
item-begins catalog raw room = record {
  named = λ a n. due-turn catalog raw slot.Item (name_at a n) room ∙ name-begun a n;
  calls = λ a f.
      due-turn catalog raw slot.Item (key_at a (function_word f)) room
      ∙ ap (λ o. goes (value_begun a o (key (function_word f)))) (word-function_in f);
}

item-read : (catalog : List CatalogTable) (raw : RawSelect) (s : Slot) (i : RawItem) (ws : List Word) → has_room raw s ≡ true
    → takes_item s ≡ true → IsItem i ws → PartRead catalog raw s (part.Item i) ws
item-read catalog raw slot.List i ws room takes is = item-go catalog raw slot.List i ws (list-begins catalog raw) is
item-read catalog raw slot.Item i ws room takes is = item-go catalog raw slot.Item i ws (item-begins catalog raw room) is
item-read catalog raw slot.Table i ws room takes is = absurd cc
item-read catalog raw slot.Joined i ws room takes is = absurd cc
item-read catalog raw slot.On i ws room takes is = absurd cc
item-read catalog raw slot.Test i ws room takes is = absurd cc
item-read catalog raw slot.Group i ws room takes is = absurd cc
item-read catalog raw slot.Key i ws room takes is = absurd cc
item-read catalog raw slot.Limit i ws room takes is = absurd cc

table-begun : (n : Name) → goes (option_map (λ m. partial.TableNamed m) (name_of (name n))) ≡ Goes (partial.TableNamed n)
table-begun n = ap (λ o. goes (option_map (λ m. partial.TableNamed m) o)) (name_called-text n)

table-go : (catalog : List CatalogTable) (raw : RawSelect) (s : Slot) (t : RawTable) (ws : List Word)
    → ((a : ℕ) (n : Name) → turn catalog raw s partial.Due (name_at a n) ≡ Goes (partial.TableNamed n)) → IsTable t ws
    → PartRead catalog raw s (part.Table t) ws
table-go catalog raw s _ _ begins (uncalled a n) = record {
  last = partial.TableNamed n;
  reads = go-one catalog raw s partial.Due (name_at a n) (partial.TableNamed n) (begins a n);
  makes = refl;
}
table-go catalog raw s _ _ begins (called a b n m) = record {
  last = partial.Table (record { name = n; call = m });
  reads =
      ap (λ t. on_goes t (λ p. go catalog raw s p (name_at b m ∷ []))) (begins a n)
      ∙ ap (λ k. on_goes (if k then Goes (partial.TableAs n) else called_turn n (name_of (name m))) (λ p. Some p))
      (name-not_key m (codes "AS") (is_key (name m) (codes "AS")) refl as_reserved)
      ∙ ap (λ o. on_goes (called_turn n o) (λ p. Some p)) (name_called-text m);
  makes = refl;
}
table-go catalog raw s _ _ begins (called_as a b c n m) = record {
  last = partial.Table (record { name = n; call = m });
  reads =
      ap (λ t. on_goes t (λ p. go catalog raw s p (key_at b (codes "AS") ∷ name_at c m ∷ []))) (begins a n)
      ∙ ap (λ o. on_goes (call_turn n o) (λ p. Some p)) (name_called-text m);
  makes = refl;
}

table-read : (catalog : List CatalogTable) (raw : RawSelect) (s : Slot) (t : RawTable) (ws : List Word) → takes_table s ≡ true → IsTable t ws
    → PartRead catalog raw s (part.Table t) ws
table-read catalog raw slot.Table t ws takes is = table-go catalog raw slot.Table t ws (λ a n. table-begun n) is
table-read catalog raw slot.Joined t ws takes is = table-go catalog raw slot.Joined t ws (λ a n. table-begun n) is
table-read catalog raw slot.List t ws takes is = absurd cc
table-read catalog raw slot.Item t ws takes is = absurd cc
table-read catalog raw slot.On t ws takes is = absurd cc
table-read catalog raw slot.Test t ws takes is = absurd cc
table-read catalog raw slot.Group t ws takes is = absurd cc
table-read catalog raw slot.Key t ws takes is = absurd cc
table-read catalog raw slot.Limit t ws takes is = absurd cc

group-read : (catalog : List CatalogTable) (raw : RawSelect) (a : ℕ) (r : Reference) (ws : List Word) → has_room raw slot.Group ≡ true
    → IsColumn a r ws → PartRead catalog raw slot.Group (part.Group r) ws
group-read catalog raw a r ws room is =
    let read = column-go catalog raw slot.Group partial.Due purpose.Group a r ws
    (λ n. due-turn catalog raw slot.Group (name_at a n) room
    ∙ ap (λ o. goes (option_map (λ m. partial.Named purpose.Group m) o)) (name_called-text n)) is in
    record { last = read.last; reads = read.reads; makes = read.stands.part }

key_by-read : (catalog : List CatalogTable) (raw : RawSelect) (k : KeyBy) (ws : List Word) → has_room raw slot.Key ≡ true → IsKeyBy catalog raw k ws
    → go catalog raw slot.Key partial.Due ws ≡ Some (partial.KeyBy k)
key_by-read catalog raw _ _ room (by_name a n) =
    go-one catalog raw slot.Key partial.Due (name_at a n) (partial.KeyBy (by.Name n))
    (due-turn catalog raw slot.Key (name_at a n) room ∙ ap (λ o. goes (option_map (λ m. partial.KeyBy (by.Name m)) o)) (name_called-text n))
key_by-read catalog raw _ _ room (by_number a n is) =
    go-one catalog raw slot.Key partial.Due (number_at a n) (partial.KeyBy (by.Number n))
    (due-turn catalog raw slot.Key (number_at a n) room ∙ ap (λ b. goes (if b then Some (partial.KeyBy (by.Number n)) else None)) is)

key-read : (catalog : List CatalogTable) (raw : RawSelect) (k : RawKey) (ws : List Word) → has_room raw slot.Key ≡ true → IsKey catalog raw k ws
    → PartRead catalog raw slot.Key (part.Key k) ws
key-read catalog raw _ _ room (undirected k ws is) = record {
  last = partial.KeyBy k;
  reads = key_by-read catalog raw k ws room is;
  makes = refl;
}
key-read catalog raw _ _ room (rising a k ws is) = record {
  last = partial.Key (record { by = k; falling = false });
  reads =
      go-more catalog raw slot.Key partial.Due ws (key_at a (codes "ASC")) (partial.KeyBy k) (partial.Key (record { by = k; falling = false }))
      (key_by-read catalog raw k ws room is) refl;
  makes = refl;
}
key-read catalog raw _ _ room (falling a k ws is) = record {
  last = partial.Key (record { by = k; falling = true });
  reads =
      go-more catalog raw slot.Key partial.Due ws (key_at a (codes "DESC")) (partial.KeyBy k) (partial.Key (record { by = k; falling = true }))
      (key_by-read catalog raw k ws room is) refl;
  makes = refl;
}

pub part-read : (catalog : List CatalogTable) (raw : RawSelect) (s : Slot) (x : RawPart) (ws : List Word) → has_room raw s ≡ true
    → IsPart catalog raw s x ws → PartRead catalog raw s x ws
part-read catalog raw _ _ _ room (all a) = record { last = partial.All a; reads = refl; makes = refl }
part-read catalog raw _ _ _ room (item s i ws takes is) = item-read catalog raw s i ws room takes is
part-read catalog raw _ _ _ room (table s t ws takes is) = table-read catalog raw s t ws takes is
part-read catalog raw _ _ _ room (test s t ws takes is) = test-read catalog raw s t ws room takes is
part-read catalog raw _ _ _ room (group a r ws is) = group-read catalog raw a r ws room is
part-read catalog raw _ _ _ room (key_part k ws is) = key-read catalog raw k ws room is
part-read catalog raw _ _ _ room (limit a n is) = record {
  last = partial.Limit n;
  reads =
      go-one catalog raw slot.Limit partial.Due (number_at a n) (partial.Limit n)
      (ap (λ b. goes (if b then Some (partial.Limit n) else None)) is);
  makes = refl;
}
