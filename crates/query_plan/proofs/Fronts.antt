-- what is read is a front
use Rattle.std.proofs.Common.{◌≡◌, ℕ, Bool, true, false, Some, None, Ok, List, [], ◌∷◌, ◌++◌, refl, sym, ◌∙◌, ap, subst, append_assoc, append-nil, codes}
use Rattle.rm_base.specs.declared.catalog.CatalogTable.{CatalogTable}
use Rattle.rm_base.specs.declared.name.Name.{Name}
use Rattle.rm_base.specs.declared.select.Op.TheVariants as op
use Rattle.rm_base.specs.Name.{general}
use Rattle.rm_words.specs.declared.token.Symbol.TheVariants as symbol
use Rattle.rm_words.specs.Reading.{run}
use Rattle.query_plan.specs.declared.part.Clause.{Clause}
use Rattle.query_plan.specs.declared.part.Clause.TheVariants as clause
use Rattle.query_plan.specs.declared.part.Partial.{Partial}
use Rattle.query_plan.specs.declared.part.Partial.TheVariants as partial
use Rattle.query_plan.specs.declared.part.Purpose.{Purpose}
use Rattle.query_plan.specs.declared.part.Purpose.TheVariants as purpose
use Rattle.query_plan.specs.declared.part.Side.{Side}
use Rattle.query_plan.specs.declared.part.Side.TheVariants as side
use Rattle.query_plan.specs.declared.progress.Progress.{Progress}
use Rattle.query_plan.specs.declared.progress.Progress.TheVariants.{Start, In, By, Ended}
use Rattle.query_plan.specs.declared.raw.Function.{Function}
use Rattle.query_plan.specs.declared.raw.KeyBy.TheVariants as by
use Rattle.query_plan.specs.declared.raw.RawItem.{RawItem}
use Rattle.query_plan.specs.declared.raw.RawKey.{RawKey}
use Rattle.query_plan.specs.declared.raw.RawOperand.{RawOperand}
use Rattle.query_plan.specs.declared.raw.RawOperand.TheVariants as operand
use Rattle.query_plan.specs.declared.raw.RawPart.{RawPart}
use Rattle.query_plan.specs.declared.raw.RawPart.TheVariants as part
use Rattle.query_plan.specs.declared.raw.RawSelect.{RawSelect}
use Rattle.query_plan.specs.declared.raw.RawTable.{RawTable}
use Rattle.query_plan.specs.declared.raw.RawTest.{RawTest}
use Rattle.query_plan.specs.declared.raw.RawValue.{RawValue}
use Rattle.query_plan.specs.declared.raw.RawValue.TheVariants as value
use Rattle.query_plan.specs.declared.raw.Reference.{Reference}
use Rattle.query_plan.specs.declared.raw.Slot.{Slot}
use Rattle.query_plan.specs.declared.raw.Slot.TheVariants as slot
use Rattle.query_plan.specs.Raw.{added, empty, has_room}
use Rattle.query_plan.specs.Word.{Word, key_at, name_at, number_at, sign_at}
use Rattle.query_plan.specs.Grammar.{IsColumn, unqualified, qualified, IsValue, plain, function_of, unnamed, named_as, uncalled, called_as, IsOperand, of_column, of_negative, IsTest, compared, by_name, undirected, IsPart, all, item, table, test, group, key, limit, IsSelect, nothing, more, Leads, select, from, on, unended, IsWholeOrFull, whole, full, IsFront, bare_column, clause_of, function_word, is_whole, qualified_column, table_clause, takes_item, takes_table, takes_test, test_clause}
use Rattle.query_plan.specs.Machine.{part_of, reader, test_of}
use Rattle.query_plan.proofs.Parts.{IsBeside, beside_left, beside_right, IsBefore, before_item, before_argument, before_operand, before_group, IsNamed, is_named, IsDotted, is_dotted, IsUnclosed, IsValueAs, is_value_as, IsMinus, is_minus, IsPartial, closes, partial-part}
use Rattle.query_plan.proofs.Means.{IsIn, IsBy, Means, due-means, sound}

-- some words make a part of these
record PartFront (catalog : List CatalogTable) (raw : RawSelect) (s : Slot) (ws : List Word) : Type 0 where
  rest : List Word
  part : RawPart
  is : IsPart catalog raw s part (ws ++ rest)

-- the front of a front
part-shorter : (catalog : List CatalogTable) (raw : RawSelect) (s : Slot) (ws us : List Word) → PartFront catalog raw s (ws ++ us)
    → PartFront catalog raw s ws
part-shorter catalog raw s ws us front = record {
  rest = us ++ front.rest;
  part = front.part;
  is = subst (λ l. IsPart catalog raw s front.part l) (append_assoc ws us front.rest) front.is;
}

whole-part : (catalog : List CatalogTable) (raw : RawSelect) (s : Slot) (x : RawPart) (ws : List Word) → IsPart catalog raw s x ws
    → PartFront catalog raw s ws
whole-part catalog raw s x ws is = record {
  rest = [];
  part = x;
  is = subst (λ l. IsPart catalog raw s x l) (sym (append-nil ws)) is;
}

-- a column for each purpose
some_column : Reference
some_column = bare_column general

column_words : List Word
column_words = name_at 0 general ∷ []

is_column : IsColumn 0 some_column column_words
unfolding some_column column_words
is_column = unqualified 0 general

test_words : List Word
test_words = sign_at 0 symbol.Equal ∷ column_words

-- a left operand goes on with `=` and a column
left-front : (catalog : List CatalogTable) (raw : RawSelect) (s : Slot) (l : RawOperand) (ws : List Word) → takes_test s ≡ true → IsOperand l ws
    → PartFront catalog raw s ws
unfolding test_words
left-front catalog raw s l ws takes left =
    let t : RawTest = test_of l op.Equal 0 (operand.Column some_column) in
    let equal : List Word = sign_at 0 symbol.Equal ∷ [] in
    part-shorter catalog raw s ws test_words
    (whole-part catalog raw s (part.Test t) (ws ++ test_words)
    (test s t (ws ++ test_words) takes
    (subst (λ w. IsTest t w) (append_assoc ws equal column_words)
    (compared 0 l (operand.Column some_column) symbol.Equal op.Equal ws column_words left refl (of_column 0 some_column column_words is_column)))))

operand-front : (catalog : List CatalogTable) (raw : RawSelect) (s : Slot) (which : Side) (o : RawOperand) (us vs : List Word)
    → takes_test s ≡ true → IsBeside which us → IsOperand o vs → PartFront catalog raw s (us ++ vs)
operand-front catalog raw s _ o _ vs takes beside_left is = left-front catalog raw s o vs takes is
operand-front catalog raw s _ o _ vs takes (beside_right a l g p ls left sign) is =
    let t : RawTest = test_of l p a o in
    whole-part catalog raw s (part.Test t) ((ls ++ sign_at a g ∷ []) ++ vs)
    (test s t ((ls ++ sign_at a g ∷ []) ++ vs) takes (compared a l o g p ls vs left sign is))

-- what an item gives is an item
value-front : (catalog : List CatalogTable) (raw : RawSelect) (s : Slot) (a : ℕ) (v : RawValue) (ws : List Word) → takes_item s ≡ true
    → IsValue a v ws → PartFront catalog raw s ws
value-front catalog raw s a v ws takes is =
    let i : RawItem = record { place = a; value = v; name = None } in
    whole-part catalog raw s (part.Item i) ws (item s i ws takes (unnamed a v ws is))

unclosed-front : (catalog : List CatalogTable) (raw : RawSelect) (s : Slot) (a : ℕ) (v : RawValue) (ws : List Word) → takes_item s ≡ true
    → IsUnclosed a v ws → PartFront catalog raw s ws
unclosed-front catalog raw s a v ws takes is =
    part-shorter catalog raw s ws (sign_at 0 symbol.Close ∷ [])
    (value-front catalog raw s a v (ws ++ sign_at 0 symbol.Close ∷ []) takes (closes a 0 v ws is))

column-front : (catalog : List CatalogTable) (raw : RawSelect) (s : Slot) (p : Purpose) (a : ℕ) (r : Reference) (us vs : List Word)
    → IsBefore s p a us → IsColumn a r vs → PartFront catalog raw s (us ++ vs)
column-front catalog raw _ _ _ r _ vs (before_item s a takes) is =
    value-front catalog raw s a (value.Column r) vs takes (plain a r vs is)
column-front catalog raw _ _ _ r _ vs (before_argument s a b c f takes) is =
    let front : List Word = key_at a (function_word f) ∷ sign_at b symbol.Open ∷ [] in
    part-shorter catalog raw s (front ++ vs) (sign_at 0 symbol.Close ∷ [])
    (value-front catalog raw s a (value.Of f r) ((front ++ vs) ++ sign_at 0 symbol.Close ∷ []) takes (function_of a b c 0 f r vs is))
column-front catalog raw _ _ _ r _ vs (before_operand s a which us takes beside) is =
    operand-front catalog raw s which (operand.Column r) us vs takes beside (of_column a r vs is)
column-front catalog raw _ _ _ r _ vs (before_group a) is = whole-part catalog raw slot.Group (part.Group r) vs (group a r vs is)

named-front : (catalog : List CatalogTable) (raw : RawSelect) (s : Slot) (p : Purpose) (n : Name) (ws : List Word) → IsNamed s p n ws
    → PartFront catalog raw s ws
named-front catalog raw _ _ _ _ (is_named s p n a us before) =
    column-front catalog raw s p a (bare_column n) us (name_at a n ∷ []) before (unqualified a n)

dotted-front : (catalog : List CatalogTable) (raw : RawSelect) (s : Slot) (p : Purpose) (n : Name) (ws : List Word) → IsDotted s p n ws
    → PartFront catalog raw s ws
dotted-front catalog raw _ _ _ _ (is_dotted s p q a b us before) =
    let front : List Word = name_at a q ∷ sign_at b symbol.Dot ∷ [] in
    part-shorter catalog raw s (us ++ front) (name_at 0 general ∷ [])
    (subst (λ l. PartFront catalog raw s l) (sym (append_assoc us front (name_at 0 general ∷ [])))
    (column-front catalog raw s p a (qualified_column q general) us (name_at a q ∷ sign_at b symbol.Dot ∷ name_at 0 general ∷ []) before
    (qualified a b 0 q general)))

opened-front : (catalog : List CatalogTable) (raw : RawSelect) (s : Slot) (a b : ℕ) (f : Function) → takes_item s ≡ true
    → PartFront catalog raw s (key_at a (function_word f) ∷ sign_at b symbol.Open ∷ [])
opened-front catalog raw s a b f takes =
    let front : List Word = key_at a (function_word f) ∷ sign_at b symbol.Open ∷ [] in
    part-shorter catalog raw s front (name_at 0 general ∷ [])
    (column-front catalog raw s (purpose.Argument a f) 0 (bare_column general) front (name_at 0 general ∷ []) (before_argument s a b 0 f takes)
    (unqualified 0 general))

function-front : (catalog : List CatalogTable) (raw : RawSelect) (s : Slot) (a : ℕ) (f : Function) → takes_item s ≡ true
    → PartFront catalog raw s (key_at a (function_word f) ∷ [])
function-front catalog raw s a f takes =
    part-shorter catalog raw s (key_at a (function_word f) ∷ []) (sign_at 0 symbol.Open ∷ []) (opened-front catalog raw s a 0 f takes)

value_as-front : (catalog : List CatalogTable) (raw : RawSelect) (s : Slot) (a : ℕ) (v : RawValue) (ws : List Word) → takes_item s ≡ true
    → IsValueAs a v ws → PartFront catalog raw s ws
value_as-front catalog raw s _ _ _ takes (is_value_as a b v us gives) =
    let i : RawItem = record { place = a; value = v; name = Some general } in
    let alias : List Word = key_at b (codes "AS") ∷ [] in
    part-shorter catalog raw s (us ++ alias) (name_at 0 general ∷ [])
    (subst (λ l. PartFront catalog raw s l) (sym (append_assoc us alias (name_at 0 general ∷ [])))
    (whole-part catalog raw s (part.Item i) (us ++ key_at b (codes "AS") ∷ name_at 0 general ∷ [])
    (item s i (us ++ key_at b (codes "AS") ∷ name_at 0 general ∷ []) takes (named_as a b 0 v general us gives))))

minus-front : (catalog : List CatalogTable) (raw : RawSelect) (s : Slot) (which : Side) (ws : List Word) → takes_test s ≡ true → IsMinus which ws
    → PartFront catalog raw s ws
minus-front catalog raw s _ _ takes (is_minus a which us beside) =
    let minus : List Word = sign_at a symbol.Minus ∷ [] in
    part-shorter catalog raw s (us ++ minus) (number_at 0 0 ∷ [])
    (subst (λ l. PartFront catalog raw s l) (sym (append_assoc us minus (number_at 0 0 ∷ [])))
    (operand-front catalog raw s which (operand.Int _) us (sign_at a symbol.Minus ∷ number_at 0 0 ∷ []) takes beside (of_negative a 0 0 _ refl)))

compared-front : (catalog : List CatalogTable) (raw : RawSelect) (s : Slot) (which : Side) (ws : List Word) → takes_test s ≡ true → IsBeside which ws
    → PartFront catalog raw s ws
compared-front catalog raw s which ws takes beside =
    part-shorter catalog raw s ws column_words
    (operand-front catalog raw s which (operand.Column some_column) ws column_words takes beside (of_column 0 some_column column_words is_column))

-- each slot takes something
item_front : (catalog : List CatalogTable) (raw : RawSelect) → PartFront catalog raw slot.Item []
item_front catalog raw =
    part-shorter catalog raw slot.Item [] column_words
    (value-front catalog raw slot.Item 0 (value.Column some_column) column_words refl (plain 0 some_column column_words is_column))

table_front : (catalog : List CatalogTable) (raw : RawSelect) (s : Slot) → takes_table s ≡ true → PartFront catalog raw s []
table_front catalog raw s takes =
    let t : RawTable = record { name = general; call = general } in
    record { rest = name_at 0 general ∷ []; part = part.Table t; is = table s t (name_at 0 general ∷ []) takes (uncalled 0 general) }

slot-front : (catalog : List CatalogTable) (raw : RawSelect) (s : Slot) → PartFront catalog raw s []
slot-front catalog raw slot.List = record { rest = sign_at 0 symbol.Star ∷ []; part = part.All 0; is = all 0 }
slot-front catalog raw slot.Item = item_front catalog raw
slot-front catalog raw slot.Table = table_front catalog raw slot.Table refl
slot-front catalog raw slot.Joined = table_front catalog raw slot.Joined refl
slot-front catalog raw slot.On = compared-front catalog raw slot.On side.Left [] refl beside_left
slot-front catalog raw slot.Test = compared-front catalog raw slot.Test side.Left [] refl beside_left
slot-front catalog raw slot.Group =
    record { rest = column_words; part = part.Group some_column; is = group 0 some_column column_words is_column }
slot-front catalog raw slot.Key =
    let k : RawKey = record { by = by.Name general; falling = false } in
    record {
      rest = name_at 0 general ∷ [];
      part = part.Key k;
      is = key k (name_at 0 general ∷ []) (undirected (by.Name general) (name_at 0 general ∷ []) (by_name 0 general));
    }
slot-front catalog raw slot.Limit = record { rest = number_at 0 0 ∷ []; part = part.Limit 0; is = limit 0 0 refl }

table_as-front : (catalog : List CatalogTable) (raw : RawSelect) (s : Slot) (n : Name) (a b : ℕ) → takes_table s ≡ true
    → PartFront catalog raw s (name_at a n ∷ key_at b (codes "AS") ∷ [])
table_as-front catalog raw s n a b takes =
    let t : RawTable = record { name = n; call = general } in
    let ws : List Word = name_at a n ∷ key_at b (codes "AS") ∷ [] in
    part-shorter catalog raw s ws (name_at 0 general ∷ [])
    (whole-part catalog raw s (part.Table t) (name_at a n ∷ key_at b (codes "AS") ∷ name_at 0 general ∷ [])
    (table s t (name_at a n ∷ key_at b (codes "AS") ∷ name_at 0 general ∷ []) takes (called_as a b 0 n general)))

-- every part so far goes on to a part
made-front : (catalog : List CatalogTable) (raw : RawSelect) (s : Slot) (p : Partial) (x : RawPart) (ws : List Word)
    → IsPartial catalog raw s p ws → part_of p ≡ Some x → PartFront catalog raw s ws
made-front catalog raw s p x ws m h = whole-part catalog raw s x ws (partial-part catalog raw s p x ws m h)

partial-front : (catalog : List CatalogTable) (raw : RawSelect) (s : Slot) (p : Partial) (ws : List Word) → IsPartial catalog raw s p ws
    → PartFront catalog raw s ws
partial-front catalog raw s partial.Due ws m = subst (λ l. PartFront catalog raw s l) (sym m) (slot-front catalog raw s)
partial-front catalog raw s (partial.All a) ws m = made-front catalog raw s (partial.All a) _ ws m refl
partial-front catalog raw s (partial.Named p n) ws m = named-front catalog raw s p n ws m
partial-front catalog raw s (partial.Dotted p n) ws m = dotted-front catalog raw s p n ws m
partial-front catalog raw s (partial.Function a f) ws m =
    subst (λ l. PartFront catalog raw s l) (sym m.1) (function-front catalog raw s a f m.0)
partial-front catalog raw s (partial.Opened a f) ws m =
    subst (λ l. PartFront catalog raw s l) (sym m.1.1) (opened-front catalog raw s a m.1.0 f m.0)
partial-front catalog raw s (partial.Unclosed a v) ws m = unclosed-front catalog raw s a v ws m.0 m.1
partial-front catalog raw s (partial.Value a v) ws m = made-front catalog raw s (partial.Value a v) _ ws m refl
partial-front catalog raw s (partial.ValueAs a v) ws m = value_as-front catalog raw s a v ws m.0 m.1
partial-front catalog raw s (partial.Item i) ws m = made-front catalog raw s (partial.Item i) _ ws m refl
partial-front catalog raw s (partial.TableNamed n) ws m = made-front catalog raw s (partial.TableNamed n) _ ws m refl
partial-front catalog raw s (partial.TableAs n) ws m =
    subst (λ l. PartFront catalog raw s l) (sym m.1.2) (table_as-front catalog raw s n m.1.0 m.1.1 m.0)
partial-front catalog raw s (partial.Table t) ws m = made-front catalog raw s (partial.Table t) _ ws m refl
partial-front catalog raw s (partial.Minus which) ws m = minus-front catalog raw s which ws m.0 m.1
partial-front catalog raw s (partial.Left l) ws m = left-front catalog raw s l ws m.0 m.1
partial-front catalog raw s (partial.Compared l o a) ws m = compared-front catalog raw s (side.Right l o a) ws m.0 m.1
partial-front catalog raw s (partial.Test t) ws m = made-front catalog raw s (partial.Test t) _ ws m refl
partial-front catalog raw s (partial.Group r) ws m = made-front catalog raw s (partial.Group r) _ ws m refl
partial-front catalog raw s (partial.KeyBy k) ws m = made-front catalog raw s (partial.KeyBy k) _ ws m refl
partial-front catalog raw s (partial.Key k) ws m = made-front catalog raw s (partial.Key k) _ ws m refl
partial-front catalog raw s (partial.Limit n) ws m = made-front catalog raw s (partial.Limit n) _ ws m refl

shorter : (catalog : List CatalogTable) (ws us : List Word) → IsFront catalog (ws ++ us) → IsFront catalog ws
shorter catalog ws us front =
    (us ++ front.0, subst (λ l. IsWholeOrFull catalog l) (append_assoc ws us front.0) front.1)

end-front : (catalog : List CatalogTable) (ws : List Word) → IsWholeOrFull catalog ws → IsFront catalog ws
end-front catalog ws is = ([], subst (λ l. IsWholeOrFull catalog l) (sym (append-nil ws)) is)

whole-front : (catalog : List CatalogTable) (k : Clause) (raw : RawSelect) (ws : List Word) → IsSelect catalog k raw ws → is_whole k ≡ true
    → IsFront catalog ws
whole-front catalog k raw ws so_far is = end-front catalog ws (whole raw ws (unended k raw ws so_far is))

-- a select list goes on with FROM and a table
list-front : (catalog : List CatalogTable) (k : Clause) (raw : RawSelect) (ws : List Word) → IsSelect catalog k raw ws
    → Leads k (key_at 0 (codes "FROM") ∷ []) slot.Table → IsFront catalog ws
list-front catalog k raw ws so_far leads =
    let lead : List Word = key_at 0 (codes "FROM") ∷ [] in
    let t : RawTable = record { name = general; call = general } in
    let name : List Word = name_at 0 general ∷ [] in
    shorter catalog ws lead
    (shorter catalog (ws ++ lead) name
    (whole-front catalog clause.Tables (added raw (part.Table t)) ((ws ++ lead) ++ name)
    (more k raw slot.Table (part.Table t) ws lead name so_far leads refl (table slot.Table t name refl (uncalled 0 general))) refl))

-- a table behind JOIN goes on with ON and a comparison, or with ON where that is one too many
on-front : (catalog : List CatalogTable) (raw : RawSelect) (ws : List Word) (b : Bool) → has_room raw slot.On ≡ b
    → IsSelect catalog clause.Joined raw ws → IsFront catalog ws
on-front catalog raw ws true room so_far =
    let lead : List Word = key_at 0 (codes "ON") ∷ [] in
    let t : RawTest = test_of (operand.Column some_column) op.Equal 0 (operand.Column some_column) in
    let words : List Word = (column_words ++ sign_at 0 symbol.Equal ∷ []) ++ column_words in
    let column : IsOperand (operand.Column some_column) column_words = of_column 0 some_column column_words is_column in
    shorter catalog ws lead
    (shorter catalog (ws ++ lead) words
    (whole-front catalog clause.Ons (added raw (part.Test t)) ((ws ++ lead) ++ words)
    (more clause.Joined raw slot.On (part.Test t) ws lead words so_far (on 0) room
    (test slot.On t words refl
    (compared 0 (operand.Column some_column) (operand.Column some_column) symbol.Equal op.Equal column_words column_words column refl column)))
    refl))
on-front catalog raw ws false room so_far =
    shorter catalog ws (key_at 0 (codes "ON") ∷ [])
    (end-front catalog (ws ++ key_at 0 (codes "ON") ∷ []) (full clause.Joined raw slot.On ws (key_at 0 (codes "ON") ∷ []) so_far (on 0) room))

table-front : (catalog : List CatalogTable) (s : Slot) (raw : RawSelect) (ws : List Word) → IsSelect catalog (table_clause s) raw ws
    → IsFront catalog ws
table-front catalog slot.List raw ws so_far = whole-front catalog clause.Tables raw ws so_far refl
table-front catalog slot.Item raw ws so_far = whole-front catalog clause.Tables raw ws so_far refl
table-front catalog slot.Table raw ws so_far = whole-front catalog clause.Tables raw ws so_far refl
table-front catalog slot.Joined raw ws so_far = on-front catalog raw ws (has_room raw slot.On) refl so_far
table-front catalog slot.On raw ws so_far = whole-front catalog clause.Tables raw ws so_far refl
table-front catalog slot.Test raw ws so_far = whole-front catalog clause.Tables raw ws so_far refl
table-front catalog slot.Group raw ws so_far = whole-front catalog clause.Tables raw ws so_far refl
table-front catalog slot.Key raw ws so_far = whole-front catalog clause.Tables raw ws so_far refl
table-front catalog slot.Limit raw ws so_far = whole-front catalog clause.Tables raw ws so_far refl

test_whole : (s : Slot) → is_whole (test_clause s) ≡ true
test_whole slot.List = refl
test_whole slot.Item = refl
test_whole slot.Table = refl
test_whole slot.Joined = refl
test_whole slot.On = refl
test_whole slot.Test = refl
test_whole slot.Group = refl
test_whole slot.Key = refl
test_whole slot.Limit = refl

select-front : (catalog : List CatalogTable) (s : Slot) (x : RawPart) (raw : RawSelect) (ws : List Word) → IsSelect catalog (clause_of s x) raw ws
    → IsFront catalog ws
select-front catalog s (part.All a) raw ws so_far = list-front catalog clause.All raw ws so_far (from clause.All 0 refl)
select-front catalog s (part.Item i) raw ws so_far = list-front catalog clause.Items raw ws so_far (from clause.Items 0 refl)
select-front catalog s (part.Table t) raw ws so_far = table-front catalog s raw ws so_far
select-front catalog s (part.Test t) raw ws so_far = whole-front catalog (test_clause s) raw ws so_far (test_whole s)
select-front catalog s (part.Group r) raw ws so_far = whole-front catalog clause.Groups raw ws so_far refl
select-front catalog s (part.Key k) raw ws so_far = whole-front catalog clause.Keys raw ws so_far refl
select-front catalog s (part.Limit n) raw ws so_far = whole-front catalog clause.Limited raw ws so_far refl

-- where there is room a part so far goes on to a SELECT
more-front : (catalog : List CatalogTable) (k : Clause) (raw : RawSelect) (s : Slot) (front lead words : List Word) → IsSelect catalog k raw front
    → Leads k lead s → has_room raw s ≡ true → PartFront catalog raw s words → IsFront catalog ((front ++ lead) ++ words)
more-front catalog k raw s front lead words so_far leads room part =
    shorter catalog ((front ++ lead) ++ words) part.rest
    (subst (λ l. IsFront catalog l) (sym (append_assoc (front ++ lead) words part.rest))
    (select-front catalog s part.part (added raw part.part) ((front ++ lead) ++ (words ++ part.rest))
    (more k raw s part.part front lead (words ++ part.rest) so_far leads room part.is)))

room-front : (catalog : List CatalogTable) (raw : RawSelect) (s : Slot) (p : Partial) (ws : List Word) (m : IsIn catalog raw s p ws)
    → has_room raw s ≡ true → IsFront catalog ws
room-front catalog raw s p ws m room =
    subst (λ l. IsFront catalog l) (sym m.are)
    (more-front catalog m.behind raw s m.front m.lead m.words m.selects m.leads room
    (partial-front catalog raw s p m.words m.means))

due-front : (catalog : List CatalogTable) (raw : RawSelect) (s : Slot) (ws : List Word) (m : IsIn catalog raw s partial.Due ws) (b : Bool)
    → has_room raw s ≡ b → IsFront catalog ws
due-front catalog raw s ws m true room = room-front catalog raw s partial.Due ws m room
due-front catalog raw s ws m false room =
    subst (λ l. IsFront catalog l) (sym (m.are ∙ ap (λ l. (m.front ++ m.lead) ++ l) m.means ∙ append-nil (m.front ++ m.lead)))
    (end-front catalog (m.front ++ m.lead) (full m.behind raw s m.front m.lead m.selects m.leads room))

in-front : (catalog : List CatalogTable) (raw : RawSelect) (s : Slot) (p : Partial) (ws : List Word) → IsIn catalog raw s p ws → IsFront catalog ws
in-front catalog raw s partial.Due ws m = due-front catalog raw s ws m (has_room raw s) refl
in-front catalog raw s (partial.All a) ws m = room-front catalog raw s (partial.All a) ws m (m.room refl)
in-front catalog raw s (partial.Named p n) ws m = room-front catalog raw s (partial.Named p n) ws m (m.room refl)
in-front catalog raw s (partial.Dotted p n) ws m = room-front catalog raw s (partial.Dotted p n) ws m (m.room refl)
in-front catalog raw s (partial.Function a f) ws m = room-front catalog raw s (partial.Function a f) ws m (m.room refl)
in-front catalog raw s (partial.Opened a f) ws m = room-front catalog raw s (partial.Opened a f) ws m (m.room refl)
in-front catalog raw s (partial.Unclosed a v) ws m = room-front catalog raw s (partial.Unclosed a v) ws m (m.room refl)
in-front catalog raw s (partial.Value a v) ws m = room-front catalog raw s (partial.Value a v) ws m (m.room refl)
in-front catalog raw s (partial.ValueAs a v) ws m = room-front catalog raw s (partial.ValueAs a v) ws m (m.room refl)
in-front catalog raw s (partial.Item i) ws m = room-front catalog raw s (partial.Item i) ws m (m.room refl)
in-front catalog raw s (partial.TableNamed n) ws m = room-front catalog raw s (partial.TableNamed n) ws m (m.room refl)
in-front catalog raw s (partial.TableAs n) ws m = room-front catalog raw s (partial.TableAs n) ws m (m.room refl)
in-front catalog raw s (partial.Table t) ws m = room-front catalog raw s (partial.Table t) ws m (m.room refl)
in-front catalog raw s (partial.Minus which) ws m = room-front catalog raw s (partial.Minus which) ws m (m.room refl)
in-front catalog raw s (partial.Left l) ws m = room-front catalog raw s (partial.Left l) ws m (m.room refl)
in-front catalog raw s (partial.Compared l o a) ws m = room-front catalog raw s (partial.Compared l o a) ws m (m.room refl)
in-front catalog raw s (partial.Test t) ws m = room-front catalog raw s (partial.Test t) ws m (m.room refl)
in-front catalog raw s (partial.Group r) ws m = room-front catalog raw s (partial.Group r) ws m (m.room refl)
in-front catalog raw s (partial.KeyBy k) ws m = room-front catalog raw s (partial.KeyBy k) ws m (m.room refl)
in-front catalog raw s (partial.Key k) ws m = room-front catalog raw s (partial.Key k) ws m (m.room refl)
in-front catalog raw s (partial.Limit n) ws m = room-front catalog raw s (partial.Limit n) ws m (m.room refl)

by-front : (catalog : List CatalogTable) (raw : RawSelect) (s : Slot) (ws : List Word) → IsBy catalog raw s ws → IsFront catalog ws
by-front catalog raw s ws m =
    let first : List Word = key_at m.place m.word ∷ [] in
    let by_word : List Word = key_at 0 (codes "BY") ∷ [] in
    let lead : List Word = key_at m.place m.word ∷ key_at 0 (codes "BY") ∷ [] in
    subst (λ l. IsFront catalog l) (sym m.are)
    (shorter catalog (m.front ++ first) by_word
    (subst (λ l. IsFront catalog l) (sym (append_assoc m.front first by_word))
    (in-front catalog raw s partial.Due (m.front ++ lead)
    (due-means catalog raw m.behind s m.front lead m.selects (m.leads 0)))))

start-front : (catalog : List CatalogTable) → IsFront catalog []
start-front catalog =
    shorter catalog [] (key_at 0 (codes "SELECT") ∷ [])
    (more-front catalog clause.Begin empty slot.List [] (key_at 0 (codes "SELECT") ∷ []) [] nothing (select 0) refl (slot-front catalog empty slot.List))

means-front : (catalog : List CatalogTable) (p : Progress) (ws : List Word) → Means catalog p ws → IsFront catalog ws
means-front catalog Start ws m = subst (λ l. IsFront catalog l) (sym m) (start-front catalog)
means-front catalog (In raw s p) ws m = in-front catalog raw s p ws m
means-front catalog (By raw s) ws m = by-front catalog raw s ws m
means-front catalog (Ended raw) ws m = end-front catalog ws (whole raw ws m)

pub read-front : (catalog : List CatalogTable) (ws : List Word) (p : Progress) → run (reader catalog) Start ws ≡ Ok p → IsFront catalog ws
read-front catalog ws p h = means-front catalog p ws (sound catalog ws p h)
