-- what a turn makes of a part so far
use Rattle.std.proofs.Common.{◌≡◌, ℕ, ℤ, Bool, true, false, ◌&&◌, nat_le, if◌then◌else◌, Option, Some, None, option_map, List, [], ◌∷◌, ◌++◌, refl, sym, ap, subst, append_assoc, codes}
use Rattle.rm_base.specs.declared.catalog.CatalogTable.{CatalogTable}
use Rattle.rm_base.specs.declared.limits.TheConstants.{LIMIT_MOST}
use Rattle.rm_base.specs.declared.name.Name.{Name}
use Rattle.rm_base.specs.declared.select.Op.{Op}
use Rattle.rm_words.specs.declared.token.Symbol.TheVariants as symbol
use Rattle.rm_words.specs.Names.{name_of}
use Rattle.rm_words.specs.Token.{Token, Bare, Number, Quoted, Sign, is_key, undoubled}
use Rattle.rm_words.proofs.Results.{some_is, none_some}
use Rattle.query_plan.specs.declared.part.Partial.{Partial}
use Rattle.query_plan.specs.declared.part.Partial.TheVariants as partial
use Rattle.query_plan.specs.declared.part.Purpose.{Purpose}
use Rattle.query_plan.specs.declared.part.Purpose.TheVariants as purpose
use Rattle.query_plan.specs.declared.part.Side.{Side}
use Rattle.query_plan.specs.declared.part.Side.TheVariants as side
use Rattle.query_plan.specs.declared.part.Turn.TheVariants.{Goes, Ends, Stops}
use Rattle.query_plan.specs.declared.raw.Function.{Function}
use Rattle.query_plan.specs.declared.raw.Function.TheVariants as function
use Rattle.query_plan.specs.declared.raw.KeyBy.{KeyBy}
use Rattle.query_plan.specs.declared.raw.KeyBy.TheVariants as by
use Rattle.query_plan.specs.declared.raw.RawItem.{RawItem}
use Rattle.query_plan.specs.declared.raw.RawOperand.{RawOperand}
use Rattle.query_plan.specs.declared.raw.RawOperand.TheVariants as operand
use Rattle.query_plan.specs.declared.raw.RawPart.{RawPart}
use Rattle.query_plan.specs.declared.raw.RawPart.TheVariants as part
use Rattle.query_plan.specs.declared.raw.RawSelect.{RawSelect}
use Rattle.query_plan.specs.declared.raw.RawTable.{RawTable}
use Rattle.query_plan.specs.declared.raw.RawValue.{RawValue}
use Rattle.query_plan.specs.declared.raw.RawValue.TheVariants as value
use Rattle.query_plan.specs.declared.raw.Slot.{Slot}
use Rattle.query_plan.specs.declared.raw.Slot.TheVariants as slot
use Rattle.query_plan.specs.Raw.{has_room}
use Rattle.query_plan.specs.Scope.{is_listed}
use Rattle.query_plan.specs.Word.{Word, key_at, name_at, number_at, quoted_at, sign_at}
use Rattle.query_plan.specs.Grammar.{IsColumn, unqualified, qualified, IsValue, plain, IsItem, named_as, IsTable, called, called_as, IsOperand, of_column, of_number, of_negative, of_text, IsKeyBy, by_name, by_number, IsKey, rising, falling, bare_column, function_word, int_of, negative_of, qualified_column, takes_item, takes_table, takes_test}
use Rattle.query_plan.specs.Machine.{alias_turn, begun, begun_in, call_turn, called_turn, column_read, dotted_turn, function_in, goes, int_read, is_close, is_count, is_dot, is_open, is_star, item_begun, item_of, key_begun, limit_begun, list_begun, minus_turn, named_turn, op_in, operand_begun, operand_read, part_of, test_of, turn, unqualified_part, unqualified_turn, value_begun}
use Rattle.query_plan.proofs.Parts.{IsBeside, beside_left, beside_right, IsBefore, before_item, before_argument, before_operand, before_group, IsNamed, is_named, IsDotted, is_dotted, IsUnclosed, unclosed_all, unclosed_of, IsValueAs, is_value_as, IsMinus, is_minus, IsPartial, closes, column-means, operand-means}
use Rattle.query_plan.proofs.Tokens.{ends_goes, ends_is, goes-no_end, goes-some, goes_ends, goes_is, stops_ends, stops_goes, word-close, word-dot, word-function, word-key, word-name, word-open, word-star}

-- a part ends only where it may
value-ends : (a : ℕ) (v : RawValue) (x : RawPart) (b : Bool)
    → (if b then Goes (partial.ValueAs a v) else Ends (part.Item (item_of a v))) ≡ Ends x → Some (part.Item (item_of a v)) ≡ Some x
value-ends a v x true h = absurd (goes_ends (partial.ValueAs a v) x h)
value-ends a v x false h = ap (λ y. Some y) (ends_is (part.Item (item_of a v)) x h)

unclosed-no_end : (a : ℕ) (v : RawValue) (x : RawPart) (b : Bool) → (if b then Goes (partial.Value a v) else Stops) ≡ Ends x → ⊥
unclosed-no_end a v x true h = goes_ends (partial.Value a v) x h
unclosed-no_end a v x false h = stops_ends x h

function-no_end : (a : ℕ) (f : Function) (x : RawPart) (b : Bool) → (if b then Goes (partial.Opened a f) else Stops) ≡ Ends x → ⊥
function-no_end a f x true h = goes_ends (partial.Opened a f) x h
function-no_end a f x false h = stops_ends x h

opened-no_end : (a : ℕ) (o : Option Partial) (x : RawPart) (b : Bool)
    → (if b then Goes (partial.Unclosed a value.CountAll) else goes o) ≡ Ends x → ⊥
opened-no_end a o x true h = goes_ends (partial.Unclosed a value.CountAll) x h
opened-no_end a o x false h = goes-no_end o x h

unqualified-ends : (p : Purpose) (n : Name) (w : Word) (x : RawPart) → unqualified_turn p n w ≡ Ends x → unqualified_part p n ≡ Some x
unqualified-ends (purpose.Item a) n w x h = value-ends a (value.Column (bare_column n)) x (is_key w.says (codes "AS")) h
unqualified-ends (purpose.Argument a f) n w x h = absurd (unclosed-no_end a (value.Of f (bare_column n)) x (is_close w.says) h)
unqualified-ends purpose.Group n w x h = ap (λ y. Some y) (ends_is (part.Group (bare_column n)) x h)
unqualified-ends (purpose.Operand side.Left) n w x h =
    absurd (goes-no_end (option_map (λ o. partial.Compared (operand.Column (bare_column n)) o w.place) (op_in w.says)) x h)
unqualified-ends (purpose.Operand (side.Right l o a)) n w x h =
    ap (λ y. Some y) (ends_is (part.Test (test_of l o a (operand.Column (bare_column n)))) x h)

named-ends : (p : Purpose) (n : Name) (w : Word) (x : RawPart) (b : Bool)
    → (if b then Goes (partial.Dotted p n) else unqualified_turn p n w) ≡ Ends x → unqualified_part p n ≡ Some x
named-ends p n w x true h = absurd (goes_ends (partial.Dotted p n) x h)
named-ends p n w x false h = unqualified-ends p n w x h

called-ends : (n : Name) (o : Option Name) (x : RawPart) → called_turn n o ≡ Ends x → Some (part.Table (record { name = n; call = n })) ≡ Some x
called-ends n None x h = ap (λ y. Some y) (ends_is (part.Table (record { name = n; call = n })) x h)
called-ends n (Some m) x h = absurd (goes_ends (partial.Table (record { name = n; call = m })) x h)

table-ends : (n : Name) (o : Option Name) (x : RawPart) (b : Bool)
    → (if b then Goes (partial.TableAs n) else called_turn n o) ≡ Ends x → Some (part.Table (record { name = n; call = n })) ≡ Some x
table-ends n o x true h = absurd (goes_ends (partial.TableAs n) x h)
table-ends n o x false h = called-ends n o x h

dotted-no_end : (p : Purpose) (q : Name) (o : Option Name) (x : RawPart) → dotted_turn p q o ≡ Ends x → ⊥
dotted-no_end p q None x h = stops_ends x h
dotted-no_end p q (Some n) x h = goes_ends (column_read p (qualified_column q n)) x h

alias-no_end : (a : ℕ) (v : RawValue) (o : Option Name) (x : RawPart) → alias_turn a v o ≡ Ends x → ⊥
alias-no_end a v None x h = stops_ends x h
alias-no_end a v (Some n) x h = goes_ends (partial.Item (record { place = a; value = v; name = Some n })) x h

call-no_end : (n : Name) (o : Option Name) (x : RawPart) → call_turn n o ≡ Ends x → ⊥
call-no_end n None x h = stops_ends x h
call-no_end n (Some m) x h = goes_ends (partial.Table (record { name = n; call = m })) x h

minus-no_end : (which : Side) (t : Token) (x : RawPart) → minus_turn which t ≡ Ends x → ⊥
minus-no_end which (Number n) x h = goes-no_end (int_read which (negative_of n)) x h
minus-no_end which (Bare word) x h = stops_ends x h
minus-no_end which (Quoted text) x h = stops_ends x h
minus-no_end which (Sign s) x h = stops_ends x h

key-ends : (k : KeyBy) (x : RawPart) (b c : Bool)
    → (if b then Goes (partial.Key (record { by = k; falling = false }))
    else (if c then Goes (partial.Key (record { by = k; falling = true })) else Ends (part.Key (record { by = k; falling = false })))) ≡ Ends x
    → Some (part.Key (record { by = k; falling = false })) ≡ Some x
key-ends k x true c h = absurd (goes_ends (partial.Key (record { by = k; falling = false })) x h)
key-ends k x false true h = absurd (goes_ends (partial.Key (record { by = k; falling = true })) x h)
key-ends k x false false h = ap (λ y. Some y) (ends_is (part.Key (record { by = k; falling = false })) x h)

pub turn-part : (catalog : List CatalogTable) (raw : RawSelect) (s : Slot) (p : Partial) (w : Word) (x : RawPart) → turn catalog raw s p w ≡ Ends x
    → part_of p ≡ Some x
turn-part catalog raw s partial.Due w x h = absurd (goes-no_end (begun catalog raw s w) x h)
turn-part catalog raw s (partial.All a) w x h = ap (λ y. Some y) (ends_is (part.All a) x h)
turn-part catalog raw s (partial.Named p n) w x h = named-ends p n w x (is_dot w.says) h
turn-part catalog raw s (partial.Dotted p n) w x h = absurd (dotted-no_end p n (name_of w.says) x h)
turn-part catalog raw s (partial.Function a f) w x h = absurd (function-no_end a f x (is_open w.says) h)
turn-part catalog raw s (partial.Opened a f) w x h =
    absurd (opened-no_end a (option_map (λ n. partial.Named (purpose.Argument a f) n) (name_of w.says)) x (is_count f && is_star w.says) h)
turn-part catalog raw s (partial.Unclosed a v) w x h = absurd (unclosed-no_end a v x (is_close w.says) h)
turn-part catalog raw s (partial.Value a v) w x h = value-ends a v x (is_key w.says (codes "AS")) h
turn-part catalog raw s (partial.ValueAs a v) w x h = absurd (alias-no_end a v (name_of w.says) x h)
turn-part catalog raw s (partial.Item i) w x h = ap (λ y. Some y) (ends_is (part.Item i) x h)
turn-part catalog raw s (partial.TableNamed n) w x h = table-ends n (name_of w.says) x (is_key w.says (codes "AS")) h
turn-part catalog raw s (partial.TableAs n) w x h = absurd (call-no_end n (name_of w.says) x h)
turn-part catalog raw s (partial.Table t) w x h = ap (λ y. Some y) (ends_is (part.Table t) x h)
turn-part catalog raw s (partial.Minus which) w x h = absurd (minus-no_end which w.says x h)
turn-part catalog raw s (partial.Left l) w x h = absurd (goes-no_end (option_map (λ o. partial.Compared l o w.place) (op_in w.says)) x h)
turn-part catalog raw s (partial.Compared l o a) w x h = absurd (goes-no_end (operand_begun (side.Right l o a) w.says) x h)
turn-part catalog raw s (partial.Test t) w x h = ap (λ y. Some y) (ends_is (part.Test t) x h)
turn-part catalog raw s (partial.Group r) w x h = ap (λ y. Some y) (ends_is (part.Group r) x h)
turn-part catalog raw s (partial.KeyBy k) w x h = key-ends k x (is_key w.says (codes "ASC")) (is_key w.says (codes "DESC")) h
turn-part catalog raw s (partial.Key k) w x h = ap (λ y. Some y) (ends_is (part.Key k) x h)
turn-part catalog raw s (partial.Limit n) w x h = ap (λ y. Some y) (ends_is (part.Limit n) x h)

-- a word at a place
abbrev word : ℕ → Token → Word
word a t = record { place = a; says = t }

-- a name is the first word of a column
named-first : (catalog : List CatalogTable) (raw : RawSelect) (s : Slot) (p : Purpose) (us : List Word) (w : Word) (q : Partial) (o : Option Name)
    → name_of w.says ≡ o → IsBefore s p w.place us → option_map (λ n. partial.Named p n) o ≡ Some q
    → IsPartial catalog raw s q (us ++ w ∷ [])
named-first catalog raw s p us w q None is before h = absurd (none_some q h)
named-first catalog raw s p us w q (Some n) is before h =
    subst (λ r. IsPartial catalog raw s r (us ++ w ∷ [])) (some_is (partial.Named p n) q h)
    (subst (λ v. IsNamed s p n (us ++ v ∷ [])) (sym (word-name w n is)) (is_named s p n w.place us before))

int-first : (catalog : List CatalogTable) (raw : RawSelect) (s : Slot) (which : Side) (us vs : List Word) (q : Partial) (o : Option ℤ)
    → takes_test s ≡ true → IsBeside which us → ((z : ℤ) → o ≡ Some z → IsOperand (operand.Int z) vs) → int_read which o ≡ Some q
    → IsPartial catalog raw s q (us ++ vs)
int-first catalog raw s which us vs q None takes beside is h = absurd (none_some q h)
int-first catalog raw s which us vs q (Some z) takes beside is h =
    subst (λ r. IsPartial catalog raw s r (us ++ vs)) (some_is (operand_read which (operand.Int z)) q h)
    (operand-means catalog raw s which (operand.Int z) us vs takes beside (is z refl))

operand-first : (catalog : List CatalogTable) (raw : RawSelect) (s : Slot) (which : Side) (us : List Word) (a : ℕ) (t : Token) (q : Partial)
    → takes_test s ≡ true → IsBeside which us → operand_begun which t ≡ Some q → IsPartial catalog raw s q (us ++ word a t ∷ [])
operand-first catalog raw s which us a (Bare text) q takes beside h =
    named-first catalog raw s (purpose.Operand which) us (word a (Bare text)) q (name_of (Bare text)) refl
    (before_operand s a which us takes beside) h
operand-first catalog raw s which us a (Number n) q takes beside h =
    int-first catalog raw s which us (number_at a n ∷ []) q (int_of n) takes beside (λ z is. of_number a n z is) h
operand-first catalog raw s which us a (Quoted text) q takes beside h =
    subst (λ r. IsPartial catalog raw s r (us ++ quoted_at a text ∷ [])) (some_is (operand_read which (operand.Words (undoubled text))) q h)
    (operand-means catalog raw s which (operand.Words (undoubled text)) us (quoted_at a text ∷ []) takes beside (of_text a text))
operand-first catalog raw s which us a (Sign symbol.Minus) q takes beside h =
    subst (λ r. IsPartial catalog raw s r (us ++ sign_at a symbol.Minus ∷ [])) (some_is (partial.Minus which) q h)
    (takes, is_minus a which us beside)
operand-first catalog raw s which us a (Sign symbol.AtMost) q takes beside h = absurd (none_some q h)
operand-first catalog raw s which us a (Sign symbol.AtLeast) q takes beside h = absurd (none_some q h)
operand-first catalog raw s which us a (Sign symbol.Unequal) q takes beside h = absurd (none_some q h)
operand-first catalog raw s which us a (Sign symbol.Open) q takes beside h = absurd (none_some q h)
operand-first catalog raw s which us a (Sign symbol.Close) q takes beside h = absurd (none_some q h)
operand-first catalog raw s which us a (Sign symbol.Comma) q takes beside h = absurd (none_some q h)
operand-first catalog raw s which us a (Sign symbol.Dot) q takes beside h = absurd (none_some q h)
operand-first catalog raw s which us a (Sign symbol.Star) q takes beside h = absurd (none_some q h)
operand-first catalog raw s which us a (Sign symbol.Equal) q takes beside h = absurd (none_some q h)
operand-first catalog raw s which us a (Sign symbol.Less) q takes beside h = absurd (none_some q h)
operand-first catalog raw s which us a (Sign symbol.Greater) q takes beside h = absurd (none_some q h)
operand-first catalog raw s which us a (Sign symbol.Semicolon) q takes beside h = absurd (none_some q h)

value-first : (catalog : List CatalogTable) (raw : RawSelect) (s : Slot) (w : Word) (q : Partial) (o : Option Function) → takes_item s ≡ true
    → function_in w.says ≡ o → value_begun w.place o w.says ≡ Some q → IsPartial catalog raw s q (w ∷ [])
value-first catalog raw s w q None takes is h =
    named-first catalog raw s (purpose.Item w.place) [] w q (name_of w.says) refl (before_item s w.place takes) h
value-first catalog raw s w q (Some f) takes is h =
    subst (λ r. IsPartial catalog raw s r (w ∷ [])) (some_is (partial.Function w.place f) q h)
    (takes, ap (λ v. v ∷ []) (word-function w f is))

item-first : (catalog : List CatalogTable) (raw : RawSelect) (s : Slot) (w : Word) (q : Partial) → takes_item s ≡ true
    → item_begun w ≡ Some q → IsPartial catalog raw s q (w ∷ [])
item-first catalog raw s w q takes h = value-first catalog raw s w q (function_in w.says) takes refl h

list-first : (catalog : List CatalogTable) (raw : RawSelect) (a : ℕ) (t : Token) (q : Partial) → list_begun a t ≡ Some q
    → IsPartial catalog raw slot.List q (word a t ∷ [])
list-first catalog raw a (Sign symbol.Star) q h =
    subst (λ r. IsPartial catalog raw slot.List r (sign_at a symbol.Star ∷ [])) (some_is (partial.All a) q h) (refl, refl)
list-first catalog raw a (Bare text) q h = item-first catalog raw slot.List (word a (Bare text)) q refl h
list-first catalog raw a (Number n) q h = absurd (none_some q h)
list-first catalog raw a (Quoted text) q h = absurd (none_some q h)
list-first catalog raw a (Sign symbol.AtMost) q h = absurd (none_some q h)
list-first catalog raw a (Sign symbol.AtLeast) q h = absurd (none_some q h)
list-first catalog raw a (Sign symbol.Unequal) q h = absurd (none_some q h)
list-first catalog raw a (Sign symbol.Open) q h = absurd (none_some q h)
list-first catalog raw a (Sign symbol.Close) q h = absurd (none_some q h)
list-first catalog raw a (Sign symbol.Comma) q h = absurd (none_some q h)
list-first catalog raw a (Sign symbol.Dot) q h = absurd (none_some q h)
list-first catalog raw a (Sign symbol.Equal) q h = absurd (none_some q h)
list-first catalog raw a (Sign symbol.Less) q h = absurd (none_some q h)
list-first catalog raw a (Sign symbol.Greater) q h = absurd (none_some q h)
list-first catalog raw a (Sign symbol.Semicolon) q h = absurd (none_some q h)
list-first catalog raw a (Sign symbol.Minus) q h = absurd (none_some q h)

table-first : (catalog : List CatalogTable) (raw : RawSelect) (s : Slot) (w : Word) (q : Partial) (o : Option Name) → takes_table s ≡ true → name_of w.says ≡ o
    → option_map (λ n. partial.TableNamed n) o ≡ Some q → IsPartial catalog raw s q (w ∷ [])
table-first catalog raw s w q None takes is h = absurd (none_some q h)
table-first catalog raw s w q (Some n) takes is h =
    subst (λ r. IsPartial catalog raw s r (w ∷ [])) (some_is (partial.TableNamed n) q h)
    (takes, (w.place, ap (λ v. v ∷ []) (word-name w n is)))

key_name-first : (catalog : List CatalogTable) (raw : RawSelect) (w : Word) (q : Partial) (o : Option Name) → name_of w.says ≡ o
    → option_map (λ n. partial.KeyBy (by.Name n)) o ≡ Some q → IsPartial catalog raw slot.Key q (w ∷ [])
key_name-first catalog raw w q None is h = absurd (none_some q h)
key_name-first catalog raw w q (Some n) is h =
    subst (λ r. IsPartial catalog raw slot.Key r (w ∷ [])) (some_is (partial.KeyBy (by.Name n)) q h)
    (refl, subst (λ v. IsKeyBy catalog raw (by.Name n) (v ∷ [])) (sym (word-name w n is)) (by_name w.place n))

key_number-first : (catalog : List CatalogTable) (raw : RawSelect) (a n : ℕ) (q : Partial) (b : Bool) → is_listed catalog raw n ≡ b
    → (if b then Some (partial.KeyBy (by.Number n)) else None) ≡ Some q → IsPartial catalog raw slot.Key q (number_at a n ∷ [])
key_number-first catalog raw a n q true is h =
    subst (λ r. IsPartial catalog raw slot.Key r (number_at a n ∷ [])) (some_is (partial.KeyBy (by.Number n)) q h) (refl, by_number a n is)
key_number-first catalog raw a n q false is h = absurd (none_some q h)

key-first : (catalog : List CatalogTable) (raw : RawSelect) (a : ℕ) (t : Token) (q : Partial) → key_begun catalog raw t ≡ Some q
    → IsPartial catalog raw slot.Key q (word a t ∷ [])
key-first catalog raw a (Number n) q h = key_number-first catalog raw a n q (is_listed catalog raw n) refl h
key-first catalog raw a (Bare text) q h = key_name-first catalog raw (word a (Bare text)) q (name_of (Bare text)) refl h
key-first catalog raw a (Quoted text) q h = absurd (none_some q h)
key-first catalog raw a (Sign s) q h = absurd (none_some q h)

limit_number-first : (catalog : List CatalogTable) (raw : RawSelect) (a n : ℕ) (q : Partial) (b : Bool) → nat_le n LIMIT_MOST ≡ b
    → (if b then Some (partial.Limit n) else None) ≡ Some q → IsPartial catalog raw slot.Limit q (number_at a n ∷ [])
limit_number-first catalog raw a n q true is h =
    subst (λ r. IsPartial catalog raw slot.Limit r (number_at a n ∷ [])) (some_is (partial.Limit n) q h) (refl, (is, (a, refl)))
limit_number-first catalog raw a n q false is h = absurd (none_some q h)

limit-first : (catalog : List CatalogTable) (raw : RawSelect) (a : ℕ) (t : Token) (q : Partial) → limit_begun t ≡ Some q
    → IsPartial catalog raw slot.Limit q (word a t ∷ [])
limit-first catalog raw a (Number n) q h = limit_number-first catalog raw a n q (nat_le n LIMIT_MOST) refl h
limit-first catalog raw a (Bare text) q h = absurd (none_some q h)
limit-first catalog raw a (Quoted text) q h = absurd (none_some q h)
limit-first catalog raw a (Sign s) q h = absurd (none_some q h)

begun-first : (catalog : List CatalogTable) (raw : RawSelect) (s : Slot) (w : Word) (q : Partial) → begun_in catalog raw s w ≡ Some q
    → IsPartial catalog raw s q (w ∷ [])
begun-first catalog raw slot.List w q h = list-first catalog raw w.place w.says q h
begun-first catalog raw slot.Item w q h = item-first catalog raw slot.Item w q refl h
begun-first catalog raw slot.Table w q h = table-first catalog raw slot.Table w q (name_of w.says) refl refl h
begun-first catalog raw slot.Joined w q h = table-first catalog raw slot.Joined w q (name_of w.says) refl refl h
begun-first catalog raw slot.On w q h = operand-first catalog raw slot.On side.Left [] w.place w.says q refl beside_left h
begun-first catalog raw slot.Test w q h = operand-first catalog raw slot.Test side.Left [] w.place w.says q refl beside_left h
begun-first catalog raw slot.Group w q h =
    named-first catalog raw slot.Group purpose.Group [] w q (name_of w.says) refl (before_group w.place) h
begun-first catalog raw slot.Key w q h = key-first catalog raw w.place w.says q h
begun-first catalog raw slot.Limit w q h = limit-first catalog raw w.place w.says q h

-- what is due begins only where there is room
pub begun-room : (catalog : List CatalogTable) (raw : RawSelect) (s : Slot) (w : Word) (q : Partial) (b : Bool)
    → (if b then begun_in catalog raw s w else None) ≡ Some q → (b ≡ true) × (begun_in catalog raw s w ≡ Some q)
begun-room catalog raw s w q true h = (refl, h)
begun-room catalog raw s w q false h = absurd (none_some q h)

value-goes : (catalog : List CatalogTable) (raw : RawSelect) (s : Slot) (a : ℕ) (v : RawValue) (us : List Word) (w : Word) (q : Partial) (b : Bool)
    → is_key w.says (codes "AS") ≡ b → takes_item s ≡ true → IsValue a v us
    → (if b then Goes (partial.ValueAs a v) else Ends (part.Item (item_of a v))) ≡ Goes q → IsPartial catalog raw s q (us ++ w ∷ [])
value-goes catalog raw s a v us w q true is takes gives h =
    subst (λ x. IsPartial catalog raw s q (us ++ x ∷ [])) (sym (word-key w (codes "AS") is))
    (subst (λ y. IsPartial catalog raw s y (us ++ key_at w.place (codes "AS") ∷ [])) (goes_is (partial.ValueAs a v) q h)
    (takes, is_value_as a w.place v us gives))
value-goes catalog raw s a v us w q false is takes gives h = absurd (ends_goes (part.Item (item_of a v)) q h)

unclosed-goes : (catalog : List CatalogTable) (raw : RawSelect) (s : Slot) (a : ℕ) (v : RawValue) (us : List Word) (w : Word) (q : Partial) (b : Bool)
    → is_close w.says ≡ b → takes_item s ≡ true → IsUnclosed a v us
    → (if b then Goes (partial.Value a v) else Stops) ≡ Goes q → IsPartial catalog raw s q (us ++ w ∷ [])
unclosed-goes catalog raw s a v us w q true is takes unclosed h =
    subst (λ x. IsPartial catalog raw s q (us ++ x ∷ [])) (sym (word-close w is))
    (subst (λ y. IsPartial catalog raw s y (us ++ sign_at w.place symbol.Close ∷ [])) (goes_is (partial.Value a v) q h)
    (takes, closes a w.place v us unclosed))
unclosed-goes catalog raw s a v us w q false is takes unclosed h = absurd (stops_goes q h)

function-goes : (catalog : List CatalogTable) (raw : RawSelect) (s : Slot) (a : ℕ) (f : Function) (w : Word) (q : Partial) (b : Bool)
    → is_open w.says ≡ b → takes_item s ≡ true → (if b then Goes (partial.Opened a f) else Stops) ≡ Goes q
    → IsPartial catalog raw s q (key_at a (function_word f) ∷ w ∷ [])
function-goes catalog raw s a f w q true is takes h =
    subst (λ y. IsPartial catalog raw s y (key_at a (function_word f) ∷ w ∷ [])) (goes_is (partial.Opened a f) q h)
    (takes, (w.place, ap (λ x. key_at a (function_word f) ∷ x ∷ []) (word-open w is)))
function-goes catalog raw s a f w q false is takes h = absurd (stops_goes q h)

both : (b c : Bool) → (b && c) ≡ true → (b ≡ true) × (c ≡ true)
both true c h = (refl, h)
both false c h = absurd cc

count_is : (f : Function) → is_count f ≡ true → f ≡ function.Count
count_is function.Count h = refl
count_is function.Sum h = absurd cc
count_is function.Min h = absurd cc
count_is function.Max h = absurd cc

-- the words before a function's column
abbrev opened : ℕ → ℕ → Function → List Word
opened a b f = key_at a (function_word f) ∷ sign_at b symbol.Open ∷ []

counts-all : (a b : ℕ) (f : Function) (w : Word) → (is_count f && is_star w.says) ≡ true
    → IsUnclosed a value.CountAll (opened a b f ++ w ∷ [])
counts-all a b f w is =
    let parts = both (is_count f) (is_star w.says) is in
    subst (λ g. IsUnclosed a value.CountAll (opened a b g ++ w ∷ [])) (sym (count_is f parts.0))
    (subst (λ x. IsUnclosed a value.CountAll (opened a b function.Count ++ x ∷ [])) (sym (word-star w parts.1)) (unclosed_all a b w.place))

opened-goes : (catalog : List CatalogTable) (raw : RawSelect) (s : Slot) (a b : ℕ) (f : Function) (w : Word) (q : Partial) (c : Bool)
    → (is_count f && is_star w.says) ≡ c → takes_item s ≡ true
    → (if c then Goes (partial.Unclosed a value.CountAll)
    else goes (option_map (λ n. partial.Named (purpose.Argument a f) n) (name_of w.says))) ≡ Goes q
    → IsPartial catalog raw s q (opened a b f ++ w ∷ [])
opened-goes catalog raw s a b f w q true is takes h =
    subst (λ y. IsPartial catalog raw s y (opened a b f ++ w ∷ [])) (goes_is (partial.Unclosed a value.CountAll) q h)
    (takes, counts-all a b f w is)
opened-goes catalog raw s a b f w q false is takes h =
    named-first catalog raw s (purpose.Argument a f) (opened a b f) w q (name_of w.says) refl (before_argument s a b w.place f takes)
    (goes-some (option_map (λ n. partial.Named (purpose.Argument a f) n) (name_of w.says)) q h)

op-beside : (l : RawOperand) (o : Op) (us : List Word) (a : ℕ) (t : Token) → op_in t ≡ Some o → IsOperand l us
    → IsBeside (side.Right l o a) (us ++ word a t ∷ [])
op-beside l o us a (Sign s) is left = beside_right a l s o us left is
op-beside l o us a (Bare text) is left = absurd (none_some o is)
op-beside l o us a (Number n) is left = absurd (none_some o is)
op-beside l o us a (Quoted text) is left = absurd (none_some o is)

left-goes : (catalog : List CatalogTable) (raw : RawSelect) (s : Slot) (l : RawOperand) (us : List Word) (w : Word) (q : Partial) (o : Option Op)
    → takes_test s ≡ true → op_in w.says ≡ o → IsOperand l us → goes (option_map (λ x. partial.Compared l x w.place) o) ≡ Goes q
    → IsPartial catalog raw s q (us ++ w ∷ [])
left-goes catalog raw s l us w q None takes is left h = absurd (stops_goes q h)
left-goes catalog raw s l us w q (Some o) takes is left h =
    subst (λ y. IsPartial catalog raw s y (us ++ w ∷ [])) (goes_is (partial.Compared l o w.place) q h)
    (takes, op-beside l o us w.place w.says is left)

unqualified-goes : (catalog : List CatalogTable) (raw : RawSelect) (s : Slot) (p : Purpose) (n : Name) (a : ℕ) (us : List Word) (w : Word) (q : Partial)
    → IsBefore s p a us → unqualified_turn p n w ≡ Goes q → IsPartial catalog raw s q ((us ++ name_at a n ∷ []) ++ w ∷ [])
unqualified-goes catalog raw _ _ n _ _ w q (before_item s a takes) h =
    value-goes catalog raw s a (value.Column (bare_column n)) (name_at a n ∷ []) w q (is_key w.says (codes "AS")) refl takes
    (plain a (bare_column n) (name_at a n ∷ []) (unqualified a n)) h
unqualified-goes catalog raw _ _ n _ _ w q (before_argument s a b c f takes) h =
    unclosed-goes catalog raw s a (value.Of f (bare_column n)) (opened a b f ++ name_at c n ∷ []) w q (is_close w.says) refl takes
    (unclosed_of a b c f (bare_column n) (name_at c n ∷ []) (unqualified c n)) h
unqualified-goes catalog raw _ _ n _ _ w q (before_operand s a _ _ takes beside_left) h =
    left-goes catalog raw s (operand.Column (bare_column n)) (name_at a n ∷ []) w q (op_in w.says) takes refl
    (of_column a (bare_column n) (name_at a n ∷ []) (unqualified a n)) h
unqualified-goes catalog raw _ _ n _ _ w q (before_operand s a _ _ takes (beside_right b l t o ls left sign)) h =
    absurd (ends_goes (part.Test (test_of l o b (operand.Column (bare_column n)))) q h)
unqualified-goes catalog raw _ _ n _ _ w q (before_group a) h = absurd (ends_goes (part.Group (bare_column n)) q h)

named-goes : (catalog : List CatalogTable) (raw : RawSelect) (s : Slot) (p : Purpose) (n : Name) (a : ℕ) (us : List Word) (w : Word) (q : Partial) (b : Bool)
    → is_dot w.says ≡ b → IsBefore s p a us → (if b then Goes (partial.Dotted p n) else unqualified_turn p n w) ≡ Goes q
    → IsPartial catalog raw s q ((us ++ name_at a n ∷ []) ++ w ∷ [])
named-goes catalog raw s p n a us w q true is before h =
    subst (λ y. IsPartial catalog raw s y ((us ++ name_at a n ∷ []) ++ w ∷ [])) (goes_is (partial.Dotted p n) q h)
    (subst (λ v. IsDotted s p n ((us ++ name_at a n ∷ []) ++ v ∷ [])) (sym (word-dot w is))
    (subst (λ l. IsDotted s p n l) (sym (append_assoc us (name_at a n ∷ []) (sign_at w.place symbol.Dot ∷ [])))
    (is_dotted s p n a w.place us before)))
named-goes catalog raw s p n a us w q false is before h = unqualified-goes catalog raw s p n a us w q before h

after-named : (catalog : List CatalogTable) (raw : RawSelect) (s : Slot) (p : Purpose) (n : Name) (ws : List Word) (w : Word) (q : Partial)
    → IsNamed s p n ws → named_turn p n w ≡ Goes q → IsPartial catalog raw s q (ws ++ w ∷ [])
after-named catalog raw _ _ _ _ w q (is_named s p n a us before) h = named-goes catalog raw s p n a us w q (is_dot w.says) refl before h

after-dotted : (catalog : List CatalogTable) (raw : RawSelect) (s : Slot) (p : Purpose) (m : Name) (ws : List Word) (w : Word) (q : Partial) (o : Option Name)
    → name_of w.says ≡ o → IsDotted s p m ws → dotted_turn p m o ≡ Goes q → IsPartial catalog raw s q (ws ++ w ∷ [])
after-dotted catalog raw s p m ws w q None is dotted h = absurd (stops_goes q h)
after-dotted catalog raw _ _ _ _ w q (Some n) is (is_dotted s p m a b us before) h =
    let front : List Word = name_at a m ∷ sign_at b symbol.Dot ∷ [] in
    subst (λ y. IsPartial catalog raw s y ((us ++ front) ++ w ∷ [])) (goes_is (column_read p (qualified_column m n)) q h)
    (subst (λ l. IsPartial catalog raw s (column_read p (qualified_column m n)) l) (sym (append_assoc us front (w ∷ [])))
    (column-means catalog raw s p a (qualified_column m n) us (name_at a m ∷ sign_at b symbol.Dot ∷ w ∷ []) before
    (subst (λ v. IsColumn a (qualified_column m n) (name_at a m ∷ sign_at b symbol.Dot ∷ v ∷ [])) (sym (word-name w n is))
    (qualified a b w.place m n))))

after-value_as : (catalog : List CatalogTable) (raw : RawSelect) (s : Slot) (a : ℕ) (v : RawValue) (ws : List Word) (w : Word) (q : Partial) (o : Option Name)
    → name_of w.says ≡ o → takes_item s ≡ true → IsValueAs a v ws → alias_turn a v o ≡ Goes q → IsPartial catalog raw s q (ws ++ w ∷ [])
after-value_as catalog raw s a v ws w q None is takes read h = absurd (stops_goes q h)
after-value_as catalog raw s _ _ _ w q (Some n) is takes (is_value_as a b v us gives) h =
    let i : RawItem = record { place = a; value = v; name = Some n } in
    subst (λ y. IsPartial catalog raw s y ((us ++ key_at b (codes "AS") ∷ []) ++ w ∷ [])) (goes_is (partial.Item i) q h) (
      takes,
      subst (λ l. IsItem i l) (sym (append_assoc us (key_at b (codes "AS") ∷ []) (w ∷ [])))
          (subst (λ x. IsItem i (us ++ key_at b (codes "AS") ∷ x ∷ [])) (sym (word-name w n is)) (named_as a b w.place v n us gives)),
    )

after-table_name : (catalog : List CatalogTable) (raw : RawSelect) (s : Slot) (n : Name) (a : ℕ) (w : Word) (q : Partial) (o : Option Name)
    → takes_table s ≡ true → name_of w.says ≡ o → called_turn n o ≡ Goes q → IsPartial catalog raw s q (name_at a n ∷ w ∷ [])
after-table_name catalog raw s n a w q None takes is h = absurd (ends_goes (part.Table (record { name = n; call = n })) q h)
after-table_name catalog raw s n a w q (Some m) takes is h =
    subst (λ y. IsPartial catalog raw s y (name_at a n ∷ w ∷ [])) (goes_is (partial.Table (record { name = n; call = m })) q h)
    (takes, subst (λ v. IsTable (record { name = n; call = m }) (name_at a n ∷ v ∷ [])) (sym (word-name w m is)) (called a w.place n m))

after-table : (catalog : List CatalogTable) (raw : RawSelect) (s : Slot) (n : Name) (a : ℕ) (w : Word) (q : Partial) (b : Bool)
    → takes_table s ≡ true → is_key w.says (codes "AS") ≡ b → (if b then Goes (partial.TableAs n) else called_turn n (name_of w.says)) ≡ Goes q
    → IsPartial catalog raw s q (name_at a n ∷ w ∷ [])
after-table catalog raw s n a w q true takes is h =
    subst (λ y. IsPartial catalog raw s y (name_at a n ∷ w ∷ [])) (goes_is (partial.TableAs n) q h)
    (takes, (a, w.place, ap (λ v. name_at a n ∷ v ∷ []) (word-key w (codes "AS") is)))
after-table catalog raw s n a w q false takes is h = after-table_name catalog raw s n a w q (name_of w.says) takes refl h

after-table_as : (catalog : List CatalogTable) (raw : RawSelect) (s : Slot) (n : Name) (a b : ℕ) (w : Word) (q : Partial) (o : Option Name)
    → takes_table s ≡ true → name_of w.says ≡ o → call_turn n o ≡ Goes q → IsPartial catalog raw s q (name_at a n ∷ key_at b (codes "AS") ∷ w ∷ [])
after-table_as catalog raw s n a b w q None takes is h = absurd (stops_goes q h)
after-table_as catalog raw s n a b w q (Some m) takes is h =
    let t : RawTable = record { name = n; call = m } in
    subst (λ y. IsPartial catalog raw s y (name_at a n ∷ key_at b (codes "AS") ∷ w ∷ [])) (goes_is (partial.Table t) q h) (
      takes,
      subst (λ v. IsTable t (name_at a n ∷ key_at b (codes "AS") ∷ v ∷ [])) (sym (word-name w m is)) (called_as a b w.place n m),
    )

negative-goes : (catalog : List CatalogTable) (raw : RawSelect) (s : Slot) (which : Side) (us : List Word) (a b n : ℕ) (q : Partial) (o : Option ℤ)
    → takes_test s ≡ true → negative_of n ≡ o → IsBeside which us → goes (int_read which o) ≡ Goes q
    → IsPartial catalog raw s q (us ++ sign_at a symbol.Minus ∷ number_at b n ∷ [])
negative-goes catalog raw s which us a b n q None takes is beside h = absurd (stops_goes q h)
negative-goes catalog raw s which us a b n q (Some z) takes is beside h =
    let vs : List Word = sign_at a symbol.Minus ∷ number_at b n ∷ [] in
    subst (λ y. IsPartial catalog raw s y (us ++ vs)) (goes_is (operand_read which (operand.Int z)) q h)
    (operand-means catalog raw s which (operand.Int z) us vs takes beside (of_negative a b n z is))

after-minus : (catalog : List CatalogTable) (raw : RawSelect) (s : Slot) (which : Side) (ws : List Word) (b : ℕ) (t : Token) (q : Partial)
    → takes_test s ≡ true → IsMinus which ws → minus_turn which t ≡ Goes q → IsPartial catalog raw s q (ws ++ word b t ∷ [])
after-minus catalog raw s _ _ b (Number n) q takes (is_minus a which us beside) h =
    subst (λ l. IsPartial catalog raw s q l) (sym (append_assoc us (sign_at a symbol.Minus ∷ []) (number_at b n ∷ [])))
    (negative-goes catalog raw s which us a b n q (negative_of n) takes refl beside h)
after-minus catalog raw s which ws b (Bare text) q takes m h = absurd (stops_goes q h)
after-minus catalog raw s which ws b (Quoted text) q takes m h = absurd (stops_goes q h)
after-minus catalog raw s which ws b (Sign g) q takes m h = absurd (stops_goes q h)

after-key : (catalog : List CatalogTable) (raw : RawSelect) (k : KeyBy) (ws : List Word) (w : Word) (q : Partial) (b c : Bool)
    → is_key w.says (codes "ASC") ≡ b → is_key w.says (codes "DESC") ≡ c → IsKeyBy catalog raw k ws
    → (if b then Goes (partial.Key (record { by = k; falling = false }))
    else (if c then Goes (partial.Key (record { by = k; falling = true })) else Ends (part.Key (record { by = k; falling = false })))) ≡ Goes q
    → IsPartial catalog raw slot.Key q (ws ++ w ∷ [])
after-key catalog raw k ws w q true c is is_desc by h =
    subst (λ y. IsPartial catalog raw slot.Key y (ws ++ w ∷ [])) (goes_is (partial.Key (record { by = k; falling = false })) q h) (
      refl,
      subst (λ v. IsKey catalog raw (record { by = k; falling = false }) (ws ++ v ∷ [])) (sym (word-key w (codes "ASC") is)) (rising w.place k ws by),
    )
after-key catalog raw k ws w q false true is is_desc by h =
    subst (λ y. IsPartial catalog raw slot.Key y (ws ++ w ∷ [])) (goes_is (partial.Key (record { by = k; falling = true })) q h) (
      refl,
      subst (λ v. IsKey catalog raw (record { by = k; falling = true }) (ws ++ v ∷ [])) (sym (word-key w (codes "DESC") is_desc)) (falling w.place k ws by),
    )
after-key catalog raw k ws w q false false is is_desc by h = absurd (ends_goes (part.Key (record { by = k; falling = false })) q h)

-- a turn keeps what the words are
pub turn-means : (catalog : List CatalogTable) (raw : RawSelect) (s : Slot) (p : Partial) (ws : List Word) (w : Word) (q : Partial)
    → IsPartial catalog raw s p ws → turn catalog raw s p w ≡ Goes q → IsPartial catalog raw s q (ws ++ w ∷ [])
turn-means catalog raw s partial.Due ws w q m h =
    let begins = begun-room catalog raw s w q (has_room raw s) (goes-some (begun catalog raw s w) q h) in
    subst (λ l. IsPartial catalog raw s q (l ++ w ∷ [])) (sym m) (begun-first catalog raw s w q begins.1)
turn-means catalog raw s (partial.All a) ws w q m h = absurd (ends_goes (part.All a) q h)
turn-means catalog raw s (partial.Named p n) ws w q m h = after-named catalog raw s p n ws w q m h
turn-means catalog raw s (partial.Dotted p n) ws w q m h = after-dotted catalog raw s p n ws w q (name_of w.says) refl m h
turn-means catalog raw s (partial.Function a f) ws w q m h =
    subst (λ l. IsPartial catalog raw s q (l ++ w ∷ [])) (sym m.1) (function-goes catalog raw s a f w q (is_open w.says) refl m.0 h)
turn-means catalog raw s (partial.Opened a f) ws w q m h =
    subst (λ l. IsPartial catalog raw s q (l ++ w ∷ [])) (sym m.1.1)
    (opened-goes catalog raw s a m.1.0 f w q (is_count f && is_star w.says) refl m.0 h)
turn-means catalog raw s (partial.Unclosed a v) ws w q m h = unclosed-goes catalog raw s a v ws w q (is_close w.says) refl m.0 m.1 h
turn-means catalog raw s (partial.Value a v) ws w q m h = value-goes catalog raw s a v ws w q (is_key w.says (codes "AS")) refl m.0 m.1 h
turn-means catalog raw s (partial.ValueAs a v) ws w q m h = after-value_as catalog raw s a v ws w q (name_of w.says) refl m.0 m.1 h
turn-means catalog raw s (partial.Item i) ws w q m h = absurd (ends_goes (part.Item i) q h)
turn-means catalog raw s (partial.TableNamed n) ws w q m h =
    subst (λ l. IsPartial catalog raw s q (l ++ w ∷ [])) (sym m.1.1)
    (after-table catalog raw s n m.1.0 w q (is_key w.says (codes "AS")) m.0 refl h)
turn-means catalog raw s (partial.TableAs n) ws w q m h =
    subst (λ l. IsPartial catalog raw s q (l ++ w ∷ [])) (sym m.1.2)
    (after-table_as catalog raw s n m.1.0 m.1.1 w q (name_of w.says) m.0 refl h)
turn-means catalog raw s (partial.Table t) ws w q m h = absurd (ends_goes (part.Table t) q h)
turn-means catalog raw s (partial.Minus which) ws w q m h = after-minus catalog raw s which ws w.place w.says q m.0 m.1 h
turn-means catalog raw s (partial.Left l) ws w q m h = left-goes catalog raw s l ws w q (op_in w.says) m.0 refl m.1 h
turn-means catalog raw s (partial.Compared l o a) ws w q m h =
    operand-first catalog raw s (side.Right l o a) ws w.place w.says q m.0 m.1 (goes-some (operand_begun (side.Right l o a) w.says) q h)
turn-means catalog raw s (partial.Test t) ws w q m h = absurd (ends_goes (part.Test t) q h)
turn-means catalog raw s (partial.Group r) ws w q m h = absurd (ends_goes (part.Group r) q h)
turn-means catalog raw s (partial.KeyBy k) ws w q m h =
    subst (λ z. IsPartial catalog raw z q (ws ++ w ∷ [])) m.0
    (after-key catalog raw k ws w q (is_key w.says (codes "ASC")) (is_key w.says (codes "DESC")) refl refl m.1 h)
turn-means catalog raw s (partial.Key k) ws w q m h = absurd (ends_goes (part.Key k) q h)
turn-means catalog raw s (partial.Limit n) ws w q m h = absurd (ends_goes (part.Limit n) q h)
