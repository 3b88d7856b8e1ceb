-- what the words of a part so far are
use Rattle.std.proofs.Common.{◌≡◌, ℕ, true, false, nat_le, Some, List, [], ◌∷◌, ◌++◌, refl, sym, subst, codes}
use Rattle.rm_base.specs.declared.catalog.CatalogTable.{CatalogTable}
use Rattle.rm_base.specs.declared.limits.TheConstants.{LIMIT_MOST}
use Rattle.rm_base.specs.declared.name.Name.{Name}
use Rattle.rm_base.specs.declared.select.Op.{Op}
use Rattle.rm_words.specs.declared.token.Symbol.{Symbol}
use Rattle.rm_words.specs.declared.token.Symbol.TheVariants as symbol
use Rattle.rm_words.proofs.Results.{some_is, none_some}
use Rattle.query_plan.specs.declared.part.Partial.{Partial}
use Rattle.query_plan.specs.declared.part.Partial.TheVariants as partial
use Rattle.query_plan.specs.declared.part.Purpose.{Purpose}
use Rattle.query_plan.specs.declared.part.Purpose.TheVariants as purpose
use Rattle.query_plan.specs.declared.part.Side.{Side}
use Rattle.query_plan.specs.declared.part.Side.TheVariants as side
use Rattle.query_plan.specs.declared.raw.Function.{Function}
use Rattle.query_plan.specs.declared.raw.RawKey.{RawKey}
use Rattle.query_plan.specs.declared.raw.RawOperand.{RawOperand}
use Rattle.query_plan.specs.declared.raw.RawOperand.TheVariants as operand
use Rattle.query_plan.specs.declared.raw.RawPart.{RawPart}
use Rattle.query_plan.specs.declared.raw.RawPart.TheVariants as part
use Rattle.query_plan.specs.declared.raw.RawSelect.{RawSelect}
use Rattle.query_plan.specs.declared.raw.RawTable.{RawTable}
use Rattle.query_plan.specs.declared.raw.RawTest.{RawTest}
use Rattle.query_plan.specs.declared.raw.RawValue.{RawValue}
use Rattle.query_plan.specs.declared.raw.RawValue.TheVariants as value
use Rattle.query_plan.specs.declared.raw.Reference.{Reference}
use Rattle.query_plan.specs.declared.raw.Slot.{Slot}
use Rattle.query_plan.specs.declared.raw.Slot.TheVariants as slot
use Rattle.query_plan.specs.Word.{Word, key_at, name_at, number_at, sign_at}
use Rattle.query_plan.specs.Grammar.{IsColumn, unqualified, IsValue, plain, count_all, function_of, IsItem, unnamed, IsTable, uncalled, IsOperand, of_column, IsTest, compared, IsKeyBy, IsKey, undirected, IsPart, all, item, table, test, group, key as key_part, limit, bare_column, function_word, op_of, takes_item, takes_table, takes_test}
use Rattle.query_plan.specs.Machine.{column_read, item_of, operand_read, part_of, test_of, unqualified_part}

-- what stands before an operand: nothing, or the left one and the operator
pub data IsBeside : Side → List Word → Type 0 where
  beside_left : IsBeside side.Left []
  beside_right : (a : ℕ) (l : RawOperand) (s : Symbol) (o : Op) (ls : List Word) → IsOperand l ls → op_of s ≡ Some o
      → IsBeside (side.Right l o a) (ls ++ sign_at a s ∷ [])

-- what stands in a part before a column whose first word starts at a place
pub data IsBefore : Slot → Purpose → ℕ → List Word → Type 0 where
  before_item : (s : Slot) (a : ℕ) → takes_item s ≡ true → IsBefore s (purpose.Item a) a []
  before_argument : (s : Slot) (a b c : ℕ) (f : Function) → takes_item s ≡ true
      → IsBefore s (purpose.Argument a f) c (key_at a (function_word f) ∷ sign_at b symbol.Open ∷ [])
  before_operand : (s : Slot) (a : ℕ) (which : Side) (us : List Word) → takes_test s ≡ true → IsBeside which us
      → IsBefore s (purpose.Operand which) a us
  before_group : (a : ℕ) → IsBefore slot.Group purpose.Group a []

pub data IsNamed : Slot → Purpose → Name → List Word → Type 0 where
  is_named : (s : Slot) (p : Purpose) (n : Name) (a : ℕ) (us : List Word) → IsBefore s p a us → IsNamed s p n (us ++ name_at a n ∷ [])

pub data IsDotted : Slot → Purpose → Name → List Word → Type 0 where
  is_dotted : (s : Slot) (p : Purpose) (n : Name) (a b : ℕ) (us : List Word) → IsBefore s p a us
      → IsDotted s p n (us ++ name_at a n ∷ sign_at b symbol.Dot ∷ [])

-- what an item gives, but for its `)`
pub data IsUnclosed : ℕ → RawValue → List Word → Type 0 where
  unclosed_all : (a b c : ℕ)
      → IsUnclosed a value.CountAll (key_at a (codes "COUNT") ∷ sign_at b symbol.Open ∷ sign_at c symbol.Star ∷ [])
  unclosed_of : (a b c : ℕ) (f : Function) (r : Reference) (ws : List Word) → IsColumn c r ws
      → IsUnclosed a (value.Of f r) ((key_at a (function_word f) ∷ sign_at b symbol.Open ∷ []) ++ ws)

pub closes : (a d : ℕ) (v : RawValue) (us : List Word) → IsUnclosed a v us → IsValue a v (us ++ sign_at d symbol.Close ∷ [])
closes _ d _ _ (unclosed_all a b c) = count_all a b c d
closes _ d _ _ (unclosed_of a b c f r ws column) = function_of a b c d f r ws column

pub data IsValueAs : ℕ → RawValue → List Word → Type 0 where
  is_value_as : (a b : ℕ) (v : RawValue) (us : List Word) → IsValue a v us → IsValueAs a v (us ++ key_at b (codes "AS") ∷ [])

pub data IsMinus : Side → List Word → Type 0 where
  is_minus : (a : ℕ) (which : Side) (us : List Word) → IsBeside which us → IsMinus which (us ++ sign_at a symbol.Minus ∷ [])

-- what the words of a part so far are
abbrev pub IsPartial : List CatalogTable → RawSelect → Slot → Partial → List Word → Type 0
IsPartial catalog raw s partial.Due ws = ws ≡ []
IsPartial catalog raw s (partial.All a) ws = (slot.List ≡ s) × (ws ≡ sign_at a symbol.Star ∷ [])
IsPartial catalog raw s (partial.Named p n) ws = IsNamed s p n ws
IsPartial catalog raw s (partial.Dotted p n) ws = IsDotted s p n ws
IsPartial catalog raw s (partial.Function a f) ws = (takes_item s ≡ true) × (ws ≡ key_at a (function_word f) ∷ [])
IsPartial catalog raw s (partial.Opened a f) ws =
    (takes_item s ≡ true) × ((b : ℕ) × (ws ≡ key_at a (function_word f) ∷ sign_at b symbol.Open ∷ []))
IsPartial catalog raw s (partial.Unclosed a v) ws = (takes_item s ≡ true) × IsUnclosed a v ws
IsPartial catalog raw s (partial.Value a v) ws = (takes_item s ≡ true) × IsValue a v ws
IsPartial catalog raw s (partial.ValueAs a v) ws = (takes_item s ≡ true) × IsValueAs a v ws
IsPartial catalog raw s (partial.Item i) ws = (takes_item s ≡ true) × IsItem i ws
IsPartial catalog raw s (partial.TableNamed n) ws = (takes_table s ≡ true) × ((a : ℕ) × (ws ≡ name_at a n ∷ []))
IsPartial catalog raw s (partial.TableAs n) ws = (takes_table s ≡ true) × ((a : ℕ) × (b : ℕ) × (ws ≡ name_at a n ∷ key_at b (codes "AS") ∷ []))
IsPartial catalog raw s (partial.Table t) ws = (takes_table s ≡ true) × IsTable t ws
IsPartial catalog raw s (partial.Minus which) ws = (takes_test s ≡ true) × IsMinus which ws
IsPartial catalog raw s (partial.Left l) ws = (takes_test s ≡ true) × IsOperand l ws
IsPartial catalog raw s (partial.Compared l o a) ws = (takes_test s ≡ true) × IsBeside (side.Right l o a) ws
IsPartial catalog raw s (partial.Test t) ws = (takes_test s ≡ true) × IsTest t ws
IsPartial catalog raw s (partial.Group r) ws = (slot.Group ≡ s) × ((a : ℕ) × IsColumn a r ws)
IsPartial catalog raw s (partial.KeyBy k) ws = (slot.Key ≡ s) × IsKeyBy catalog raw k ws
IsPartial catalog raw s (partial.Key k) ws = (slot.Key ≡ s) × IsKey catalog raw k ws
IsPartial catalog raw s (partial.Limit n) ws = (slot.Limit ≡ s) × ((nat_le n LIMIT_MOST ≡ true) × ((a : ℕ) × (ws ≡ number_at a n ∷ [])))

-- a whole operand makes its part
pub operand-means : (catalog : List CatalogTable) (raw : RawSelect) (s : Slot) (which : Side) (o : RawOperand) (us vs : List Word)
    → takes_test s ≡ true → IsBeside which us → IsOperand o vs → IsPartial catalog raw s (operand_read which o) (us ++ vs)
operand-means catalog raw s _ o _ vs takes beside_left is = (takes, is)
operand-means catalog raw s _ o _ vs takes (beside_right a l t op ls left sign) is = (takes, compared a l o t op ls vs left sign is)

pub column-means : (catalog : List CatalogTable) (raw : RawSelect) (s : Slot) (p : Purpose) (a : ℕ) (r : Reference) (us vs : List Word)
    → IsBefore s p a us → IsColumn a r vs → IsPartial catalog raw s (column_read p r) (us ++ vs)
column-means catalog raw _ _ _ r _ vs (before_item s a takes) is = (takes, plain a r vs is)
column-means catalog raw _ _ _ r _ vs (before_argument s a b c f takes) is = (takes, unclosed_of a b c f r vs is)
column-means catalog raw _ _ _ r _ vs (before_operand s a which us takes beside) is =
    operand-means catalog raw s which (operand.Column r) us vs takes beside (of_column a r vs is)
column-means catalog raw _ _ _ r _ vs (before_group a) is = (refl, (a, is))

-- what a part so far makes, if it may end
unqualified-part : (catalog : List CatalogTable) (raw : RawSelect) (s : Slot) (p : Purpose) (n : Name) (x : RawPart) (a : ℕ) (us : List Word)
    → IsBefore s p a us → unqualified_part p n ≡ Some x → IsPart catalog raw s x (us ++ name_at a n ∷ [])
unqualified-part catalog raw _ _ n x _ _ (before_item s a takes) h =
    let v : RawValue = value.Column (bare_column n) in
    subst (λ y. IsPart catalog raw s y (name_at a n ∷ [])) (some_is (part.Item (item_of a v)) x h)
    (item s (item_of a v) (name_at a n ∷ []) takes
    (unnamed a v (name_at a n ∷ []) (plain a (bare_column n) (name_at a n ∷ []) (unqualified a n))))
unqualified-part catalog raw _ _ n x _ _ (before_argument s a b c f takes) h = absurd (none_some x h)
unqualified-part catalog raw _ _ n x _ _ (before_operand s a _ _ takes beside_left) h = absurd (none_some x h)
unqualified-part catalog raw _ _ n x _ _ (before_operand s a _ _ takes (beside_right b l g o ls left sign)) h =
    let t : RawTest = test_of l o b (operand.Column (bare_column n)) in
    let ws : List Word = (ls ++ sign_at b g ∷ []) ++ name_at a n ∷ [] in
    subst (λ y. IsPart catalog raw s y ws) (some_is (part.Test t) x h)
    (test s t ws takes (compared b l (operand.Column (bare_column n)) g o ls (name_at a n ∷ []) left sign
    (of_column a (bare_column n) (name_at a n ∷ []) (unqualified a n))))
unqualified-part catalog raw _ _ n x _ _ (before_group a) h =
    subst (λ y. IsPart catalog raw slot.Group y (name_at a n ∷ [])) (some_is (part.Group (bare_column n)) x h)
    (group a (bare_column n) (name_at a n ∷ []) (unqualified a n))

named-part : (catalog : List CatalogTable) (raw : RawSelect) (s : Slot) (p : Purpose) (n : Name) (x : RawPart) (ws : List Word)
    → IsNamed s p n ws → unqualified_part p n ≡ Some x → IsPart catalog raw s x ws
named-part catalog raw _ _ _ x _ (is_named s p n a us before) h = unqualified-part catalog raw s p n x a us before h

-- the part that the words are, if they are one
pub partial-part : (catalog : List CatalogTable) (raw : RawSelect) (s : Slot) (p : Partial) (x : RawPart) (ws : List Word)
    → IsPartial catalog raw s p ws → part_of p ≡ Some x → IsPart catalog raw s x ws
partial-part catalog raw s partial.Due x ws m h = absurd (none_some x h)
partial-part catalog raw s (partial.All a) x ws m h =
    subst (λ l. IsPart catalog raw s x l) (sym m.1)
    (subst (λ z. IsPart catalog raw z x (sign_at a symbol.Star ∷ [])) m.0
    (subst (λ y. IsPart catalog raw slot.List y (sign_at a symbol.Star ∷ [])) (some_is (part.All a) x h) (all a)))
partial-part catalog raw s (partial.Named p n) x ws m h = named-part catalog raw s p n x ws m h
partial-part catalog raw s (partial.Dotted p n) x ws m h = absurd (none_some x h)
partial-part catalog raw s (partial.Function a f) x ws m h = absurd (none_some x h)
partial-part catalog raw s (partial.Opened a f) x ws m h = absurd (none_some x h)
partial-part catalog raw s (partial.Unclosed a v) x ws m h = absurd (none_some x h)
partial-part catalog raw s (partial.Value a v) x ws m h =
    subst (λ y. IsPart catalog raw s y ws) (some_is (part.Item (item_of a v)) x h) (item s (item_of a v) ws m.0 (unnamed a v ws m.1))
partial-part catalog raw s (partial.ValueAs a v) x ws m h = absurd (none_some x h)
partial-part catalog raw s (partial.Item i) x ws m h =
    subst (λ y. IsPart catalog raw s y ws) (some_is (part.Item i) x h) (item s i ws m.0 m.1)
partial-part catalog raw s (partial.TableNamed n) x ws m h =
    let t : RawTable = record { name = n; call = n } in
    subst (λ l. IsPart catalog raw s x l) (sym m.1.1)
    (subst (λ y. IsPart catalog raw s y (name_at m.1.0 n ∷ [])) (some_is (part.Table t) x h)
    (table s t (name_at m.1.0 n ∷ []) m.0 (uncalled m.1.0 n)))
partial-part catalog raw s (partial.TableAs n) x ws m h = absurd (none_some x h)
partial-part catalog raw s (partial.Table t) x ws m h =
    subst (λ y. IsPart catalog raw s y ws) (some_is (part.Table t) x h) (table s t ws m.0 m.1)
partial-part catalog raw s (partial.Minus which) x ws m h = absurd (none_some x h)
partial-part catalog raw s (partial.Left l) x ws m h = absurd (none_some x h)
partial-part catalog raw s (partial.Compared l o a) x ws m h = absurd (none_some x h)
partial-part catalog raw s (partial.Test t) x ws m h =
    subst (λ y. IsPart catalog raw s y ws) (some_is (part.Test t) x h) (test s t ws m.0 m.1)
partial-part catalog raw s (partial.Group r) x ws m h =
    subst (λ z. IsPart catalog raw z x ws) m.0
    (subst (λ y. IsPart catalog raw slot.Group y ws) (some_is (part.Group r) x h) (group m.1.0 r ws m.1.1))
partial-part catalog raw s (partial.KeyBy k) x ws m h =
    let whole : RawKey = record { by = k; falling = false } in
    subst (λ z. IsPart catalog raw z x ws) m.0
    (subst (λ y. IsPart catalog raw slot.Key y ws) (some_is (part.Key whole) x h) (key_part whole ws (undirected k ws m.1)))
partial-part catalog raw s (partial.Key k) x ws m h =
    subst (λ z. IsPart catalog raw z x ws) m.0 (subst (λ y. IsPart catalog raw slot.Key y ws) (some_is (part.Key k) x h) (key_part k ws m.1))
partial-part catalog raw s (partial.Limit n) x ws m h =
    subst (λ l. IsPart catalog raw s x l) (sym m.1.1.1)
    (subst (λ z. IsPart catalog raw z x (number_at m.1.1.0 n ∷ [])) m.0
    (subst (λ y. IsPart catalog raw slot.Limit y (number_at m.1.1.0 n ∷ [])) (some_is (part.Limit n) x h) (limit m.1.1.0 n m.1.0)))
