-- a step reads a number as a program tells it
use Rattle.std.proofs.Common.{◌≡◌, ℕ, pos, neg_ℤ, ◌<◌, ◌≤◌, ◌^◌, min, nat_le, nat_lt, Bool, true, false, ◌&&◌, if◌then◌else◌, Some, None, ◌⊎◌, inl, inr, List, refl, sym, ◌∙◌, ap, arith, lit≤, lit<}
use Rattle.std.proofs.lemmas.Bool.Decides.{nat_tests}
use Rattle.rm_base.specs.declared.catalog.CatalogTable.{CatalogTable}
use Rattle.rm_base.specs.declared.limits.TheConstants.{LIMIT_MOST}
use Rattle.rm_base.specs.declared.name.Name.{Name}
use Rattle.rm_words.specs.Token.{Token, Bare, Number, Quoted, Sign, capped, most}
use Rattle.rm_words.proofs.CutLaws.{below_or_not}
use Rattle.query_plan.specs.declared.part.Clause.{Clause}
use Rattle.query_plan.specs.declared.part.Clause.TheVariants as clause
use Rattle.query_plan.specs.declared.part.Partial.{Partial}
use Rattle.query_plan.specs.declared.part.Partial.TheVariants as partial
use Rattle.query_plan.specs.declared.part.Purpose.{Purpose}
use Rattle.query_plan.specs.declared.part.Purpose.TheVariants as purpose
use Rattle.query_plan.specs.declared.part.Side.TheVariants as side
use Rattle.query_plan.specs.declared.part.Turn.{Turn}
use Rattle.query_plan.specs.declared.part.Turn.TheVariants.{Goes, Ends, Stops}
use Rattle.query_plan.specs.declared.progress.Progress.{Progress}
use Rattle.query_plan.specs.declared.progress.Progress.TheVariants.{Start, In, By, Ended}
use Rattle.query_plan.specs.declared.raw.Function.{Function}
use Rattle.query_plan.specs.declared.raw.Function.TheVariants as function
use Rattle.query_plan.specs.declared.raw.KeyBy.TheVariants as by
use Rattle.query_plan.specs.declared.raw.RawSelect.{RawSelect}
use Rattle.query_plan.specs.declared.raw.Slot.{Slot}
use Rattle.query_plan.specs.declared.raw.Slot.TheVariants as slot
use Rattle.query_plan.specs.Raw.{added, has_room}
use Rattle.query_plan.specs.Scope.{counts_within, is_listed}
use Rattle.query_plan.specs.Word.{number_at}
use Rattle.query_plan.specs.Grammar.{clause_of, int_of, negative_of}
use Rattle.query_plan.specs.Machine.{begun_in, goes, int_read, led, opened_turn, step, turn, turned, unqualified_turn}

-- what a number gives, if it passes a test that no number from the greatest on passes
guarded : {T : Type 0} (test : ℕ → Bool) (f : ℕ → T) (n top : ℕ) → ((k : ℕ) → top ≤ k → test k ≡ false)
    → (if test (min n top) then Some (f (min n top)) else None) ≡ (if test n then Some (f n) else None)
guarded test f n top outside = turn (below_or_not n top)
  where
    turn : (n < top) ⊎ (top ≤ n) → (if test (min n top) then Some (f (min n top)) else None) ≡ (if test n then Some (f n) else None)
    turn (inl h) = let same : min n top ≡ n = omega arith in ap (λ k. if test k then Some (f k) else None) same
    turn (inr h) =
        let same : min n top ≡ top = omega arith in
        ap (λ k. if test k then Some (f k) else None) same
        ∙ ap (λ b. if b then Some (f top) else None) (outside top (omega arith))
        ∙ sym (ap (λ b. if b then Some (f n) else None) (outside n h))

not_below : (bound top k : ℕ) → bound ≤ top → top ≤ k → nat_lt k bound ≡ false
not_below bound top k fits over = grind (arith, nat_tests)

not_within : (bound top k : ℕ) → bound < top → top ≤ k → nat_le k bound ≡ false
not_within bound top k fits over = grind (arith, nat_tests)

and_false : (a b c : Bool) → b ≡ false → (a && b && c) ≡ false
and_false true b c h = ap (λ x. x && c) h
and_false false b c h = refl

int-capped : (n : ℕ) → int_of (min n most) ≡ int_of n
int-capped n = guarded (λ k. nat_lt k (2 ^ 63)) (λ k. pos k) n most (λ k over. not_below (2 ^ 63) most k (lit≤ tt) over)

negative-capped : (n : ℕ) → negative_of (min n most) ≡ negative_of n
negative-capped n = guarded (λ k. nat_le k (2 ^ 63)) (λ k. neg_ℤ (pos k)) n most (λ k over. not_within (2 ^ 63) most k (lit< tt) over)

begun-capped : (catalog : List CatalogTable) (raw : RawSelect) (s : Slot) (a n : ℕ)
    → begun_in catalog raw s (number_at a (min n most)) ≡ begun_in catalog raw s (number_at a n)
begun-capped catalog raw slot.List a n = refl
begun-capped catalog raw slot.Item a n = refl
begun-capped catalog raw slot.Table a n = refl
begun-capped catalog raw slot.Joined a n = refl
begun-capped catalog raw slot.On a n = ap (λ i. int_read side.Left i) (int-capped n)
begun-capped catalog raw slot.Test a n = ap (λ i. int_read side.Left i) (int-capped n)
begun-capped catalog raw slot.Group a n = refl
begun-capped catalog raw slot.Key a n =
    guarded (is_listed catalog raw) (λ k. partial.KeyBy (by.Number k)) n most
    (λ k over. and_false (nat_lt 0 k) (nat_lt k (2 ^ 63)) (counts_within catalog raw raw.all k) (not_below (2 ^ 63) most k (lit≤ tt) over))
begun-capped catalog raw slot.Limit a n =
    guarded (λ k. nat_le k LIMIT_MOST) (λ k. partial.Limit k) n most (λ k over. not_within LIMIT_MOST most k (lit< tt) over)

unqualified-number : (p : Purpose) (name : Name) (a m n : ℕ) → unqualified_turn p name (number_at a m) ≡ unqualified_turn p name (number_at a n)
unqualified-number (purpose.Item place) name a m n = refl
unqualified-number (purpose.Argument place f) name a m n = refl
unqualified-number purpose.Group name a m n = refl
unqualified-number (purpose.Operand side.Left) name a m n = refl
unqualified-number (purpose.Operand (side.Right l o place)) name a m n = refl

opened-number : (place : ℕ) (f : Function) (m n : ℕ) → opened_turn place f (Number m) ≡ opened_turn place f (Number n)
opened-number place function.Count m n = refl
opened-number place function.Sum m n = refl
opened-number place function.Min m n = refl
opened-number place function.Max m n = refl

turn-capped : (catalog : List CatalogTable) (raw : RawSelect) (s : Slot) (p : Partial) (a n : ℕ)
    → turn catalog raw s p (number_at a (min n most)) ≡ turn catalog raw s p (number_at a n)
turn-capped catalog raw s partial.Due a n = ap (λ o. goes (if has_room raw s then o else None)) (begun-capped catalog raw s a n)
turn-capped catalog raw s (partial.All place) a n = refl
turn-capped catalog raw s (partial.Named p name) a n = unqualified-number p name a (min n most) n
turn-capped catalog raw s (partial.Dotted p name) a n = refl
turn-capped catalog raw s (partial.Function place f) a n = refl
turn-capped catalog raw s (partial.Opened place f) a n = opened-number place f (min n most) n
turn-capped catalog raw s (partial.Unclosed place v) a n = refl
turn-capped catalog raw s (partial.Value place v) a n = refl
turn-capped catalog raw s (partial.ValueAs place v) a n = refl
turn-capped catalog raw s (partial.Item i) a n = refl
turn-capped catalog raw s (partial.TableNamed name) a n = refl
turn-capped catalog raw s (partial.TableAs name) a n = refl
turn-capped catalog raw s (partial.Table t) a n = refl
turn-capped catalog raw s (partial.Minus which) a n = ap (λ i. goes (int_read which i)) (negative-capped n)
turn-capped catalog raw s (partial.Left l) a n = refl
turn-capped catalog raw s (partial.Compared l o place) a n = ap (λ i. goes (int_read (side.Right l o place) i)) (int-capped n)
turn-capped catalog raw s (partial.Test t) a n = refl
turn-capped catalog raw s (partial.Group r) a n = refl
turn-capped catalog raw s (partial.KeyBy k) a n = refl
turn-capped catalog raw s (partial.Key k) a n = refl
turn-capped catalog raw s (partial.Limit k) a n = refl

led-number : (raw : RawSelect) (k : Clause) (m n : ℕ) → led raw k (Number m) ≡ led raw k (Number n)
led-number raw clause.Begin m n = refl
led-number raw clause.All m n = refl
led-number raw clause.Items m n = refl
led-number raw clause.Tables m n = refl
led-number raw clause.Joined m n = refl
led-number raw clause.Ons m n = refl
led-number raw clause.Tests m n = refl
led-number raw clause.Groups m n = refl
led-number raw clause.Keys m n = refl
led-number raw clause.Limited m n = refl

turned-number : (raw : RawSelect) (s : Slot) (m n : ℕ) (t : Turn) → turned raw s (Number m) t ≡ turned raw s (Number n) t
turned-number raw s m n (Goes p) = refl
turned-number raw s m n (Ends x) = led-number (added raw x) (clause_of s x) m n
turned-number raw s m n Stops = refl

number-capped : (catalog : List CatalogTable) (p : Progress) (a n : ℕ)
    → step catalog p (number_at a (min n most)) ≡ step catalog p (number_at a n)
number-capped catalog Start a n = refl
number-capped catalog (In raw s p) a n =
    ap (turned raw s (Number (min n most))) (turn-capped catalog raw s p a n)
    ∙ turned-number raw s (min n most) n (turn catalog raw s p (number_at a n))
number-capped catalog (By raw s) a n = refl
number-capped catalog (Ended raw) a n = refl

pub step-capped : (catalog : List CatalogTable) (p : Progress) (a : ℕ) (t : Token)
    → step catalog p (record { place = a; says = capped t }) ≡ step catalog p (record { place = a; says = t })
step-capped catalog p a (Bare word) = refl
step-capped catalog p a (Number n) = number-capped catalog p a n
step-capped catalog p a (Quoted text) = refl
step-capped catalog p a (Sign s) = refl
