-- the numbers that a program tells, which stay at the greatest `u64`, are read as the numbers themselves
use Rattle.std.proofs.Common.{◌≡◌, ℕ, zero, suc, ◌+◌, ◌*◌, ◌<◌, ◌≤◌, min, nat_le, Bool, true, false, ◌&&◌, ◌==◌, if◌then◌else◌, inl, inr, Option, Some, None, Ok, Err, List, [], ◌∷◌, take, drop, refl, sym, ◌∙◌, ap, subst, arith, lit<, lit≤}
use Rattle.std.proofs.lemmas.Bool.{lt-leb, cases_lt, ne_eqb}
use Rattle.std.specs.Char.{to_ascii_lowercase}
use Rattle.std.specs.Str.Parse.{digits_value}
use Rattle.rm_base.specs.declared.limits.TheConstants.{GIBI, HOUR_MS, KIBI, MEBI, MEMORY_MOST, MINUTE_MS, PERCENT_MOST, SECOND_MS, SPAN_MOST, TEBI}
use Rattle.rm_words.specs.Class.{class_of}
use Rattle.rm_words.specs.Word.{is_digit}
use Rattle.rm_words.specs.Token.{AreDigits, most}
use Rattle.rm_words.proofs.Tokens.{digit_is}
use Rattle.pool_sql.specs.declared.stop.Fault.TheVariants.{Form, Outside}
use Rattle.pool_sql.specs.Amount.{bytes, bytes_in, digit_count, front_number, ms_in, percent, percent_in, size_in, span_in, unit_bytes, unit_ms, behind_digits, within}
use Rattle.rm_words.proofs.Results.{some_is, none_some}

-- a number is as great as it is, or above
times_up : (n unit : ℕ) → 1 ≤ unit → n ≤ n * unit
times_up n zero h = absurd (omega arith)
times_up n (suc unit) h = omega arith

above : (least top n : ℕ) → top < n → within least top n ≡ Err Outside
above least top n h = ap (λ b. if nat_le least n && b then Ok n else Err Outside) (lt-leb n top h) ∙ closed (nat_le least n)
  where
    closed : (b : Bool) → (if b && false then Ok n else Err Outside) ≡ Err Outside
    closed true = refl
    closed false = refl

pub within-capped : (least top n unit cap : ℕ) → 1 ≤ unit → top < cap → within least top (min n cap * unit) ≡ within least top (n * unit)
within-capped least top n unit cap one below = elim (cases_lt cap n) [
  | inl h ↦ let same : min n cap ≡ cap = omega arith in
      above least top (min n cap * unit) (omega (arith, times_up (min n cap) unit one))
      ∙ sym (above least top (n * unit) (omega (arith, times_up n unit one)))
  | inr h ↦ let same : min n cap ≡ n = omega arith in ap (λ x. within least top (x * unit)) same
]

pub within-capped_one : (least top n cap : ℕ) → top < cap → within least top (min n cap) ≡ within least top n
within-capped_one least top n cap below = elim (cases_lt cap n) [
  | inl h ↦ above least top (min n cap) (omega arith) ∙ sym (above least top n (omega arith))
  | inr h ↦ let same : min n cap ≡ n = omega arith in ap (λ x. within least top x) same
]

bytes_units : (k m g t : Bool) (unit : ℕ)
    → (if k then Some KIBI else (if m then Some MEBI else (if g then Some GIBI else (if t then Some TEBI else None)))) ≡ Some unit
    → 1 ≤ unit
bytes_units true m g t unit h = subst (λ x. 1 ≤ x) (some_is KIBI unit h) (lit≤ tt)
bytes_units false true g t unit h = subst (λ x. 1 ≤ x) (some_is MEBI unit h) (lit≤ tt)
bytes_units false false true t unit h = subst (λ x. 1 ≤ x) (some_is GIBI unit h) (lit≤ tt)
bytes_units false false false true unit h = subst (λ x. 1 ≤ x) (some_is TEBI unit h) (lit≤ tt)
bytes_units false false false false unit h = absurd (none_some unit h)

unit_bytes-least : (c unit : ℕ) → unit_bytes c ≡ Some unit → 1 ≤ unit
unit_bytes-least c unit h =
    let low = to_ascii_lowercase c in bytes_units (low == 107) (low == 109) (low == 103) (low == 116) unit h

ms_units : (a b c d : Bool) (unit : ℕ)
    → (if a then Some 1 else (if b then Some SECOND_MS else (if c then Some MINUTE_MS else (if d then Some HOUR_MS else None)))) ≡ Some unit
    → 1 ≤ unit
ms_units true b c d unit h = subst (λ x. 1 ≤ x) (some_is 1 unit h) (lit≤ tt)
ms_units false true c d unit h = subst (λ x. 1 ≤ x) (some_is SECOND_MS unit h) (lit≤ tt)
ms_units false false true d unit h = subst (λ x. 1 ≤ x) (some_is MINUTE_MS unit h) (lit≤ tt)
ms_units false false false true unit h = subst (λ x. 1 ≤ x) (some_is HOUR_MS unit h) (lit≤ tt)
ms_units false false false false unit h = absurd (none_some unit h)

unit_ms-least : (text : List ℕ) (unit : ℕ) → unit_ms text ≡ Some unit → 1 ≤ unit
unit_ms-least text unit h = ms_units _ _ _ _ unit h

bytes_in-capped : (n : ℕ) (o : Option ℕ) → ((unit : ℕ) → o ≡ Some unit → 1 ≤ unit) → bytes_in (min n most) o ≡ bytes_in n o
bytes_in-capped n None least = refl
bytes_in-capped n (Some unit) least = ap bytes (within-capped 0 MEMORY_MOST n unit most (least unit refl) (lit< tt))

ms_in-capped : (low n : ℕ) (o : Option ℕ) → ((unit : ℕ) → o ≡ Some unit → 1 ≤ unit) → ms_in low (min n most) o ≡ ms_in low n o
ms_in-capped low n None least = refl
ms_in-capped low n (Some unit) least = within-capped low SPAN_MOST n unit most (least unit refl) (lit< tt)

pub size_in-capped : (n : ℕ) (text : List ℕ) → size_in (min n most) text ≡ size_in n text
size_in-capped n [] = refl
size_in-capped n (c ∷ []) = turn (c == 37)
  where
    turn : (b : Bool) → (if b then percent_in (min n most) else bytes_in (min n most) (unit_bytes c)) ≡ (if b then percent_in n else bytes_in n (unit_bytes c))
    turn true = ap percent (within-capped_one 0 PERCENT_MOST n most (lit< tt))
    turn false = bytes_in-capped n (unit_bytes c) (unit_bytes-least c)
size_in-capped n (c ∷ d ∷ more) = refl

pub span_in-capped : (low n : ℕ) (text : List ℕ) → span_in low (min n most) text ≡ span_in low n text
span_in-capped low n [] = refl
span_in-capped low n (c ∷ unit) = turn (c == 32)
  where
    turn : (b : Bool) → (if b then ms_in low (min n most) (unit_ms unit) else Err Form) ≡ (if b then ms_in low n (unit_ms unit) else Err Form)
    turn true = ms_in-capped low n (unit_ms unit) (unit_ms-least unit)
    turn false = refl

plus_one : (n : ℕ) → n + 1 ≡ suc n
plus_one n = omega arith

-- the digits with which a text begins
pub front_digits : (text : List ℕ) → AreDigits (take (digit_count text) text)
front_digits [] = tt
front_digits (c ∷ cs) = turn (is_digit (class_of c)) refl (front_digits cs)
  where
    turn : (b : Bool) → is_digit (class_of c) ≡ b → AreDigits (take (digit_count cs) cs)
        → AreDigits (take (if b then digit_count cs + 1 else 0) (c ∷ cs))
    turn true is more = subst (λ n. AreDigits (take n (c ∷ cs))) (sym (plus_one (digit_count cs))) (digit_is (class_of c) is, more)
    turn false is more = tt

-- what the front of a text and the rest give, where the number that is told gives the same
pub front_read : {R : Type 0} (f : ℕ → List ℕ → R) (none r : R) (text digits unit : List ℕ) (count value : ℕ)
    → ((n : ℕ) (u : List ℕ) → f (min n most) u ≡ f n u)
    → count ≡ digit_count text → (count ≡ 0 → ⊥) → digits ≡ take count text → unit ≡ drop count text
    → value ≡ min (digits_value 10 digits) most → r ≡ f value unit
    → r ≡ (if digit_count text == 0 then none else f (front_number text) (behind_digits text))
front_read f none r text digits unit count value same is some front rest told gives =
    gives
    ∙ ap (λ n. f n unit) told
    ∙ same (digits_value 10 digits) unit
    ∙ ap (λ l. f (digits_value 10 l) unit) (front ∙ ap (λ n. take n text) is)
    ∙ ap (λ l. f (front_number text) l) (rest ∙ ap (λ n. drop n text) is)
    ∙ sym (ap (λ b. if b then none else f (front_number text) (behind_digits text)) (ne_eqb (digit_count text) 0 (λ e. some (is ∙ e))))
