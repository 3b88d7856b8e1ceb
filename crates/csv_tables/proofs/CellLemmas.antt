-- The values of cells.
use Rattle.std.proofs.Common.{◌≡◌, ℕ, ◌^◌, ◌<◌, ◌≤◌, Bool, true, false, ◌&&◌, cond, nat_lt, leb, le-leb, None, Some, Result, Ok, Err, List, [], ◌∷◌, length, refl, sym, ap, ◌∙◌, arith}
use Rattle.std.proofs.lemmas.Bool.Decides.{nat_tests}
use Rattle.std.proofs.lemmas.Fmt.{IsAscii-from_digits}
use Rattle.std.proofs.lemmas.Str.{is_utf8-from_IsUtf8, IsUtf8-from_is_utf8, IsUtf8-from_ascii}
use Rattle.std.proofs.lemmas.Str.Parse.{IsNumeralModel, numerals_by_value, tells_all_ascii_digits, parse_digits, digits_value_short}
use Rattle.std.specs.Char.{is_ascii_digit}
use Rattle.std.specs.List.{list_all}
use Rattle.std.specs.Result.{OkIff, result_ok}
use Rattle.std.specs.Str.{IsUtf8, is_utf8, all_ascii_digits}
use Rattle.std.specs.Str.Parse.{ParsesUnsigned, digits_value}
use Rattle.rm_base.specs.declared.value.Value.TheVariants.{Words}
use Rattle.csv_tables.specs.Cells.{number_of, text_of}

-- digits, and the number that they write
pub numerals : IsNumeralModel (λ word. all_ascii_digits word ≡ true) (digits_value 10)
numerals = numerals_by_value _ tells_all_ascii_digits

pub all_digits : (text : List ℕ) → list_all is_ascii_digit text ≡ all_ascii_digits text
all_digits [] = refl
all_digits (c ∷ cs) = ap (λ b. is_ascii_digit c && b) (all_digits cs)

decided : {E : Type 0} (text : List ℕ) (r : Result ℕ E) (filled : Bool) → nat_lt 0 (length text) ≡ filled → digits_value 10 text < 10 ^ 19
    → OkIff r ((0 < length text) × (digits_value 10 text < 2 ^ 64)) (digits_value 10 text) → result_ok r ≡ cond filled (Some (digits_value 10 text)) None
decided text (Ok x) true is small h = ap Some h.1
decided text (Ok x) false is small h = let some : 0 < length text = h.0.0 in absurd (grind (arith, nat_tests))
decided text (Err e) true is small h = absurd (h (let some : 0 < length text = grind (arith, nat_tests) in some, omega (arith, small)))
decided text (Err e) false is small h = refl

-- what `parse` gives for few digits
pub number_read : {E : Type 0} (text : List ℕ) (r : Result ℕ E) → ParsesUnsigned 64 10 text r → length text ≤ 19 → list_all is_ascii_digit text ≡ true → result_ok r ≡ number_of text
number_read text r parses short are =
    let digits = sym (all_digits text) ∙ are in
    decided text r (nat_lt 0 (length text)) refl (digits_value_short numerals text 19 digits short) (parse_digits numerals 64 text r parses digits)
    ∙ sym (ap (λ b. cond (leb (length text) 19 && b && nat_lt 0 (length text)) (Some (digits_value 10 text)) None) are
    ∙ ap (λ b. cond (b && true && nat_lt 0 (length text)) (Some (digits_value 10 text)) None) (le-leb (length text) 19 short))

not-true : (b : Bool) → (b ≡ true → ⊥) → b ≡ false
not-true true h = absurd (h refl)
not-true false h = refl

pub text_good : (cell text : List ℕ) → length cell ≤ 1024 → IsUtf8 cell → text ≡ cell → Some (Words text) ≡ text_of cell
text_good cell text short is same =
    ap (λ t. Some (Words t)) same
    ∙ sym (ap (λ b. cond (leb (length cell) 1024 && b) (Some (Words cell)) None) (is_utf8-from_IsUtf8 cell is)
    ∙ ap (λ b. cond (b && true) (Some (Words cell)) None) (le-leb (length cell) 1024 short))

pub text_bad : (cell : List ℕ) → length cell ≤ 1024 → ¬ (IsUtf8 cell) → None ≡ text_of cell
text_bad cell short bad =
    sym (ap (λ b. cond (leb (length cell) 1024 && b) (Some (Words cell)) None) (not-true (is_utf8 cell) (λ is. bad (IsUtf8-from_is_utf8 cell is)))
    ∙ ap (λ b. cond (b && false) (Some (Words cell)) None) (le-leb (length cell) 1024 short))

-- digits are text
pub digits_text : (text : List ℕ) → list_all is_ascii_digit text ≡ true → IsUtf8 text
digits_text text are = IsUtf8-from_ascii text (IsAscii-from_digits text (numerals.to text (sym (all_digits text) ∙ are)))
