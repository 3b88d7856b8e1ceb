-- Numbers of few digits.
use Rattle.std.proofs.Common.{◌≡◌, ℕ, ◌^◌, ◌<◌, ◌≤◌, Bool, true, false, ◌&&◌, cond, nat_lt, leb, None, Some, List, length, refl, ap, ◌∙◌, arith}
use Rattle.std.proofs.lemmas.Bool.Decides.{Decides-and, Decides-ltb, nat_tests}
use Rattle.std.proofs.lemmas.Str.Parse.{digits_value_short}
use Rattle.std.specs.Str.Parse.{digits_value}
use Rattle.csv_tables.proofs.CellLemmas.{numerals}
use Rattle.options.specs.Numeral.{numeral_of, below, is_numeral}
use Rattle.options.proofs.NumeralLemmas.{below-value}
use Rattle.sessions.specs.Numbers.{script_number}

short_turn : (word : List ℕ) (numeral : Bool) → is_numeral word ≡ numeral → length word ≤ 15
    → cond (numeral && nat_lt (digits_value 10 word) (2 ^ 64)) (Some (digits_value 10 word)) None ≡ cond numeral (Some (digits_value 10 word)) None
short_turn word true is short =
    let digits = (Decides-and _ _ (Decides-ltb 0 (length word)) (λ e. e, λ e. e)).0 is in
    let small = digits_value_short numerals word 15 digits.1 short in
    ap (λ fits. cond fits (Some (digits_value 10 word)) None) ((Decides-ltb (digits_value 10 word) (2 ^ 64)).1 (omega arith))
short_turn word false is short = refl

-- a number of few digits fits
pub below-short : (word : List ℕ) → length word ≤ 15 → below (2 ^ 64) (numeral_of word) ≡ numeral_of word
below-short word short = below-value (is_numeral word) (digits_value 10 word) (2 ^ 64) ∙ short_turn word (is_numeral word) refl short

-- a number of a script is as short as its digits
short-below : (word : List ℕ) (n : ℕ) (numeral : Bool) → is_numeral word ≡ numeral → length word ≤ 15 → cond numeral (Some (digits_value 10 word)) None ≡ Some n → n < 10 ^ 15
short-below word n true is short h =
    let digits = (Decides-and _ _ (Decides-ltb 0 (length word)) (λ e. e, λ e. e)).0 is in
    let small = digits_value_short numerals word 15 digits.1 short in
    let same : digits_value 10 word ≡ n = cc in
    omega (arith, small, same)
short-below word n false is short h = absurd (cc)

number-turn : (word : List ℕ) (n : ℕ) (short : Bool) → leb (length word) 15 ≡ short → cond short (numeral_of word) None ≡ Some n → n < 10 ^ 15
number-turn word n true is h = short-below word n (is_numeral word) refl (let le : length word ≤ 15 = grind (arith, nat_tests) in le) h
number-turn word n false is h = absurd (cc)

pub script_number-short : (word : List ℕ) (n : ℕ) → script_number word ≡ Some n → n < 10 ^ 15
script_number-short word n h = number-turn word n (leb (length word) 15) refl h
