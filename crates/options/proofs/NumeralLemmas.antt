-- What `parse` reads, as a number of digits alone.
use Rattle.std.proofs.Common.{◌≡◌, ◌≢◌, ℕ, ◌^◌, ◌<◌, Bool, true, false, ◌&&◌, cond, nat_lt, Decides, None, Some, Result, Ok, Err, List, length, get_or, refl, sym, ap, ◌∙◌}
use Rattle.std.proofs.lemmas.Bool.{false≢true}
use Rattle.std.proofs.lemmas.Bool.Decides.{Decides-like, Decides-and, Decides-ltb}
use Rattle.std.proofs.lemmas.Str.Parse.{IsNumeralModel, numerals_by_value, tells_all_ascii_digits, parse_plain}
use Rattle.std.specs.Result.{OkIff, result_ok}
use Rattle.std.specs.Str.{all_ascii_digits}
use Rattle.std.specs.Str.Parse.{ParsesUnsigned, digits_value}
use Rattle.options.specs.Numeral.{numeral_of, below, is_numeral}

-- digits, and the number that they write
digits_tell : IsNumeralModel (λ word. all_ascii_digits word ≡ true) (digits_value 10)
digits_tell = numerals_by_value _ tells_all_ascii_digits

ok_decided : {E P : Type 0} (r : Result ℕ E) (v : ℕ) (b : Bool) → OkIff r P v → Decides b P → result_ok r ≡ cond b (Some v) None
ok_decided (Ok x) v true h d = ap Some h.1
ok_decided (Ok x) v false h d = absurd (false≢true (d.1 h.0))
ok_decided (Err e) v true h d = absurd (h (d.0 refl))
ok_decided (Err e) v false h d = refl

pub below-value : (numeral : Bool) (n limit : ℕ) → below limit (cond numeral (Some n) None) ≡ cond (numeral && nat_lt n limit) (Some n) None
below-value true n limit = refl
below-value false n limit = refl

fits_decides : (word : List ℕ) → Decides (is_numeral word && nat_lt (digits_value 10 word) (2 ^ 64)) ((all_ascii_digits word ≡ true) × (0 < length word) × (digits_value 10 word < 2 ^ 64))
fits_decides word =
    Decides-like _ (λ h. (h.0.1, h.0.0, h.1)) (λ h. ((h.1, h.0), h.2))
    (Decides-and _ _ (Decides-and _ _ (Decides-ltb 0 (length word)) (λ e. e, λ e. e)) (Decides-ltb (digits_value 10 word) (2 ^ 64)))

-- what `parse` gives for a word that doesn't begin with a plus
pub parsed : {E : Type 0} (word : List ℕ) (r : Result ℕ E) → ParsesUnsigned 64 10 word r → get_or word 0 0 ≢ 43 → result_ok r ≡ below (2 ^ 64) (numeral_of word)
parsed word r parses plain =
    ok_decided r (digits_value 10 word) _ (parse_plain digits_tell 64 word r parses plain) (fits_decides word)
    ∙ sym (below-value (is_numeral word) (digits_value 10 word) (2 ^ 64))
