-- which lists of bytes are words
use Rattle.std.specs.Prelude.{◌≡◌, ℕ, ◌<◌, ◌≤◌, Bool, true, false, ◌||◌, ◌&&◌, List, [], ◌∷◌, length, take, map}
use Rattle.std.specs.List.{list_all}
use Rattle.rm_words.specs.declared.class.Class.{Class}
use Rattle.rm_words.specs.declared.class.Class.TheVariants.{Letter, Digit, Quote, Less, Greater, Equal, Mark}
use Rattle.rm_words.specs.Class.{class_of}

-- a letter, `_` or a digit
abbrev pub goes_on : Class → Bool
goes_on Letter = true
goes_on Digit = true
goes_on _ = false

-- a digit
abbrev pub is_digit : Class → Bool
is_digit Digit = true
is_digit _ = false

-- a letter or `_`, then letters, digits and `_`
abbrev pub is_bare : List Class → Bool
is_bare (Letter ∷ ks) = list_all goes_on ks
is_bare _ = false

-- digits, one at least
abbrev pub is_number : List Class → Bool
is_number (Digit ∷ ks) = list_all is_digit ks
is_number _ = false

-- a quote
abbrev pub is_quote : Class → Bool
is_quote Quote = true
is_quote _ = false

-- what may follow an opening quote: anything, with two quotes for one, and a closing quote at the
-- end. `half` says that a quote stands just before, which closes the text or is the first of two
abbrev pub closes : Bool → List Class → Bool
closes half [] = half
closes false (k ∷ ks) = closes (is_quote k) ks
closes true (k ∷ ks) = is_quote k && closes false ks

-- a quote, and a text that it opens and that is closed
abbrev pub is_quoted : List Class → Bool
is_quoted (Quote ∷ ks) = closes false ks
is_quoted _ = false

-- one of `( ) , . * ; - < > =` and `<= >= <>`
abbrev pub is_symbol : List Class → Bool
is_symbol (Mark ∷ []) = true
is_symbol (Less ∷ []) = true
is_symbol (Greater ∷ []) = true
is_symbol (Equal ∷ []) = true
is_symbol (Less ∷ Equal ∷ []) = true
is_symbol (Greater ∷ Equal ∷ []) = true
is_symbol (Less ∷ Greater ∷ []) = true
is_symbol _ = false

-- bytes of these classes are a word
abbrev pub are_word : List Class → Bool
are_word ks = is_bare ks || is_number ks || is_quoted ks || is_symbol ks

-- these bytes are a word
abbrev pub is_word : List ℕ → Bool
is_word bytes = are_word (map class_of bytes)

-- the first n bytes of the text are a word, and no longer front of the text is one
pub record IsLongest (text : List ℕ) (n : ℕ) : Type 0 where
  pub fits : n ≤ length text
  pub word : is_word (take n text) ≡ true
  pub longest : (m : ℕ) → n < m → m ≤ length text → is_word (take m text) ≡ false

-- no front of the text is a word
abbrev pub HasNoWord : List ℕ → Type 0
HasNoWord text = (n : ℕ) → n ≤ length text → is_word (take n text) ≡ false
