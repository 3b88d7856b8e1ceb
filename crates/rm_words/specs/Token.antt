-- what a word says
use Rattle.std.specs.Prelude.{◌≡◌, ℕ, ◌-◌, ◌^◌, min, length, take, drop, map, List, [], ◌∷◌, ◌++◌, Bool, true, false, ◌==◌, if◌then◌else◌, slice_index, codes}
use Rattle.std.specs.Char.{to_ascii_lowercase}
use Rattle.std.specs.Str.{bytes_eq}
use Rattle.std.specs.Str.Parse.{digits_value}
use Rattle.rm_words.specs.declared.class.Class.{Class}
use Rattle.rm_words.specs.declared.class.Class.TheVariants as class
use Rattle.rm_words.specs.declared.token.Symbol.{Symbol}
use Rattle.rm_words.specs.declared.token.Symbol.TheVariants.{AtMost, AtLeast, Unequal, Open, Close, Comma, Dot, Star, Equal, Less, Greater, Semicolon, Minus}
use Rattle.rm_words.specs.declared.token.Token.{Token as Told}
use Rattle.rm_words.specs.declared.token.Token.TheVariants as told
use Rattle.rm_words.specs.Class.{class_of}
use Rattle.rm_words.specs.Word.{is_bare, is_word}

-- a bare word in lower case, the number that digits write, the bytes between the quotes with each
-- two quotes as they stand, or a symbol
pub data Token : Type 0 where
  Bare : List ℕ → Token
  Number : ℕ → Token
  Quoted : List ℕ → Token
  Sign : Symbol → Token

-- the word in lower case
abbrev pub folded : List ℕ → List ℕ
folded word = map to_ascii_lowercase word

-- what stands between the first byte and the last
abbrev pub inner : List ℕ → List ℕ
inner word = take (length word - 2) (drop 1 word)

-- which symbol a word is that is one
abbrev pub symbol_of : List ℕ → Symbol
symbol_of word =
    if bytes_eq word (codes "<=") then AtMost
    else (if bytes_eq word (codes ">=") then AtLeast
    else (if bytes_eq word (codes "<>") then Unequal
    else (if bytes_eq word (codes "(") then Open
    else (if bytes_eq word (codes ")") then Close
    else (if bytes_eq word (codes ",") then Comma
    else (if bytes_eq word (codes ".") then Dot
    else (if bytes_eq word (codes "*") then Star
    else (if bytes_eq word (codes "=") then Equal
    else (if bytes_eq word (codes "<") then Less
    else (if bytes_eq word (codes ">") then Greater
    else (if bytes_eq word (codes ";") then Semicolon else Minus)))))))))))

-- how a symbol is written
abbrev pub symbol_bytes : Symbol → List ℕ
symbol_bytes AtMost = codes "<="
symbol_bytes AtLeast = codes ">="
symbol_bytes Unequal = codes "<>"
symbol_bytes Open = codes "("
symbol_bytes Close = codes ")"
symbol_bytes Comma = codes ","
symbol_bytes Dot = codes "."
symbol_bytes Star = codes "*"
symbol_bytes Equal = codes "="
symbol_bytes Less = codes "<"
symbol_bytes Greater = codes ">"
symbol_bytes Semicolon = codes ";"
symbol_bytes Minus = codes "-"

-- what a word says whose first byte has this class
abbrev pub token_by : Class → List ℕ → Token
token_by class.Letter word = Bare (folded word)
token_by class.Digit word = Number (digits_value 10 word)
token_by class.Quote word = Quoted (inner word)
token_by _ word = Sign (symbol_of word)

-- what a word says
abbrev pub token_of : List ℕ → Token
token_of word = token_by (class_of (slice_index word 0)) word

-- digits alone
abbrev pub AreDigits : List ℕ → Type 0
AreDigits [] = Unit {0}
AreDigits (c ∷ cs) = (class_of c ≡ class.Digit) × AreDigits cs

-- the greatest number that a program tells
abbrev pub most : ℕ
most = 2 ^ 64 - 1

-- the token as a program tells it: a number stays at the greatest
abbrev pub capped : Token → Token
capped (Bare word) = Bare word
capped (Number n) = Number (min n most)
capped (Quoted text) = Quoted text
capped (Sign symbol) = Sign symbol

-- the token for which a program's stands
abbrev pub token_told : Told → Token
token_told (told.Bare word) = Bare (folded word.now)
token_told (told.Number n) = Number n
token_told (told.Quoted text) = Quoted text.now
token_told (told.Sign symbol) = Sign symbol

-- the bytes write the token
abbrev pub IsWritten : Token → List ℕ → Type 0
IsWritten (Bare word) bytes = (is_bare (map class_of bytes) ≡ true) × (word ≡ folded bytes)
IsWritten (Number n) bytes = AreDigits bytes × (n ≡ digits_value 10 bytes)
IsWritten (Quoted text) bytes = bytes ≡ 39 ∷ (text ++ 39 ∷ [])
IsWritten (Sign symbol) bytes = bytes ≡ symbol_bytes symbol

-- the token is this key word, in any case
abbrev pub is_key : Token → List ℕ → Bool
is_key (Bare word) key = bytes_eq word (folded key)
is_key _ key = false

-- a text as it stands between quotes
abbrev pub doubled : List ℕ → List ℕ
doubled [] = []
doubled (c ∷ cs) = if c == 39 then 39 ∷ 39 ∷ doubled cs else c ∷ doubled cs

-- the text that stands between quotes: of two quotes the second is left out. `half` says that the
-- first of two stands just before
abbrev pub undoubled_from : Bool → List ℕ → List ℕ
undoubled_from half [] = []
undoubled_from false (c ∷ cs) = c ∷ undoubled_from (c == 39) cs
undoubled_from true (c ∷ cs) =
    if c == 39 then undoubled_from false cs else c ∷ undoubled_from false cs

-- the text that stands between quotes
abbrev pub undoubled : List ℕ → List ℕ
undoubled text = undoubled_from false text

-- the word that quotes a text
abbrev pub quoted : List ℕ → List ℕ
quoted text = 39 ∷ (doubled text ++ 39 ∷ [])

-- the bytes are a word that says this
pub record Says (bytes : List ℕ) (says : Token) : Type 0 where
  pub word : is_word bytes ≡ true
  pub token : token_of bytes ≡ says
