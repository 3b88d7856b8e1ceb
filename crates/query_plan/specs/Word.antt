-- the words of a text, each with its place
use Rattle.std.specs.Prelude.{ℕ, List}
use Rattle.rm_base.specs.declared.name.Name.{Name}
use Rattle.rm_words.specs.declared.spans.Span.{Span}
use Rattle.rm_words.specs.declared.token.Symbol.{Symbol}
use Rattle.rm_words.specs.Cut.{word_at}
use Rattle.rm_words.specs.Names.{key, name}
use Rattle.rm_words.specs.Token.{Token, Number, Quoted, Sign, token_of}

-- a word: where it starts, and what it says
pub record Word : Type 0 where
  pub place : ℕ
  pub says : Token

-- the word at a span of a text
abbrev pub word_in : List ℕ → Span → Word
word_in text span = record { place = span.start; says = token_of (word_at text span) }

-- a key word
abbrev pub key_at : ℕ → List ℕ → Word
key_at place word = record { place = place; says = key word }

-- a name
abbrev pub name_at : ℕ → Name → Word
name_at place n = record { place = place; says = name n }

-- a symbol
abbrev pub sign_at : ℕ → Symbol → Word
sign_at place symbol = record { place = place; says = Sign symbol }

-- a number
abbrev pub number_at : ℕ → ℕ → Word
number_at place n = record { place = place; says = Number n }

-- a quoted text
abbrev pub quoted_at : ℕ → List ℕ → Word
quoted_at place text = record { place = place; says = Quoted text }
