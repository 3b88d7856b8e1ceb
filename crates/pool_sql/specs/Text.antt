-- which texts are a statement, and how a text that is none is refused
use Rattle.std.specs.Prelude.{ℕ, List, ◌++◌, map}
use Rattle.rm_base.specs.declared.refusal.Refusal.{Refusal}
use Rattle.rm_base.specs.declared.refusal.Refusal.TheVariants as refusal
use Rattle.rm_base.specs.declared.statement.Statement.{Statement}
use Rattle.rm_words.specs.declared.spans.Span.{Span}
use Rattle.rm_words.specs.Cut.{joined, word_at}
use Rattle.rm_words.specs.Token.{Token, token_of}
use Rattle.rm_words.specs.Reading.{Grammar, IsRefused as IsRefusedBy, SpellsText as Says}
use Rattle.pool_sql.specs.declared.stop.Stop.{Stop}
use Rattle.pool_sql.specs.declared.stop.Stop.TheVariants as stop
use Rattle.pool_sql.specs.Grammar.{IsFront, IsWhy, Spells}

-- what the word at a span says
abbrev pub token_in : List ℕ → Span → Token
token_in text span = token_of (word_at text span)

-- what the words at the spans say
abbrev pub tokens_in : List ℕ → List Span → List Token
tokens_in text spans = map (token_in text) spans

-- the refusal for a word that starts at a place
abbrev pub refusal_at : ℕ → Stop → Refusal
refusal_at place stop.Syntax = refusal.Syntax place
refusal_at place stop.Unknown = refusal.UnknownParameter place
refusal_at place (stop.Repeated p) = refusal.Repeated p
refusal_at place stop.NotSupported = refusal.NotSupported place
refusal_at place (stop.Range p) = refusal.Range p

-- the grammar of statements: a text is refused with Syntax where it has no word, and where it ends too early
abbrev pub statements : Grammar Token Statement Stop Refusal
statements = record {
  word_in = λ text span. token_in text span;
  Spells = λ ts st. Spells ts st;
  IsFront = λ ts. IsFront ts;
  IsWhy = λ front t why. IsWhy front t why;
  refusal_at = λ place why. refusal_at place why;
  syntax = λ place. refusal.Syntax place;
}

-- the words of the text are the statement
abbrev pub SpellsText : List ℕ → Statement → Type 0
SpellsText text st = Says statements text st

-- some text is the statement
abbrev pub IsSpelled : Statement → Type 0
IsSpelled st = (text : List ℕ) × SpellsText text st

-- some text that begins with these words is a statement
abbrev pub BeginsText : List (List ℕ) → Type 0
BeginsText ws = (more : List (List ℕ)) × (st : Statement) × SpellsText (joined (ws ++ more)) st

-- why a text is no statement: for its first word that no statement has behind the words before it,
-- for the place where there is no word, or since it ends too early
abbrev pub IsRefused : List ℕ → Refusal → Type 0
IsRefused text why = IsRefusedBy statements text why
