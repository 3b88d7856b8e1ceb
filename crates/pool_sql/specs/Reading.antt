-- how a text is read
use Rattle.std.specs.Prelude.{◌≡◌, ℕ, Option, Result, Err, List}
use Rattle.rm_base.specs.declared.refusal.Refusal.{Refusal}
use Rattle.rm_base.specs.declared.statement.Statement.{Statement}
use Rattle.rm_words.specs.declared.spans.Span.{Span}
use Rattle.rm_words.specs.Reading.{ends as ends_by, read_of as read_by, read_on as read_on_by}
use Rattle.pool_sql.specs.declared.progress.Progress.{Progress}
use Rattle.pool_sql.specs.declared.reading.ReadError.{ReadError}
use Rattle.pool_sql.specs.declared.reading.ReadError.TheVariants.{Refused, Memory}
use Rattle.pool_sql.specs.Machine.{reader}
use Rattle.pool_sql.specs.Text.{IsRefused, statements}

-- behind the last word
abbrev pub ends : List ℕ → Option ℕ → Progress → Result Statement Refusal
ends text stuck p = ends_by statements reader text stuck p

-- the words that are left
abbrev pub read_on : List ℕ → Option ℕ → Progress → List Span → Result Statement Refusal
read_on text stuck p spans = read_on_by statements reader text stuck p spans

-- what a text is read as: its statement, or why it is none
abbrev pub read_of : List ℕ → Result Statement Refusal
read_of text = read_by statements reader text

-- the text is read as none, for this reason; want of memory says nothing of the text
abbrev pub IsReadAsNone : List ℕ → ReadError → Type 0
IsReadAsNone text (Refused refusal) = read_of text ≡ Err refusal
IsReadAsNone text Memory = Unit {0}

-- the text is refused so; want of memory says nothing of the text
abbrev pub IsReadError : List ℕ → ReadError → Type 0
IsReadError text (Refused refusal) = IsRefused text refusal
IsReadError text Memory = Unit {0}
