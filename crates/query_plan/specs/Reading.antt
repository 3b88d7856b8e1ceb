-- how a text is read
use Rattle.std.specs.Prelude.{◌≡◌, ℕ, Option, Result, Err, List}
use Rattle.rm_base.specs.declared.catalog.CatalogTable.{CatalogTable}
use Rattle.rm_base.specs.declared.refusal.Refusal.{Refusal}
use Rattle.rm_base.specs.declared.select.Select.{Select}
use Rattle.rm_words.specs.declared.spans.Span.{Span}
use Rattle.rm_words.specs.Reading.{ends as ends_by, read_of as read_by, read_on as read_on_by}
use Rattle.query_plan.specs.declared.progress.Progress.{Progress}
use Rattle.query_plan.specs.declared.raw.RawSelect.{RawSelect}
use Rattle.query_plan.specs.declared.reading.ReadError.{ReadError}
use Rattle.query_plan.specs.declared.reading.ReadError.TheVariants.{Refused, Memory}
use Rattle.query_plan.specs.Machine.{reader}
use Rattle.query_plan.specs.Resolving.{and_then, resolved}
use Rattle.query_plan.specs.Text.{IsRefused, selects}

-- behind the last word
abbrev pub ends : List CatalogTable → List ℕ → Option ℕ → Progress → Result RawSelect Refusal
ends catalog text stuck p = ends_by (selects catalog) (reader catalog) text stuck p

-- the words that are left
abbrev pub read_on : List CatalogTable → List ℕ → Option ℕ → Progress → List Span → Result RawSelect Refusal
read_on catalog text stuck p spans = read_on_by (selects catalog) (reader catalog) text stuck p spans

-- the SELECT that the words of a text are, or why they are none
abbrev pub raw_of : List CatalogTable → List ℕ → Result RawSelect Refusal
raw_of catalog text = read_by (selects catalog) (reader catalog) text

-- what a text is read as over a catalog: its plan, or why it is none
abbrev pub read_of : List CatalogTable → List ℕ → Result Select Refusal
read_of catalog text = and_then (raw_of catalog text) (λ raw. resolved catalog raw)

-- the text is read as none, for this reason; want of memory says nothing of the text
abbrev pub IsReadAsNone : List CatalogTable → List ℕ → ReadError → Type 0
IsReadAsNone catalog text (Refused refusal) = read_of catalog text ≡ Err refusal
IsReadAsNone catalog text Memory = Unit {0}

-- the text is refused so; want of memory says nothing of the text
abbrev pub IsReadError : List CatalogTable → List ℕ → ReadError → Type 0
IsReadError catalog text (Refused refusal) = IsRefused catalog text refusal
IsReadError catalog text Memory = Unit {0}
