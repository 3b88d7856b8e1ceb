-- the words of a text are read one by one
use Rattle.std.proofs.Common.{◌≡◌, ℕ, ◌+◌, ◌<◌, ◌≤◌, Option, Some, None, Result, Err, List, length, drop, get_or, sym, ◌∙◌, ap, subst}
use Rattle.std.proofs.lemmas.List.{drop_all}
use Rattle.rm_base.specs.declared.catalog.CatalogTable.{CatalogTable}
use Rattle.rm_base.specs.declared.refusal.Refusal.{Refusal}
use Rattle.rm_base.specs.declared.refusal.Refusal.TheVariants.{Syntax}
use Rattle.rm_words.specs.declared.spans.Span.{Span}
use Rattle.rm_words.specs.Cut.{word_at}
use Rattle.rm_words.specs.Token.{Token, capped, token_of}
use Rattle.rm_words.proofs.Readings.{read-goes, read-stops}
use Rattle.query_plan.specs.declared.progress.Progress.{Progress}
use Rattle.query_plan.specs.declared.raw.RawSelect.{RawSelect}
use Rattle.query_plan.specs.declared.reading.ReadError.{ReadError}
use Rattle.query_plan.specs.Machine.{or_stops, reader, step}
use Rattle.query_plan.specs.Resolving.{IsAnswer}
use Rattle.query_plan.specs.Text.{selects}
use Rattle.query_plan.specs.Reading.{ends, read_on}
use Rattle.query_plan.specs.Word.{Word, word_in}
use Rattle.query_plan.proofs.Capped.{step-capped}

-- the word at a span, as a program tells it
abbrev told_at : Span → Token → Word
told_at span told = record { place = span.start; says = told }

-- the token that the program tells leads where the text's does
same-step : (catalog : List CatalogTable) (text : List ℕ) (p : Progress) (span : Span) (told : Token) → told ≡ capped (token_of (word_at text span))
    → or_stops (step catalog p (told_at span told)) ≡ or_stops (step catalog p (word_in text span))
same-step catalog text p span told is =
    ap (λ t. or_stops (step catalog p (told_at span t))) is ∙ ap or_stops (step-capped catalog p span.start (token_of (word_at text span)))

pub word-stops : (catalog : List CatalogTable) (text : List ℕ) (words : List Span) (stuck : Option ℕ) (p : Progress) (i : ℕ) (d : Span) (told : Token) (all : Result RawSelect Refusal)
    → i < length words → told ≡ capped (token_of (word_at text (get_or words i d)))
    → None ≡ step catalog p (told_at (get_or words i d) told)
    → read_on catalog text stuck p (drop i words) ≡ all → all ≡ Err (Syntax (get_or words i d).start)
word-stops catalog text words stuck p i d told all within is stops so_far =
    let span = get_or words i d in
    read-stops (selects catalog) (reader catalog) text words stuck p i d (told_at span told) tt all within
    (same-step catalog text p span told is) (ap or_stops (sym stops)) so_far

pub word-goes : (catalog : List CatalogTable) (text : List ℕ) (words : List Span) (stuck : Option ℕ) (p q : Progress) (i : ℕ) (d : Span) (told : Token) (all : Result RawSelect Refusal)
    → i < length words → told ≡ capped (token_of (word_at text (get_or words i d)))
    → Some q ≡ step catalog p (told_at (get_or words i d) told)
    → read_on catalog text stuck p (drop i words) ≡ all → read_on catalog text stuck q (drop (i + 1) words) ≡ all
word-goes catalog text words stuck p q i d told all within is goes so_far =
    let span = get_or words i d in
    read-goes (selects catalog) (reader catalog) text words stuck p q i d (told_at span told) all within
    (same-step catalog text p span told is) (ap or_stops (sym goes)) so_far

-- behind the last word
pub words-end : (catalog : List CatalogTable) (text : List ℕ) (words : List Span) (stuck : Option ℕ) (p : Progress) (i : ℕ) (all : Result RawSelect Refusal) (answer : Result RawSelect ReadError)
    → length words ≤ i → read_on catalog text stuck p (drop i words) ≡ all → IsAnswer (ends catalog text stuck p) answer → IsAnswer all answer
words-end catalog text words stuck p i all answer over so_far is =
    subst (λ r. IsAnswer r answer) (ap (λ l. read_on catalog text stuck p l) (sym (drop_all i words over)) ∙ so_far) is
