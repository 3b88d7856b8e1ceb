-- the reader of statements reads by their grammar
use Rattle.std.proofs.Common.{◌≡◌, ℕ, ◌+◌, ◌<◌, Option, Result, Ok, Err, List, length, drop, get_or, sym, ◌∙◌, ap}
use Rattle.rm_base.specs.declared.refusal.Refusal.{Refusal}
use Rattle.rm_base.specs.declared.statement.Statement.{Statement}
use Rattle.rm_words.specs.declared.spans.Span.{Span}
use Rattle.rm_words.specs.Token.{Token, capped}
use Rattle.rm_words.proofs.Readings.{IsReaderOf, read-goes, read-stops}
use Rattle.pool_sql.specs.declared.progress.Progress.{Progress}
use Rattle.pool_sql.specs.declared.stop.Stop.{Stop}
use Rattle.pool_sql.specs.Machine.{Stepped, reader, step}
use Rattle.pool_sql.specs.Text.{refusal_at, statements, token_in}
use Rattle.pool_sql.specs.Reading.{read_on}
use Rattle.pool_sql.proofs.Blamed.{stopped-why, why_one}
use Rattle.pool_sql.proofs.Capped.{step-capped}
use Rattle.pool_sql.proofs.Complete.{spells-gives}
use Rattle.pool_sql.proofs.Fronts.{finish-spells, front-read, read-front, sound}

pub reads_statements : IsReaderOf statements reader
reads_statements = record {
  read_front = λ ts p h. read-front ts p h;
  front_read = λ ts front. front-read ts front;
  finish_spells = λ ts p st h is. finish-spells p ts st (sound ts p h) is;
  spells_finish = λ ts st spells. let gives = spells-gives ts st spells in (gives.last, gives.reads, gives.gives);
  stop_why = λ ts t p why h is. stopped-why ts t p why h (sound ts p h) is;
  one_why = λ ts t a b x y. why_one ts t a b x y;
}

-- the token that the program tells leads where the text's does
same-step : (text : List ℕ) (p : Progress) (span : Span) (told : Token) → told ≡ capped (token_in text span)
    → step p told ≡ step p (token_in text span)
same-step text p span told is = ap (step p) is ∙ step-capped p (token_in text span)

pub word-stops : (text : List ℕ) (words : List Span) (stuck : Option ℕ) (p : Progress) (i : ℕ) (d : Span) (told : Token) (why : Stop) (refused : Refusal) (all : Result Statement Refusal)
    → i < length words → told ≡ capped (token_in text (get_or words i d))
    → (let r : Stepped = Err why in r ≡ step p told) → refused ≡ refusal_at (get_or words i d).start why
    → read_on text stuck p (drop i words) ≡ all → (let r : Result Statement Refusal = Err refused in r ≡ all)
word-stops text words stuck p i d told why refused all within is stops at so_far =
    ap (λ x. let r : Result Statement Refusal = Err x in r) at
    ∙ sym (read-stops statements reader text words stuck p i d told why all within (same-step text p (get_or words i d) told is) (sym stops) so_far)

pub word-goes : (text : List ℕ) (words : List Span) (stuck : Option ℕ) (p q : Progress) (i : ℕ) (d : Span) (told : Token) (all : Result Statement Refusal)
    → i < length words → told ≡ capped (token_in text (get_or words i d))
    → (let r : Stepped = Ok q in r ≡ step p told)
    → read_on text stuck p (drop i words) ≡ all → read_on text stuck q (drop (i + 1) words) ≡ all
word-goes text words stuck p q i d told all within is goes so_far =
    read-goes statements reader text words stuck p q i d told all within (same-step text p (get_or words i d) told is) (sym goes) so_far
