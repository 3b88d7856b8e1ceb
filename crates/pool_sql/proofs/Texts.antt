-- laws of whole texts
use Rattle.std.proofs.Common.{◌≡◌, ◌↔◌, ℕ, true, Ok, Err, List, [], ◌∷◌, ◌++◌, map, refl, sym, ◌∙◌, ap, subst}
use Rattle.rm_base.specs.declared.refusal.Refusal.{Refusal}
use Rattle.rm_base.specs.declared.statement.Statement.{Statement}
use Rattle.rm_base.specs.Ranges.{is_statement_in_range}
use Rattle.rm_base.specs.WellFormed.{IsWellFormed}
use Rattle.rm_base.proofs.WellFormed.{well_formed-in_range}
use Rattle.rm_words.specs.declared.spans.Span.{Span}
use Rattle.rm_words.specs.Cut.{AreWords, joined, spans_from, word_at, words_at}
use Rattle.rm_words.specs.Token.{Token, token_of}
use Rattle.rm_words.proofs.Joins.{joined_is_cut, joined_words}
use Rattle.rm_words.proofs.Readings.{read_of-spells as reads-spells, read_of-refused as reads-refused}
use Rattle.pool_sql.specs.Grammar.{IsFront, Spells}
use Rattle.pool_sql.specs.Machine.{reader}
use Rattle.pool_sql.specs.Text.{BeginsText, IsRefused, SpellsText, statements, tokens_in}
use Rattle.pool_sql.specs.Reading.{read_of}
use Rattle.pool_sql.proofs.Fronts.{said-front}
use Rattle.pool_sql.proofs.Readings.{reads_statements}
use Rattle.rm_words.proofs.Results.{ok_is, err_is, err_ok}
use Rattle.pool_sql.proofs.Rights.{spelled-well_formed}
use Rattle.rm_words.proofs.Saying.{AllSay, AllSay-append, are_words, tokens_said, words_say}

-- a text of words that say a statement
tokens_in-words : (text : List ℕ) (spans : List Span) → tokens_in text spans ≡ map token_of (words_at text spans)
tokens_in-words text [] = refl
tokens_in-words text (span ∷ spans) = ap (λ l. token_of (word_at text span) ∷ l) (tokens_in-words text spans)

pub said-spells : (st : Statement) (ws : List (List ℕ)) (ts : List Token) → Spells ts st → AllSay ws ts → SpellsText (joined ws) st
said-spells st ws ts spells says =
    let text : List ℕ = joined ws in
    let spans = spans_from 0 ws in
    let same : tokens_in text spans ≡ ts =
    tokens_in-words text spans ∙ ap (map token_of) (joined_words text 0 ws refl) ∙ tokens_said ws ts says in
    (spans, joined_is_cut 0 ws (are_words ws ts says), subst (λ l. Spells l st) (sym same) spells)

pub read_of-spells : (text : List ℕ) (st : Statement) → read_of text ≡ Ok st ↔ SpellsText text st
read_of-spells text st = reads-spells statements reader reads_statements text st

pub read_of-refused : (text : List ℕ) (why : Refusal) → read_of text ≡ Err why ↔ IsRefused text why
read_of-refused text why = reads-refused statements reader reads_statements text why

pub text-one_statement : (text : List ℕ) (a b : Statement) → SpellsText text a → SpellsText text b → a ≡ b
text-one_statement text a b x y = ok_is a b (sym ((read_of-spells text a).1 x) ∙ (read_of-spells text b).1 y)

pub text-one_refusal : (text : List ℕ) (a b : Refusal) → IsRefused text a → IsRefused text b → a ≡ b
text-one_refusal text a b x y = err_is a b (sym ((read_of-refused text a).1 x) ∙ (read_of-refused text b).1 y)

pub text-refused_spells_none : (text : List ℕ) (why : Refusal) (st : Statement) → IsRefused text why → SpellsText text st → ⊥
text-refused_spells_none text why st x y = err_ok why st (sym ((read_of-refused text why).1 x) ∙ (read_of-spells text st).1 y)

-- what some text spells is well formed
pub spells-well_formed : (text : List ℕ) (st : Statement) → SpellsText text st → IsWellFormed st
spells-well_formed text st is = spelled-well_formed (tokens_in text is.0) st is.2

pub read_of-in_range : (text : List ℕ) (st : Statement) → read_of text ≡ Ok st → is_statement_in_range st ≡ true
read_of-in_range text st h = well_formed-in_range st (spells-well_formed text st ((read_of-spells text st).0 h))

-- words with which some statement begins are the first words of a text that is one
pub front-text : (ws : List (List ℕ)) → AreWords ws → IsFront (map token_of ws) → BeginsText ws
front-text ws are is_front =
    let front = said-front (map token_of ws) is_front in (
      front.words,
      front.statement,
      said-spells front.statement (ws ++ front.words) (map token_of ws ++ front.rest) front.spells
          (AllSay-append ws front.words (map token_of ws) front.rest (words_say ws are) front.says),
    )
