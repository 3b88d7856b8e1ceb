-- how a grammar over words reads a text: what the text says, or why it is refused
use Rattle.std.specs.Prelude.{ℕ, Option, Some, None, Result, Ok, Err, List, [], ◌∷◌, ◌++◌, length, map}
use Rattle.rm_words.specs.declared.spans.Span.{Span}
use Rattle.rm_words.specs.Cut.{IsCut}
use Rattle.rm_words.specs.CutOf.{cut_of}

-- a grammar over words of a type W, which say things of a type S: a word is refused for a reason of a
-- type E, a text by a refusal of a type R
pub record Grammar (W S E R : Type 0) : Type 1 where
  -- the word at a span of a text
  pub word_in : List ℕ → Span → W
  -- the words say this
  pub Spells : List W → S → Type 0
  -- the words may stand at the front of a text
  pub IsFront : List W → Type 0
  -- why no text has a word behind a front
  pub IsWhy : List W → W → E → Type 0
  -- the refusal of a word that starts at a place
  pub refusal_at : ℕ → E → R
  -- the refusal of a place where a text has no word, or where it ends too early
  pub syntax : ℕ → R

-- the words at the spans
abbrev pub words_in : {W S E R : Type 0} → Grammar W S E R → List ℕ → List Span → List W
words_in g text spans = map (g.word_in text) spans

-- the words of the text say this
abbrev pub SpellsText : {W S E R : Type 0} → Grammar W S E R → List ℕ → S → Type 0
SpellsText g text said = (spans : List Span) × IsCut 0 text spans None × g.Spells (words_in g text spans) said

-- why a text says nothing: for its first word that no text has behind the words before it, for the
-- place where there is no word, or since it ends too early
pub data IsRefused {W S E R : Type 0} (g : Grammar W S E R) : List ℕ → R → Type 0 where
  at_word : (text : List ℕ) (front rest : List Span) (span : Span) (stuck : Option ℕ) (why : E)
      → IsCut 0 text (front ++ span ∷ rest) stuck
      → g.IsFront (words_in g text front)
      → (g.IsFront (words_in g text front ++ g.word_in text span ∷ []) → ⊥)
      → g.IsWhy (words_in g text front) (g.word_in text span) why
      → IsRefused g text (g.refusal_at span.start why)
  at_gap : (text : List ℕ) (spans : List Span) (place : ℕ)
      → IsCut 0 text spans (Some place)
      → g.IsFront (words_in g text spans)
      → IsRefused g text (g.syntax place)
  at_end : (text : List ℕ) (spans : List Span)
      → IsCut 0 text spans None
      → g.IsFront (words_in g text spans)
      → ((said : S) → g.Spells (words_in g text spans) said → ⊥)
      → IsRefused g text (g.syntax (length text))

-- a reader of words of a type W, one by one: its states are of a type P
pub record Reader (W S E P : Type 0) : Type 0 where
  -- before the first word
  pub start : P
  -- one word more, or why it ends the reading
  pub step : P → W → Result P E
  -- what the words so far say, if they say something
  pub finish : P → Option S

-- what is left is read from where a word led
abbrev pub onward : {P E : Type 0} → Result P E → (P → Result P E) → Result P E
onward (Ok q) next = next q
onward (Err why) next = Err why

-- all the words
abbrev pub run : {W S E P : Type 0} → Reader W S E P → P → List W → Result P E
run m p [] = Ok p
run m p (w ∷ ws) = onward (m.step p w) (λ q. run m q ws)

-- behind the last word of a text that is cut whole
abbrev pub finished : {W S E R : Type 0} → Grammar W S E R → List ℕ → Option S → Result S R
finished g text (Some said) = Ok said
finished g text None = Err (g.syntax (length text))

-- behind the last word
abbrev pub ends : {W S E R P : Type 0} → Grammar W S E R → Reader W S E P → List ℕ → Option ℕ → P → Result S R
ends g m text (Some place) p = Err (g.syntax place)
ends g m text None p = finished g text (m.finish p)

-- the words behind a span are read on, or the word at it is refused
abbrev pub next_word : {W S E R P : Type 0} → Grammar W S E R → Span → Result P E → (P → Result S R) → Result S R
next_word g span (Ok q) next = next q
next_word g span (Err why) next = Err (g.refusal_at span.start why)

-- the words that are left
abbrev pub read_on : {W S E R P : Type 0} → Grammar W S E R → Reader W S E P → List ℕ → Option ℕ → P → List Span → Result S R
read_on g m text stuck p [] = ends g m text stuck p
read_on g m text stuck p (span ∷ spans) =
    next_word g span (m.step p (g.word_in text span)) (λ q. read_on g m text stuck q spans)

-- what the reader makes of a text
abbrev pub read_of : {W S E R P : Type 0} → Grammar W S E R → Reader W S E P → List ℕ → Result S R
read_of g m text = let cut = cut_of text in read_on g m text cut.stuck m.start cut.words
