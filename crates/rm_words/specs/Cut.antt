-- how a text is cut into words
use Rattle.std.specs.Prelude.{◌≡◌, ◌≢◌, ℕ, ◌+◌, ◌-◌, ◌<◌, ◌≤◌, Option, Some, None, true, ◌⊎◌, List, [], ◌∷◌, length, take, drop, map, slice_index, All}
use Rattle.std.specs.List.{join_with_byte}
use Rattle.std.specs.Str.{IsCharBoundary}
use Rattle.rm_words.specs.declared.class.Class.TheVariants.{Blank}
use Rattle.rm_words.specs.declared.spans.Span.{Span}
use Rattle.rm_words.specs.declared.spans.WordsError.{WordsError}
use Rattle.rm_words.specs.declared.spans.WordsError.TheVariants.{At, Memory}
use Rattle.rm_words.specs.Class.{class_of}
use Rattle.rm_words.specs.Word.{is_word, IsLongest, HasNoWord}

-- the words of a text whose first byte stands at a place, and the place where there is no word, or
-- None where the whole text is cut
pub data IsCut : ℕ → List ℕ → List Span → Option ℕ → Type 0 where
  ends : (at : ℕ) → IsCut at [] [] None
  blank : (at : ℕ) (c : ℕ) (rest : List ℕ) (spans : List Span) (stuck : Option ℕ)
      → class_of c ≡ Blank → IsCut (at + 1) rest spans stuck → IsCut at (c ∷ rest) spans stuck
  word : (at : ℕ) (text : List ℕ) (n : ℕ) (spans : List Span) (stuck : Option ℕ)
      → IsLongest text n → IsCut (at + n) (drop n text) spans stuck
      → IsCut at text (record { start = at; end = at + n } ∷ spans) stuck
  none : (at : ℕ) (c : ℕ) (rest : List ℕ)
      → class_of c ≢ Blank → HasNoWord (c ∷ rest) → IsCut at (c ∷ rest) [] (Some at)

-- the bytes of a text from a span's start to its end
abbrev pub word_at : List ℕ → Span → List ℕ
word_at text span = take (span.end - span.start) (drop span.start text)

-- the bytes at each of the spans
abbrev pub words_at : List ℕ → List Span → List (List ℕ)
words_at text spans = map (word_at text) spans

-- the cut of the text ends at the error's place; want of memory says nothing of the text
abbrev pub Stops : List ℕ → WordsError → Type 0
Stops text (At at) = (spans : List Span) × IsCut 0 text spans (Some at)
Stops text Memory = Unit {0}

-- the span lies in the text and is not empty, and its bytes are a word
pub record IsWordOf (text : List ℕ) (span : Span) : Type 0 where
  pub rises : span.start < span.end
  pub within : span.end ≤ length text
  pub word : is_word (word_at text span) ≡ true

-- from a place on, each span begins where the one before it ends, or later
abbrev pub Rise : ℕ → List Span → Type 0
Rise at [] = Unit {0}
Rise at (span ∷ spans) = (at ≤ span.start) × (span.start < span.end) × Rise span.end spans

-- one of the spans has the byte at k
abbrev pub IsIn : ℕ → List Span → Type 0
IsIn k [] = ⊥
IsIn k (span ∷ spans) = ((span.start ≤ k) × (k < span.end)) ⊎ IsIn k spans

-- where the cut ends: at the place without a word, or with the text
abbrev pub cut_end : List ℕ → Option ℕ → ℕ
cut_end text None = length text
cut_end text (Some at) = at

-- there is no word at the place, and no blank
pub record IsStuckAt (text : List ℕ) (at : ℕ) : Type 0 where
  pub within : at < length text
  pub not_blank : class_of (slice_index text at) ≢ Blank
  pub no_word : HasNoWord (drop at text)

-- each of these is a word
abbrev pub AreWords : List (List ℕ) → Type 0
AreWords [] = Unit {0}
AreWords (w ∷ ws) = (is_word w ≡ true) × AreWords ws

-- the words with a space between each two
abbrev pub joined : List (List ℕ) → List ℕ
joined ws = join_with_byte 32 ws

-- where the words stand in a text that joins them, the first at a place
abbrev pub spans_from : ℕ → List (List ℕ) → List Span
spans_from at [] = []
spans_from at (w ∷ ws) =
    record { start = at; end = at + length w } ∷ spans_from (at + length w + 1) ws

-- a character of the text begins where each span begins and behind its end, and where the cut ends
pub record OnCharacters (text : List ℕ) (spans : List Span) (stuck : Option ℕ) : Type 0 where
  pub starts : All (λ span. IsCharBoundary text span.start) spans
  pub ends : All (λ span. IsCharBoundary text span.end) spans
  pub stops : IsCharBoundary text (cut_end text stuck)
