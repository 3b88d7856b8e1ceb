-- the function that cuts a text gives its cut
use Rattle.std.proofs.Common.{◌≡◌, ◌≢◌, ℕ, zero, suc, ◌+◌, ◌≤◌, Option, Some, None, Bool, true, false, if◌then◌else◌, inl, inr, List, [], ◌∷◌, length, take, drop, refl, sym, ◌∙◌, ap, subst, arith}
use Rattle.std.proofs.lemmas.List.{length-drop}
use Rattle.rm_words.specs.declared.class.Class.{Class}
use Rattle.rm_words.specs.declared.class.Class.TheVariants as class
use Rattle.rm_words.specs.declared.spans.Cut.{Cut}
use Rattle.rm_words.specs.declared.spans.Span.{Span}
use Rattle.rm_words.specs.Class.{class_of}
use Rattle.rm_words.specs.Word.{is_word, IsLongest, HasNoWord}
use Rattle.rm_words.specs.Cut.{IsCut, ends, blank, word, none}
use Rattle.rm_words.specs.CutOf.{cut_from, cut_of, from_word, longest, longest_within, parts}
use Rattle.rm_words.proofs.Scans.{is_word_not_empty}
use Rattle.rm_words.proofs.CutLaws.{below_or_not, same_cut}

-- no bytes from a number on, up to a bound, are a word
abbrev NoneFrom : List ℕ → ℕ → ℕ → Type 0
NoneFrom text least most = (m : ℕ) → least ≤ m → m ≤ most → is_word (take m text) ≡ false

-- what is found up to a bound
abbrev Found : List ℕ → ℕ → Option ℕ → Type 0
Found text bound None = NoneFrom text 0 bound
Found text bound (Some n) = (n ≤ bound) × (is_word (take n text) ≡ true) × NoneFrom text (n + 1) bound

none-zero : (text : List ℕ) → NoneFrom text 0 0
none-zero text zero from to = refl
none-zero text (suc m) from to = absurd (omega arith)

none-more : (text : List ℕ) (least n : ℕ) → is_word (take (suc n) text) ≡ false → NoneFrom text least n → NoneFrom text least (suc n)
none-more text least n last before m from to =
    elim (below_or_not n m) [
      | inl h ↦ let same : suc n ≡ m = omega arith in subst (λ k. is_word (take k text) ≡ false) same last
      | inr h ↦ before m from h
    ]

found-turn : (text : List ℕ) (n : ℕ) (b : Bool) (before : Option ℕ) → is_word (take (suc n) text) ≡ b → Found text n before
    → Found text (suc n) (if b then Some (suc n) else before)
found-turn text n true before is found = (omega arith, is, λ m from to. absurd (omega arith))
found-turn text n false None is found = none-more text 0 n is found
found-turn text n false (Some k) is found = (omega (arith, found.0), found.1, none-more text (k + 1) n is found.2)

within-found : (bound : ℕ) (text : List ℕ) → Found text bound (longest_within bound text)
within-found zero text = none-zero text
within-found (suc n) text = found-turn text n (is_word (take (suc n) text)) (longest_within n text) refl (within-found n text)

-- what the longest word says of the text
abbrev Tells : List ℕ → Option ℕ → Type 0
Tells text None = HasNoWord text
Tells text (Some n) = IsLongest text n

found-tells : (text : List ℕ) (found : Option ℕ) → Found text (length text) found → Tells text found
found-tells text None is = λ n within. is n (omega arith) within
found-tells text (Some n) is = record {
  fits = is.0;
  word = is.1;
  longest = λ m above within. is.2 m (omega (arith, above)) within;
}

parts-true : (k : Class) → parts k ≡ true → k ≡ class.Blank
parts-true class.Blank e = refl
parts-true class.Letter e = cc
parts-true class.Digit e = cc
parts-true class.Quote e = cc
parts-true class.Less e = cc
parts-true class.Greater e = cc
parts-true class.Equal e = cc
parts-true class.Mark e = cc
parts-true class.Other e = cc

parts-false : (k : Class) → parts k ≡ false → k ≢ class.Blank
parts-false k e is = let both : true ≡ false = sym (ap parts is) ∙ e in absurd cc

-- the cut of a text from a place on
abbrev IsCutBy : ℕ → List ℕ → Cut → Type 0
IsCutBy at text cut = IsCut at text cut.words cut.stuck

word-turn : (at c : ℕ) (rest : List ℕ) (found : Option ℕ) (next : ℕ → Cut) → class_of c ≢ class.Blank → Tells (c ∷ rest) found
    → ((n : ℕ) → IsLongest (c ∷ rest) n → IsCutBy (at + n) (drop n (c ∷ rest)) (next n))
    → IsCutBy at (c ∷ rest) (from_word at found next)
word-turn at c rest None next not_blank tells more = none at c rest not_blank tells
word-turn at c rest (Some n) next not_blank tells more =
    word at (c ∷ rest) n (next n).words (next n).stuck tells (more n tells)

blank-turn : (at c : ℕ) (rest : List ℕ) (b : Bool) (behind here : Cut) → parts (class_of c) ≡ b
    → IsCutBy (at + 1) rest behind → (class_of c ≢ class.Blank → IsCutBy at (c ∷ rest) here)
    → IsCutBy at (c ∷ rest) (if b then behind else here)
blank-turn at c rest true behind here is cut other = blank at c rest behind.words behind.stuck (parts-true (class_of c) is) cut
blank-turn at c rest false behind here is cut other = other (parts-false (class_of c) is)

from-cut : (steps at : ℕ) (text : List ℕ) → length text ≤ steps → IsCutBy at text (cut_from steps at text)
from-cut zero at [] h = ends at
from-cut zero at (c ∷ rest) h = absurd (omega arith)
from-cut (suc steps) at [] h = ends at
from-cut (suc steps) at (c ∷ rest) h =
    let text : List ℕ = c ∷ rest in
    let next : ℕ → Cut = λ n. cut_from steps (at + n) (drop n text) in
    blank-turn at c rest (parts (class_of c)) (cut_from steps (at + 1) rest) (from_word at (longest text) next) refl
    (from-cut steps (at + 1) rest (omega arith))
    (λ not_blank.
    word-turn at c rest (longest text) next not_blank (found-tells text (longest text) (within-found (length text) text))
    (λ n is. from-cut steps (at + n) (drop n text)
    (omega (arith, h, length-drop n text, is.fits, is_word_not_empty text n is.word))))

pub cut_of-cut : (text : List ℕ) → IsCut 0 text (cut_of text).words (cut_of text).stuck
cut_of-cut text = from-cut (length text) 0 text (omega arith)

pub cut_of-words : (text : List ℕ) (spans : List Span) (stuck : Option ℕ) → IsCut 0 text spans stuck
    → ((cut_of text).words ≡ spans) × ((cut_of text).stuck ≡ stuck)
cut_of-words text spans stuck cut = same_cut 0 text (cut_of text).words spans (cut_of text).stuck stuck (cut_of-cut text) cut

-- a cut of the text is what the function gives
pub is_cut_of : (text : List ℕ) (cut : Cut) → IsCut 0 text cut.words cut.stuck → cut ≡ cut_of text
is_cut_of text cut is =
    let same = cut_of-words text cut.words cut.stuck is in
    λ i. record { words = sym same.0 i; stuck = sym same.1 i }
