-- the cut of a text, as a function
use Rattle.std.specs.Prelude.{ℕ, zero, suc, ◌+◌, Bool, true, false, if◌then◌else◌, Option, Some, None, List, [], ◌∷◌, length, take, drop}
use Rattle.rm_words.specs.declared.class.Class.{Class}
use Rattle.rm_words.specs.declared.class.Class.TheVariants.{Blank}
use Rattle.rm_words.specs.declared.spans.Cut.{Cut}
use Rattle.rm_words.specs.Class.{class_of}
use Rattle.rm_words.specs.Word.{is_word}

-- the greatest number of bytes, up to a bound, that are a word at the text's front
abbrev pub longest_within : ℕ → List ℕ → Option ℕ
longest_within zero text = None
longest_within (suc n) text = if is_word (take (suc n) text) then Some (suc n) else longest_within n text

-- how many bytes the longest word has with which the text begins
abbrev pub longest : List ℕ → Option ℕ
longest text = longest_within (length text) text

-- a byte of this class parts words
abbrev pub parts : Class → Bool
parts Blank = true
parts _ = false

-- the word of n bytes at a place, and what is cut behind it
abbrev pub with_word : ℕ → ℕ → Cut → Cut
with_word at n cut = record { words = record { start = at; end = at + n } ∷ cut.words; stuck = cut.stuck }

-- the cut goes on behind the word at the place, or ends there
abbrev pub from_word : ℕ → Option ℕ → (ℕ → Cut) → Cut
from_word at None next = record { words = []; stuck = Some at }
from_word at (Some n) next = with_word at n (next n)

-- the cut of a text whose first byte stands at a place, in as many steps at most
abbrev pub cut_from : ℕ → ℕ → List ℕ → Cut
cut_from zero at text = record { words = []; stuck = None }
cut_from (suc steps) at [] = record { words = []; stuck = None }
cut_from (suc steps) at (c ∷ rest) =
    if parts (class_of c) then cut_from steps (at + 1) rest
    else from_word at (longest (c ∷ rest)) (λ n. cut_from steps (at + n) (drop n (c ∷ rest)))

-- the words of a text, and the place where there is no word, if there is one
abbrev pub cut_of : List ℕ → Cut
cut_of text = cut_from (length text) 0 text
