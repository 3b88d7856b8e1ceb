-- the scan accepts exactly the words, and finds the longest
use Rattle.std.proofs.Common.{◌≡◌, ℕ, zero, suc, ◌+◌, ◌<◌, ◌≤◌, Option, Some, None, Bool, true, false, ◌||◌, if◌then◌else◌, List, [], ◌∷◌, length, IfSome, IfNone, take, drop, get_or, map, ◌++◌, refl, sym, ◌∙◌, ap, subst, arith}
use Rattle.std.specs.List.{list_all}
use Rattle.std.proofs.lemmas.List.{at_drop_more}
use Rattle.rm_words.specs.declared.class.Class.{Class}
use Rattle.rm_words.specs.declared.class.Class.TheVariants as class
use Rattle.rm_words.specs.declared.scan.Scan.{Scan}
use Rattle.rm_words.specs.declared.scan.Scan.TheVariants as scan
use Rattle.rm_words.specs.Class.{class_of}
use Rattle.rm_words.specs.Word.{goes_on, is_digit, closes, is_symbol, are_word, is_word, IsLongest, HasNoWord}
use Rattle.rm_words.specs.Scan.{step, accepts, is_dead}

-- where the scan is behind these bytes
abbrev pub runs : Scan → List Class → Scan
runs s [] = s
runs s (k ∷ ks) = runs (step s k) ks

pub runs-append : (s : Scan) (ks more : List Class) → runs s (ks ++ more) ≡ runs (runs s ks) more
runs-append s [] more = refl
runs-append s (k ∷ ks) more = runs-append (step s k) ks more

-- behind these n bytes the longest word so far has `best` bytes: how many it has at the text's end
abbrev pub longest_from : Scan → ℕ → Option ℕ → List ℕ → Option ℕ
longest_from s n best [] = best
longest_from s n best (c ∷ cs) =
    let next = step s (class_of c) in longest_from next (n + 1) (if accepts next then Some (n + 1) else best) cs

abbrev pub longest : List ℕ → Option ℕ
longest text = longest_from scan.Start 0 None text

dead_longest : (n : ℕ) (best : Option ℕ) (cs : List ℕ) → longest_from scan.Dead n best cs ≡ best
dead_longest n best [] = refl
dead_longest n best (c ∷ cs) = dead_longest (n + 1) best cs

dead_turn : (t : Scan) (n : ℕ) (best : Option ℕ) (cs : List ℕ) → is_dead t ≡ true
    → longest_from t (n + 1) (if accepts t then Some (n + 1) else best) cs ≡ best
dead_turn scan.Dead n best cs e = dead_longest (n + 1) best cs
dead_turn scan.Start n best cs e = cc
dead_turn scan.Bare n best cs e = cc
dead_turn scan.Number n best cs e = cc
dead_turn scan.Open n best cs e = cc
dead_turn scan.Half n best cs e = cc
dead_turn scan.Less n best cs e = cc
dead_turn scan.Greater n best cs e = cc
dead_turn scan.Whole n best cs e = cc

-- where the scan dies the longest word is the one that it has
pub dead_found : (s : Scan) (i : ℕ) (best : Option ℕ) (text : List ℕ) (c : ℕ) → i < length text → c ≡ get_or text i 0
    → is_dead (step s (class_of c)) ≡ true → longest_from s i best (drop i text) ≡ best
dead_found s i best text c h is e =
    at_drop_more (longest_from s i best) text i 0 h
    ∙ ap (λ x. longest_from s i best (x ∷ drop (i + 1) text)) (sym is)
    ∙ dead_turn (step s (class_of c)) i best (drop (i + 1) text) e

pub dead_runs : (ks : List Class) → accepts (runs scan.Dead ks) ≡ false
dead_runs [] = refl
dead_runs (k ∷ ks) = dead_runs ks

bare_runs : (ks : List Class) → accepts (runs scan.Bare ks) ≡ list_all goes_on ks
bare_runs [] = refl
bare_runs (class.Letter ∷ ks) = bare_runs ks
bare_runs (class.Digit ∷ ks) = bare_runs ks
bare_runs (class.Quote ∷ ks) = dead_runs ks
bare_runs (class.Blank ∷ ks) = dead_runs ks
bare_runs (class.Less ∷ ks) = dead_runs ks
bare_runs (class.Greater ∷ ks) = dead_runs ks
bare_runs (class.Equal ∷ ks) = dead_runs ks
bare_runs (class.Mark ∷ ks) = dead_runs ks
bare_runs (class.Other ∷ ks) = dead_runs ks

number_runs : (ks : List Class) → accepts (runs scan.Number ks) ≡ list_all is_digit ks
number_runs [] = refl
number_runs (class.Digit ∷ ks) = number_runs ks
number_runs (class.Letter ∷ ks) = dead_runs ks
number_runs (class.Quote ∷ ks) = dead_runs ks
number_runs (class.Blank ∷ ks) = dead_runs ks
number_runs (class.Less ∷ ks) = dead_runs ks
number_runs (class.Greater ∷ ks) = dead_runs ks
number_runs (class.Equal ∷ ks) = dead_runs ks
number_runs (class.Mark ∷ ks) = dead_runs ks
number_runs (class.Other ∷ ks) = dead_runs ks

-- where the scan is within a quoted text
abbrev quoting : Bool → Scan
quoting false = scan.Open
quoting true = scan.Half

quoted_runs : (half : Bool) (ks : List Class) → accepts (runs (quoting half) ks) ≡ closes half ks
quoted_runs false [] = refl
quoted_runs true [] = refl
quoted_runs false (class.Quote ∷ ks) = quoted_runs true ks
quoted_runs false (class.Letter ∷ ks) = quoted_runs false ks
quoted_runs false (class.Digit ∷ ks) = quoted_runs false ks
quoted_runs false (class.Blank ∷ ks) = quoted_runs false ks
quoted_runs false (class.Less ∷ ks) = quoted_runs false ks
quoted_runs false (class.Greater ∷ ks) = quoted_runs false ks
quoted_runs false (class.Equal ∷ ks) = quoted_runs false ks
quoted_runs false (class.Mark ∷ ks) = quoted_runs false ks
quoted_runs false (class.Other ∷ ks) = quoted_runs false ks
quoted_runs true (class.Quote ∷ ks) = quoted_runs false ks
quoted_runs true (class.Letter ∷ ks) = dead_runs ks
quoted_runs true (class.Digit ∷ ks) = dead_runs ks
quoted_runs true (class.Blank ∷ ks) = dead_runs ks
quoted_runs true (class.Less ∷ ks) = dead_runs ks
quoted_runs true (class.Greater ∷ ks) = dead_runs ks
quoted_runs true (class.Equal ∷ ks) = dead_runs ks
quoted_runs true (class.Mark ∷ ks) = dead_runs ks
quoted_runs true (class.Other ∷ ks) = dead_runs ks

less_runs : (ks : List Class) → accepts (runs scan.Less ks) ≡ is_symbol (class.Less ∷ ks)
less_runs [] = refl
less_runs (class.Equal ∷ []) = refl
less_runs (class.Greater ∷ []) = refl
less_runs (class.Equal ∷ k ∷ ks) = dead_runs ks
less_runs (class.Greater ∷ k ∷ ks) = dead_runs ks
less_runs (class.Letter ∷ ks) = dead_runs ks
less_runs (class.Digit ∷ ks) = dead_runs ks
less_runs (class.Quote ∷ ks) = dead_runs ks
less_runs (class.Blank ∷ ks) = dead_runs ks
less_runs (class.Less ∷ ks) = dead_runs ks
less_runs (class.Mark ∷ ks) = dead_runs ks
less_runs (class.Other ∷ ks) = dead_runs ks

greater_runs : (ks : List Class) → accepts (runs scan.Greater ks) ≡ is_symbol (class.Greater ∷ ks)
greater_runs [] = refl
greater_runs (class.Equal ∷ []) = refl
greater_runs (class.Equal ∷ k ∷ ks) = dead_runs ks
greater_runs (class.Greater ∷ ks) = dead_runs ks
greater_runs (class.Letter ∷ ks) = dead_runs ks
greater_runs (class.Digit ∷ ks) = dead_runs ks
greater_runs (class.Quote ∷ ks) = dead_runs ks
greater_runs (class.Blank ∷ ks) = dead_runs ks
greater_runs (class.Less ∷ ks) = dead_runs ks
greater_runs (class.Mark ∷ ks) = dead_runs ks
greater_runs (class.Other ∷ ks) = dead_runs ks

pub or_two_false : (b : Bool) → b ≡ b || false || false
or_two_false true = refl
or_two_false false = refl

pub or_three_false : (b : Bool) → b ≡ b || false || false || false
or_three_false true = refl
or_three_false false = refl

pub or_false : (b : Bool) → b ≡ b || false
or_false true = refl
or_false false = refl

pub word_runs : (ks : List Class) → accepts (runs scan.Start ks) ≡ are_word ks
word_runs [] = refl
word_runs (class.Letter ∷ ks) = bare_runs ks ∙ or_three_false (list_all goes_on ks)
word_runs (class.Digit ∷ ks) = number_runs ks ∙ or_two_false (list_all is_digit ks)
word_runs (class.Quote ∷ ks) = quoted_runs false ks ∙ or_false (closes false ks)
word_runs (class.Less ∷ ks) = less_runs ks
word_runs (class.Greater ∷ ks) = greater_runs ks
word_runs (class.Equal ∷ []) = refl
word_runs (class.Equal ∷ k ∷ ks) = dead_runs ks
word_runs (class.Mark ∷ []) = refl
word_runs (class.Mark ∷ k ∷ ks) = dead_runs ks
word_runs (class.Blank ∷ ks) = dead_runs ks
word_runs (class.Other ∷ ks) = dead_runs ks

-- whether the scan accepts the first m bytes
abbrev reads : Scan → ℕ → List ℕ → Bool
reads s m text = accepts (runs s (map class_of (take m text)))

reads_word : (m : ℕ) (text : List ℕ) → reads scan.Start m text ≡ is_word (take m text)
reads_word m text = word_runs (map class_of (take m text))

-- what the scan finds from here on: the longest front that it accepts, or else what it had
data Finds (s : Scan) (n : ℕ) (best : Option ℕ) (text : List ℕ) (found : Option ℕ) : Type 0 where
  later : (k : ℕ) → found ≡ Some (n + suc k) → suc k ≤ length text → reads s (suc k) text ≡ true
      → ((m : ℕ) → suc k < m → m ≤ length text → reads s m text ≡ false) → Finds s n best text found
  kept : found ≡ best → ((m : ℕ) → 0 < m → m ≤ length text → reads s m text ≡ false) → Finds s n best text found

finds_more : (s : Scan) (n : ℕ) (best : Option ℕ) (c : ℕ) (cs : List ℕ) (b : Bool) (found : Option ℕ)
    → accepts (step s (class_of c)) ≡ b
    → Finds (step s (class_of c)) (n + 1) (if b then Some (n + 1) else best) cs found
    → Finds s n best (c ∷ cs) found
finds_more s n best c cs b found e (later k is fits word rest) =
    let more : n + 1 + suc k ≡ n + suc (suc k) = omega arith in
    later (suc k) (is ∙ ap (λ x. Some x) more) (omega arith) word (after s c cs k rest)
  where
    after : (s : Scan) (c : ℕ) (cs : List ℕ) (k : ℕ)
        → ((m : ℕ) → suc k < m → m ≤ length cs → reads (step s (class_of c)) m cs ≡ false)
        → (m : ℕ) → suc (suc k) < m → m ≤ length (c ∷ cs) → reads s m (c ∷ cs) ≡ false
    after s c cs k rest zero above within = absurd (omega arith)
    after s c cs k rest (suc m) above within = rest m (omega arith) (omega arith)
finds_more s n best c cs true found e (kept is rest) =
    later 0 is (omega arith) e (after s c cs rest)
  where
    after : (s : Scan) (c : ℕ) (cs : List ℕ)
        → ((m : ℕ) → 0 < m → m ≤ length cs → reads (step s (class_of c)) m cs ≡ false)
        → (m : ℕ) → 1 < m → m ≤ length (c ∷ cs) → reads s m (c ∷ cs) ≡ false
    after s c cs rest zero above within = absurd (omega arith)
    after s c cs rest (suc m) above within = rest m (omega arith) (omega arith)
finds_more s n best c cs false found e (kept is rest) = kept is (after s c cs e rest)
  where
    after : (s : Scan) (c : ℕ) (cs : List ℕ)
        → accepts (step s (class_of c)) ≡ false
        → ((m : ℕ) → 0 < m → m ≤ length cs → reads (step s (class_of c)) m cs ≡ false)
        → (m : ℕ) → 0 < m → m ≤ length (c ∷ cs) → reads s m (c ∷ cs) ≡ false
    after s c cs e rest zero above within = absurd (omega arith)
    after s c cs e rest (suc zero) above within = e
    after s c cs e rest (suc (suc m)) above within = rest (suc m) (omega arith) (omega arith)

finds : (s : Scan) (n : ℕ) (best : Option ℕ) (text : List ℕ) → Finds s n best text (longest_from s n best text)
finds s n best [] = kept refl (λ m above within. absurd (omega arith))
finds s n best (c ∷ cs) =
    let next = step s (class_of c) in
    finds_more s n best c cs (accepts next) _ refl (finds next (n + 1) (if accepts next then Some (n + 1) else best) cs)

some_same : (m n : ℕ) → Some m ≡ Some n → m ≡ n
some_same m n e = cc

found_longest : (text : List ℕ) (n : ℕ) (found : Option ℕ) → found ≡ Some n → Finds scan.Start 0 None text found → IsLongest text n
found_longest text n found is (later k more fits word rest) =
    let same : suc k ≡ n = omega (arith, some_same (0 + suc k) n (sym more ∙ is)) in
    subst (λ x. IsLongest text x) same (record {
      fits = fits;
      word = sym (reads_word (suc k) text) ∙ word;
      longest = λ m above within. sym (reads_word m text) ∙ rest m above within;
    })
found_longest text n found is (kept none rest) = let no_found : None ≡ Some n = sym none ∙ is in absurd cc

none_found : (text : List ℕ) (found : Option ℕ) → found ≡ None → Finds scan.Start 0 None text found → HasNoWord text
none_found text found is (later k more fits word rest) = let some_found : None ≡ Some (0 + suc k) = sym is ∙ more in absurd cc
none_found text found is (kept none rest) = by text rest
  where
    by : (text : List ℕ) → ((m : ℕ) → 0 < m → m ≤ length text → reads scan.Start m text ≡ false) → HasNoWord text
    by text rest zero within = refl
    by text rest (suc m) within = sym (reads_word (suc m) text) ∙ rest (suc m) (omega arith) within

-- what the scan of a whole text finds
pub longest_word : (text : List ℕ) (found : Option ℕ) → longest text ≡ found → IfSome found (IsLongest text)
longest_word text None is = tt
longest_word text (Some n) is = found_longest text n (longest text) is (finds scan.Start 0 None text)

pub longest_none : (text : List ℕ) (found : Option ℕ) → longest text ≡ found → IfNone found (HasNoWord text)
longest_none text None is = none_found text (longest text) is (finds scan.Start 0 None text)
longest_none text (Some n) is = tt

pub is_word_not_empty : (text : List ℕ) (n : ℕ) → is_word (take n text) ≡ true → 0 < n
is_word_not_empty text zero h = absurd cc
is_word_not_empty text (suc n) h = omega arith

pub longest_moves : (text : List ℕ) (found : Option ℕ) → longest text ≡ found → IfSome found (λ n. 0 < n)
longest_moves text None is = tt
longest_moves text (Some n) is = is_word_not_empty text n (longest_word text (Some n) is).word
