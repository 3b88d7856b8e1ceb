-- what the first and the last byte of a word say
use Rattle.std.proofs.Common.{◌≡◌, ◌≢◌, ℕ, zero, suc, ◌+◌, ◌-◌, ◌<◌, ◌≤◌, Bool, true, false, ◌&&◌, List, [], ◌∷◌, ◌++◌, length, take, drop, map, get_or, refl, sym, ◌∙◌, ap, subst, arith, drop-cons, add-one}
use Rattle.std.specs.List.{list_all}
use Rattle.std.specs.Str.{IsUtf8, IsCharBoundary}
use Rattle.std.proofs.Math.Seq.{take-suc}
use Rattle.std.proofs.lemmas.List.{get_or-drop, length-drop, length-take-le, map-append}
use Rattle.std.proofs.lemmas.Str.{IsCharBoundary-before_ascii, IsCharBoundary-after_ascii}
use Rattle.rm_words.specs.declared.class.Class.{Class}
use Rattle.rm_words.specs.declared.class.Class.TheVariants as class
use Rattle.rm_words.specs.declared.scan.Scan.{Scan}
use Rattle.rm_words.specs.declared.scan.Scan.TheVariants as scan
use Rattle.rm_words.specs.declared.spans.Span.{Span}
use Rattle.rm_words.specs.Class.{class_of}
use Rattle.rm_words.specs.Word.{is_word, are_word, is_digit}
use Rattle.rm_words.specs.Scan.{step, accepts}
use Rattle.rm_words.specs.Cut.{IsWordOf, word_at}
use Rattle.rm_words.specs.Token.{AreDigits, Sign, inner, symbol_of, token_by}
use Rattle.rm_words.proofs.Classes.{known_ascii}
use Rattle.rm_words.proofs.Scans.{runs, runs-append, word_runs, or_two_false}
use Rattle.rm_words.proofs.CutLaws.{not_both}

pub and_true : (a b : Bool) → (a && b) ≡ true → (a ≡ true) × (b ≡ true)
and_true true b h = (refl, h)
and_true false b h = absurd cc

first_known : (w : List ℕ) → is_word w ≡ true → class_of (get_or w 0 0) ≢ class.Other
first_known [] h = absurd cc
first_known (c ∷ cs) h =
    λ e. not_both (is_word (c ∷ cs)) h (ap (λ k. are_word (k ∷ map class_of cs)) e)

step_other : (s : Scan) → accepts (step s class.Other) ≡ false
step_other scan.Start = refl
step_other scan.Bare = refl
step_other scan.Number = refl
step_other scan.Open = refl
step_other scan.Half = refl
step_other scan.Less = refl
step_other scan.Greater = refl
step_other scan.Whole = refl
step_other scan.Dead = refl

last_known : (front : List ℕ) (c : ℕ) → is_word (front ++ c ∷ []) ≡ true → class_of c ≢ class.Other
last_known front c h = λ e.
    let ks = map class_of front in
    let run : accepts (step (runs scan.Start ks) (class_of c)) ≡ true =
    ap accepts (sym (runs-append scan.Start ks (class_of c ∷ [])))
    ∙ word_runs (ks ++ class_of c ∷ [])
    ∙ ap are_word (sym (map-append class_of front (c ∷ [])))
    ∙ h in
    not_both (accepts (step (runs scan.Start ks) (class_of c))) run
    (ap (λ k. accepts (step (runs scan.Start ks) k)) e ∙ step_other (runs scan.Start ks))

-- a word by its first byte, and how many stand behind it
word_cons : (text : List ℕ) (span : Span) (n : ℕ) → span.start < length text → span.start + suc n ≡ span.end
    → word_at text span ≡ get_or text span.start 0 ∷ take n (drop (span.start + 1) text)
word_cons text span n within is =
    let width : span.end - span.start ≡ suc n = omega arith in
    let here : drop span.start text ≡ get_or text span.start 0 ∷ drop (span.start + 1) text = rw (add-one, drop-cons text span.start 0) in
    ap (λ k. take k (drop span.start text)) width ∙ ap (λ l. take (suc n) l) here

-- and by its last
word_snoc : (text : List ℕ) (span : Span) (n : ℕ) → span.end ≤ length text → span.start + suc n ≡ span.end
    → word_at text span ≡ take n (drop span.start text) ++ get_or text (span.end - 1) 0 ∷ []
word_snoc text span n within is =
    let width : span.end - span.start ≡ suc n = omega arith in
    let place : span.start + n ≡ span.end - 1 = omega arith in
    let fits : n < length (drop span.start text) = omega (arith, length-drop span.start text) in
    ap (λ k. take k (drop span.start text)) width
    ∙ take-suc (drop span.start text) n 0 fits
    ∙ ap (λ x. take n (drop span.start text) ++ x ∷ [])
    (get_or-drop span.start text n 0 ∙ ap (λ k. get_or text k 0) place)

width_of : (span : Span) → span.start < span.end → (n : ℕ) × (span.start + suc n ≡ span.end)
width_of span h = (span.end - span.start - 1, omega arith)

pub first_byte : (text : List ℕ) (span : Span) → IsWordOf text span → get_or (word_at text span) 0 0 ≡ get_or text span.start 0
first_byte text span is =
    let width : (n : ℕ) × (span.start + suc n ≡ span.end) = width_of span is.rises in
    ap (λ w. get_or w 0 0) (word_cons text span width.0 (omega (arith, is.rises, is.within)) width.1)

pub first_class : (text : List ℕ) (span : Span) (k : Class) → IsWordOf text span → class_of (get_or text span.start 0) ≡ k
    → class_of (get_or (word_at text span) 0 0) ≡ k
first_class text span k is here = ap class_of (first_byte text span is) ∙ here

-- a word may be cut off before its first byte and behind its last
pub start_boundary : (text : List ℕ) (span : Span) → IsWordOf text span → IsCharBoundary text span.start
start_boundary text span is =
    let known : class_of (get_or text span.start 0) ≢ class.Other =
    λ e. first_known (word_at text span) is.word (first_class text span class.Other is e) in
    IsCharBoundary-before_ascii text span.start (omega (arith, is.rises, is.within)) (known_ascii (get_or text span.start 0) known)

last_ascii : (text : List ℕ) (span : Span) → IsWordOf text span → get_or text (span.end - 1) 0 < 128
last_ascii text span is =
    let width : (n : ℕ) × (span.start + suc n ≡ span.end) = width_of span is.rises in
    let last = get_or text (span.end - 1) 0 in
    let front = take width.0 (drop span.start text) in
    known_ascii last (last_known front last (ap is_word (sym (word_snoc text span width.0 is.within width.1)) ∙ is.word))

pub end_boundary : (text : List ℕ) (span : Span) → IsUtf8 text → IsWordOf text span → IsCharBoundary text span.end
end_boundary text span utf8 is =
    let behind : span.end - 1 + 1 ≡ span.end = omega (arith, is.rises) in
    subst (λ k. IsCharBoundary text k) behind
    (IsCharBoundary-after_ascii text (span.end - 1) utf8 (omega (arith, is.rises, is.within)) (last_ascii text span is))

-- and within its quotes
pub inner_start_boundary : (text : List ℕ) (span : Span) → IsUtf8 text → IsWordOf text span → IsCharBoundary text (span.start + 1)
inner_start_boundary text span utf8 is =
    let known : class_of (get_or text span.start 0) ≢ class.Other =
    λ e. first_known (word_at text span) is.word (first_class text span class.Other is e) in
    IsCharBoundary-after_ascii text span.start utf8 (omega (arith, is.rises, is.within)) (known_ascii (get_or text span.start 0) known)

pub inner_end_boundary : (text : List ℕ) (span : Span) → IsWordOf text span → IsCharBoundary text (span.end - 1)
inner_end_boundary text span is =
    IsCharBoundary-before_ascii text (span.end - 1) (omega (arith, is.rises, is.within)) (last_ascii text span is)

pub digit_is : (k : Class) → is_digit k ≡ true → k ≡ class.Digit
digit_is class.Digit h = refl
digit_is class.Letter h = absurd cc
digit_is class.Quote h = absurd cc
digit_is class.Blank h = absurd cc
digit_is class.Less h = absurd cc
digit_is class.Greater h = absurd cc
digit_is class.Equal h = absurd cc
digit_is class.Mark h = absurd cc
digit_is class.Other h = absurd cc

all_digits : (cs : List ℕ) → list_all is_digit (map class_of cs) ≡ true → AreDigits cs
all_digits [] h = tt
all_digits (c ∷ cs) h =
    let both : (is_digit (class_of c) ≡ true) × (list_all is_digit (map class_of cs) ≡ true) =
    and_true (is_digit (class_of c)) (list_all is_digit (map class_of cs)) h in
    (digit_is (class_of c) both.0, all_digits cs both.1)

pub digit_word : (w : List ℕ) → is_word w ≡ true → class_of (get_or w 0 0) ≡ class.Digit → AreDigits w
digit_word [] h e = absurd cc
digit_word (c ∷ cs) h e =
    let ks = map class_of cs in
    (e, all_digits cs (or_two_false (list_all is_digit ks) ∙ sym (ap (λ k. are_word (k ∷ ks)) e) ∙ h))

pub sign_by : (k : Class) (w : List ℕ) → k ≢ class.Letter → k ≢ class.Digit → k ≢ class.Quote → token_by k w ≡ Sign (symbol_of w)
sign_by class.Letter w a b c = absurd (a refl)
sign_by class.Digit w a b c = absurd (b refl)
sign_by class.Quote w a b c = absurd (c refl)
sign_by class.Blank w a b c = refl
sign_by class.Less w a b c = refl
sign_by class.Greater w a b c = refl
sign_by class.Equal w a b c = refl
sign_by class.Mark w a b c = refl
sign_by class.Other w a b c = refl

take_within : (m n : ℕ) (xs : List ℕ) → m ≤ n → take m (take n xs) ≡ take m xs
take_within zero n xs h = refl
take_within (suc m) zero xs h = absurd (omega arith)
take_within (suc m) (suc n) [] h = refl
take_within (suc m) (suc n) (x ∷ xs) h = ap (λ l. x ∷ l) (take_within m n xs (omega arith))

-- what stands between the quotes
pub inner_at : (text : List ℕ) (span : Span) → IsWordOf text span
    → inner (word_at text span) ≡ take (span.end - 1 - (span.start + 1)) (drop (span.start + 1) text)
inner_at text span is =
    let width : (n : ℕ) × (span.start + suc n ≡ span.end) = width_of span is.rises in
    let within : span.start < length text = omega (arith, is.rises, is.within) in
    let rest : List ℕ = drop (span.start + 1) text in
    let fits : width.0 ≤ length rest = omega (arith, is.within, width.1, length-drop (span.start + 1) text) in
    let long : length (take width.0 rest) ≡ width.0 = length-take-le width.0 rest fits in
    let less : suc (length (take width.0 rest)) - 2 ≡ width.0 - 1 = omega arith in
    let shorter : width.0 - 1 ≡ span.end - 1 - (span.start + 1) = omega (arith, width.1) in
    ap inner (word_cons text span width.0 within width.1)
    ∙ ap (λ k. take k (take width.0 rest)) less
    ∙ take_within (width.0 - 1) width.0 rest (omega arith)
    ∙ ap (λ k. take k rest) shorter
