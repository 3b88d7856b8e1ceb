-- what holds of every cut
use Rattle.std.proofs.Common.{◌≡◌, ℕ, zero, suc, ◌+◌, ◌-◌, ◌<◌, ◌≤◌, Option, Some, Bool, true, false, ◌⊎◌, inl, inr, List, [], ◌∷◌, length, take, drop, map, get_or, All, refl, sym, ◌∙◌, ap, subst, arith}
use Rattle.std.proofs.lemmas.List.{get_or-drop, length-drop}
use Rattle.std.proofs.lemmas.List.Elements.{All-nil, All-cons}
use Rattle.rm_words.specs.declared.class.Class.TheVariants.{Blank}
use Rattle.rm_words.specs.declared.spans.Span.{Span}
use Rattle.rm_words.specs.Class.{class_of}
use Rattle.rm_words.specs.Word.{is_word, are_word, IsLongest, HasNoWord}
use Rattle.rm_words.specs.Cut.{IsCut, ends, blank, word, none, AreWords, IsWordOf, Rise, IsIn, cut_end, IsStuckAt, word_at, words_at}
use Rattle.rm_words.proofs.Scans.{is_word_not_empty}
use Rattle.rm_words.proofs.Cuts.{drop_drop}

-- no word is empty, and none begins with a blank
no_empty_word : (n : ℕ) → is_word (take n []) ≡ false
no_empty_word zero = refl
no_empty_word (suc n) = refl

no_blank_word : (c : ℕ) (rest : List ℕ) (n : ℕ) → class_of c ≡ Blank → is_word (take n (c ∷ rest)) ≡ false
no_blank_word c rest zero is_blank = refl
no_blank_word c rest (suc n) is_blank = ap (λ k. are_word (k ∷ map class_of (take n rest))) is_blank

pub not_both : (b : Bool) → b ≡ true → b ≡ false → ⊥
not_both b yes_word no_word = cc

same_length : (text : List ℕ) (m n : ℕ) → IsLongest text m → IsLongest text n → m ≡ n
same_length text m n a b =
    let not_below : m < n → ⊥ = λ h. not_both (is_word (take n text)) b.word (a.longest n h b.fits) in
    let not_above : n < m → ⊥ = λ h. not_both (is_word (take m text)) a.word (b.longest m h a.fits) in
    omega (arith, not_below, not_above)

pub same_cut : (at : ℕ) (text : List ℕ) (spans others : List Span) (stuck other : Option ℕ)
    → IsCut at text spans stuck → IsCut at text others other → (spans ≡ others) × (stuck ≡ other)
same_cut at text spans others stuck other (ends _) (ends _) = (refl, refl)
same_cut at text spans others stuck other (ends _) (word _ _ n _ _ longest _) =
    absurd (not_both (is_word (take n [])) longest.word (no_empty_word n))
same_cut at text spans others stuck other (blank _ c rest _ _ is_blank a) (blank _ _ _ _ _ _ b) =
    same_cut (at + 1) rest spans others stuck other a b
same_cut at text spans others stuck other (blank _ c rest _ _ is_blank a) (word _ _ n _ _ longest _) =
    absurd (not_both (is_word (take n (c ∷ rest))) longest.word (no_blank_word c rest n is_blank))
same_cut at text spans others stuck other (blank _ c rest _ _ is_blank a) (none _ _ _ not_blank _) =
    absurd (not_blank is_blank)
same_cut at text spans others stuck other (word _ _ n _ _ longest _) (ends _) =
    absurd (not_both (is_word (take n [])) longest.word (no_empty_word n))
same_cut at text spans others stuck other (word _ _ n _ _ longest _) (blank _ c rest _ _ is_blank _) =
    absurd (not_both (is_word (take n (c ∷ rest))) longest.word (no_blank_word c rest n is_blank))
same_cut at text spans others stuck other (word _ _ m more _ longest a) (word _ _ n after _ other_longest b) =
    let same : n ≡ m = same_length text n m other_longest longest in
    let rest : (more ≡ after) × (stuck ≡ other) =
    same_cut (at + m) (drop m text) more after stuck other a (subst (λ x. IsCut (at + x) (drop x text) after other) same b) in
    (cc_spans at m n more after (sym same) rest.0, rest.1)
  where
    cc_spans : (at m n : ℕ) (more after : List Span) → m ≡ n → more ≡ after
        → ◌≡◌ {A = List Span} (record { start = at; end = at + m } ∷ more) (record { start = at; end = at + n } ∷ after)
    cc_spans at m n more after e f = cc
same_cut at text spans others stuck other (word _ _ n _ _ longest _) (none _ c rest _ no_word) =
    absurd (not_both (is_word (take n (c ∷ rest))) longest.word (no_word n longest.fits))
same_cut at text spans others stuck other (none _ c rest not_blank _) (blank _ _ _ _ _ is_blank _) =
    absurd (not_blank is_blank)
same_cut at text spans others stuck other (none _ c rest _ no_word) (word _ _ n _ _ longest _) =
    absurd (not_both (is_word (take n (c ∷ rest))) longest.word (no_word n longest.fits))
same_cut at text spans others stuck other (none _ _ _ _ _) (none _ _ _ _ _) = (refl, refl)

-- behind n more bytes
pub further : (whole : List ℕ) (at : ℕ) (text : List ℕ) (n : ℕ) → at ≤ length whole → drop at whole ≡ text → n ≤ length text
    → (at + n ≤ length whole) × (drop (at + n) whole ≡ drop n text)
further whole at text n within is fits =
    (omega (arith, length-drop at whole, ap length is), sym (drop_drop at n whole) ∙ ap (λ l. drop n l) is)

-- the longest word at a place is a word of the text
pub word_here : (whole : List ℕ) (at : ℕ) (text : List ℕ) (n : ℕ) → at ≤ length whole → drop at whole ≡ text → IsLongest text n
    → IsWordOf whole (record { start = at; end = at + n })
word_here whole at text n within is longest =
    let next : (at + n ≤ length whole) × (drop (at + n) whole ≡ drop n text) = further whole at text n within is longest.fits in
    let span : Span = record { start = at; end = at + n } in
    let width : at + n - at ≡ n = omega arith in
    let bytes : word_at whole span ≡ take n text = ap (λ k. take k (drop at whole)) width ∙ ap (λ l. take n l) is in
    let moves : 0 < n = is_word_not_empty text n longest.word in
    record { rises = omega arith; within = next.0; word = ap is_word bytes ∙ longest.word }

pub cut_words : (whole : List ℕ) (at : ℕ) (text : List ℕ) (spans : List Span) (stuck : Option ℕ)
    → at ≤ length whole → drop at whole ≡ text → IsCut at text spans stuck → All (IsWordOf whole) spans
cut_words whole at text spans stuck within is (ends _) = All-nil (IsWordOf whole)
cut_words whole at text spans stuck within is (blank _ c rest _ _ is_blank cut) =
    let next : (at + 1 ≤ length whole) × (drop (at + 1) whole ≡ rest) = further whole at (c ∷ rest) 1 within is (omega arith) in
    cut_words whole (at + 1) rest spans stuck next.0 next.1 cut
cut_words whole at text spans stuck within is (word _ _ n more _ longest cut) =
    let next : (at + n ≤ length whole) × (drop (at + n) whole ≡ drop n text) = further whole at text n within is longest.fits in
    let span : Span = record { start = at; end = at + n } in
    All-cons (IsWordOf whole) span more
    (word_here whole at text n within is longest)
    (cut_words whole (at + n) (drop n text) more stuck next.0 next.1 cut)
cut_words whole at text spans stuck within is (none _ c rest not_blank no_word) = All-nil (IsWordOf whole)

pub cut_are_words : (whole : List ℕ) (at : ℕ) (text : List ℕ) (spans : List Span) (stuck : Option ℕ)
    → at ≤ length whole → drop at whole ≡ text → IsCut at text spans stuck → AreWords (words_at whole spans)
cut_are_words whole at text spans stuck within is (ends _) = tt
cut_are_words whole at text spans stuck within is (blank _ c rest _ _ is_blank cut) =
    let next : (at + 1 ≤ length whole) × (drop (at + 1) whole ≡ rest) = further whole at (c ∷ rest) 1 within is (omega arith) in
    cut_are_words whole (at + 1) rest spans stuck next.0 next.1 cut
cut_are_words whole at text spans stuck within is (word _ _ n more _ longest cut) =
    let next : (at + n ≤ length whole) × (drop (at + n) whole ≡ drop n text) = further whole at text n within is longest.fits in
    let stands = word_here whole at text n within is longest in
    (stands.word, cut_are_words whole (at + n) (drop n text) more stuck next.0 next.1 cut)
cut_are_words whole at text spans stuck within is (none _ c rest not_blank no_word) = tt

pub cut_rises : (low at : ℕ) (text : List ℕ) (spans : List Span) (stuck : Option ℕ) → low ≤ at → IsCut at text spans stuck → Rise low spans
cut_rises low at text spans stuck h (ends _) = tt
cut_rises low at text spans stuck h (blank _ c rest _ _ is_blank cut) = cut_rises low (at + 1) rest spans stuck (omega arith) cut
cut_rises low at text spans stuck h (word _ _ n more _ longest cut) =
    let moves : 0 < n = is_word_not_empty text n longest.word in
    (h, omega arith, cut_rises (at + n) (at + n) (drop n text) more stuck (omega arith) cut)
cut_rises low at text spans stuck h (none _ c rest not_blank no_word) = tt

pub below_or_not : (m n : ℕ) → (m < n) ⊎ (n ≤ m)
below_or_not m zero = inr (omega arith)
below_or_not zero (suc n) = inl (omega arith)
below_or_not (suc m) (suc n) = elim (below_or_not m n) [ inl h ↦ inl (omega arith) | inr h ↦ inr (omega arith) ]

-- the byte at a place
pub first_at : (whole : List ℕ) (at c : ℕ) (rest : List ℕ) → drop at whole ≡ c ∷ rest → get_or whole at 0 ≡ c
first_at whole at c rest is =
    let here : at ≡ at + 0 = omega arith in
    ap (λ k. get_or whole k 0) here ∙ sym (get_or-drop at whole 0 0) ∙ ap (λ l. get_or l 0 0) is

pub cut_blanks : (whole : List ℕ) (at : ℕ) (text : List ℕ) (spans : List Span) (stuck : Option ℕ) (k : ℕ)
    → at ≤ length whole → drop at whole ≡ text → IsCut at text spans stuck → at ≤ k → k < cut_end whole stuck
    → IsIn k spans ⊎ (class_of (get_or whole k 0) ≡ Blank)
cut_blanks whole at text spans stuck k within is (ends _) from before =
    absurd (omega (arith, length-drop at whole, ap length is))
cut_blanks whole at text spans stuck k within is (blank _ c rest _ _ is_blank cut) from before =
    let next : (at + 1 ≤ length whole) × (drop (at + 1) whole ≡ rest) = further whole at (c ∷ rest) 1 within is (omega arith) in
    elim (below_or_not at k) [
      | inl h ↦ cut_blanks whole (at + 1) rest spans stuck k next.0 next.1 cut (omega arith) before
      | inr h ↦ let same : at ≡ k = omega arith in
          inr (subst (λ x. class_of (get_or whole x 0) ≡ Blank) same (ap class_of (first_at whole at c rest is) ∙ is_blank))
    ]
cut_blanks whole at text spans stuck k within is (word _ _ n more _ longest cut) from before =
    let next : (at + n ≤ length whole) × (drop (at + n) whole ≡ drop n text) = further whole at text n within is longest.fits in
    elim (below_or_not k (at + n)) [
      | inl h ↦ inl (inl (from, h))
      | inr h ↦ elim (cut_blanks whole (at + n) (drop n text) more stuck k next.0 next.1 cut h before) [ inl i ↦ inl (inr i) | inr b ↦ inr b ]
    ]
cut_blanks whole at text spans stuck k within is (none _ c rest not_blank no_word) from before = absurd (omega arith)

pub cut_stuck : (whole : List ℕ) (at : ℕ) (text : List ℕ) (spans : List Span) (place : ℕ)
    → at ≤ length whole → drop at whole ≡ text → IsCut at text spans (Some place) → IsStuckAt whole place
cut_stuck whole at text spans place within is (blank _ c rest _ _ is_blank cut) =
    let next : (at + 1 ≤ length whole) × (drop (at + 1) whole ≡ rest) = further whole at (c ∷ rest) 1 within is (omega arith) in
    cut_stuck whole (at + 1) rest spans place next.0 next.1 cut
cut_stuck whole at text spans place within is (word _ _ n more _ longest cut) =
    let next : (at + n ≤ length whole) × (drop (at + n) whole ≡ drop n text) = further whole at text n within is longest.fits in
    cut_stuck whole (at + n) (drop n text) more place next.0 next.1 cut
cut_stuck whole at text spans place within is (none _ c rest not_blank no_word) = record {
  within = omega (arith, length-drop at whole, ap length is);
  not_blank = λ e. not_blank (ap class_of (sym (first_at whole at c rest is)) ∙ e);
  no_word = subst HasNoWord (sym is) no_word;
}
