-- a word is what its token says
use Rattle.std.proofs.Common.{◌≡◌, ℕ, suc, ◌-◌, Bool, true, false, ◌||◌, ◌==◌, ◌⊎◌, inl, inr, List, [], ◌∷◌, ◌++◌, length, take, map, refl, sym, ◌∙◌, ap, subst, arith}
use Rattle.std.specs.List.{list_all}
use Rattle.std.proofs.lemmas.Bool.Decides.{nat_tests}
use Rattle.rm_words.specs.declared.class.Class.{Class}
use Rattle.rm_words.specs.declared.class.Class.TheVariants as class
use Rattle.rm_words.specs.Class.{class_of, is_mark}
use Rattle.rm_words.specs.Word.{is_word, are_word, is_bare, is_quote, is_symbol, goes_on, closes}
use Rattle.rm_words.specs.Token.{IsWritten, inner, symbol_bytes, symbol_of, token_by, token_of}
use Rattle.rm_words.proofs.Classes.{class_tells}
use Rattle.rm_words.proofs.Scans.{or_three_false, or_false}
use Rattle.rm_words.proofs.Tokens.{and_true, digit_word}

same_byte : (c n : ℕ) → (c == n) ≡ true → n ≡ c
same_byte c n told = grind (arith, nat_tests)

quote_is : (c : ℕ) (k : Class) → class_of c ≡ k → is_quote k ≡ true → 39 ≡ c
quote_is c class.Quote is h = same_byte c 39 (class_tells c class.Quote is)
quote_is c class.Letter is h = absurd cc
quote_is c class.Digit is h = absurd cc
quote_is c class.Blank is h = absurd cc
quote_is c class.Less is h = absurd cc
quote_is c class.Greater is h = absurd cc
quote_is c class.Equal is h = absurd cc
quote_is c class.Mark is h = absurd cc
quote_is c class.Other is h = absurd cc

-- a quoted text ends with a quote
last_quote : (half : Bool) (c : ℕ) (cs : List ℕ) → closes half (map class_of (c ∷ cs)) ≡ true → c ∷ cs ≡ take (length cs) (c ∷ cs) ++ 39 ∷ []
last_quote false c [] h = ap (λ x. x ∷ []) (sym (quote_is c (class_of c) refl h))
last_quote true c [] h = let no_end = and_true (is_quote (class_of c)) false h in let clash : false ≡ true = no_end.1 in absurd cc
last_quote false c (d ∷ ds) h = ap (λ l. c ∷ l) (last_quote (is_quote (class_of c)) d ds h)
last_quote true c (d ∷ ds) h =
    ap (λ l. c ∷ l) (last_quote false d ds (and_true (is_quote (class_of c)) (closes false (map class_of (d ∷ ds))) h).1)

quoted_by : (c : ℕ) (cs : List ℕ) → 39 ≡ c → closes false (map class_of cs) ≡ true → c ∷ cs ≡ 39 ∷ (inner (c ∷ cs) ++ 39 ∷ [])
quoted_by c [] is h = absurd cc
quoted_by c (d ∷ ds) is h =
    let less : suc (suc (length ds)) - 2 ≡ length ds = omega arith in
    ap (λ x. x ∷ d ∷ ds) (sym is)
    ∙ ap (λ l. 39 ∷ l) (last_quote false d ds h ∙ ap (λ k. take k (d ∷ ds) ++ 39 ∷ []) (sym less))

-- the bytes are how their symbol is written
Signs : List ℕ → Type 0
Signs bytes = bytes ≡ symbol_bytes (symbol_of bytes)

or_true : (a b : Bool) → (a || b) ≡ true → (a ≡ true) ⊎ (b ≡ true)
or_true true b h = inl refl
or_true false b h = inr h

mark_by : (c : ℕ) → is_mark c ≡ true → Signs (c ∷ [])
unfolding Signs
mark_by c h =
    elim (or_true (((((c == 40) || (c == 41)) || (c == 44)) || (c == 46)) || (c == 42) || (c == 59)) (c == 45) h) [
      | inr is ↦ at 45 refl is
      | inl h6 ↦ elim (or_true (((((c == 40) || (c == 41)) || (c == 44)) || (c == 46)) || (c == 42)) (c == 59) h6) [
        | inr is ↦ at 59 refl is
        | inl h5 ↦ elim (or_true ((((c == 40) || (c == 41)) || (c == 44)) || (c == 46)) (c == 42) h5) [
          | inr is ↦ at 42 refl is
          | inl h4 ↦ elim (or_true (((c == 40) || (c == 41)) || (c == 44)) (c == 46) h4) [
            | inr is ↦ at 46 refl is
            | inl h3 ↦ elim (or_true ((c == 40) || (c == 41)) (c == 44) h3) [
              | inr is ↦ at 44 refl is
              | inl h2 ↦ elim (or_true (c == 40) (c == 41) h2) [ inr is ↦ at 41 refl is | inl is ↦ at 40 refl is ]
            ]
          ]
        ]
      ]
    ]
  where
    at : (n : ℕ) → n ∷ [] ≡ symbol_bytes (symbol_of (n ∷ [])) → (c == n) ≡ true → c ∷ [] ≡ symbol_bytes (symbol_of (c ∷ []))
    at n signs is = subst (λ x. x ∷ [] ≡ symbol_bytes (symbol_of (x ∷ []))) (same_byte c n is) signs

one_by : (c n : ℕ) → Signs (n ∷ []) → n ≡ c → Signs (c ∷ [])
one_by c n signs is = subst (λ x. Signs (x ∷ [])) is signs

two_by : (c d m n : ℕ) → Signs (m ∷ n ∷ []) → m ≡ c → n ≡ d → Signs (c ∷ d ∷ [])
two_by c d m n signs is is_second = subst (λ y. Signs (c ∷ y ∷ [])) is_second (subst (λ x. Signs (x ∷ n ∷ [])) is signs)

behind_less : (c d : ℕ) (ds : List ℕ) (k : Class) → 60 ≡ c → class_of d ≡ k → is_symbol (class.Less ∷ k ∷ map class_of ds) ≡ true → Signs (c ∷ d ∷ ds)
unfolding Signs
behind_less c d [] class.Equal is at h = two_by c d 60 61 refl is (same_byte d 61 (class_tells d class.Equal at))
behind_less c d [] class.Greater is at h = two_by c d 60 62 refl is (same_byte d 62 (class_tells d class.Greater at))
behind_less c d (e ∷ es) class.Equal is at h = absurd cc
behind_less c d (e ∷ es) class.Greater is at h = absurd cc
behind_less c d ds class.Letter is at h = absurd cc
behind_less c d ds class.Digit is at h = absurd cc
behind_less c d ds class.Quote is at h = absurd cc
behind_less c d ds class.Blank is at h = absurd cc
behind_less c d ds class.Less is at h = absurd cc
behind_less c d ds class.Mark is at h = absurd cc
behind_less c d ds class.Other is at h = absurd cc

behind_greater : (c d : ℕ) (ds : List ℕ) (k : Class) → 62 ≡ c → class_of d ≡ k → is_symbol (class.Greater ∷ k ∷ map class_of ds) ≡ true → Signs (c ∷ d ∷ ds)
unfolding Signs
behind_greater c d [] class.Equal is at h = two_by c d 62 61 refl is (same_byte d 61 (class_tells d class.Equal at))
behind_greater c d (e ∷ es) class.Equal is at h = absurd cc
behind_greater c d ds class.Greater is at h = absurd cc
behind_greater c d ds class.Letter is at h = absurd cc
behind_greater c d ds class.Digit is at h = absurd cc
behind_greater c d ds class.Quote is at h = absurd cc
behind_greater c d ds class.Blank is at h = absurd cc
behind_greater c d ds class.Less is at h = absurd cc
behind_greater c d ds class.Mark is at h = absurd cc
behind_greater c d ds class.Other is at h = absurd cc

written_by : (c : ℕ) (cs : List ℕ) (k : Class) → class_of c ≡ k → are_word (k ∷ map class_of cs) ≡ true → IsWritten (token_by k (c ∷ cs)) (c ∷ cs)
unfolding Signs
written_by c cs class.Letter is h =
    (ap (λ k. is_bare (k ∷ map class_of cs)) is ∙ or_three_false (list_all goes_on (map class_of cs)) ∙ h, refl)
written_by c cs class.Digit is h =
    (digit_word (c ∷ cs) (ap (λ k. are_word (k ∷ map class_of cs)) is ∙ h) is, refl)
written_by c cs class.Quote is h =
    quoted_by c cs (same_byte c 39 (class_tells c class.Quote is)) (or_false (closes false (map class_of cs)) ∙ h)
written_by c cs class.Blank is h = absurd cc
written_by c [] class.Less is h = one_by c 60 refl (same_byte c 60 (class_tells c class.Less is))
written_by c (d ∷ ds) class.Less is h = behind_less c d ds (class_of d) (same_byte c 60 (class_tells c class.Less is)) refl h
written_by c [] class.Greater is h = one_by c 62 refl (same_byte c 62 (class_tells c class.Greater is))
written_by c (d ∷ ds) class.Greater is h = behind_greater c d ds (class_of d) (same_byte c 62 (class_tells c class.Greater is)) refl h
written_by c [] class.Equal is h = one_by c 61 refl (same_byte c 61 (class_tells c class.Equal is))
written_by c (d ∷ ds) class.Equal is h = absurd cc
written_by c [] class.Mark is h = mark_by c (class_tells c class.Mark is)
written_by c (d ∷ ds) class.Mark is h = absurd cc
written_by c cs class.Other is h = absurd cc

pub written : (bytes : List ℕ) → is_word bytes ≡ true → IsWritten (token_of bytes) bytes
written [] h = absurd cc
written (c ∷ cs) h = written_by c cs (class_of c) refl h
