-- which words say which tokens
use Rattle.std.proofs.Common.{◌≡◌, ℕ, nat_le, true, ◌&&◌, ◌||◌, List, [], ◌∷◌, ◌++◌, map, refl, sym, ◌∙◌, ap, subst, arith}
use Rattle.std.specs.Char.{to_ascii_lowercase}
use Rattle.std.specs.List.{list_all}
use Rattle.std.proofs.lemmas.Bool.{and_parts}
use Rattle.std.proofs.lemmas.Bool.Decides.{nat_tests}
use Rattle.rm_base.specs.declared.name.Name.{Name}
use Rattle.rm_base.specs.NameText.{is_bare as is_bare_name, begins_name, continues_name}
use Rattle.rm_base.specs.Name.{name_text}
use Rattle.rm_base.proofs.NameLemmas.{IsNameText-from, KeepsName-from}
use Rattle.rm_words.specs.declared.class.Class.TheVariants as class
use Rattle.rm_words.specs.Class.{class_of}
use Rattle.rm_words.specs.Word.{goes_on, is_bare}
use Rattle.rm_words.specs.Cut.{AreWords}
use Rattle.rm_words.specs.Token.{Token, Bare, Says, folded, token_of}
use Rattle.rm_words.proofs.Printing.{bare_says}
use Rattle.rm_words.specs.Names.{name}

-- words say tokens, one each
abbrev pub AllSay : List (List ℕ) → List Token → Type 0
AllSay [] [] = Unit {0}
AllSay (w ∷ ws) (t ∷ ts) = Says w t × AllSay ws ts
AllSay _ _ = ⊥

pub AllSay-append : (ws us : List (List ℕ)) (ts vs : List Token) → AllSay ws ts → AllSay us vs → AllSay (ws ++ us) (ts ++ vs)
AllSay-append [] us [] vs a b = b
AllSay-append [] us (t ∷ ts) vs a b = absurd a
AllSay-append (w ∷ ws) us [] vs a b = absurd a
AllSay-append (w ∷ ws) us (t ∷ ts) vs a b = (a.0, AllSay-append ws us ts vs a.1 b)

pub are_words : (ws : List (List ℕ)) (ts : List Token) → AllSay ws ts → AreWords ws
are_words [] ts a = tt
are_words (w ∷ ws) [] a = absurd a
are_words (w ∷ ws) (t ∷ ts) a = (a.0.word, are_words ws ts a.1)

cons_same : (a b : Token) (us vs : List Token) → a ≡ b → us ≡ vs → a ∷ us ≡ b ∷ vs
cons_same a b us vs h t = cc

pub tokens_said : (ws : List (List ℕ)) (ts : List Token) → AllSay ws ts → map token_of ws ≡ ts
tokens_said [] [] a = refl
tokens_said [] (t ∷ ts) a = absurd a
tokens_said (w ∷ ws) [] a = absurd a
tokens_said (w ∷ ws) (t ∷ ts) a = cons_same (token_of w) t (map token_of ws) ts a.0.token (tokens_said ws ts a.1)

-- words say what they are read as
pub words_say : (ws : List (List ℕ)) → AreWords ws → AllSay ws (map token_of ws)
words_say [] are = tt
words_say (w ∷ ws) are = (record { word = are.0; token = refl }, words_say ws are.1)

-- a name says itself
goes_on-name : (c : ℕ) → continues_name c ≡ true → goes_on (class_of c) ≡ true
goes_on-name c h = grind (arith, nat_tests)

begins-letter : (c : ℕ) → begins_name c ≡ true → class_of c ≡ class.Letter
begins-letter c h = grind (arith, nat_tests)

begins-continues : (c : ℕ) → begins_name c ≡ true → continues_name c ≡ true
begins-continues c h = ap (λ b. b || (nat_le 48 c && nat_le c 57)) h

lower-name : (c : ℕ) → continues_name c ≡ true → to_ascii_lowercase c ≡ c
lower-name c h = grind (arith, nat_tests)

all_go_on : (cs : List ℕ) → list_all continues_name cs ≡ true → list_all goes_on (map class_of cs) ≡ true
all_go_on [] h = refl
all_go_on (c ∷ cs) h =
    let parts = and_parts (continues_name c) (list_all continues_name cs) h in
    ap (λ b. b && list_all goes_on (map class_of cs)) (goes_on-name c parts.0) ∙ all_go_on cs parts.1

folded-name : (cs : List ℕ) → list_all continues_name cs ≡ true → folded cs ≡ cs
folded-name [] h = refl
folded-name (c ∷ cs) h =
    let parts = and_parts (continues_name c) (list_all continues_name cs) h in
    let first : to_ascii_lowercase c ≡ c = lower-name c parts.0 in
    let rest : folded cs ≡ cs = folded-name cs parts.1 in
    ap (λ x. x ∷ folded cs) first ∙ ap (λ l. c ∷ l) rest

bare_name-says : (w : List ℕ) → is_bare_name w ≡ true → Says w (Bare w)
bare_name-says [] h = absurd cc
bare_name-says (c ∷ cs) h =
    let parts = and_parts (begins_name c) (list_all continues_name cs) h in
    let bare_word : is_bare (map class_of (c ∷ cs)) ≡ true =
    ap (λ k. is_bare (k ∷ map class_of cs)) (begins-letter c parts.0) ∙ all_go_on cs parts.1 in
    let all : list_all continues_name (c ∷ cs) ≡ true =
    ap (λ b. b && list_all continues_name cs) (begins-continues c parts.0) ∙ parts.1 in
    let says = bare_says (c ∷ cs) bare_word in
    record { word = says.word; token = says.token ∙ ap (λ l. Bare l) (folded-name (c ∷ cs) all) }

pub name-says : (n : Name) → Says (name_text n) (name n)
name-says n = bare_name-says (name_text n) (IsNameText-from (name_text n) (KeepsName-from n.bytes n.kept).text).bare
