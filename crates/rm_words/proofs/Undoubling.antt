-- quotes are undoubled character by character
use Rattle.std.proofs.Common.{◌≡◌, ℕ, suc, ◌+◌, ◌<◌, ◌≤◌, Bool, true, false, ◌==◌, ◌&&◌, if◌then◌else◌, List, [], ◌∷◌, ◌++◌, length, drop, get_or, refl, sym, ◌∙◌, ap, subst, arith, append_assoc, drop-cons, add-one}
use Rattle.std.specs.Char.{encode_utf8}
use Rattle.std.specs.Str.{IsUtf8, chars, encode_utf8_all}
use Rattle.std.proofs.lemmas.List.{append-nil, drop_all}
use Rattle.std.proofs.lemmas.Str.{encodes-chars, inside_one, length-encode, len_utf8_bounds}
use Rattle.std.proofs.lemmas.Bool.Decides.{nat_tests}
use Rattle.rm_words.specs.Token.{undoubled, undoubled_from}

first_plain : (half : Bool) (b : ℕ) (more : List ℕ) → (b == 39) ≡ false → undoubled_from half (b ∷ more) ≡ b ∷ undoubled_from false more
first_plain false b more h = ap (λ t. b ∷ undoubled_from t more) h
first_plain true b more h = ap (λ t. if t then undoubled_from false more else b ∷ undoubled_from false more) h

-- bytes without a quote stay as they are
all_plain : (half : Bool) (b : ℕ) (bs rest : List ℕ) → ((k : ℕ) → k < length (b ∷ bs) → (get_or (b ∷ bs) k 0 == 39) ≡ false)
    → undoubled_from half (b ∷ (bs ++ rest)) ≡ b ∷ (bs ++ undoubled_from false rest)
all_plain half b [] rest h = first_plain half b rest (h 0 (omega arith))
all_plain half b (d ∷ ds) rest h =
    first_plain half b (d ∷ (ds ++ rest)) (h 0 (omega arith))
    ∙ ap (λ l. b ∷ l) (all_plain false d ds rest (λ k below. h (suc k) (omega arith)))

no_quote : (x c : ℕ) (b : Bool) → (x == 39) ≡ b → (x < 128 → c ≡ x) → (c == 39) ≡ false → b ≡ false
no_quote x c false is inside h = refl
no_quote x c true is inside h =
    let at : x ≡ 39 = grind (arith, nat_tests) in
    let same : c ≡ 39 = inside (omega arith) ∙ at in
    absurd (let told : (39 == 39) ≡ false = ap (λ y. y == 39) (sym same) ∙ h in let yes : (39 == 39) ≡ true = refl in cc)

char_plain : (half : Bool) (c : ℕ) (rest : List ℕ) → (c == 39) ≡ false
    → undoubled_from half (encode_utf8 c ++ rest) ≡ encode_utf8 c ++ undoubled_from false rest
char_plain half c rest h =
    by half c rest (encode_utf8 c) (omega (arith, length-encode c, len_utf8_bounds c))
    (λ k below. no_quote (get_or (encode_utf8 c) k 0) c (get_or (encode_utf8 c) k 0 == 39) refl
    (λ small. inside_one c [] (encode_utf8 c) k (sym (append-nil (encode_utf8 c))) below small) h)
  where
    by : (half : Bool) (c : ℕ) (rest bs : List ℕ) → 0 < length bs → ((k : ℕ) → k < length bs → (get_or bs k 0 == 39) ≡ false)
        → undoubled_from half (bs ++ rest) ≡ bs ++ undoubled_from false rest
    by half c rest [] some plain = absurd (omega arith)
    by half c rest (b ∷ bs) some plain = all_plain half b bs rest plain

char_step : (half : Bool) (c : ℕ) (rest : List ℕ) (b : Bool) → (c == 39) ≡ b → (half && b) ≡ false
    → undoubled_from half (encode_utf8 c ++ rest) ≡ encode_utf8 c ++ undoubled_from b rest
unfolding encode_utf8
char_step half c rest false is h = char_plain half c rest is
char_step true c rest true is h = absurd cc
char_step false c rest true is h =
    let same : 39 ≡ c = grind (arith, nat_tests) in
    subst (λ x. undoubled_from false (encode_utf8 x ++ rest) ≡ encode_utf8 x ++ undoubled_from true rest) same refl

next_char : (cs : List ℕ) (n c : ℕ) → n < length cs → c ≡ get_or cs n c
    → encode_utf8_all (drop n cs) ≡ encode_utf8 c ++ encode_utf8_all (drop (n + 1) cs)
next_char cs n c h is =
    let here : drop n cs ≡ get_or cs n c ∷ drop (n + 1) cs = rw (add-one, drop-cons cs n c) in
    ap encode_utf8_all here ∙ ap (λ x. encode_utf8 x ++ encode_utf8_all (drop (n + 1) cs)) (sym is)

-- the text so far, and what the rest of the characters is without second quotes
abbrev pub Undoubles : (text so_far : List ℕ) (half : Bool) (n : ℕ) (cs : List ℕ) → Type 0
Undoubles text so_far half n cs = so_far ++ undoubled_from half (encode_utf8_all (drop n cs)) ≡ undoubled text

pub Undoubles-push : (text so_far next : List ℕ) (half : Bool) (n c : ℕ) (cs : List ℕ) (b : Bool) → n < length cs → c ≡ get_or cs n c
    → (c == 39) ≡ b → (half && b) ≡ false → next ≡ so_far ++ encode_utf8 c → Undoubles text so_far half n cs → Undoubles text next b (n + 1) cs
Undoubles-push text so_far next half n c cs b h is quote plain more so =
    let rest : List ℕ = encode_utf8_all (drop (n + 1) cs) in
    ap (λ l. l ++ undoubled_from b rest) more
    ∙ append_assoc so_far (encode_utf8 c) (undoubled_from b rest)
    ∙ ap (λ l. so_far ++ l) (sym (char_step half c rest b quote plain) ∙ ap (λ l. undoubled_from half l) (sym (next_char cs n c h is)))
    ∙ so

pub Undoubles-skip : (text so_far : List ℕ) (n c : ℕ) (cs : List ℕ) → n < length cs → c ≡ get_or cs n c
    → c ≡ 39 → Undoubles text so_far true n cs → Undoubles text so_far false (n + 1) cs
unfolding encode_utf8
Undoubles-skip text so_far n c cs h is quote so =
    let rest : List ℕ = encode_utf8_all (drop (n + 1) cs) in
    ap (λ l. so_far ++ l) (ap (λ x. undoubled_from true (encode_utf8 x ++ rest)) (sym quote) ∙ ap (λ l. undoubled_from true l) (sym (next_char cs n c h is)))
    ∙ so

pub Undoubles-start : (text so_far : List ℕ) → IsUtf8 text → so_far ≡ [] → Undoubles text so_far false 0 (chars text)
Undoubles-start text so_far utf8 none =
    ap (λ l. l ++ undoubled_from false (encode_utf8_all (chars text))) none ∙ ap undoubled (encodes-chars text utf8)

pub Undoubles-end : (text so_far : List ℕ) (half : Bool) (n : ℕ) (cs : List ℕ) → length cs ≤ n → Undoubles text so_far half n cs → so_far ≡ undoubled text
Undoubles-end text so_far half n cs over so =
    sym (append-nil so_far) ∙ ap (λ l. so_far ++ undoubled_from half (encode_utf8_all l)) (sym (drop_all n cs over)) ∙ so
