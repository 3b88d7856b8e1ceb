-- What is kept of a text that is padded with zeros, and what is a name.
use Rattle.std.specs.Prelude.{◌≡◌, ℕ, zero, suc, ◌-◌, ◌+◌, ◌≤◌, ◌<◌, Bool, true, false, ◌&&◌, ◌==◌, not, nat_le, List, [], ◌∷◌, ◌++◌, length, replicate, take, refl, Result, Ok, Err, MatchResult, IsOk}
use Rattle.std.specs.List.{list_all}
use Rattle.std.specs.Char.{to_ascii_lowercase}
use Rattle.std.specs.Str.{IsAscii, IsUtf8, str_to_ascii_lowercase}
use Rattle.std.proofs.Common.{sym, ap, ◌∙◌, subst, arith}
use Rattle.std.proofs.Math.Seq.{take-append_seam}
use Rattle.std.proofs.lemmas.Bool.{and_parts, leb-true, eqb-true}
use Rattle.std.proofs.lemmas.Bool.Decides.{nat_tests}
use Rattle.std.proofs.lemmas.List.{length-map, length-replicate, length-append}
use Rattle.std.proofs.lemmas.Str.{IsUtf8-from_ascii}
use Rattle.std.proofs.lemmas.Str.Ascii.{IsAscii-nil, IsAscii-cons}
use Rattle.rm_base.specs.declared.limits.TheConstants.{NAME_MOST}
use Rattle.rm_base.specs.NameText.{begins_name, continues_name, is_bare, is_reserved, is_name_text, text_in, is_padded, keeps_name}

-- a bare word has nothing but letters, digits and `_`
pub bare_continues : (text : List ℕ) → is_bare text ≡ true → list_all continues_name text ≡ true
bare_continues [] h = refl
bare_continues (c ∷ cs) h =
    let parts = and_parts (begins_name c) (list_all continues_name cs) h in
    rw (parts.0, parts.1) refl

-- no such byte is a zero, and each is ASCII
pub continues_nonzero : (c : ℕ) → continues_name c ≡ true → (c == 0) ≡ false
continues_nonzero c h = grind (arith, nat_tests)

pub continues_ascii : (c : ℕ) → continues_name c ≡ true → c < 128
continues_ascii c h = grind (arith, nat_tests)

pub text_in-zeros : (n : ℕ) → text_in (replicate n 0) ≡ []
text_in-zeros zero = refl
text_in-zeros (suc n) = refl

zeros_all : (n : ℕ) → list_all (λ c. c == 0) (replicate n 0) ≡ true
zeros_all zero = refl
zeros_all (suc n) = zeros_all n

is_padded-zeros : (n : ℕ) → is_padded (replicate n 0) ≡ true
is_padded-zeros zero = refl
is_padded-zeros (suc n) = zeros_all n

-- the text in a padded text is that text
pub text_in-padded : (text : List ℕ) (n : ℕ) → list_all continues_name text ≡ true → text_in (text ++ replicate n 0) ≡ text
text_in-padded [] n h = text_in-zeros n
text_in-padded (c ∷ cs) n h =
    let parts = and_parts (continues_name c) (list_all continues_name cs) h in
    rw (continues_nonzero c parts.0, text_in-padded cs n parts.1) refl

pub is_padded-padded : (text : List ℕ) (n : ℕ) → list_all continues_name text ≡ true → is_padded (text ++ replicate n 0) ≡ true
is_padded-padded [] n h = is_padded-zeros n
is_padded-padded (c ∷ cs) n h =
    let parts = and_parts (continues_name c) (list_all continues_name cs) h in
    rw (continues_nonzero c parts.0) (is_padded-padded cs n parts.1)

-- the three parts of what a name's text is
pub record IsNameText (text : List ℕ) : Type 0 where
  pub bare : is_bare text ≡ true
  pub within : length text ≤ NAME_MOST
  pub free : is_reserved text ≡ false

not_true : (b : Bool) → not b ≡ true → b ≡ false
not_true true h = absurd (cc)
not_true false h = refl

pub IsNameText-from : (text : List ℕ) → is_name_text text ≡ true → IsNameText text
IsNameText-from text h =
    let outer = and_parts (is_bare text && nat_le (length text) NAME_MOST) (not (is_reserved text)) h in
    let inner = and_parts (is_bare text) (nat_le (length text) NAME_MOST) outer.0 in
    record {
      bare = inner.0;
      within = leb-true (length text) NAME_MOST inner.1;
      free = not_true (is_reserved text) outer.1;
    }

-- a name's text, padded, is what a name keeps
pub keeps_name-padded : (text : List ℕ) (n : ℕ) → is_name_text text ≡ true → length text + n ≡ NAME_MOST → keeps_name (text ++ replicate n 0) ≡ true
keeps_name-padded text n is e =
    let parts = IsNameText-from text is in
    let all = bare_continues text parts.bare in
    let kept : length (text ++ replicate n 0) ≡ NAME_MOST = omega (arith, length-append text (replicate n 0), length-replicate {A = ℕ} n 0) in
    rw (text_in-padded text n all, is_padded-padded text n all, is, kept) refl

-- the three parts of how a name is kept
pub record KeepsName (bytes : List ℕ) : Type 0 where
  pub text : is_name_text (text_in bytes) ≡ true
  pub padded : is_padded bytes ≡ true
  pub fills : length bytes ≡ NAME_MOST

pub KeepsName-from : (bytes : List ℕ) → keeps_name bytes ≡ true → KeepsName bytes
KeepsName-from bytes h =
    let outer = and_parts (is_name_text (text_in bytes) && is_padded bytes) (length bytes == NAME_MOST) h in
    let inner = and_parts (is_name_text (text_in bytes)) (is_padded bytes) outer.0 in
    record { text = inner.0; padded = inner.1; fills = eqb-true (length bytes) NAME_MOST outer.1 }

-- the text of a name is ASCII
continues_all_ascii : (text : List ℕ) → list_all continues_name text ≡ true → IsAscii text
continues_all_ascii [] h = IsAscii-nil
continues_all_ascii (c ∷ cs) h =
    let parts = and_parts (continues_name c) (list_all continues_name cs) h in
    IsAscii-cons c cs (continues_ascii c parts.0) (continues_all_ascii cs parts.1)

pub IsUtf8-name_text : (text : List ℕ) → is_name_text text ≡ true → IsUtf8 text
IsUtf8-name_text text is = IsUtf8-from_ascii text (continues_all_ascii text (bare_continues text (IsNameText-from text is).bare))

-- the text stands at the front
pub take-text_in : (bytes : List ℕ) → take (length (text_in bytes)) bytes ≡ text_in bytes
take-text_in [] = refl
take-text_in (b ∷ bs) = at (b == 0) refl (take-text_in bs)
  where
    at : (ends : Bool) → (b == 0) ≡ ends → take (length (text_in bs)) bs ≡ text_in bs → take (length (text_in (b ∷ bs))) (b ∷ bs) ≡ text_in (b ∷ bs)
    at true e behind = rw e refl
    at false e behind = rw e (ap (λ r. b ∷ r) behind)

zeros_are : (bs : List ℕ) → list_all (λ c. c == 0) bs ≡ true → bs ≡ replicate (length bs) 0
zeros_are [] h = refl
zeros_are (b ∷ bs) h =
    let parts = and_parts (b == 0) (list_all (λ c. c == 0) bs) h in
    let first : b ≡ 0 = eqb-true b 0 parts.0 in
    let others : bs ≡ replicate (length bs) 0 = zeros_are bs parts.1 in
    cc

-- a padded text is its text and zeros behind it
pub padded-split : (bytes : List ℕ) → is_padded bytes ≡ true → (n : ℕ) × (bytes ≡ text_in bytes ++ replicate n 0)
padded-split [] h = (0, refl)
padded-split (b ∷ bs) h = at (b == 0) refl h (padded-split bs)
  where
    at : (ends : Bool) → (b == 0) ≡ ends → is_padded (b ∷ bs) ≡ true
        → (is_padded bs ≡ true → (n : ℕ) × (bs ≡ text_in bs ++ replicate n 0))
        → (n : ℕ) × (b ∷ bs ≡ text_in (b ∷ bs) ++ replicate n 0)
    at true e padded behind =
        let first : b ≡ 0 = eqb-true b 0 e in
        let others : bs ≡ replicate (length bs) 0 = zeros_are bs (rw e at padded) in
        let same : b ∷ bs ≡ 0 ∷ replicate (length bs) 0 = cc in
        (suc (length bs), rw e same)
    at false e padded behind =
        let more = behind (rw e at padded) in
        (more.0, rw e (ap (λ r. b ∷ r) more.1))

-- two padded texts of one length are one where their texts are
pub padded_unique : (xs ys : List ℕ) → is_padded xs ≡ true → is_padded ys ≡ true → length xs ≡ length ys → text_in xs ≡ text_in ys → xs ≡ ys
padded_unique xs ys a_padded b_padded lengths texts =
    let a = padded-split xs a_padded in
    let b = padded-split ys b_padded in
    let a_length : length xs ≡ length (text_in xs) + a.0 = ap length a.1 ∙ length-append (text_in xs) (replicate a.0 0) ∙ ap (λ n. length (text_in xs) + n) (length-replicate {A = ℕ} a.0 0) in
    let b_length : length ys ≡ length (text_in ys) + b.0 = ap length b.1 ∙ length-append (text_in ys) (replicate b.0 0) ∙ ap (λ n. length (text_in ys) + n) (length-replicate {A = ℕ} b.0 0) in
    let texts_length : length (text_in xs) ≡ length (text_in ys) = ap length texts in
    let zeros : a.0 ≡ b.0 = omega arith in
    a.1 ∙ ap (λ text. text ++ replicate a.0 0) texts ∙ ap (λ n. text_in ys ++ replicate n 0) zeros ∙ sym b.1

-- what `Name::of` makes of a text whose lower case is a name
pub keeps_name-lowered : (text bytes : List ℕ) → length text ≤ NAME_MOST
    → bytes ≡ str_to_ascii_lowercase text ++ replicate (NAME_MOST - length text) 0
    → is_name_text (str_to_ascii_lowercase text) ≡ true → keeps_name bytes ≡ true
keeps_name-lowered text bytes within e is =
    let fills : length (str_to_ascii_lowercase text) + (NAME_MOST - length text) ≡ NAME_MOST = omega (arith, length-map text to_ascii_lowercase) in
    subst (λ kept. keeps_name kept ≡ true) (sym e) (keeps_name-padded (str_to_ascii_lowercase text) (NAME_MOST - length text) is fills)

pub text_in-lowered : (text bytes : List ℕ)
    → bytes ≡ str_to_ascii_lowercase text ++ replicate (NAME_MOST - length text) 0
    → is_name_text (str_to_ascii_lowercase text) ≡ true → text_in bytes ≡ str_to_ascii_lowercase text
text_in-lowered text bytes e is =
    ap text_in e
    ∙ text_in-padded (str_to_ascii_lowercase text) (NAME_MOST - length text) (bare_continues (str_to_ascii_lowercase text) (IsNameText-from (str_to_ascii_lowercase text) is).bare)

front-lowered : (text bytes : List ℕ) → bytes ≡ str_to_ascii_lowercase text ++ replicate (NAME_MOST - length text) 0
    → take (length text) bytes ≡ str_to_ascii_lowercase text
front-lowered text bytes e =
    ap (take (length text)) e
    ∙ ap (λ n. take n (str_to_ascii_lowercase text ++ replicate (NAME_MOST - length text) 0)) (sym (length-map text to_ascii_lowercase))
    ∙ take-append_seam (str_to_ascii_lowercase text) (replicate (NAME_MOST - length text) 0)

pub is_name_text-lowered : (text bytes : List ℕ) → bytes ≡ str_to_ascii_lowercase text ++ replicate (NAME_MOST - length text) 0
    → is_name_text (take (length text) bytes) ≡ true → is_name_text (str_to_ascii_lowercase text) ≡ true
is_name_text-lowered text bytes e is = ap is_name_text (sym (front-lowered text bytes e)) ∙ is

-- a result that is no error
pub IsOk-unless : {T E : Type 0} → (r : Result T E) (P : T → Type 0) (Q : E → Type 0) → MatchResult r P Q → ((e : E) → Q e → ⊥) → IsOk r
IsOk-unless (Ok x) P Q h never = refl
IsOk-unless (Err e) P Q h never = absurd (never e h)
