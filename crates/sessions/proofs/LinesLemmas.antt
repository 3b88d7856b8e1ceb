-- The first line of a text, by the first line feed.
use Rattle.std.proofs.Common.{◌≡◌, ℕ, ◌+◌, ◌<◌, false, ◌==◌, cond, List, [], ◌∷◌, ◌++◌, length, get_or, take, drop, refl, sym, ap, ◌∙◌, arith, ne_eqb, eqb-true, drop-cons, add-one, Result, Ok, Err, MatchResult, is_ok, IsUtf8}
use Rattle.std.proofs.lemmas.Bool.{false_from_ne_true}
use Rattle.std.proofs.lemmas.Grind.{common_steps}
use Rattle.std.proofs.lemmas.List.{take-append-drop}
use Rattle.std.proofs.lemmas.List.Elements.{All-from_get_or}
use Rattle.std.proofs.lemmas.List.Splits.{slice_split_none, slice_split_at, length-slice_split}
use Rattle.std.proofs.lemmas.Str.{IsUtf8-from_is_utf8, is_utf8-from_IsUtf8}
use Rattle.std.specs.Str.{is_utf8}
use Rattle.std.specs.List.{All, slice_split}
use Rattle.std.specs.Str.Lines.{lines, lines_of_parts, strip_carriage_return}
use Rattle.memchr.specs.Find.{Nowhere, NoneBefore, Passes, is_byte}

lines_of_parts-cons : (x : List ℕ) (parts : List (List ℕ)) → 0 < length parts → lines_of_parts (x ∷ parts) ≡ strip_carriage_return x ∷ lines_of_parts parts
lines_of_parts-cons x [] some = absurd (omega arith)
lines_of_parts-cons x (y ∷ more) some = refl

-- a text with no line feed is its one line
pub lines-whole : (text : List ℕ) → 0 < length text → Nowhere (Passes (is_byte 10) text) 0 (length text) → lines text ≡ text ∷ []
lines-whole text some nowhere =
    ap lines_of_parts (slice_split_none (is_byte 10) text (All-from_get_or (λ b. (b == 10) ≡ false) text 0 (λ k within. false_from_ne_true _ (nowhere k (omega arith) within))))
    ∙ ap (λ t. cond t [] (text ∷ [])) (ne_eqb (length text) 0 (λ none. omega arith))

before_fails : (text : List ℕ) (at : ℕ) → NoneBefore (Passes (is_byte 10) text) 0 (length text) at → (k : ℕ) → k < length (take at text) → is_byte 10 (get_or (take at text) k 0) ≡ false
before_fails text at none_before k within =
    let below : k < at = grind (arith, common_steps) in
    let same : get_or (take at text) k 0 ≡ get_or text k 0 = grind (arith, common_steps) in
    ap (is_byte 10) same ∙ false_from_ne_true _ (none_before.before k (omega arith) below)

split_text : (text : List ℕ) (at : ℕ) → at < length text → get_or text at 0 ≡ 10 → text ≡ take at text ++ 10 ∷ drop (at + 1) text
split_text text at within feed =
    sym (take-append-drop at text) ∙ ap (λ rest. take at text ++ rest) (rw (add-one at) (drop-cons text at 0 within) ∙ ap (λ b. b ∷ drop (at + 1) text) feed)

-- a text whose first line feed stands at a place
pub lines-cut : (text : List ℕ) (at : ℕ) → NoneBefore (Passes (is_byte 10) text) 0 (length text) at → Passes (is_byte 10) text at
    → lines text ≡ strip_carriage_return (take at text) ∷ lines (drop (at + 1) text)
lines-cut text at none_before found =
    let front : All (λ b. is_byte 10 b ≡ false) (take at text) = All-from_get_or (λ b. is_byte 10 b ≡ false) (take at text) 0 (before_fails text at none_before) in
    let whole : text ≡ take at text ++ 10 ∷ drop (at + 1) text = split_text text at none_before.high (eqb-true _ 10 found) in
    ap lines whole
    ∙ ap lines_of_parts (slice_split_at (is_byte 10) (take at text) 10 (drop (at + 1) text) front refl)
    ∙ lines_of_parts-cons (take at text) (slice_split (is_byte 10) (drop (at + 1) text)) (omega (arith, length-slice_split (is_byte 10) (drop (at + 1) text)))

-- what `from_utf8` answers tells whether the bytes are a text
pub is_ok-utf8 : {T E : Type 0} (r : Result T E) (bytes : List ℕ) (P : T → Type 0) (Q : E → Type 0) → MatchResult r (λ text. P text × IsUtf8 bytes) (λ e. ¬ (IsUtf8 bytes) × Q e) → is_ok r ≡ is_utf8 bytes
is_ok-utf8 (Ok text) bytes P Q h = sym (is_utf8-from_IsUtf8 bytes h.1)
is_ok-utf8 (Err e) bytes P Q h = sym (false_from_ne_true _ (λ is. h.0 (IsUtf8-from_is_utf8 bytes is)))
