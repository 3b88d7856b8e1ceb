-- The name that bytes are.
use Rattle.std.proofs.Common.{◌≡◌, ◌∙◌, ℕ, List, Bool, true, false, cond, None, refl, sym, ap}
use Rattle.std.proofs.lemmas.Str.{is_utf8-from_IsUtf8, IsUtf8-from_is_utf8}
use Rattle.std.specs.Str.{IsUtf8, is_utf8}
use Rattle.rm_base.specs.Name.{name_of}
use Rattle.csv_tables.specs.Header.{name_in}

pub name_good : (bytes text : List ℕ) → IsUtf8 bytes → text ≡ bytes → name_of text ≡ name_in bytes
name_good bytes text is same = ap name_of same ∙ sym (ap (λ b. cond b (name_of bytes) None) (is_utf8-from_IsUtf8 bytes is))

not-true : (b : Bool) → (b ≡ true → ⊥) → b ≡ false
not-true true h = absurd (h refl)
not-true false h = refl

pub name_bad : (bytes : List ℕ) → ¬ (IsUtf8 bytes) → None ≡ name_in bytes
name_bad bytes bad = sym (ap (λ b. cond b (name_of bytes) None) (not-true (is_utf8 bytes) (λ is. bad (IsUtf8-from_is_utf8 bytes is))))
