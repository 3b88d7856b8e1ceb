-- Laws on names.
use Rattle.std.specs.Prelude.{◌≡◌, ◌≢◌, Bool, true, false, refl}
use Rattle.std.proofs.Common.{sym, ◌∙◌}
use Rattle.std.proofs.lemmas.Bool.Decides.{Decides-like, same_from_decides}
use Rattle.std.proofs.lemmas.Slice.Eq.{bytes_eq-Decides}
use mathlib.Core.HLevel.{is_prop→PathP}
use mathlib.Core.Bool.{Bool-set}
use Rattle.rm_base.specs.declared.name.Name.{Name}
use Rattle.rm_base.specs.NameText.{keeps_name}
use Rattle.rm_base.specs.Name.{same_name, name_text}
use Rattle.rm_base.proofs.NameLemmas.{KeepsName-from, padded_unique}

-- two names of the same bytes are one
pub name-eq : (a b : Name) → a.bytes ≡ b.bytes → a ≡ b
name-eq a b e = λ i. record {
  bytes = e i;
  kept = is_prop→PathP (λ j. keeps_name (e j) ≡ true) (λ j. Bool-set _ _) a.kept b.kept i;
}

pub same_name-refl : (a : Name) → same_name a a ≡ true
same_name-refl a = (bytes_eq-Decides a.bytes a.bytes).1 refl

pub same_name-eq : (a b : Name) → same_name a b ≡ true → a ≡ b
same_name-eq a b h = name-eq a b ((bytes_eq-Decides a.bytes b.bytes).0 h)

pub same_name-sym : (a b : Name) → same_name a b ≡ same_name b a
same_name-sym a b =
    same_from_decides (same_name a b) (same_name b a) (bytes_eq-Decides a.bytes b.bytes)
    (Decides-like (same_name b a) sym sym (bytes_eq-Decides b.bytes a.bytes))

-- a test that is not true is false
false_unless : (b : Bool) → b ≢ true → b ≡ false
false_unless true h = absurd (h refl)
false_unless false h = refl

pub same_name-ne : (a b : Name) → a ≢ b → same_name a b ≡ false
same_name-ne a b differ = false_unless (same_name a b) (λ h. differ (same_name-eq a b h))

-- two names of the same text are one
pub name_text-eq : (a b : Name) → name_text a ≡ name_text b → a ≡ b
name_text-eq a b texts =
    let x = KeepsName-from a.bytes a.kept in
    let y = KeepsName-from b.bytes b.kept in
    name-eq a b (padded_unique a.bytes b.bytes x.padded y.padded (x.fills ∙ sym y.fills) texts)
