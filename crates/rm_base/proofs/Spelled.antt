-- What `Name::of` answers is the name that a word spells.
use Rattle.std.proofs.Common.{◌≡◌, ◌↔◌, ℕ, ◌+◌, ◌-◌, Bool, true, false, Option, None, Some, List, length, IsSome, IfSome, refl, sym, ap, ◌∙◌, arith}
use Rattle.std.proofs.lemmas.Bool.{false≢true, cond-true, cond-false, false_from_ne_true}
use Rattle.std.specs.Str.{str_to_ascii_lowercase}
use Rattle.rm_base.specs.declared.limits.TheConstants.{NAME_MOST}
use Rattle.rm_base.specs.declared.name.Name.{Name}
use Rattle.rm_base.specs.NameText.{is_name_text, keeps_name, text_in}
use Rattle.rm_base.specs.Name.{name_text, padded, name_kept, name_of}
use Rattle.rm_base.proofs.NameLemmas.{IsNameText-from, bare_continues, text_in-padded, keeps_name-padded}
use Rattle.rm_base.proofs.Names.{name_text-eq}

pub name_kept-same : (bytes : List ℕ) (keeps : Bool) (is : keeps_name bytes ≡ keeps) (name : Name) → keeps_name bytes ≡ true → text_in bytes ≡ name_text name → Some name ≡ name_kept bytes keeps is
name_kept-same bytes true is name kept texts = ap Some (name_text-eq name (record { bytes = bytes; kept = is }) (sym texts))
name_kept-same bytes false is name kept texts = absurd (false≢true (sym is ∙ kept))

pub named : (word : List ℕ) (answer : Option Name) → (IsSome answer ↔ (is_name_text (str_to_ascii_lowercase word) ≡ true))
    → IfSome answer (λ name. name_text name ≡ str_to_ascii_lowercase word) → answer ≡ name_of word
named word None valid text =
    sym (cond-false (is_name_text (str_to_ascii_lowercase word)) _ None (false_from_ne_true _ (λ is. false≢true (valid.1 is))))
named word (Some name) valid text =
    let lower = str_to_ascii_lowercase word in
    let is : is_name_text lower ≡ true = valid.0 refl in
    let parts = IsNameText-from lower is in
    let rest = NAME_MOST - length lower in
    let fills : length lower + rest ≡ NAME_MOST = omega (arith, parts.within) in
    name_kept-same (padded lower) (keeps_name (padded lower)) refl name (keeps_name-padded lower rest is fills) (text_in-padded lower rest (bare_continues lower parts.bare) ∙ sym text)
    ∙ sym (cond-true (is_name_text lower) _ None is)
