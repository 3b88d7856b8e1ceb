-- the name that a text is
use Rattle.std.proofs.Common.{◌≡◌, ℕ, ◌+◌, ◌-◌, Bool, true, false, if◌then◌else◌, Some, None, List, length, refl, sym, ◌∙◌, ap, arith}
use Rattle.std.specs.Str.{str_to_ascii_lowercase}
use Rattle.rm_base.specs.declared.limits.TheConstants.{NAME_MOST}
use Rattle.rm_base.specs.declared.name.Name.{Name}
use Rattle.rm_base.specs.NameText.{is_name_text, keeps_name}
use Rattle.rm_base.specs.Name.{name_kept, name_of as spelled, name_text, padded}
use Rattle.rm_base.proofs.NameLemmas.{IsNameText-from, KeepsName-from, bare_continues, keeps_name-padded, text_in-padded}
use Rattle.rm_base.proofs.Names.{name_text-eq}
use Rattle.rm_base.proofs.Spelled.{name_kept-same}
use Rattle.rm_words.specs.Token.{Token, Bare, Number, Quoted, Sign}
use Rattle.rm_words.specs.Names.{name, name_called, name_of}
use Rattle.rm_words.proofs.Results.{some_is, none_some}

-- the name with a text
record Called (text : List ℕ) : Type 0 where
  called : Name
  same : name_text called ≡ text
  is : name_called text ≡ Some called

name_called-is : (text : List ℕ) → is_name_text text ≡ true → Called text
unfolding name_called
name_called-is text is =
    let parts = IsNameText-from text is in
    let rest : ℕ = NAME_MOST - length text in
    let fills : length text + rest ≡ NAME_MOST = omega (arith, parts.within) in
    let kept : keeps_name (padded text) ≡ true = keeps_name-padded text rest is fills in
    let n : Name = record { bytes = padded text; kept = kept } in
    record {
      called = n;
      same = text_in-padded text rest (bare_continues text parts.bare);
      is =
          ap (λ b. if b then name_kept (padded text) (keeps_name (padded text)) refl else None) is
          ∙ sym (name_kept-same (padded text) (keeps_name (padded text)) refl n kept refl);
    }

pub name_called-text : (n : Name) → name_called (name_text n) ≡ Some n
name_called-text n =
    let found = name_called-is (name_text n) (KeepsName-from n.bytes n.kept).text in
    found.is ∙ ap (λ x. Some x) (name_text-eq found.called n found.same)

pub name_called-none : (text : List ℕ) → is_name_text text ≡ false → name_called text ≡ None
unfolding name_called
name_called-none text is = ap (λ b. if b then name_kept (padded text) (keeps_name (padded text)) refl else None) is

pub name_called-some : (text : List ℕ) (n : Name) → name_called text ≡ Some n → text ≡ name_text n
name_called-some text n h = turn (is_name_text text) refl
  where
    turn : (b : Bool) → is_name_text text ≡ b → text ≡ name_text n
    turn true is =
        let found = name_called-is text is in
        sym found.same ∙ ap name_text (some_is found.called n (sym found.is ∙ h))
    turn false is = absurd (none_some n (sym (name_called-none text is) ∙ h))

-- what `Name::of` gives
pub name_of-lower : (word : List ℕ) → spelled word ≡ name_called (str_to_ascii_lowercase word)
unfolding name_called
name_of-lower word = refl

pub name_of-eq : (t : Token) (n : Name) → name_of t ≡ Some n → t ≡ name n
name_of-eq (Bare word) n h = ap (λ l. Bare l) (name_called-some word n h)
name_of-eq (Number k) n h = absurd cc
name_of-eq (Quoted text) n h = absurd cc
name_of-eq (Sign s) n h = absurd cc
