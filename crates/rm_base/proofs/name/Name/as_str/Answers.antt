use Rattle.std.specs.Prelude.{◌≡◌, take}
use Rattle.std.specs.Str.{IsUtf8}
use Rattle.std.proofs.Common.{sym, ap, ◌∙◌, subst}
use Rattle.std.proofs.lemmas.Result.{MatchResult-at_ok}
use Rattle.rm_base.specs.NameText.{text_in}
use Rattle.rm_base.proofs.NameLemmas.{IsUtf8-name_text, KeepsName-from, IsOk-unless, take-text_in}
use Rattle.rm_base.proofs.name.Name.as_str.Goals as goal

pub unwrap-requires : goal.unwrap-requires
unwrap-requires c =
    let bytes = c.args.self.now.bytes in
    let front : take c.text_len-len.result bytes ≡ text_in bytes = ap (λ n. take n bytes) c.text_len-len.ensures ∙ take-text_in bytes in
    let utf8 = subst IsUtf8 (sym front) (IsUtf8-name_text (text_in bytes) (KeepsName-from bytes c.args.self.now.kept).text) in
    IsOk-unless c.from_utf8.result _ _ c.from_utf8.ensures.cases (λ e faulty. faulty.0 utf8)

pub returns : goal.returns
returns c =
    let bytes = c.args.self.now.bytes in
    let front : take c.text_len-len.result bytes ≡ text_in bytes = ap (λ n. take n bytes) c.text_len-len.ensures ∙ take-text_in bytes in
    (MatchResult-at_ok _ _ _ c.unwrap.ensures c.from_utf8.ensures.cases).0 ∙ front
