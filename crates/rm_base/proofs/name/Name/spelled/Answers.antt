use Rattle.std.specs.Prelude.{◌≤◌, length}
use Rattle.std.specs.Str.{str_to_ascii_lowercase}
use Rattle.std.proofs.Common.{sym, ap, ◌∙◌, arith}
use Rattle.rm_base.proofs.NameLemmas.{keeps_name-lowered, text_in-lowered, is_name_text-lowered}
use Rattle.rm_base.proofs.name.Name.spelled.Goals as goal

pub invariant_of-result : goal.invariant_of-result
invariant_of-result c =
    let text = c.as_bytes-text.result.now in
    let is = is_name_text-lowered text _ c.lowered-bytes.ensures (sym c.is_name_text.ensures ∙ c.if-is_name_text.true) in
    let within : length text ≤ 32 = omega arith in
    record { kept = keeps_name-lowered text _ within c.lowered-bytes.ensures is }

pub returns-then-is_name_text-clause-text : goal.returns-then-is_name_text-clause-text
returns-then-is_name_text-clause-text c =
    let text = c.as_bytes-text.result.now in
    let is = is_name_text-lowered text _ c.lowered-bytes.ensures (sym c.is_name_text.ensures ∙ c.if-is_name_text.true) in
    text_in-lowered text _ c.lowered-bytes.ensures is ∙ ap str_to_ascii_lowercase c.as_bytes-text.ensures.value
