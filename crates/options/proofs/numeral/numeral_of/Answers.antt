use Rattle.std.proofs.Common.{◌∙◌, ◌≡◌, ◌==◌, false, slice_index, rules, eq-eqb}
use Rattle.std.proofs.lemmas.Bool.{false≢true}
use Rattle.options.proofs.NumeralLemmas.{parsed}
use Rattle.options.proofs.numeral.numeral_of.Goals as goal

pub returns : goal.returns
returns c =
    let word = c.args.word.now in
    let plain : false ≡ (slice_index word 0 == 43) = search rules in
    c.ok.ensures.value ∙ parsed word c.parse.result c.parse.ensures.value.0 (λ plus. false≢true (plain ∙ eq-eqb _ 43 plus))
