use Rattle.std.proofs.Common.{◌∙◌, sym}
use Rattle.sessions.proofs.NumbersLemmas.{script_number-short}
use Rattle.sessions.proofs.numbers.moment_of.Goals as goal

pub invariant_of-result : goal.invariant_of-result
invariant_of-result c = record { short = script_number-short c.args.word.now c.in_ok-value.value (sym c.script_number.ensures ∙ c.in_ok-value.was) }
