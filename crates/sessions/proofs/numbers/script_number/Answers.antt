use Rattle.std.proofs.Common.{◌∙◌, ◌≤◌, arith, sym, ap, cond, None, length, le-leb}
use Rattle.sessions.proofs.NumbersLemmas.{below-short}
use Rattle.rm_base.specs.declared.limits.TheConstants.{DIGITS_MOST}
use Rattle.options.specs.Numeral.{numeral_of}
use Rattle.sessions.proofs.numbers.script_number.Goals as goal

pub returns : goal.returns
returns c =
    let word = c.args.word.now in
    let short : length word ≤ DIGITS_MOST = omega arith in
    c.numeral_of.ensures ∙ below-short word short
    ∙ sym (ap (λ is_short. cond is_short (numeral_of word) None) (le-leb (length word) 15 short))
