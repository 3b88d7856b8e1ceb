use Rattle.std.proofs.Common.{◌≡◌, ap, sym, ◌∙◌, arith}
use Rattle.rm_base.specs.declared.limits.TheConstants.{ANSWER_MOST}
use Rattle.rm_rules.specs.Meaning.{fitting}
use Rattle.rm_rules.specs.Meaning.SelectOutcome.{Answer, AnswerTooLarge}
use Rattle.grouping.proofs.Fitting.{answers, answers_not}
use Rattle.grouping.proofs.answer.answer_of.Goals as goal

pub returns-then-count-len : goal.returns-then-count-len
returns-then-count-len c =
    let is : c.fitting-count.result ≡ fitting ANSWER_MOST c.args.rows.items = c.fitting-count.ensures ∙ ap (fitting ANSWER_MOST) c.deref.ensures.value in
    ap AnswerTooLarge is ∙ sym (answers_not c.args.rows.items (omega (arith, is, c.len.ensures, c.if-count-len.true)))

pub returns-else-count-len : goal.returns-else-count-len
returns-else-count-len c =
    let is : c.fitting-count.result ≡ fitting ANSWER_MOST c.args.rows.items = c.fitting-count.ensures ∙ ap (fitting ANSWER_MOST) c.deref.ensures.value in
    ap Answer c.of.ensures ∙ sym (answers c.args.rows.items (omega (arith, is, c.len.ensures, c.if-count-len.false)))
