use Rattle.std.proofs.Common.{ap, sym, ◌∙◌}
use Rattle.grouping.specs.Answering.{outcome_of}
use Rattle.query_run.specs.Running.RunOutcome.{Meant}
use Rattle.query_run.proofs.gathering.answered.Goals as goal

pub returns-in-Rows-clause-outcome : goal.returns-in-Rows-clause-outcome
returns-in-Rows-clause-outcome c = ap Meant (sym c.answer_of.ensures ∙ ap outcome_of c.in-Rows.is)

pub returns-in-AnswerTooLarge-clause-outcome : goal.returns-in-AnswerTooLarge-clause-outcome
returns-in-AnswerTooLarge-clause-outcome c = ap Meant (sym c.answer_of.ensures ∙ ap outcome_of c.in-AnswerTooLarge.is)
