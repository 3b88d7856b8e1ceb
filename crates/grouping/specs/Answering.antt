-- How rows in order end.
use Rattle.rm_rules.specs.Meaning.{SelectOutcome}
use Rattle.rm_rules.specs.Meaning.SelectOutcome.{Answer, AnswerTooLarge}
use Rattle.grouping.specs.declared.answer.Ordered.{Ordered}
use Rattle.grouping.specs.declared.answer.Ordered.TheVariants as end

-- what an answer means
abbrev pub outcome_of : Ordered → SelectOutcome
outcome_of (end.Rows rows) = Answer rows
outcome_of (end.AnswerTooLarge count) = AnswerTooLarge count
