-- What the run of a plan came to, and what an answer prints.
use Rattle.std.specs.Prelude.{◌≡◌, ℕ, false, List, [], ◌++◌, length, string_bytes}
use Rattle.csv.specs.Writing.{default_writer, writer_setup, fields_written, has_written}
use Rattle.csv.specs.declared.writer.Writer.{Writer}
use Rattle.query_run.specs.Running.{RunOutcome}
use Rattle.query_run.specs.Running.RunOutcome.{Meant, Spills}
use Rattle.rm_base.specs.declared.name.Name.{Name}
use Rattle.rm_base.specs.declared.reply.Reply.TheVariants as reply
use Rattle.rm_base.specs.declared.value.Value.{Value}
use Rattle.rm_rules.specs.Meaning.SelectOutcome.{Answer, SumOutOfRange, AnswerTooLarge}
use Rattle.sessions.specs.declared.answer.Answer.{Answer as Answered}
use Rattle.sessions.specs.declared.answer.Ran.{Ran}
use Rattle.sessions.specs.declared.answer.Ran.TheVariants as ran
use Rattle.sessions.specs.AnswerTexts.{outcome_text, rows_head}
use Rattle.sessions.specs.Texts.{line_text}

-- how a run ended that came to this
abbrev pub ran_outcome : Ran → RunOutcome
ran_outcome (ran.Rows rows) = Meant (Answer rows)
ran_outcome (ran.SumOutOfRange column sum) = Meant (SumOutOfRange column sum)
ran_outcome (ran.TooLarge rows) = Meant (AnswerTooLarge rows)
ran_outcome ran.NeedsSpill = Spills

-- the rows of an answer, or none
abbrev pub rows_in : Ran → List (List Value)
rows_in (ran.Rows rows) = rows
rows_in (ran.SumOutOfRange column sum) = []
rows_in (ran.TooLarge rows) = []
rows_in ran.NeedsSpill = []

-- what is printed before the rows
abbrev pub head_text : Name → List (List ℕ) → Ran → List ℕ
head_text session names (ran.Rows rows) = rows_head session names (length rows)
head_text session names (ran.SumOutOfRange column sum) = outcome_text session names (Meant (SumOutOfRange column sum))
head_text session names (ran.TooLarge rows) = outcome_text session names (Meant (AnswerTooLarge rows))
head_text session names ran.NeedsSpill = outcome_text session names Spills

-- how a query's run ended, and the release of its grant
abbrev pub told_text : Answered → List ℕ
told_text a = outcome_text a.session a.plan.names (ran_outcome a.ran) ++ line_text a.session (reply.Released a.released)

-- what an answer prints: what is told before it, and then this
abbrev pub answer_text : Answered → List ℕ
answer_text a = string_bytes a.before ++ told_text a

-- the writer has the default settings, and stands between two rows
pub record IsBetweenRows {W : Type 0} (w : Writer W) : Type 0 where
  pub setup : writer_setup w ≡ default_writer
  pub fields : fields_written w ≡ 0
  pub wrote : has_written w ≡ false
