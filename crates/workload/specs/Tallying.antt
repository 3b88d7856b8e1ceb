-- How a query changes what the queries before it came to.
use Rattle.std.specs.Prelude.{ℕ, ◌+◌, ◌*◌, ◌≤◌, ◌+ℤ◌, List, length}
use Rattle.rm_base.specs.declared.value.Value.{Value}
use Rattle.rm_rules.specs.Grouping.{int_sum}
use Rattle.rm_rules.specs.Meaning.SelectOutcome.{Answer, SumOutOfRange, AnswerTooLarge}
use Rattle.query_run.specs.Running.{RunOutcome}
use Rattle.query_run.specs.Running.RunOutcome.{Meant, Spills}
use Rattle.workload.specs.Summary.{Tallied, first_column}

-- one grant more
abbrev pub granted : Tallied → ℕ → Tallied
granted t grant = record t { granted = t.granted + grant }

-- one completed query more
abbrev pub completed : Tallied → List (List Value) → Tallied
completed t rows = record t { queries = t.queries + 1; rows = t.rows + length rows; total = t.total +ℤ int_sum (first_column rows) }

-- one query more, whose run ends so
abbrev pub ended : Tallied → RunOutcome → Tallied
ended t (Meant (Answer rows)) = completed t rows
ended t (Meant (SumOutOfRange column sum)) = t
ended t (Meant (AnswerTooLarge rows)) = t
ended t Spills = t
