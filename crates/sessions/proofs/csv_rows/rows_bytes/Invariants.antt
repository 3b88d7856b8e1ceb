use Rattle.std.proofs.Common.{Some, [], take}
use Rattle.std.specs.Io.KnownBytes.{Appends}
use Rattle.csv.specs.Writing.{text_written}
use Rattle.sessions.specs.AnswerTexts.{rows_text}
use Rattle.sessions.specs.Answered.{IsBetweenRows}
use Rattle.sessions.proofs.csv_rows.rows_bytes.Given as goal

abbrev pub invariant-loop-row : goal.invariant-loop-row
invariant-loop-row l = record {
  between : IsBetweenRows l.writer;
  wrote : Appends (Some []) (text_written (λ v. Some v.items) l.writer) (rows_text (take l.row-index l.rows));
}
