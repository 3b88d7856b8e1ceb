use Rattle.std.proofs.Common.{map, take}
use Rattle.sessions.specs.AnswerTexts.{cell_text}
use Rattle.sessions.proofs.CsvLemmas.{HasFields}
use Rattle.sessions.proofs.csv_rows.write_row.Given as goal

abbrev pub invariant-loop-value : goal.invariant-loop-value
invariant-loop-value g l = HasFields g.W.Write.contents l.initial.writer l.writer (map cell_text (take l.value-index l.row))
