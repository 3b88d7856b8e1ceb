use Rattle.std.proofs.Common.{take}
use Rattle.sessions.proofs.CsvLemmas.{HasFields}
use Rattle.sessions.proofs.csv_rows.write_names.Given as goal

abbrev pub invariant-loop-name : goal.invariant-loop-name
invariant-loop-name g l = HasFields g.W.Write.contents l.initial.writer l.writer (take l.name-index l.names)
