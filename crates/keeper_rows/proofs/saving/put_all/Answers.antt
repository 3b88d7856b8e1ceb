use Rattle.keeper_rows.proofs.RowLemmas.{all-pass}
use Rattle.keeper_rows.proofs.saving.put_all.Goals as goal

pub put_rows-requires-3 : goal.put_rows-requires-3
put_rows-requires-3 g c = all-pass c.rows-3.result.now

pub put_rows-requires-4 : goal.put_rows-requires-4
put_rows-requires-4 g c = all-pass c.rows-4.result.now
