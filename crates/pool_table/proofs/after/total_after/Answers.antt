use Rattle.pool_table.proofs.RowsAfter.{total-here, total-apart}
use Rattle.pool_table.proofs.after.total_after.Goals as goal

pub returns-then-same-clause-value : goal.returns-then-same-clause-value
returns-then-same-clause-value c =
    let same = total-here c.args.definitions.now c.args.row.now (cc) in
    cc

pub returns-clause-value : goal.returns-clause-value
returns-clause-value c =
    let same = total-apart c.args.definitions.now c.args.row.now (cc) in
    cc
