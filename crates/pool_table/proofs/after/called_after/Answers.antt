use Rattle.pool_table.proofs.RowsAfter.{called-here, called-apart}
use Rattle.pool_table.proofs.after.called_after.Goals as goal

pub returns-then-same : goal.returns-then-same
returns-then-same c = called-here c.args.row.now c.args.rows.now c.args.name (cc)

pub returns : goal.returns
returns c =
    let same = called-apart c.args.row.now c.args.rows.now c.args.name (cc) in
    cc
