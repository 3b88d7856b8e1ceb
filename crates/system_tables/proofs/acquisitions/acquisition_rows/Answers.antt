use Rattle.system_tables.proofs.Sizes.{held-at}
use Rattle.system_tables.proofs.acquisitions.acquisition_rows.Goals as goal

pub acquisition_cells-requires : goal.acquisition_cells-requires
acquisition_cells-requires c =
    held-at c.args.snapshot.now c.as_slice-running.result.now c.loop-r.r-index c.r-item.result c.requires c.as_slice-running.ensures c.loop-r-test.true c.r-item.is
