use Rattle.std.proofs.Common.{arith}
use Rattle.system_tables.proofs.Sizes.{one-held}
use Rattle.system_tables.proofs.seen.grants_seen.Goals as goal

pub holding_seen-requires : goal.holding_seen-requires
holding_seen-requires c = omega (arith, one-held c.args.running.now c.loop-r.r-index c.r-item.result c.loop-r-test.true c.r-item.is, c.requires)
