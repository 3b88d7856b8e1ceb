use Rattle.std.proofs.Common.{sym}
use Rattle.machine.proofs.Ends.{with_end-set, with_end-absent}
use Rattle.machine.proofs.counters.count_end.Goals as goal

pub returns-in-Some : goal.returns-in-Some
returns-in-Some c =
    with_end-set c.args.rows.now c.args.pool c.args.end c.args.counters.now c.rows.result.now c.set.new.self _ c.with_one_end.result c.in-Some.place c.requires (sym c.in-Some.ensures.value) c.rows.ensures.rows c.with_one_end.ensures c.set.ensures

pub returns-in_default : goal.returns-in_default
returns-in_default c = sym (with_end-absent c.args.rows.now c.args.pool c.args.end c.args.counters.now c.requires (sym c.in_default.ensures.value))
