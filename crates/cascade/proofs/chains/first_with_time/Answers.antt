use Rattle.std.proofs.Common.{sym, ◌∙◌}
use Rattle.cascade.proofs.Steps.{leads-first, found-here, leads-on, fewer, none-left, found-there}
use Rattle.cascade.proofs.chains.first_with_time.Goals as goal

pub loop-next-init : goal.loop-next-init
loop-next-init c = leads-first c.args.definitions.now c.args.pool c.args.running c.pool_row-next.result c.requires c.pool_row-next.ensures.value

pub returns-then-leaves_time-clause-value : goal.returns-then-leaves_time-clause-value
returns-then-leaves_time-clause-value c =
    found-here c.args.definitions.now c.args.pool c.args.running c.loop-next.next c.in-Some.name c.pool_row-row.result c.loop-next.invariant c.in-Some.is c.pool_row-row.ensures.value (sym c.leaves_time.ensures ∙ c.if-leaves_time.true)

pub returns-then-leaves_time-clause-there : goal.returns-then-leaves_time-clause-there
returns-then-leaves_time-clause-there c =
    found-there c.args.definitions.now c.args.pool c.args.running c.in-Some.name c.requires
    (found-here c.args.definitions.now c.args.pool c.args.running c.loop-next.next c.in-Some.name c.pool_row-row.result c.loop-next.invariant c.in-Some.is c.pool_row-row.ensures.value (sym c.leaves_time.ensures ∙ c.if-leaves_time.true))

pub loop-next-smaller : goal.loop-next-smaller
loop-next-smaller c = fewer c.args.definitions.now c.args.pool c.args.running c.loop-next.next c.in-Some.name c.pool_row-row.result c.loop-next.invariant c.in-Some.is c.pool_row-row.ensures.value

pub loop-next-preserved : goal.loop-next-preserved
loop-next-preserved c =
    leads-on c.args.definitions.now c.args.pool c.args.running c.loop-next.next c.in-Some.name c.pool_row-row.result c.loop-next.invariant c.in-Some.is c.pool_row-row.ensures.value (sym c.leaves_time.ensures ∙ c.if-leaves_time.false)

pub returns-clause-value : goal.returns-clause-value
returns-clause-value c = none-left c.args.definitions.now c.args.pool c.args.running c.loop-next.next c.loop-next.invariant c.in_default.is
