use Rattle.std.proofs.Common.{◌++◌, ◌∙◌, ap}
use Rattle.query_plan.specs.Scope.{columns_here, scope_from}
use Rattle.query_plan.proofs.Scopes.{scope-goes}
use Rattle.query_plan.proofs.resolving.scope_of.Goals as goal

pub loop-i-preserved : goal.loop-i-preserved
loop-i-preserved c =
    scope-goes c.args.catalog.now c.loop-i.scope c.args.tables.now c.loop-i.i c.index-tables-i.result c.in-Some.found.now c.push_columns.new.scope
    (scope_from c.args.catalog.now 0 c.args.tables.now)
    c.loop-i-test.true c.index-tables-i.is c.in-Some.ensures
    (c.in_ok-push_columns-in-Some.ensures ∙ ap (λ l. c.loop-i.scope ++ columns_here c.loop-i.i c.index-tables-i.result.call l) c.as_slice.ensures)
    c.loop-i.invariant
