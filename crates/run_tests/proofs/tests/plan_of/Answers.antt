use Rattle.std.proofs.Common.{List, subst}
use Rattle.rm_base.specs.declared.catalog.CatalogTable.{CatalogTable}
use Rattle.query_plan.specs.Text.{SpellsText}
use Rattle.query_run.proofs.Runnable.{spelled-runs}
use Rattle.run_tests.proofs.tests.plan_of.Goals as goal

pub returns-in-Ok : goal.returns-in-Ok
returns-in-Ok c =
    spelled-runs c.args.tables.now c.args.text.now c.in-Ok.plan
    (subst (λ (cs : List CatalogTable). SpellsText cs c.args.text.now c.in-Ok.plan) c.catalog.ensures c.in-Ok.ensures.plan)
