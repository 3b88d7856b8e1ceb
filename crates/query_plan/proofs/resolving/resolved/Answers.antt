use Rattle.std.proofs.Common.{◌≡◌, ◌≤◌, length, true, sym, ◌∙◌, ap, subst, arith}
use Rattle.std.specs.List.{list_all}
use Rattle.rm_base.specs.declared.limits.TheConstants.{ROW_VALUES_MOST, SELECT_TABLES_MOST}
use Rattle.query_plan.specs.Resolving.{counts_among, output_names}
use Rattle.query_plan.specs.Scope.{scope_from}
use Rattle.query_plan.proofs.Scopes.{keys-count, scope-few}
use Rattle.query_plan.proofs.resolving.resolved.Goals as goal

pub planned-requires-clause-scope : goal.planned-requires-clause-scope
planned-requires-clause-scope c =
    let same = ap length c.as_slice-tables-2.ensures in
    let few : length c.args.raw.now.tables ≤ SELECT_TABLES_MOST = omega (arith, same, c.if-tables-gt-SELECT_TABLES_MOST.false) in
    subst (λ l. length l ≤ ROW_VALUES_MOST) (sym c.as_slice.ensures)
    (scope-few c.args.catalog.now c.args.raw.now c.in-Ok.scope c.as_slice-tables.ensures.narrow few
    (ap (scope_from c.args.catalog.now 0) (sym c.as_slice-tables-2.ensures) ∙ c.in-Ok.ensures))

pub planned-requires-clause-counts : goal.planned-requires-clause-counts
planned-requires-clause-counts c =
    subst (λ l. list_all (counts_among (length (output_names l c.args.raw.now.all c.args.raw.now.items))) c.args.raw.now.keys ≡ true) (sym c.as_slice.ensures)
    (keys-count c.args.catalog.now c.args.raw.now c.in-Ok.scope
    (ap (scope_from c.args.catalog.now 0) (sym c.as_slice-tables-2.ensures) ∙ c.in-Ok.ensures) c.requires.listed)
