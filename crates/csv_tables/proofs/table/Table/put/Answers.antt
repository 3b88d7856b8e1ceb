use Rattle.std.proofs.Common.{◌≡◌, true, arith, ap, ◌∙◌}
use Rattle.rm_base.specs.TableSeen.{fits_columns}
use Rattle.csv_tables.proofs.RowLemmas.{row_small}
use Rattle.csv_tables.proofs.table.Table.put.Goals as goal

pub row_measure-requires : goal.row_measure-requires
row_measure-requires c =
    let same : c.self.inside.columns ≡ c.args.self.now.columns = ap (λ t. t.columns) c.self.view_is in
    let fits : fits_columns c.self.inside.columns c.args.row ≡ true = ap (λ columns. fits_columns columns c.args.row) same ∙ c.requires in
    let small = row_small c.self.inside.columns c.args.row fits in
    omega (arith, small, c.self.invariant.0.few_columns)

pub overflow_add-measure : goal.overflow_add-measure
overflow_add-measure c =
    let same : c.self.inside.columns ≡ c.args.self.now.columns = ap (λ t. t.columns) c.self.view_is in
    let fits : fits_columns c.self.inside.columns c.args.row ≡ true = ap (λ columns. fits_columns columns c.args.row) same ∙ c.requires in
    let small = row_small c.self.inside.columns c.args.row fits in
    omega (arith, small, c.self.invariant.0.few_columns, c.self.invariant.0.measured, c.self.invariant.1, c.row_measure.ensures)
