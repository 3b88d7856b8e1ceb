use Rattle.std.proofs.Common.{rules, ◌≡◌, ◌<◌, ◌∷◌, ◌++◌, ◌+◌, [], length, Some, None, Err, get_or, option_map, inr, sym, ap, ◌∙◌}
use Rattle.rm_base.specs.declared.catalog.CatalogColumn.{CatalogColumn}
use Rattle.csv.specs.Records.{fields_of}
use Rattle.csv_tables.specs.declared.load_error.LoadError.TheVariants.{Header}
use Rattle.csv_tables.specs.Header.{column_of, with_column}
use Rattle.csv_tables.proofs.RowLemmas.{columns_more, columns_fault}
use Rattle.csv_tables.proofs.header.columns_in.Goals as goal

pub returns-in_default-clause-err : goal.returns-in_default-clause-err
returns-in_default-clause-err c =
    let cells = fields_of c.args.header.now in
    let columns = c.loop-place.columns.items in
    let within : c.loop-place.place < length cells = search rules in
    let none : with_column columns (column_of (get_or cells c.loop-place.place [])) ≡ None =
    ap (λ cell. with_column columns (column_of cell)) (sym c.cell_at.ensures) ∙ ap (with_column columns) (sym c.column_of.ensures)
    ∙ ap (λ k. with_column k c.column_of.result) (sym c.deref.ensures.value) ∙ sym c.new_column.ensures
    ∙ ap (option_map (λ (column : CatalogColumn). c.deref.result.now ++ column ∷ [])) c.in_default.is in
    inr (sym c.loop-place.invariant.same ∙ columns_fault columns cells c.loop-place.place within none
    ∙ ap (λ n. Err (Header (n + 1))) c.loop-place.invariant.many)

pub loop-place-preserved : goal.loop-place-preserved
loop-place-preserved c =
    let cells = fields_of c.args.header.now in
    let columns = c.loop-place.columns.items in
    let within : c.loop-place.place < length cells = search rules in
    let items : c.push.new.self.items ≡ columns ++ c.in-Some.column ∷ [] = search rules in
    let next : with_column columns (column_of (get_or cells c.loop-place.place [])) ≡ Some c.push.new.self.items =
    ap (λ cell. with_column columns (column_of cell)) (sym c.cell_at.ensures) ∙ ap (with_column columns) (sym c.column_of.ensures)
    ∙ ap (λ k. with_column k c.column_of.result) (sym c.deref.ensures.value) ∙ sym c.new_column.ensures
    ∙ ap (option_map (λ (column : CatalogColumn). c.deref.result.now ++ column ∷ [])) c.in-Some.is
    ∙ ap (λ k. Some (k ++ c.in-Some.column ∷ [])) c.deref.ensures.value ∙ ap Some (sym items) in
    record {
      same = sym (columns_more columns c.push.new.self.items cells c.loop-place.place within next) ∙ c.loop-place.invariant.same;
      many = search rules;
    }
