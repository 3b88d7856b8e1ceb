use Rattle.std.proofs.Common.{rules, ◌≡◌, ◌<◌, ◌∷◌, ◌++◌, ◌+◌, [], true, length, take, drop, Some, get_or, sym, ap, ◌∙◌}
use Rattle.std.proofs.lemmas.List.{take_more}
use Rattle.csv.specs.Records.{fields_of}
use Rattle.rm_base.specs.declared.catalog.CatalogColumn.{CatalogColumn}
use Rattle.rm_base.specs.TableSeen.{fits_columns}
use Rattle.csv_tables.specs.Cells.{value_of}
use Rattle.csv_tables.specs.Loading.{values_from}
use Rattle.csv_tables.proofs.RowLemmas.{values_more, fits_more, value_fits}
use Rattle.csv_tables.proofs.row.values_of.Goals as goal

pub loop-place-preserved : goal.loop-place-preserved
loop-place-preserved c =
    let cells = fields_of c.args.cells.now in
    let columns = c.args.columns.now in
    let place = c.loop-place.place in
    let column = c.index-columns-place.result in
    let within : place < length columns = search rules in
    let in_cells : place < length cells = search rules in
    let items : c.push.new.self.items ≡ c.loop-place.values.items ++ c.in-Some.value ∷ [] = search rules in
    let read : value_of column.kind (get_or cells place []) ≡ Some c.in-Some.value =
    ap (value_of column.kind) (sym c.cell_at.ensures) ∙ sym c.in_ok-value.ensures ∙ c.in-Some.is in
    let at_place : value_of (get_or columns place column).kind (get_or cells place []) ≡ Some c.in-Some.value =
    ap (λ (k : CatalogColumn). value_of k.kind (get_or cells place [])) (sym c.index-columns-place.is) ∙ read in
    let fits : fits_columns (take place columns ++ column ∷ []) (c.loop-place.values.items ++ c.in-Some.value ∷ []) ≡ true =
    fits_more (take place columns) c.loop-place.values.items column c.in-Some.value c.loop-place.invariant.fits
    (value_fits column.kind (get_or cells place []) c.in-Some.value read) in
    let taken : take (place + 1) columns ≡ take place columns ++ column ∷ [] =
    take_more columns place column within ∙ ap (λ k. take place columns ++ k ∷ []) (sym c.index-columns-place.is) in
    record {
      same = ap (λ vs. values_from c.args.number vs (drop (place + 1) columns) (drop (place + 1) cells)) items
          ∙ sym (values_more c.args.number c.loop-place.values.items columns cells place column c.in-Some.value within in_cells at_place)
          ∙ c.loop-place.invariant.same;
      fits = (λ k. fits_columns (taken k) (items k)) ∙ fits;
      many = search rules;
    }
