-- The columns and the values of cells, one after the other, and what they measure.
use Rattle.std.proofs.Common.{◌≡◌, ◌<◌, ◌≤◌, ◌+◌, ◌*◌, ℕ, Bool, true, false, ◌&&◌, cond, leb, List, [], ◌∷◌, ◌++◌, Some, None, Option, option_map, Err, length, drop, get_or, refl, ap, subst, ◌∙◌, arith, sum_by}
use Rattle.std.specs.Cmp.{first_so, second_so}
use Rattle.std.specs.Str.{is_utf8}
use Rattle.std.specs.Prelude.{ℤ}
use Rattle.std.proofs.lemmas.Bool.{false≢true}
use Rattle.std.proofs.lemmas.Bool.Decides.{nat_tests}
use Rattle.std.proofs.lemmas.List.{at_drop_more, drop_more}
use Rattle.std.proofs.lemmas.List.Sums.{sum_by-cons}
use Rattle.rm_base.specs.declared.catalog.CatalogColumn.{CatalogColumn}
use Rattle.rm_base.specs.declared.catalog.ColumnKind.{ColumnKind}
use Rattle.rm_base.specs.declared.catalog.ColumnKind.TheVariants as column
use Rattle.rm_base.specs.declared.value.Value.{Value}
use Rattle.rm_base.specs.declared.value.Value.TheVariants.{Null, Int, Words}
use Rattle.rm_base.specs.TableSeen.{fits_kind, fits_columns}
use Rattle.rm_base.specs.Values.{value_measure, row_measure}
use Rattle.csv_tables.specs.declared.load_error.LoadError.TheVariants as fault
use Rattle.csv_tables.specs.Header.{column_of, with_column, columns_from}
use Rattle.csv_tables.specs.Cells.{int_of, value_of}
use Rattle.csv_tables.specs.Loading.{values_from}

-- one more cell of a header names a column
pub columns_more : (columns more : List CatalogColumn) (cells : List (List ℕ)) (i : ℕ) → i < length cells
    → with_column columns (column_of (get_or cells i [])) ≡ Some more
    → columns_from columns (drop i cells) ≡ columns_from more (drop (i + 1) cells)
columns_more columns more cells i within h = at_drop_more (columns_from columns) cells i [] within ∙ rw (columns_from, h) refl

-- and one that names none is the fault
pub columns_fault : (columns : List CatalogColumn) (cells : List (List ℕ)) (i : ℕ) → i < length cells
    → with_column columns (column_of (get_or cells i [])) ≡ None
    → columns_from columns (drop i cells) ≡ Err (fault.Header (length columns + 1))
columns_fault columns cells i within h = at_drop_more (columns_from columns) cells i [] within ∙ rw (columns_from, h) refl

-- one more cell of a record has a value
pub values_more : (number : ℕ) (values : List Value) (columns : List CatalogColumn) (cells : List (List ℕ)) (i : ℕ) (c : CatalogColumn) (value : Value)
    → i < length columns → i < length cells → value_of (get_or columns i c).kind (get_or cells i []) ≡ Some value
    → values_from number values (drop i columns) (drop i cells) ≡ values_from number (values ++ value ∷ []) (drop (i + 1) columns) (drop (i + 1) cells)
values_more number values columns cells i c value in_columns in_cells h =
    (λ k. values_from number values (drop_more columns i c in_columns k) (drop_more cells i [] in_cells k)) ∙ rw (values_from, h) refl

-- a row of fewer columns with one more value that fits
pub fits_more : (columns : List CatalogColumn) (values : List Value) (c : CatalogColumn) (value : Value)
    → fits_columns columns values ≡ true → fits_kind c.kind value ≡ true → fits_columns (columns ++ c ∷ []) (values ++ value ∷ []) ≡ true
fits_more [] [] c value h fits = ap (λ b. b && true) fits
fits_more [] (v ∷ values) c value h fits = absurd (false≢true h)
fits_more (k ∷ columns) [] c value h fits = absurd (false≢true h)
fits_more (k ∷ columns) (v ∷ values) c value h fits =
    λ i. first_so (fits_kind k.kind v) (fits_columns columns values) h i
    && fits_more columns values c value (second_so (fits_kind k.kind v) (fits_columns columns values) h) fits i

-- the value of a cell fits the column's kind
int_fits : (o : Option ℤ) (value : Value) → option_map Int o ≡ Some value → fits_kind column.Int value ≡ true
int_fits None value h = absurd (cc)
int_fits (Some n) value h = subst (λ v. fits_kind column.Int v ≡ true) (same h) refl
  where
    same : {x y : Value} → Some x ≡ Some y → x ≡ y
    same e = cc

text_fits : (short utf8 : Bool) (cell : List ℕ) (value : Value) → leb (length cell) 1024 ≡ short → cond (short && utf8) (Some (Words cell)) None ≡ Some value → fits_kind column.Words value ≡ true
text_fits true true cell value is h = subst (λ v. fits_kind column.Words v ≡ true) (same h) is
  where
    same : {x y : Value} → Some x ≡ Some y → x ≡ y
    same e = cc
text_fits true false cell value is h = absurd (cc)
text_fits false utf8 cell value is h = absurd (cc)

null_fits : (kind : ColumnKind) → fits_kind kind Null ≡ true
null_fits column.Int = refl
null_fits column.Words = refl

pub value_fits : (kind : ColumnKind) (cell : List ℕ) (value : Value) → value_of kind cell ≡ Some value → fits_kind kind value ≡ true
value_fits kind [] value h = subst (λ v. fits_kind kind v ≡ true) (same h) (null_fits kind)
  where
    same : {x y : Value} → Some x ≡ Some y → x ≡ y
    same e = cc
value_fits column.Int (b ∷ bs) value h = int_fits (int_of (b ∷ bs)) value h
value_fits column.Words (b ∷ bs) value h = text_fits (leb (length (b ∷ bs)) 1024) (is_utf8 (b ∷ bs)) (b ∷ bs) value refl h

-- a value that fits is small
value_small : (kind : ColumnKind) (value : Value) → fits_kind kind value ≡ true → value_measure value ≤ 1040
value_small kind Null fits = omega arith
value_small kind (Int n) fits = omega arith
value_small column.Int (Words text) fits = absurd (false≢true fits)
value_small column.Words (Words text) fits = grind (arith, nat_tests)

values_small : (columns : List CatalogColumn) (values : List Value) → fits_columns columns values ≡ true → sum_by value_measure values ≤ 1040 * length columns
values_small [] [] fits = omega arith
values_small [] (v ∷ values) fits = absurd (false≢true fits)
values_small (k ∷ columns) [] fits = absurd (false≢true fits)
values_small (k ∷ columns) (v ∷ values) fits =
    let one = value_small k.kind v (first_so (fits_kind k.kind v) (fits_columns columns values) fits) in
    let more = values_small columns values (second_so (fits_kind k.kind v) (fits_columns columns values) fits) in
    omega (arith, one, more, sum_by-cons value_measure v values)

-- and so is a row
pub row_small : (columns : List CatalogColumn) (values : List Value) → fits_columns columns values ≡ true → row_measure values ≤ 16 + 1040 * length columns
row_small columns values fits = let small = values_small columns values fits in omega arith
