-- Rows of two numbers, and tables that have room for them.
use Rattle.std.proofs.Common.{◌≡◌, ℕ, zero, suc, ◌+◌, ◌*◌, ◌<◌, ◌≤◌, true, false, cond, List, [], ◌∷◌, ◌++◌, map, length, Result, Ok, Err, refl, sym, ap, ◌∙◌, arith}
use Rattle.std.specs.Prelude.{nat_le, nat_lt}
use Rattle.std.specs.List.{range_with_len}
use Rattle.std.proofs.lemmas.Bool.Decides.{nat_tests}
use Rattle.std.proofs.lemmas.List.FromFn.{length-map-range_with_len, map-range_with_len_more, sum_by-map-range_with_len_more}
use Rattle.rm_base.specs.declared.catalog.CatalogColumn.{CatalogColumn}
use Rattle.rm_base.specs.declared.limits.TheConstants.{ROWS_MOST, TABLE_MOST}
use Rattle.rm_base.specs.declared.value.Value.{Value}
use Rattle.rm_base.specs.TableSeen.{TableSeen}
use Rattle.rm_base.specs.Values.{row_measure, rows_measure}
use Rattle.csv_tables.specs.declared.load_error.LoadError.{LoadError}
use Rattle.csv_tables.specs.declared.load_error.LoadError.TheVariants.{Rows, TooLarge}
use Rattle.csv_tables.specs.Loading.{with_row}

-- what rows of two numbers measure
pub measure_of : (f : ℕ → List Value) → ((i : ℕ) → row_measure (f i) ≡ 32) → (n : ℕ) → rows_measure (map f (range_with_len 0 n)) ≡ 32 * n
measure_of f each zero = refl
measure_of f each (suc n) =
    let more : suc n ≡ n + 1 = omega arith in
    ap (λ k. rows_measure (map f (range_with_len 0 k))) more
    ∙ sum_by-map-range_with_len_more row_measure f 0 n n (omega arith)
    ∙ omega (arith, measure_of f each n, each n)

-- a row for which there is room is put behind the others
pub with_room : (t : TableSeen) (row : List Value) → length t.rows < ROWS_MOST → rows_measure t.rows + row_measure row ≤ TABLE_MOST
    → with_row t row ≡ Ok (record t { rows = t.rows ++ row ∷ [] })
with_room t row few small =
    let rows : nat_le ROWS_MOST (length t.rows) ≡ false = grind (arith, nat_tests, few) in
    let bytes : nat_lt TABLE_MOST (rows_measure t.rows + row_measure row) ≡ false = grind (arith, nat_tests, small) in
    let more : TableSeen = record t { rows = t.rows ++ row ∷ [] } in
    ap {B = Result TableSeen LoadError} (λ b. cond b (Err Rows) (cond (nat_lt TABLE_MOST (rows_measure t.rows + row_measure row)) (Err TooLarge) (Ok more))) rows
    ∙ ap {B = Result TableSeen LoadError} (λ b. cond b (Err TooLarge) (Ok more)) bytes

-- what is left of a table is it with one row more
pub put_more : (t u : TableSeen) (row : List Value) → length t.rows < ROWS_MOST → rows_measure t.rows + row_measure row ≤ TABLE_MOST
    → with_row t row ≡ Ok u → u ≡ record t { rows = t.rows ++ row ∷ [] }
put_more t u row few small is =
    let same : Ok (record t { rows = t.rows ++ row ∷ [] }) ≡ Ok u = sym (with_room t row few small) ∙ is in
    cc

length_rows : (f : ℕ → List Value) (n : ℕ) → length (map f (range_with_len 0 n)) ≡ n
length_rows f n = length-map-range_with_len f 0 n

-- a table of fewer rows of two numbers than a workload may have has room for one more
pub room_left : (f : ℕ → List Value) → ((i : ℕ) → row_measure (f i) ≡ 32) → (rows : List (List Value)) (n most : ℕ) → rows ≡ map f (range_with_len 0 n) → n < most → most ≤ 100000
    → (length rows < ROWS_MOST) × (rows_measure rows + 32 ≤ TABLE_MOST)
room_left f each rows n most are less few =
    let count : length rows ≡ n = ap length are ∙ length_rows f n in
    let measure : rows_measure rows ≡ 32 * n = ap rows_measure are ∙ measure_of f each n in
    (omega (arith, count, less, few), omega (arith, measure, less, few))

-- a table with one row more
pub table_more : (f : ℕ → List Value) (columns : List CatalogColumn) (n : ℕ) (t u : TableSeen) (row : List Value)
    → t ≡ record { columns = columns; rows = map f (range_with_len 0 n) } → row ≡ f n → u ≡ record t { rows = t.rows ++ row ∷ [] }
    → u ≡ record { columns = columns; rows = map f (range_with_len 0 (n + 1)) }
table_more f columns n t u row is one more =
    more
    ∙ ap (λ (x : TableSeen). let y : TableSeen = record x { rows = x.rows ++ row ∷ [] } in y) is
    ∙ ap (λ (rows : List (List Value)). let y : TableSeen = record { columns = columns; rows = rows } in y)
    (ap (λ (x : List Value). map f (range_with_len 0 n) ++ x ∷ []) one ∙ sym (map-range_with_len_more f 0 n n (omega arith)))
