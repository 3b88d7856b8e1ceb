-- The two tables of a workload, by how many rows it has and its seed.
use Rattle.std.specs.Prelude.{ℕ, zero, suc, ◌+◌, ◌*◌, ◌/◌, ◌%◌, ◌^◌, pos, List, [], ◌∷◌, ◌++◌, map, codes, refl, replicate}
use Rattle.std.specs.List.{range_with_len}
use Rattle.rm_base.specs.declared.catalog.CatalogColumn.{CatalogColumn}
use Rattle.rm_base.specs.declared.catalog.ColumnKind.TheVariants as column
use Rattle.rm_base.specs.declared.name.Name.{Name}
use Rattle.rm_base.specs.declared.value.Value.{Value}
use Rattle.rm_base.specs.declared.value.Value.TheVariants.{Int}
use Rattle.rm_base.specs.TableSeen.{TableSeen}
use Rattle.csv_tables.specs.declared.tables.NamedTable.{NamedTable}
use Rattle.workload.specs.declared.generator.TheConstants.{MULTIPLIER, INCREMENT, SHIFT, KEYS, ROWS_OF_A_TO_B}

-- the number of the generator behind this one
abbrev pub drawn : ℕ → ℕ
drawn x = (x * MULTIPLIER + INCREMENT) % 2 ^ 64

-- the i-th number of the generator; the seed is its first
abbrev pub draw : ℕ → ℕ → ℕ
draw seed zero = seed
draw seed (suc i) = drawn (draw seed i)

-- the names of the tables and their columns
abbrev pub name_a : Name
name_a = record { bytes = codes "a" ++ replicate 31 0; kept = refl }

abbrev pub name_b : Name
name_b = record { bytes = codes "b" ++ replicate 31 0; kept = refl }

abbrev pub name_k : Name
name_k = record { bytes = codes "k" ++ replicate 31 0; kept = refl }

abbrev pub name_v : Name
name_v = record { bytes = codes "v" ++ replicate 31 0; kept = refl }

abbrev pub name_w : Name
name_w = record { bytes = codes "w" ++ replicate 31 0; kept = refl }

-- a column of Ints
abbrev pub int_column : Name → CatalogColumn
int_column name = record { name = name; kind = column.Int }

-- a row of two numbers
abbrev pub number_row : ℕ → ℕ → List Value
number_row first second = Int (pos first) ∷ Int (pos second) ∷ []

-- row i of table a: k, and as v the high bits of a number of the generator
abbrev pub row_of_a : ℕ → ℕ → List Value
row_of_a seed i = number_row (i % KEYS) (draw seed (suc i) / 2 ^ SHIFT)

-- row i of table b: k and w
abbrev pub row_of_b : ℕ → List Value
row_of_b i = number_row (i % KEYS) i

-- table a, of so many rows
abbrev pub table_a : ℕ → ℕ → TableSeen
table_a rows seed = record {
  columns = int_column name_k ∷ int_column name_v ∷ [];
  rows = map (row_of_a seed) (range_with_len 0 rows);
}

-- table b, of a tenth of as many
abbrev pub table_b : ℕ → TableSeen
table_b rows = record {
  columns = int_column name_k ∷ int_column name_w ∷ [];
  rows = map row_of_b (range_with_len 0 (rows / ROWS_OF_A_TO_B));
}

-- both tables by their names
abbrev pub tables_of : ℕ → ℕ → List NamedTable
tables_of rows seed =
    record { name = name_a; table = table_a rows seed } ∷ record { name = name_b; table = table_b rows } ∷ []
