-- The queries of a workload: their texts, and the SELECTs that these are over its tables.
use Rattle.std.specs.Prelude.{ℕ, ◌%◌, ◌==◌, if◌then◌else◌, List, [], ◌∷◌, Some, None, codes}
use Rattle.rm_base.specs.declared.catalog.CatalogTable.{CatalogTable}
use Rattle.rm_base.specs.declared.select.Item.TheVariants.{Column, CountAll, Sum}
use Rattle.rm_base.specs.declared.select.Op.TheVariants.{Equal}
use Rattle.rm_base.specs.declared.select.OrderSpec.{OrderSpec}
use Rattle.rm_base.specs.declared.select.Operand.TheVariants as operand
use Rattle.rm_base.specs.declared.select.Select.{Select}
use Rattle.workload.specs.Generator.{int_column, name_a, name_b, name_k, name_v, name_w}

-- the names and the columns of the tables
abbrev pub catalog : List CatalogTable
catalog =
    record { name = name_a; columns = int_column name_k ∷ int_column name_v ∷ [] }
    ∷ record { name = name_b; columns = int_column name_k ∷ int_column name_w ∷ [] }
    ∷ []

-- the text of query i
abbrev pub text_at : ℕ → List ℕ
text_at i =
    if i % 4 == 0 then codes "SELECT COUNT(*) FROM a"
    else (if i % 4 == 1 then codes "SELECT COUNT(*) FROM a JOIN b ON a.k = b.k"
    else (if i % 4 == 2 then codes "SELECT k, COUNT(*) FROM a GROUP BY k"
    else codes "SELECT SUM(v) FROM a"))

abbrev pub any_order : OrderSpec
any_order = record { keys = []; limit = None }

-- how many rows table a has
abbrev pub counting : Select
counting = record {
  tables = name_a ∷ [];
  tests = [];
  items = CountAll ∷ [];
  names = codes "count" ∷ [];
  groups = Some [];
  order = any_order;
}

-- how many pairs of rows of a and b have the same k
abbrev pub joining : Select
joining = record {
  tables = name_a ∷ name_b ∷ [];
  tests = record { left = operand.Column 0; op = Equal; right = operand.Column 2 } ∷ [];
  items = CountAll ∷ [];
  names = codes "count" ∷ [];
  groups = Some [];
  order = any_order;
}

-- each k of table a, and how many rows have it
abbrev pub grouping : Select
grouping = record {
  tables = name_a ∷ [];
  tests = [];
  items = Column 0 ∷ CountAll ∷ [];
  names = codes "k" ∷ codes "count" ∷ [];
  groups = Some (0 ∷ []);
  order = any_order;
}

-- the sum of v
abbrev pub summing : Select
summing = record {
  tables = name_a ∷ [];
  tests = [];
  items = Sum 1 ∷ [];
  names = codes "sum" ∷ [];
  groups = Some [];
  order = any_order;
}

-- the SELECT that the text of query i is
abbrev pub select_at : ℕ → Select
select_at i =
    if i % 4 == 0 then counting else (if i % 4 == 1 then joining else (if i % 4 == 2 then grouping else summing))
