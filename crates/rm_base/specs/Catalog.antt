-- The tables of a catalog.
use Rattle.std.specs.Prelude.{Bool, nat_le, length}
use Rattle.rm_base.specs.declared.catalog.CatalogTable.{CatalogTable}
use Rattle.rm_base.specs.declared.limits.TheConstants.{COLUMNS_MOST}

-- a table has no more columns than a table may have
abbrev pub is_narrow : CatalogTable → Bool
is_narrow table = nat_le (length table.columns) COLUMNS_MOST
