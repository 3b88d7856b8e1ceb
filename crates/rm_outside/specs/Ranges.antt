-- Which numbers of definitions a store keeps.
use Rattle.std.specs.Prelude.{◌≡◌, ◌≤◌, true}
use Rattle.std.specs.List.{list_all}
use Rattle.rm_base.specs.declared.limits.TheConstants.{MEMORY_LEAST, MEMORY_MOST, CORES_MOST, CHANGES_MOST}
use Rattle.rm_base.specs.declared.definitions.Definitions.{Definitions}
use Rattle.rm_base.specs.Ranges.{is_pool_in_range, is_user_in_range}

-- every number of the definitions is in its range
pub record IsInRange (definitions : Definitions) : Type 0 where
  pub memory_least : MEMORY_LEAST ≤ definitions.memory
  pub memory_most : definitions.memory ≤ MEMORY_MOST
  pub cores_least : 1 ≤ definitions.cores
  pub cores_most : definitions.cores ≤ CORES_MOST
  pub changes : definitions.changes ≤ CHANGES_MOST
  pub pools : list_all is_pool_in_range definitions.pools ≡ true
  pub users : list_all is_user_in_range definitions.users ≡ true
