-- Options that are read lie within their ranges.
use Rattle.std.specs.Prelude.{◌≡◌, ◌≤◌}
use Rattle.rm_base.specs.declared.limits.TheConstants.{MEMORY_LEAST, MEMORY_MOST, CORES_MOST, WORKLOAD_QUERIES_MOST, WORKLOAD_ROWS_MOST}
use Rattle.options.specs.declared.script.ScriptOptions.{ScriptOptions}
use Rattle.options.specs.declared.workload.WorkloadOptions.{WorkloadOptions}

-- the memory and the cores are such as a machine may have
pub record AreWithin (options : ScriptOptions) : Type 0 where
  pub memory_least : MEMORY_LEAST ≤ options.memory
  pub memory_most : options.memory ≤ MEMORY_MOST
  pub cores_least : 1 ≤ options.cores
  pub cores_most : options.cores ≤ CORES_MOST

-- the numbers of a workload are such as it may have
pub record IsWorkloadWithin (options : WorkloadOptions) : Type 0 where
  pub memory_least : MEMORY_LEAST ≤ options.memory
  pub memory_most : options.memory ≤ MEMORY_MOST
  pub cores_least : 1 ≤ options.cores
  pub cores_most : options.cores ≤ CORES_MOST
  pub count_most : options.count ≤ WORKLOAD_QUERIES_MOST
  pub rows_least : 1 ≤ options.rows
  pub rows_most : options.rows ≤ WORKLOAD_ROWS_MOST
  pub workers : options.workers ≡ 1
