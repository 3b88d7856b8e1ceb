-- CREATE and ALTER RESOURCE POOL: what they leave, and what they are refused with.
use Rattle.std.specs.Prelude.{ℕ, zero, suc, ◌+◌, ◌-◌, ◌*◌, ◌/◌, ◌&&◌, nat_lt, not, List, [], ◌∷◌, Option, Some, None, is_some, unwrap_or, option_map, option_and_then, length, max, if◌then◌else◌}
use Rattle.std.specs.List.{list_any}
use Rattle.rm_base.specs.declared.limits.TheConstants.{TOTAL_LEAST, GENERAL_PART, POOLS_MOST, CHAIN_MOST}
use Rattle.rm_base.specs.declared.definitions.Definitions.{Definitions}
use Rattle.rm_base.specs.declared.rows.PoolRow.{PoolRow}
use Rattle.rm_base.specs.declared.name.Name.{Name}
use Rattle.rm_base.specs.declared.statement.PoolChange.{PoolChange}
use Rattle.rm_base.specs.declared.refusal.Parameter.TheVariants as parameter
use Rattle.rm_base.specs.declared.refusal.TableKind.TheVariants as table
use Rattle.rm_base.specs.declared.refusal.Refusal.{Refusal}
use Rattle.rm_base.specs.declared.refusal.Refusal.TheVariants as refusal
use Rattle.rm_base.specs.Name.{same_name, general}
use Rattle.rm_base.specs.Definitions.{default_pool_row}
use Rattle.rm_base.specs.Ranges.{is_between}
use Rattle.rm_rules.specs.Definitions.{pool_called, pool_row, total, reserved, bytes_of}
use Rattle.rm_rules.specs.Sound.{has_pool}
use Rattle.rm_rules.specs.Refusals.{refused_if, first_refusal, pool_taken, pool_missing, table_full, changes_full}
use Rattle.rm_rules.specs.Tables.{with_row}

-- what a percentage of a pool's MAXMEMORYSIZE is taken of: for GENERAL the machine's memory, else the total
abbrev pub max_whole : Definitions → Name → ℕ
max_whole d name = if same_name name general then d.memory else total d

-- the pool's row with what a statement names in the place of what it had
abbrev pub changed_pool : Definitions → PoolRow → PoolChange → PoolRow
changed_pool d r c = record {
  name = r.name;
  memory = unwrap_or (option_map (bytes_of (total d)) c.memory) r.memory;
  max = unwrap_or (option_map (option_map (bytes_of (max_whole d r.name))) c.max) r.max;
  query_max = unwrap_or (option_map (option_map (bytes_of (total d))) c.query_max) r.query_max;
  parallel = unwrap_or c.parallel r.parallel;
  priority = unwrap_or c.priority r.priority;
  runtime_priority = unwrap_or c.runtime_priority r.runtime_priority;
  threshold_s = unwrap_or c.threshold_s r.threshold_s;
  queue_ms = unwrap_or c.queue_ms r.queue_ms;
  planned = unwrap_or c.planned r.planned;
  concurrency = unwrap_or c.concurrency r.concurrency;
  cap_ms = unwrap_or c.cap_ms r.cap_ms;
  cascade = unwrap_or c.cascade r.cascade;
}

-- CREATE takes the defaults for what it does not name, ALTER keeps it
abbrev pub created_pool : Definitions → Name → PoolChange → PoolRow
created_pool d name change = changed_pool d (default_pool_row name) change

abbrev pub altered_pool : Definitions → Name → PoolChange → PoolRow
altered_pool d name change = changed_pool d (pool_row d name) change

-- the pools with this row, and the definitions with it
abbrev pub pools_with : PoolRow → List PoolRow → List PoolRow
pools_with row pools = with_row (λ r. r.name) row pools

abbrev pub with_pool : Definitions → PoolRow → Definitions
with_pool d row = record d { pools = pools_with row d.pools }

-- 5: MAXMEMORYSIZE of GENERAL gives a total below the least one, or above the machine's memory
abbrev pub total_out_of_range : Definitions → Name → PoolChange → Option Refusal
total_out_of_range new name change =
    refused_if (same_name name general && (is_some change.max && not (is_between TOTAL_LEAST new.memory (total new)))) (refusal.Range parameter.MaxMemorySize)

-- 10: MEMORYSIZE is named for GENERAL
abbrev pub general_reserves : Name → PoolChange → Option Refusal
general_reserves name change = refused_if (same_name name general && is_some change.memory) refusal.BuiltIn

-- 11: a pool's MAXMEMORYSIZE, where it has one, is below its MEMORYSIZE
abbrev pub max_below_memory : Option ℕ → ℕ → Option Refusal
max_below_memory None memory = None
max_below_memory (Some most) memory = refused_if (nat_lt most memory) (refusal.MaxBelowMemory most memory)

-- 12: the pools leave GENERAL less than a quarter of the total
abbrev pub general_too_small : Definitions → Option Refusal
general_too_small new =
    let left = total new - reserved new in
    refused_if (nat_lt (GENERAL_PART * left) (total new)) (refusal.GeneralTooSmall left ((total new + (GENERAL_PART - 1)) / GENERAL_PART))

-- 13: CASCADE TO, where it is set, names no pool
abbrev pub target_missing : Definitions → Option Name → Option Refusal
target_missing new None = None
target_missing new (Some target) = refused_if (not (has_pool new target)) (refusal.NoSuchTarget target)

-- where a pool cascades to
abbrev pub cascade_of : List PoolRow → Name → Option Name
cascade_of pools name = option_and_then (λ r. r.cascade) (pool_called pools name)

-- the pools of a chain of CASCADE TO that goes on from here, and no more of them than this number
unfoldable pub chain : List PoolRow → ℕ → Option Name → List Name
chain pools zero next = []
chain pools (suc most) None = []
chain pools (suc most) (Some name) = name ∷ chain pools most (cascade_of pools name)

-- the chain from a pool on
abbrev pub chain_from : List PoolRow → PoolRow → List Name
chain_from pools r = r.name ∷ chain pools POOLS_MOST r.cascade

-- 14: the chain from the pool returns to it
abbrev pub cascade_loop : List PoolRow → PoolRow → Option Refusal
cascade_loop pools row = refused_if (list_any (same_name row.name) (chain pools POOLS_MOST row.cascade)) (refusal.CascadeLoop row.name)

-- how many pools a chain has, where it goes through this pool
abbrev pub length_through : Name → List Name → ℕ
length_through name names = if list_any (same_name name) names then length names else 0

-- the length of the longest chain through this pool, of those that start at one of these
abbrev pub longest_through : List PoolRow → Name → List PoolRow → ℕ
longest_through pools name [] = 0
longest_through pools name (r ∷ rs) = max (length_through name (chain_from pools r)) (longest_through pools name rs)

-- 15: the longest chain through the pool is too long
abbrev pub chain_too_long : List PoolRow → Name → Option Refusal
chain_too_long pools name =
    let longest = longest_through pools name pools in
    refused_if (nat_lt CHAIN_MOST longest) (refusal.ChainTooLong longest)

-- 17: there is room for no pool more
abbrev pub pools_full : Definitions → Option Refusal
pools_full d = table_full table.Pools POOLS_MOST (length d.pools)

-- 11 to 15: the definitions as the statement would leave them, with this row of its pool
abbrev pub outcome_refusal : Definitions → PoolRow → Option Refusal
outcome_refusal new row = first_refusal (
    max_below_memory row.max row.memory
    ∷ general_too_small new
    ∷ target_missing new row.cascade
    ∷ cascade_loop new.pools row
    ∷ chain_too_long new.pools row.name
    ∷ [])

-- why a pool is not created, why one is not altered
abbrev pub create_pool_refusal : Definitions → Name → PoolRow → Option Refusal
create_pool_refusal d name row = first_refusal (
    pool_taken d name
    ∷ outcome_refusal (with_pool d row) row
    ∷ pools_full d
    ∷ changes_full d
    ∷ [])

abbrev pub alter_pool_refusal : Definitions → Name → PoolChange → PoolRow → Option Refusal
alter_pool_refusal d name change row = first_refusal (
    total_out_of_range (with_pool d row) name change
    ∷ pool_missing d name
    ∷ general_reserves name change
    ∷ outcome_refusal (with_pool d row) row
    ∷ changes_full d
    ∷ [])
