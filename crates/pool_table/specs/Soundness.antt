-- The parts of soundness, each as a test.
use Rattle.std.specs.Prelude.{◌-◌, ◌*◌, Bool, ◌&&◌, nat_le, ◌++◌, is_some, length, map}
use Rattle.std.specs.List.{list_all}
use Rattle.rm_base.specs.declared.limits.TheConstants.{MEMORY_LEAST, MEMORY_MOST, TOTAL_LEAST, GENERAL_PART, CORES_MOST, CHANGES_MOST, CHAIN_MOST, POOLS_MOST, USERS_MOST, ROLES_MOST, GRANTS_MOST}
use Rattle.rm_base.specs.declared.definitions.Definitions.{Definitions}
use Rattle.rm_base.specs.Name.{dbadmin}
use Rattle.rm_rules.specs.Definitions.{total, reserved, user_called}
use Rattle.rm_rules.specs.Sound.{begins_with_general, are_distinct, is_within_max, has_pool, chain_ends, is_grant_known, are_grants_distinct}
use Rattle.rm_base.specs.Ranges.{passes_if_set, is_between, is_pool_in_range, is_user_in_range}

-- the machine's memory and cores, and the count of changes
abbrev pub are_numbers_in_range : Definitions → Bool
are_numbers_in_range d = is_between MEMORY_LEAST MEMORY_MOST d.memory && (is_between 1 CORES_MOST d.cores && nat_le d.changes CHANGES_MOST)

-- how many rows each table has
abbrev pub are_counts_in_range : Definitions → Bool
are_counts_in_range d =
    nat_le (length d.pools) POOLS_MOST && (nat_le (length d.users) USERS_MOST && (nat_le (length d.roles) ROLES_MOST && nat_le (length d.grants) GRANTS_MOST))

-- the values of the pools and the users
abbrev pub are_values_in_range : Definitions → Bool
are_values_in_range d = list_all is_pool_in_range d.pools && (list_all is_user_in_range d.users && list_all is_within_max d.pools)

-- who is there from the start, and that no name stands twice
abbrev pub are_names_right : Definitions → Bool
are_names_right d =
    begins_with_general d.pools
    && (is_some (user_called d.users dbadmin)
    && (are_distinct (map (λ r. r.name) d.pools)
    && are_distinct (map (λ u. u.name) d.users ++ map (λ r. r.name) d.roles)))

-- the total, and what the pools leave of it
abbrev pub is_total_right : Definitions → Bool
is_total_right d =
    nat_le TOTAL_LEAST (total d)
    && (nat_le (total d) d.memory
    && (nat_le (reserved d) (total d)
    && nat_le (total d) (GENERAL_PART * (total d - reserved d))))

-- what names a pool, a user or a role
abbrev pub are_links_right : Definitions → Bool
are_links_right d =
    list_all (λ r. chain_ends d.pools (CHAIN_MOST - 1) r.cascade) d.pools
    && (list_all (λ u. passes_if_set (has_pool d) u.pool) d.users
    && (list_all (λ r. passes_if_set (has_pool d) r.pool) d.roles
    && (list_all (is_grant_known d) d.grants
    && are_grants_distinct d.grants)))
