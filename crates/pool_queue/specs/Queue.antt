-- The waiting queries by their numbers.
use Rattle.std.specs.Prelude.{ℕ, ◌+◌, Bool, ◌==◌, List, Option, option_map, position}
use Rattle.std.specs.List.{list_any, list_all}
use Rattle.rm_base.specs.declared.definitions.Definitions.{Definitions}
use Rattle.rm_rules.specs.declared.state.Waiter.{Waiter}
use Rattle.rm_rules.specs.Definitions.{pool_row}
use Rattle.rm_rules.specs.Ask.{is_too_large}
use Rattle.rm_rules.specs.Sound.{has_pool}

-- the query is this one
abbrev pub is_query : ℕ → Waiter → Bool
is_query query w = w.query == query

-- the query waits
abbrev pub has_query : List Waiter → ℕ → Bool
has_query waiting query = list_any (is_query query) waiting

-- the number of the query that was found
abbrev pub query_of : Option Waiter → Option ℕ
query_of found = option_map (λ w. w.query) found

-- the place of the query, counted from 1
abbrev pub place_of_query : List Waiter → ℕ → Option ℕ
place_of_query waiting query = option_map (λ index. index + 1) (position (is_query query) waiting)

-- the definitions have the pool of each waiting query
abbrev pub are_pools_known : Definitions → List Waiter → Bool
are_pools_known d waiting = list_all (λ w. has_pool d w.pool) waiting

-- the query's floor is above its least cap
abbrev pub is_large : Definitions → Waiter → Bool
is_large d w = is_too_large d (pool_row d w.pool) w.user w.floor
