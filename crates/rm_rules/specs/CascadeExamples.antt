-- Pools in a chain of CASCADE TO, and a query that runs in the first of them, for the computed examples.
use Rattle.std.specs.Prelude.{ℕ, [], ◌∷◌, ◌++◌, false, Option, Some, None, codes, replicate, refl}
use Rattle.rm_base.specs.declared.limits.TheConstants.{MEMORY_LEAST, FLOOR_OF_ONE}
use Rattle.rm_base.specs.declared.definitions.Definitions.{Definitions}
use Rattle.rm_base.specs.declared.rows.PoolRow.{PoolRow}
use Rattle.rm_base.specs.declared.name.Name.{Name}
use Rattle.rm_base.specs.Name.{general, dbadmin}
use Rattle.rm_base.specs.Definitions.{default_pool_row, default_user_row}
use Rattle.rm_rules.specs.declared.state.Runner.{Runner}

abbrev pub quick : Name
quick = record { bytes = codes "quick" ++ replicate 27 0; kept = refl }

abbrev pub brief : Name
brief = record { bytes = codes "brief" ++ replicate 27 0; kept = refl }

abbrev pub long : Name
long = record { bytes = codes "long" ++ replicate 28 0; kept = refl }

abbrev pub night : Name
night = record { bytes = codes "night" ++ replicate 27 0; kept = refl }

abbrev pub ann : Name
ann = record { bytes = codes "ann" ++ replicate 29 0; kept = refl }

-- a pool with this RUNTIMECAP and this CASCADE TO
abbrev pub capped : Name → Option ℕ → Option Name → PoolRow
capped name cap next = let row = default_pool_row name in record row { cap_ms = cap; cascade = next }

-- quick cascades to brief, which has a shorter cap, that to long, and long to night, which has none; ann may run for 90 seconds
abbrev pub chained : Definitions
chained = record {
  memory = MEMORY_LEAST;
  cores = 1;
  pools =
      default_pool_row general
      ∷ capped quick (Some 1000) (Some brief)
      ∷ capped brief (Some 500) (Some long)
      ∷ capped long (Some 60000) (Some night)
      ∷ capped night None None
      ∷ [];
  users = default_user_row dbadmin ∷ record { name = ann; pool = None; memory_cap = None; cap_ms = Some 90000 } ∷ [];
  roles = [];
  grants = [];
  changes = 6;
}

-- a query of ann in this pool, moved so often before
abbrev pub run_in : Name → ℕ → Runner
run_in pool moves = record {
  query = 1;
  session = 1;
  user = ann;
  pool = pool;
  floor = FLOOR_OF_ONE;
  grant = FLOOR_OF_ONE;
  start = 5000;
  ran = 400;
  moves = moves;
  leaving = None;
  cancelled = false;
}
