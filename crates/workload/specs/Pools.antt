-- The pools of a workload.
use Rattle.std.specs.Prelude.{ℕ, ◌%◌, Bool, ◌==◌, List, [], ◌∷◌, ◌++◌, Some, None, codes, refl, replicate, if◌then◌else◌}
use Rattle.std.specs.List.{list_any}
use Rattle.rm_base.specs.declared.definitions.Definitions.{Definitions}
use Rattle.rm_base.specs.declared.name.Name.{Name}
use Rattle.rm_base.specs.declared.statement.PoolChange.{PoolChange}
use Rattle.rm_base.specs.declared.statement.Size.TheVariants.{Percent}
use Rattle.rm_base.specs.declared.statement.Statement.{Statement}
use Rattle.rm_base.specs.declared.statement.Statement.TheVariants.{CreatePool}
use Rattle.rm_base.specs.Definitions.{fresh}
use Rattle.rm_base.specs.Name.{same_name}
use Rattle.rm_rules.specs.Acceptance.{left_by, counted}

-- their names
abbrev pub w0 : Name
w0 = record { bytes = codes "w0" ++ replicate 30 0; kept = refl }

abbrev pub w1 : Name
w1 = record { bytes = codes "w1" ++ replicate 30 0; kept = refl }

abbrev pub w2 : Name
w2 = record { bytes = codes "w2" ++ replicate 30 0; kept = refl }

abbrev pub is_workload_pool : Name → Bool
is_workload_pool name = list_any (same_name name) (w0 ∷ w1 ∷ w2 ∷ [])

-- the pool of query i: one after the other
abbrev pub pool_of_query : ℕ → Name
pool_of_query i = if i % 3 == 0 then w0 else (if i % 3 == 1 then w1 else w2)

-- QUEUETIMEOUT NONE, and nothing else is named
abbrev pub no_timeout : PoolChange
no_timeout = record {
  memory = None;
  max = None;
  query_max = None;
  parallel = None;
  priority = None;
  runtime_priority = None;
  threshold_s = None;
  queue_ms = Some None;
  planned = None;
  concurrency = None;
  cap_ms = None;
  cascade = None;
}

-- w0 reserves a tenth of the total for two queries, w1 has the defaults, w2 has a tenth alone, for one query
abbrev pub w0_change : PoolChange
w0_change = record no_timeout { memory = Some (Percent 10); planned = Some (Some 2) }

abbrev pub w2_change : PoolChange
w2_change = record no_timeout { memory = Some (Percent 10); max = Some (Some (Percent 10)); planned = Some (Some 1) }

abbrev pub create_w0 : Statement
create_w0 = CreatePool w0 w0_change

abbrev pub create_w1 : Statement
create_w1 = CreatePool w1 no_timeout

abbrev pub create_w2 : Statement
create_w2 = CreatePool w2 w2_change

-- the definitions that these statements leave, one after the other, each accepted and counted
abbrev pub after_all : Definitions → List Statement → Definitions
after_all d [] = d
after_all d (statement ∷ more) = after_all (counted (left_by d statement)) more

-- the definitions of a workload, on a machine on which nothing was defined before
abbrev pub workload_definitions : ℕ → ℕ → Definitions
workload_definitions memory cores = after_all (fresh memory cores) (create_w0 ∷ create_w1 ∷ create_w2 ∷ [])
