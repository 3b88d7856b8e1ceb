-- The plans that a script keeps for its sessions.
use Rattle.std.specs.Prelude.{ℕ, ◌==◌, List, [], ◌∷◌, ◌++◌, Option, option_map, find}
use Rattle.rm_base.specs.declared.select.Select.{Select}
use Rattle.rm_rules.specs.State.{without}
use Rattle.csv_tables.specs.declared.tables.NamedTable.{NamedTable}
use Rattle.query_run.specs.Running.{IsRunnable}
use Rattle.sessions.specs.declared.plans.KeptPlan.{KeptPlan}

-- the plan that is kept for the session of this number
abbrev pub plan_of : List KeptPlan → ℕ → Option Select
plan_of plans session = option_map (λ (k : KeptPlan). k.plan) (find (λ (k : KeptPlan). k.session == session) plans)

-- the plans without the one of this session
abbrev pub without_plan : ℕ → List KeptPlan → List KeptPlan
without_plan session plans = without (λ (k : KeptPlan). k.session == session) plans

-- the plans, with this one kept for the session
abbrev pub with_plan : ℕ → Select → List KeptPlan → List KeptPlan
with_plan session plan plans = without_plan session plans ++ record { session = session; plan = plan } ∷ []

-- each plan can be run over these tables
abbrev pub AreRunnable : List NamedTable → List KeptPlan → Type 0
AreRunnable tables [] = Unit {0}
AreRunnable tables (k ∷ ks) = IsRunnable k.plan tables × AreRunnable tables ks
