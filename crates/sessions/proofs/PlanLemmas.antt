-- Plans that are kept can be run over the script's tables.
use Rattle.std.proofs.Common.{◌≡◌, ℕ, eqb, true, false, cond, List, [], ◌∷◌, ◌++◌, Option, Some, None, Result, Ok, Err, find, refl, sym, ap, ◌∙◌, subst}
use Rattle.std.specs.Prelude.{option_map, ◌||◌, IfSome, OnOk, OnErr}
use Rattle.std.specs.List.{list_any}
use Rattle.std.specs.Option.{is_some}
use Rattle.rm_base.specs.declared.catalog.CatalogTable.{CatalogTable}
use Rattle.rm_base.specs.declared.name.Name.{Name}
use Rattle.rm_base.specs.declared.select.Select.{Select}
use Rattle.rm_base.specs.Name.{same_name}
use Rattle.rm_base.specs.TableSeen.{TableSeen}
use Rattle.csv_tables.specs.declared.tables.NamedTable.{NamedTable}
use Rattle.csv_tables.specs.Named.{table_called}
use Rattle.query_plan.specs.Scope.{table_named}
use Rattle.query_run.specs.Running.{IsRunnable}
use Rattle.sessions.specs.declared.plans.KeptPlan.{KeptPlan}
use Rattle.sessions.specs.Plans.{plan_of, with_plan, without_plan, AreRunnable}

-- a table that is there stays there
found-still : (tables more : List NamedTable) (name : Name) (t : TableSeen) → table_called tables name ≡ Some t → table_called (tables ++ more) name ≡ Some t
found-still [] more name t h = absurd (cc)
found-still (x ∷ xs) more name t h =
    (elim (same_name x.name name) as (λ b. option_map (λ (n : NamedTable). n.table) (cond b (Some x) (find (λ (n : NamedTable). same_name n.name name) xs)) ≡ Some t
    → option_map (λ (n : NamedTable). n.table) (cond b (Some x) (find (λ (n : NamedTable). same_name n.name name) (xs ++ more))) ≡ Some t) [
      | true ↦ λ is. is
      | false ↦ λ is. found-still xs more name t is
    ]) h

some-table : (o : Option TableSeen) (columns : List _) → option_map (λ (found : TableSeen). found.columns) o ≡ Some columns → (t : TableSeen) × (o ≡ Some t)
some-table None columns h = absurd (cc)
some-table (Some t) columns h = (t, refl)

stands-still : (tables more : List NamedTable) (name : Name) (o : Option CatalogTable)
    → IfSome o (λ t. option_map (λ (found : TableSeen). found.columns) (table_called tables name) ≡ Some t.columns)
    → IfSome o (λ t. option_map (λ (found : TableSeen). found.columns) (table_called (tables ++ more) name) ≡ Some t.columns)
stands-still tables more name None h = tt
stands-still tables more name (Some c) h =
    let t = some-table (table_called tables name) c.columns h in
    ap (option_map (λ (found : TableSeen). found.columns)) (found-still tables more name t.0 t.1 ∙ sym t.1) ∙ h

-- tables that come later change nothing
runs-still : (plan : Select) (tables more : List NamedTable) → IsRunnable plan tables → IsRunnable plan (tables ++ more)
runs-still plan tables more h = record {
  catalog = h.catalog;
  spelled = h.spelled;
  stand = λ name. stands-still tables more name (table_named h.catalog name) (h.stand name);
}

pub all-run-still : (tables more : List NamedTable) (plans : List KeptPlan) → AreRunnable tables plans → AreRunnable (tables ++ more) plans
all-run-still tables more [] h = tt
all-run-still tables more (k ∷ ks) h = (runs-still k.plan tables more h.0, all-run-still tables more ks h.1)

pub run-without : (tables : List NamedTable) (session : ℕ) (plans : List KeptPlan) → AreRunnable tables plans → AreRunnable tables (without_plan session plans)
run-without tables session [] h = tt
run-without tables session (k ∷ ks) h =
    elim (eqb k.session session) as (λ b. AreRunnable tables (cond b ks (k ∷ without_plan session ks))) [
      | true ↦ h.1
      | false ↦ (h.0, run-without tables session ks h.1)
    ]

run-more : (tables : List NamedTable) (plans : List KeptPlan) (k : KeptPlan) → AreRunnable tables plans → IsRunnable k.plan tables → AreRunnable tables (plans ++ k ∷ [])
run-more tables [] k h is = (is, tt)
run-more tables (p ∷ ps) k h is = (h.0, run-more tables ps k h.1 is)

pub run-with : (tables : List NamedTable) (session : ℕ) (plan : Select) (plans : List KeptPlan) → AreRunnable tables plans → IsRunnable plan tables
    → AreRunnable tables (with_plan session plan plans)
run-with tables session plan plans h is = run-more tables (without_plan session plans) (record { session = session; plan = plan }) (run-without tables session plans h) is

-- a plan that is kept can be run
pub kept-runs : (tables : List NamedTable) (session : ℕ) (plan : Select) (plans : List KeptPlan) → AreRunnable tables plans → plan_of plans session ≡ Some plan → IsRunnable plan tables
kept-runs tables session plan [] h is = absurd (cc)
kept-runs tables session plan (k ∷ ks) h is =
    (elim (eqb k.session session) as (λ b. option_map (λ (p : KeptPlan). p.plan) (cond b (Some k) (find (λ (p : KeptPlan). eqb p.session session) ks)) ≡ Some plan → IsRunnable plan tables) [
      | true ↦ λ same. let e : k.plan ≡ plan = cc in subst (λ (p : Select). IsRunnable p tables) e h.0
      | false ↦ λ same. kept-runs tables session plan ks h.1 same
    ]) is

-- what keeping a plan leaves, with memory and without
pub run-kept : {E : Type 0} (tables : List NamedTable) (session : ℕ) (plan : Select) (plans now : List KeptPlan) (r : Result (Unit {0}) E) → OnOk r (now ≡ with_plan session plan plans)
    → OnErr r (now ≡ without_plan session plans) → AreRunnable tables plans → IsRunnable plan tables → AreRunnable tables now
run-kept tables session plan plans now (Ok done) ok err h is = subst (AreRunnable tables) (sym ok) (run-with tables session plan plans h is)
run-kept tables session plan plans now (Err e) ok err h is = subst (AreRunnable tables) (sym err) (run-without tables session plans h)

-- the same of a table that was to be added
pub run-added : {E : Type 0} (tables more now : List NamedTable) (plans : List KeptPlan) (r : Result (Unit {0}) E) → OnOk r (now ≡ tables ++ more) → OnErr r (now ≡ tables) → AreRunnable tables plans
    → AreRunnable now plans
run-added tables more now plans (Ok done) ok err h = subst (λ (ts : List NamedTable). AreRunnable ts plans) (sym ok) (all-run-still tables more plans h)
run-added tables more now plans (Err e) ok err h = subst (λ (ts : List NamedTable). AreRunnable ts plans) (sym err) h

-- whether a plan is kept for a session
pub has-plan : (session : ℕ) (plans : List KeptPlan) → list_any (λ (k : KeptPlan). eqb k.session session) plans ≡ is_some (plan_of plans session)
has-plan session [] = refl
has-plan session (k ∷ ks) =
    elim (eqb k.session session) as (λ b. (b || list_any (λ (p : KeptPlan). eqb p.session session) ks)
    ≡ is_some (option_map (λ (p : KeptPlan). p.plan) (cond b (Some k) (find (λ (p : KeptPlan). eqb p.session session) ks)))) [
      | true ↦ refl
      | false ↦ has-plan session ks
    ]
