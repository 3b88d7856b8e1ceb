-- That each query of a workload can be run with its grant.
use Rattle.std.proofs.Common.{◌≡◌, ℕ, ◌+◌, ◌≤◌, Bool, true, false, cond, min, max, List, [], ◌∷◌, refl, sym, ap, ◌∙◌, subst, arith}
use Rattle.std.specs.Prelude.{◌==◌, ◌%◌, nat_lt}
use Rattle.std.proofs.lemmas.Bool.Decides.{nat_tests}
use Rattle.rm_base.specs.declared.definitions.Definitions.{Definitions}
use Rattle.rm_base.specs.declared.limits.TheConstants.{MEMORY_LEAST, FLOOR_OF_ONE, FLOOR_OF_MORE}
use Rattle.rm_base.specs.declared.name.Name.{Name}
use Rattle.rm_base.specs.declared.rows.PoolRow.{PoolRow}
use Rattle.rm_base.specs.declared.select.Select.{Select}
use Rattle.rm_base.specs.Name.{dbadmin}
use Rattle.rm_base.specs.Select.{select_floor}
use Rattle.rm_rules.specs.Ask.{ask, is_too_large, least_cap}
use Rattle.rm_rules.specs.Budget.{budget}
use Rattle.rm_rules.specs.Definitions.{pool_row}
use Rattle.csv_tables.specs.declared.tables.NamedTable.{NamedTable}
use Rattle.query_plan.proofs.Texts.{read_of-spells}
use Rattle.rm_rules.specs.Meaning.SelectOutcome.{Answer, SumOutOfRange, AnswerTooLarge}
use Rattle.query_run.specs.Running.{IsRunnable, RunOutcome, run_outcome, tables_called}
use Rattle.query_run.specs.Running.RunOutcome.{Meant, Spills}
use Rattle.query_run.proofs.Runnable.{spelled-runs}
use Rattle.options.specs.declared.workload.WorkloadOptions.{WorkloadOptions}
use Rattle.workload.specs.Generator.{tables_of}
use Rattle.workload.specs.Pools.{is_workload_pool, pool_of_query, workload_definitions}
use Rattle.workload.specs.Queries.{catalog, counting, grouping, joining, select_at, summing, text_at}
use Rattle.workload.specs.Rested.{workload_ask}
use Rattle.workload.specs.Summary.{Tallied, ending_at, grant_at}
use Rattle.workload.specs.Tallying.{ended, granted}
use Rattle.workload.proofs.Pooling.{floor-fits}
use Rattle.workload.proofs.Texts.{texts-read}

-- each query can be run over the tables of a workload
each-runs : (rows seed i : ℕ) → IsRunnable (select_at i) (tables_of rows seed)
each-runs rows seed i = spelled-runs (tables_of rows seed) (text_at i) (select_at i) ((read_of-spells catalog (text_at i) (select_at i)).0 (texts-read i))

pub plan-runs : (rows seed i : ℕ) (plan : Select) (tables : List NamedTable) → plan ≡ select_at i → tables ≡ tables_of rows seed → IsRunnable plan tables
plan-runs rows seed i plan tables is are =
    subst (λ (t : List NamedTable). IsRunnable plan t) (sym are) (subst (λ (p : Select). IsRunnable p (tables_of rows seed)) (sym is) (each-runs rows seed i))

-- a query's floor is that of two tables at most
pub floor-small : (i : ℕ) → select_floor (select_at i) ≤ FLOOR_OF_ONE + FLOOR_OF_MORE
floor-small i = turn (i % 4 == 0) (i % 4 == 1) (i % 4 == 2)
  where
    turn : (a b c : Bool) → select_floor (cond a counting (cond b joining (cond c grouping summing))) ≤ FLOOR_OF_ONE + FLOOR_OF_MORE
    turn true b c = omega arith
    turn false true c = omega arith
    turn false false true = omega arith
    turn false false false = omega arith

ask-reaches : (d : Definitions) (r : PoolRow) (user : Name) (floor : ℕ) → is_too_large d r user floor ≡ false → floor ≤ ask d r user floor
ask-reaches d r user floor fits =
    let most : floor ≤ (least_cap d r user).bytes = grind (arith, nat_tests, fits) in
    omega (arith, most)

-- a query is granted its floor at least
pub floor-granted : (memory cores floor : ℕ) (pool : Name) → MEMORY_LEAST ≤ memory → floor ≤ FLOOR_OF_ONE + FLOOR_OF_MORE → is_workload_pool pool ≡ true
    → floor ≤ workload_ask (workload_definitions memory cores) pool floor
floor-granted memory cores floor pool least small own =
    let d = workload_definitions memory cores in
    ask-reaches d (pool_row d pool) dbadmin floor (floor-fits memory cores floor pool least small own)

-- the grant of a query is what the desk grants it
pub grant-is : (o : WorkloadOptions) (i : ℕ) (d : Definitions) (pool : Name) (plan : Select) (floor grant : ℕ)
    → d ≡ workload_definitions o.memory o.cores → pool ≡ pool_of_query i → plan ≡ select_at i → floor ≡ select_floor plan → grant ≡ workload_ask d pool floor → grant ≡ grant_at o i
grant-is o i d pool plan floor grant defined in_pool is low granted_is =
    granted_is
    ∙ ap (λ (x : Definitions). workload_ask x pool floor) defined
    ∙ ap (λ (x : Name). workload_ask (workload_definitions o.memory o.cores) x floor) in_pool
    ∙ ap (workload_ask (workload_definitions o.memory o.cores) (pool_of_query i)) (low ∙ ap select_floor is)

-- how its run ends is how the run of its plan ends with that grant
pub ending-is : (o : WorkloadOptions) (i grant : ℕ) (plan : Select) (tables : List NamedTable) → grant ≡ grant_at o i → plan ≡ select_at i → tables ≡ tables_of o.rows o.seed
    → run_outcome grant plan (tables_called tables plan.tables) ≡ ending_at o i
ending-is o i grant plan tables granted_is is are =
    ap (λ (g : ℕ). run_outcome g plan (tables_called tables plan.tables)) granted_is
    ∙ ap (λ (p : Select). run_outcome (grant_at o i) p (tables_called tables p.tables)) is
    ∙ ap (λ (t : List NamedTable). run_outcome (grant_at o i) (select_at i) (tables_called t (select_at i).tables)) are

-- what a query adds
pub tally-is : (o : WorkloadOptions) (i grant : ℕ) (before between after : Tallied) (ending : RunOutcome) → grant ≡ grant_at o i → ending ≡ ending_at o i → between ≡ granted before grant → after ≡ ended between ending
    → after ≡ ended (granted before (grant_at o i)) (ending_at o i)
tally-is o i grant before between after ending granted_is ends one two =
    two
    ∙ ap (λ (t : Tallied). ended t ending) (one ∙ ap (granted before) granted_is)
    ∙ ap (ended (granted before (grant_at o i))) ends

-- a query changes the grants by its own alone
pub ended-grants : (t : Tallied) (ending : RunOutcome) → (ended t ending).granted ≡ t.granted
ended-grants t (Meant (Answer rows)) = refl
ended-grants t (Meant (SumOutOfRange column sum)) = refl
ended-grants t (Meant (AnswerTooLarge rows)) = refl
ended-grants t Spills = refl
