-- What the calls of the desk of a workload leave, by its standing: rested, or with a query that runs.
use Rattle.std.proofs.Common.{◌≡◌, ℕ, ◌+◌, ◌*◌, ◌<◌, ◌≤◌, true, false, [], ◌∷◌, List, Some, None, Option, refl, sym, ap, ◌∙◌, subst, arith, ⊎_elim, ◌⊎◌, inl, inr}
use Rattle.std.specs.Prelude.{option_map, nat_le, sum, IsSome, ◌-◌}
use Rattle.rm_base.specs.declared.definitions.Definitions.{Definitions}
use Rattle.rm_base.specs.declared.event.Event.TheVariants.{Define, Open, SetPool, Submit, Finish}
use Rattle.rm_base.specs.declared.limits.TheConstants.{MEMORY_LEAST, MEMORY_MOST, CORES_MOST, FLOOR_OF_ONE, FLOOR_OF_MORE, SCRIPT_ROOM}
use Rattle.rm_base.specs.declared.name.Name.{Name}
use Rattle.rm_base.specs.declared.reply.Reply.{Reply}
use Rattle.rm_base.specs.declared.reply.Reply.TheVariants as reply
use Rattle.rm_base.specs.declared.statement.Statement.{Statement}
use Rattle.rm_base.specs.Definitions.{fresh}
use Rattle.rm_base.specs.Name.{dbadmin}
use Rattle.rm_rules.specs.declared.state.Runner.{Runner}
use Rattle.rm_rules.specs.Ask.{is_too_large}
use Rattle.rm_rules.specs.Definitions.{pool_row, total, reserved}
use Rattle.rm_rules.specs.Grants.{released}
use Rattle.rm_rules.specs.Healthy.{IsHealthy}
use Rattle.rm_rules.specs.Settled.{IsSettled}
use Rattle.rm_rules.specs.Sound.{has_pool}
use Rattle.rm_rules.specs.State.{State, start, runner_of}
use Rattle.rm_rules.specs.Step.{Outcome, step}
use Rattle.rm_rules.proofs.Histories.{rest-step}
use Rattle.rm_rules.proofs.Laws.{healthy-step}
use Rattle.rm_rules.proofs.Taken.{and_left, and_right}
use Rattle.std.proofs.lemmas.Bool.{leb-true, false≢true}
use Rattle.workload.specs.Pools.{is_workload_pool, create_w0, create_w1, create_w2, workload_definitions}
use Rattle.workload.specs.Rested.{LoneSeen, seen_lone, pool_run_by, held_by, workload_ask, IsRested, IsAsked, IsLone, admitted_with}
use Rattle.workload.proofs.Choosing.{IsChosen, choice-step}
use Rattle.workload.proofs.Asking.{IsBegun, ask-step}
use Rattle.workload.proofs.Ending.{IsEnded, end-step}
use Rattle.workload.proofs.Pooling.{pool-there, floor-fits}
use Rattle.workload.proofs.Resting.{HasSizes, rested-sizes}
use Rattle.workload.proofs.Opening.{HasBegun, begins}

-- a rested desk runs nothing and holds nothing, and one with a query that runs holds its grant in its pool
pub nobody-runs : (s : State) → s.running ≡ [] → pool_run_by s ≡ None
nobody-runs s idle = ap (λ (l : List Runner). option_map (λ (r : Runner). r.pool) (runner_of l 1)) idle

pub nobody-holds : (s : State) → s.running ≡ [] → held_by s ≡ None
nobody-holds s idle = ap (λ (l : List Runner). option_map (λ (r : Runner). r.grant) (runner_of l 1)) idle

pub asked-holds : (s : State) → (r : Runner) → s.running ≡ r ∷ [] → r.session ≡ 1 → held_by s ≡ Some r.grant
asked-holds s r runs own =
    ap (λ (l : List Runner). option_map (λ (x : Runner). x.grant) (runner_of l 1)) (runs ∙ ap (λ (n : ℕ). (let x : Runner = record r { session = n } in x) ∷ []) own)

in-pool : (s : State) → (r : Runner) → s.running ≡ r ∷ [] → r.session ≡ 1 → pool_run_by s ≡ Some r.pool
in-pool s r runs own =
    ap (λ (l : List Runner). option_map (λ (x : Runner). x.pool) (runner_of l 1)) (runs ∙ ap (λ (n : ℕ). (let x : Runner = record r { session = n } in x) ∷ []) own)

-- so what it holds tells how it stands
pub stands-rested : (s : State) → IsLone s → held_by s ≡ None → IsRested 1 s
stands-rested s h none =
    ⊎_elim (λ (rested : IsRested 1 s). rested)
    (λ (asked : IsAsked s). let both : None ≡ Some asked.runner.grant = sym none ∙ asked-holds s asked.runner asked.running asked.own in absurd (cc)) h.stands

pub stands-asked : (s : State) (grant : ℕ) → IsLone s → held_by s ≡ Some grant → IsAsked s
stands-asked s grant h some =
    ⊎_elim (λ (rested : IsRested 1 s). let both : None ≡ Some grant = sym (nobody-holds s rested.running) ∙ some in absurd (cc)) (λ (asked : IsAsked s). asked) h.stands

-- definitions that stay are those of a workload as before
same-definitions : (d e : Definitions) → e ≡ d → d ≡ workload_definitions d.memory d.cores → e ≡ workload_definitions e.memory e.cores
same-definitions d e same is = subst (λ (x : Definitions). x ≡ workload_definitions x.memory x.cores) (sym same) is

-- a query has begun
pub record Begins (s : State) (pool : Name) (grant : ℕ) (o : Outcome) : Type 0 where
  pub lone : IsLone o.state
  pub reply : admitted_with o.reply ≡ Some grant
  pub definitions : o.state.definitions ≡ s.definitions
  pub last_query : o.state.last_query ≡ s.last_query + 1
  pub runs_in : pool_run_by o.state ≡ Some pool
  pub held : held_by o.state ≡ Some grant

pub begin-lone : (s : State) (pool : Name) (floor a b : ℕ) → IsHealthy s → IsLone s → held_by s ≡ None → s.last_query < 10000 → is_workload_pool pool ≡ true
    → floor ≤ FLOOR_OF_ONE + FLOOR_OF_MORE
    → Begins s pool (workload_ask s.definitions pool floor) (step (step s 0 a (SetPool 1 pool)).state 0 b (Submit 1 floor))
begin-lone s pool floor a b healthy lone none few known low =
    let d = s.definitions in
    let rested = stands-rested s lone none in
    let there : has_pool d pool ≡ true = ap (λ (x : Definitions). has_pool x pool) lone.defined ∙ pool-there d.memory d.cores pool known in
    let memory : MEMORY_LEAST ≤ d.memory = leb-true MEMORY_LEAST d.memory (and_left _ _ healthy.sound.memory) in
    let small : is_too_large d (pool_row d pool) dbadmin floor ≡ false =
    ap (λ (x : Definitions). is_too_large x (pool_row x pool) dbadmin floor) lone.defined ∙ floor-fits d.memory d.cores floor pool memory low known in
    let t = (step s 0 a (SetPool 1 pool)).state in
    let chosen : IsChosen pool s t = choice-step s 1 pool a rested there lone.room (omega (arith, rested.journal, few)) in
    let healthy_then = healthy-step s 0 a (SetPool 1 pool) tt healthy in
    let settled_then = rest-step s 0 a (SetPool 1 pool) healthy tt lone.settled in
    let o = step t 0 b (Submit 1 floor) in
    let begun : IsBegun pool (workload_ask t.definitions pool floor) t o =
    ask-step t pool floor b healthy_then chosen.sessions chosen.running chosen.waiting (ap (λ (x : Definitions). has_pool x pool) chosen.definitions ∙ there)
    (ap (λ (x : Definitions). is_too_large x (pool_row x pool) dbadmin floor) chosen.definitions ∙ small) (chosen.room ∙ lone.room) (omega (arith, chosen.journal, rested.journal, few)) in
    let same : o.state.definitions ≡ d = begun.definitions ∙ chosen.definitions in
    let grant_is : workload_ask t.definitions pool floor ≡ workload_ask d pool floor = ap (λ (x : Definitions). workload_ask x pool floor) chosen.definitions in
    let asked : IsAsked o.state = record {
      chosen = Some pool;
      runner = begun.runner;
      sessions = begun.sessions;
      running = begun.running;
      own = begun.own;
      waiting = begun.waiting;
      journal = omega (arith, begun.journal, chosen.journal, rested.journal, begun.last_query, chosen.last_query);
    } in
    record {
      lone = record {
        defined = same-definitions d o.state.definitions same lone.defined;
        settled = rest-step t 0 b (Submit 1 floor) healthy_then tt settled_then;
        room = begun.room ∙ chosen.room ∙ lone.room;
        stands = inr asked;
      };
      reply = begun.reply ∙ ap (λ (n : ℕ). Some n) grant_is;
      definitions = same;
      last_query = begun.last_query ∙ ap (λ (n : ℕ). n + 1) chosen.last_query;
      runs_in = in-pool o.state begun.runner begun.running begun.own ∙ ap (λ (p : Name). Some p) begun.runs_in;
      held = asked-holds o.state begun.runner begun.running begun.own ∙ ap (λ (n : ℕ). Some n) (begun.granted ∙ grant_is);
    }

-- a query has ended
pub record Ends (s : State) (grant : ℕ) (o : Outcome) : Type 0 where
  pub lone : IsLone o.state
  pub reply : released o.reply ≡ Some grant
  pub definitions : o.state.definitions ≡ s.definitions
  pub last_query : o.state.last_query ≡ s.last_query
  pub runs_in : pool_run_by o.state ≡ None
  pub held : held_by o.state ≡ None

pub finish-lone : (s : State) (grant at : ℕ) → IsHealthy s → IsLone s → held_by s ≡ Some grant → Ends s grant (step s 0 at (Finish 1))
finish-lone s grant at healthy lone some =
    let asked = stands-asked s grant lone some in
    let o = step s 0 at (Finish 1) in
    let ended : IsEnded asked.chosen asked.runner.grant s o = end-step s asked at in
    let both : Some asked.runner.grant ≡ Some grant = sym (asked-holds s asked.runner asked.running asked.own) ∙ some in
    let grant_is : asked.runner.grant ≡ grant = cc in
    let rested : IsRested 1 o.state = record {
      chosen = asked.chosen;
      sessions = ended.sessions;
      running = ended.running;
      waiting = ended.waiting;
      journal = omega (arith, ended.journal, asked.journal, ended.last_query);
    } in
    record {
      lone = record {
        defined = same-definitions s.definitions o.state.definitions ended.definitions lone.defined;
        settled = rest-step s 0 at (Finish 1) healthy tt lone.settled;
        room = ended.room ∙ lone.room;
        stands = inl rested;
      };
      reply = ap released ended.reply ∙ ap (λ (n : ℕ). Some n) grant_is;
      definitions = ended.definitions;
      last_query = ended.last_query;
      runs_in = nobody-runs o.state ended.running;
      held = nobody-holds o.state ended.running;
    }

-- the same, as code sees the desk: what it was seen as, and what the machine's calls told

-- a query has begun
pub record BeginsSeen (seen : LoneSeen) (pool : Name) (grant : ℕ) (t : State) (answer : Reply) : Type 0 where
  pub lone : IsLone t
  pub reply : admitted_with answer ≡ Some grant
  pub definitions : t.definitions ≡ seen.definitions
  pub begun : t.last_query ≡ seen.begun + 1
  pub runs_in : pool_run_by t ≡ Some pool
  pub held : held_by t ≡ Some grant

pub begin-seen : (seen : LoneSeen) (s t u : State) (answer : Reply) (pool : Name) (floor a b : ℕ) → seen_lone s ≡ seen → IsHealthy s → IsLone s → seen.held ≡ None
    → seen.begun < 10000 → is_workload_pool pool ≡ true → floor ≤ FLOOR_OF_ONE + FLOOR_OF_MORE → t ≡ (step s 0 a (SetPool 1 pool)).state
    → u ≡ (step t 0 b (Submit 1 floor)).state → answer ≡ (step t 0 b (Submit 1 floor)).reply → BeginsSeen seen pool (workload_ask seen.definitions pool floor) u answer
begin-seen seen s t u answer pool floor a b is healthy lone none few known low chosen asked told_so =
    let d = s.definitions in
    let held : held_by s ≡ None = ap (λ (v : LoneSeen). v.held) is ∙ none in
    let count : s.last_query ≡ seen.begun = ap (λ (v : LoneSeen). v.begun) is in
    let h = begin-lone s pool floor a b healthy lone held (omega (arith, count, few)) known low in
    let o = step (step s 0 a (SetPool 1 pool)).state 0 b (Submit 1 floor) in
    let state_is : u ≡ o.state = asked ∙ ap (λ (x : State). (step x 0 b (Submit 1 floor)).state) chosen in
    let reply_is : answer ≡ o.reply = told_so ∙ ap (λ (x : State). (step x 0 b (Submit 1 floor)).reply) chosen in
    let same : d ≡ seen.definitions = ap (λ (v : LoneSeen). v.definitions) is in
    let grant_is : workload_ask d pool floor ≡ workload_ask seen.definitions pool floor = ap (λ (x : Definitions). workload_ask x pool floor) same in
    record {
      lone = subst IsLone (sym state_is) h.lone;
      reply = ap admitted_with reply_is ∙ h.reply ∙ ap (λ (n : ℕ). Some n) grant_is;
      definitions = ap (λ (x : State). x.definitions) state_is ∙ h.definitions ∙ same;
      begun = ap (λ (x : State). x.last_query) state_is ∙ h.last_query ∙ ap (λ (n : ℕ). n + 1) count;
      runs_in = ap pool_run_by state_is ∙ h.runs_in;
      held = ap held_by state_is ∙ h.held ∙ ap (λ (n : ℕ). Some n) grant_is;
    }

-- a query has ended
pub record EndsSeen (seen : LoneSeen) (t : State) (answer : Reply) : Type 0 where
  pub grant : ℕ
  pub was : seen.held ≡ Some grant
  pub lone : IsLone t
  pub reply : released answer ≡ Some grant
  pub definitions : t.definitions ≡ seen.definitions
  pub begun : t.last_query ≡ seen.begun
  pub runs_in : pool_run_by t ≡ None
  pub held : held_by t ≡ None

some-held : (o : Option ℕ) → IsSome o → (n : ℕ) × (o ≡ Some n)
some-held None some = absurd (false≢true some)
some-held (Some n) some = (n, refl)

pub finish-seen : (seen : LoneSeen) (s t : State) (answer : Reply) (at : ℕ) → seen_lone s ≡ seen → IsHealthy s → IsLone s → IsSome seen.held
    → t ≡ (step s 0 at (Finish 1)).state → answer ≡ (step s 0 at (Finish 1)).reply → EndsSeen seen t answer
finish-seen seen s t answer at is healthy lone some left told_so =
    let found = some-held seen.held some in
    let h = finish-lone s found.0 at healthy lone (ap (λ (v : LoneSeen). v.held) is ∙ found.1) in
    record {
      grant = found.0;
      was = found.1;
      lone = subst IsLone (sym left) h.lone;
      reply = ap released told_so ∙ h.reply;
      definitions = ap (λ (x : State). x.definitions) left ∙ h.definitions ∙ ap (λ (v : LoneSeen). v.definitions) is;
      begun = ap (λ (x : State). x.last_query) left ∙ h.last_query ∙ ap (λ (v : LoneSeen). v.begun) is;
      runs_in = ap pool_run_by left ∙ h.runs_in;
      held = ap held_by left ∙ h.held;
    }

-- the sizes of a rested desk
pub record SizesSeen (seen : LoneSeen) (s : State) : Type 0 where
  pub in_force : s.in_force ≡ total seen.definitions
  pub sizes : sum s.actual ≡ reserved seen.definitions
  pub free_is : seen.free ≡ total seen.definitions - reserved seen.definitions
  pub within : reserved seen.definitions ≤ total seen.definitions
  pub most : total seen.definitions ≤ MEMORY_MOST

pub sizes-seen : (seen : LoneSeen) (s : State) → seen_lone s ≡ seen → IsHealthy s → IsLone s → seen.held ≡ None → SizesSeen seen s
sizes-seen seen s is healthy lone none =
    let d = s.definitions in
    let rested = stands-rested s lone (ap (λ (v : LoneSeen). v.held) is ∙ none) in
    let h = rested-sizes s healthy lone.settled rested.running in
    let memory : d.memory ≤ MEMORY_MOST = leb-true d.memory MEMORY_MOST (and_right (nat_le MEMORY_LEAST d.memory) (nat_le d.memory MEMORY_MOST) healthy.sound.memory) in
    let mine : SizesSeen (seen_lone s) s = record {
      in_force = h.in_force;
      sizes = h.sizes;
      free_is = h.free_is;
      within = healthy.sound.reserved_most;
      most = omega (arith, healthy.sound.total_most, memory);
    } in
    subst (λ (v : LoneSeen). SizesSeen v s) is mine

-- from the start, by the statements and the session's opening
follow : (s t u : State) (p q : Statement) (at : ℕ) → s ≡ t → p ≡ q → u ≡ (step s 0 at (Define p)).state → u ≡ (step t 0 at (Define q)).state
follow s t u p q at same said h = h ∙ ap (λ (x : State). (step x 0 at (Define p)).state) same ∙ ap (λ (y : Statement). (step t 0 at (Define y)).state) said

follow-open : (s t u : State) (p q : Name) (at : ℕ) → s ≡ t → p ≡ q → u ≡ (step s 0 at (Open p)).state → u ≡ (step t 0 at (Open q)).state
follow-open s t u p q at same said h = h ∙ ap (λ (x : State). (step x 0 at (Open p)).state) same ∙ ap (λ (y : Name). (step t 0 at (Open y)).state) said

pub new-begun : (memory cores at : ℕ) (d : Definitions) (s s0 s1 s2 s3 : State) (p0 p1 p2 : Statement) (user : Name)
    → MEMORY_LEAST ≤ memory → memory ≤ MEMORY_MOST → 1 ≤ cores → cores ≤ CORES_MOST
    → d ≡ fresh memory cores → s ≡ start d SCRIPT_ROOM → p0 ≡ create_w0 → p1 ≡ create_w1 → p2 ≡ create_w2 → user ≡ dbadmin
    → s0 ≡ (step s 0 at (Define p0)).state → s1 ≡ (step s0 0 at (Define p1)).state → s2 ≡ (step s1 0 at (Define p2)).state → s3 ≡ (step s2 0 at (Open user)).state
    → HasBegun memory cores s3
new-begun memory cores at d s s0 s1 s2 s3 p0 p1 p2 user memory_least memory_most cores_least cores_most is_fresh starts w0_is w1_is w2_is user_is h0 h1 h2 h3 =
    let t = start (fresh memory cores) SCRIPT_ROOM in
    let t0 = (step t 0 at (Define create_w0)).state in
    let t1 = (step t0 0 at (Define create_w1)).state in
    let t2 = (step t1 0 at (Define create_w2)).state in
    let same : s ≡ t = starts ∙ ap (λ (x : Definitions). start x SCRIPT_ROOM) is_fresh in
    let e0 : s0 ≡ t0 = follow s t s0 p0 create_w0 at same w0_is h0 in
    let e1 : s1 ≡ t1 = follow s0 t0 s1 p1 create_w1 at e0 w1_is h1 in
    let e2 : s2 ≡ t2 = follow s1 t1 s2 p2 create_w2 at e1 w2_is h2 in
    let e3 : s3 ≡ (step t2 0 at (Open dbadmin)).state = follow-open s2 t2 s3 user dbadmin at e2 user_is h3 in
    subst (HasBegun memory cores) (sym e3) (begins memory cores at at at at memory_least memory_most cores_least cores_most)
