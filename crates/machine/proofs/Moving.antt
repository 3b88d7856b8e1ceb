-- A running query that goes on in another pool, or gives way.
use Rattle.std.proofs.Common.{◌≡◌, ◌≤◌, ◌<◌, ℕ, Bool, true, false, ◌&&◌, ◌||◌, cond, eqb, leb, nat_eq, List, [], ◌∷◌, ◌++◌, Some, None, length, refl, sym, ap, ◌∙◌, subst, arith}
use Rattle.std.specs.List.{find, list_any}
use Rattle.std.proofs.lemmas.Bool.Decides.{nat_tests}
use Rattle.std.proofs.lemmas.List.Sums.{count_by-le-length}
use Rattle.rm_base.specs.declared.limits.TheConstants.{SESSIONS_MOST, MEMORY_MOST}
use Rattle.rm_base.specs.declared.name.Name.{Name}
use Rattle.rm_base.specs.Name.{general}
use Rattle.rm_rules.specs.declared.state.Holding.{Holding}
use Rattle.rm_rules.specs.declared.state.Runner.{Runner}
use Rattle.rm_rules.specs.declared.state.Session.{Session}
use Rattle.rm_rules.specs.declared.state.Waiter.{Waiter}
use Rattle.rm_rules.specs.Definitions.{pool_row}
use Rattle.rm_rules.specs.Budget.{threshold}
use Rattle.rm_rules.specs.State.{State, runner_of, without_runner, is_active}
use Rattle.rm_rules.specs.Holdings.{Holdings, holding, holdings_of}
use Rattle.rm_rules.specs.Accounting.{need, free, lent}
use Rattle.rm_rules.specs.Fit.{poolfit}
use Rattle.rm_rules.specs.Moving.{holdings_without, allows_grant, takes}
use Rattle.rm_rules.specs.Healthy.{AreTimed, AreNumbered, IsHealthy, began_by}
use Rattle.rm_rules.proofs.Once.{is-itself}
use Rattle.rm_rules.proofs.Pools.{sum_by-map}
use Rattle.rm_rules.proofs.Sizes.{sound_memory_most}
use Rattle.rm_rules.proofs.Taken.{and_left, and_right, all_found, sum_without, length_without}
use Rattle.accounts.specs.declared.moves.IfMoved.{IfMoved}
use Rattle.accounts.specs.Accounts.{has_query, grant_of, taken, given_back}
use Rattle.accounts.specs.Moves.{seen_from, if_moved, moved_to}
use Rattle.accounts.proofs.Standing.{queries-stand, grant-stands, taken-stands, given-stands}
use Rattle.pool_queue.specs.Queue.{has_query as waits_as}
use Rattle.machine.specs.declared.machine.Machine.TheInside.{Inside}
use Rattle.machine.specs.Inside.{seen_state, IsTied}
use Rattle.machine.specs.Taking.{takes_grant}
use Rattle.machine.proofs.Inside.{bytes_inside, bytes_under}
use Rattle.machine.proofs.Running.{once-running, found-behind}
use Rattle.machine.proofs.Submitting.{none-any}

-- the session's running query, in what is seen of the machine
pub runs-inside : (m : Inside) (s : State) (session : ℕ) (r : Runner) → seen_state m ≡ s → runner_of s.running session ≡ Some r → runner_of m.runs.running session ≡ Some r
runs-inside m s session r same found = ap (λ (t : State). runner_of t.running session) same ∙ found

-- when it began, and how long it had run by then
pub record HasRun (clock : ℕ) (r : Runner) : Type 0 where
  pub ran : r.ran ≤ r.start
  pub started : r.start ≤ clock

has-run : (s : State) (session : ℕ) (r : Runner) → AreTimed s.clock s.waiting s.running → runner_of s.running session ≡ Some r → HasRun s.clock r
has-run s session r timed found =
    let both : (leb r.ran r.start && leb r.start s.clock) ≡ true = all_found (began_by s.clock) (λ (x : Runner). eqb x.session session) s.running r timed.runs found in
    let first : leb r.ran r.start ≡ true = and_left (leb r.ran r.start) (leb r.start s.clock) both in
    let second : leb r.start s.clock ≡ true = and_right (leb r.ran r.start) (leb r.start s.clock) both in
    record { ran = grind (arith, nat_tests); started = grind (arith, nat_tests) }

pub run-inside : (m : Inside) (s : State) (session : ℕ) (r : Runner) → seen_state m ≡ s → AreTimed s.clock s.waiting s.running → runner_of s.running session ≡ Some r → HasRun m.clock r
run-inside m s session r same timed found = subst (λ (t : State). HasRun t.clock r) (sym same) (has-run s session r timed found)

-- its grant is within the memory
pub grant-fits : (s : State) (session : ℕ) (r : Runner) → IsHealthy s → runner_of s.running session ≡ Some r → r.grant ≤ MEMORY_MOST
grant-fits s session r h found =
    omega (
      arith,
      h.covered.held.granted,
      h.covered.held.in_force_most,
      sound_memory_most s.definitions h.sound,
      sum_by-map (λ (g : Holding). g.bytes) holding s.running,
      sum_without (λ (x : Runner). x.grant) (λ (x : Runner). eqb x.session session) r s.running found,
    )

-- the accounts know it
any-turn : (p q : Runner → Bool) (x y : Runner) (xs : List Runner) (b : Bool) → cond b (Some x) (find p xs) ≡ Some y → q y ≡ true
    → (find p xs ≡ Some y → list_any q xs ≡ true) → (q x || list_any q xs) ≡ true
any-turn p q x y xs true found passes rest =
    let same : y ≡ x = cc in
    ap (λ (c : Bool). c || list_any q xs) (ap q (sym same) ∙ passes)
any-turn p q x y xs false found passes rest = elim (q x) as (λ c. (c || list_any q xs) ≡ true) [ true ↦ refl | false ↦ rest found ]

pub any-found : (p q : Runner → Bool) (y : Runner) (xs : List Runner) → find p xs ≡ Some y → q y ≡ true → list_any q xs ≡ true
any-found p q y [] found passes = let none : None ≡ Some y = found in absurd (cc)
any-found p q y (x ∷ xs) found passes = any-turn p q x y xs (p x) found passes (λ more. any-found p q y xs more passes)

pub known-inside : (m : Inside) (s : State) (session : ℕ) (r : Runner) → seen_state m ≡ s → IsTied m → runner_of s.running session ≡ Some r → has_query m.runs.accounts.grants r.query ≡ true
known-inside m s session r same h found =
    ap (λ (b : Holdings). has_query b.grants r.query) (bytes_inside m s same h)
    ∙ queries-stand s.running r.query
    ∙ any-found (λ (x : Runner). eqb x.session session) (λ (x : Runner). nat_eq x.query r.query) r s.running found (is-itself r.query)

-- what it holds, and the bytes without it
pub grant-held : (s : State) (session : ℕ) (r : Runner) → AreNumbered s.last_query s.waiting s.running → runner_of s.running session ≡ Some r
    → grant_of (holdings_of s).grants r.query ≡ r.grant
grant-held s session r numbered found =
    let behind = found-behind (λ (x : Runner). eqb x.session session) s.running r found in
    grant-stands s.running _ behind.rest r (once-running s numbered) behind.split

left-without : (s : State) (session : ℕ) (r : Runner) → AreNumbered s.last_query s.waiting s.running → runner_of s.running session ≡ Some r
    → given_back (holdings_of s) r.query ≡ holdings_without s session
left-without s session r numbered found = sym (given-stands s session r (once-running s numbered) found)

-- so what decides where it goes is what the accounts tell
numbers-without : (s : State) (session : ℕ) (r : Runner) (pool : Name) → AreNumbered s.last_query s.waiting s.running → runner_of s.running session ≡ Some r
    → if_moved (holdings_of s) r.query pool ≡ seen_from (holdings_without s session) pool r.grant
numbers-without s session r pool numbered found =
    ap (λ (b : Holdings). seen_from b pool (grant_of (holdings_of s).grants r.query)) (left-without s session r numbered found)
    ∙ ap (λ (n : ℕ). seen_from (holdings_without s session) pool n) (grant-held s session r numbered found)

pub takes-inside : (m : Inside) (s : State) (r : Runner) (pool : Name) (seen : IfMoved) → seen_state m ≡ s → IsTied m → AreNumbered s.last_query s.waiting s.running
    → runner_of s.running r.session ≡ Some r → seen ≡ if_moved m.runs.accounts r.query pool → takes_grant m.definitions seen pool r.grant ≡ takes s r pool
takes-inside m s r pool seen same h numbered found is =
    ap (λ (n : IfMoved). takes_grant m.definitions n pool r.grant)
    (is ∙ ap (λ (b : Holdings). if_moved b r.query pool) (bytes_inside m s same h) ∙ numbers-without s r.session r pool numbered found)
    ∙ ap (λ (t : State). takes_grant t.definitions (seen_from (holdings_without s r.session) pool r.grant) pool r.grant) same

-- and what is taken needs no more than is free
enough-turn : (p q : Bool) (n l t f : ℕ) → ((p && (eqb n 0 || (leb l t && leb n f))) && q) ≡ true → n ≤ f
enough-turn p q n l t f h = grind (arith, nat_tests)

pub taken-fits : (m : Inside) (s : State) (r : Runner) (pool : Name) → seen_state m ≡ s → IsTied m → AreNumbered s.last_query s.waiting s.running → runner_of s.running r.session ≡ Some r
    → takes s r pool ≡ true → (if_moved m.runs.accounts r.query pool).need ≤ (if_moved m.runs.accounts r.query pool).free
taken-fits m s r pool same h numbered found taken =
    let b = holdings_without s r.session in
    let d = s.definitions in
    let now = ap (λ (a : Holdings). if_moved a r.query pool) (bytes_inside m s same h) ∙ numbers-without s r.session r pool numbered found in
    subst (λ (n : IfMoved). n.need ≤ n.free) (sym now)
    (enough-turn (poolfit d b pool r.grant) (allows_grant d pool r.grant) (need b pool r.grant) (lent b) (threshold d (pool_row d general)) (free b) taken)

-- the bytes of a query that went on elsewhere
pub bytes-moved : (m : Inside) (s : State) (r now : Runner) (pool : Name) (a : Holdings) (left running : List Runner) → seen_state m ≡ s → IsTied m → AreNumbered s.last_query s.waiting s.running
    → runner_of s.running r.session ≡ Some r → holding now ≡ record { query = r.query; pool = pool; bytes = r.grant } → a ≡ moved_to m.runs.accounts r.query pool
    → left ≡ without_runner r.session m.runs.running → running ≡ left ++ now ∷ [] → bytes_under m.definitions a running ≡ a
bytes-moved m s r now pool a left running same h numbered found holds is out more =
    let t = seen_state m in
    let u : State = record t { running = without_runner r.session t.running } in
    let there = subst (λ (x : State). AreNumbered x.last_query x.waiting x.running) (sym same) numbered in
    let here = runs-inside m s r.session r same found in
    let row : Holding → Holdings = λ (g : Holding). taken (holdings_of u) g.query g.pool g.bytes in
    let last : holdings_of (record u { running = u.running ++ now ∷ [] }) ≡ taken (holdings_of u) r.query pool r.grant = taken-stands u now ∙ ap row holds in
    let gone : holdings_of u ≡ given_back m.runs.accounts r.query = given-stands t r.session r (once-running t there) here ∙ ap (λ (b : Holdings). given_back b r.query) h.bytes in
    let held : r.grant ≡ grant_of m.runs.accounts.grants r.query = sym (grant-held t r.session r there here) ∙ ap (λ (b : Holdings). grant_of b.grants r.query) h.bytes in
    let whole : taken (holdings_of u) r.query pool r.grant ≡ moved_to m.runs.accounts r.query pool =
    ap (λ (b : Holdings). taken b r.query pool r.grant) gone ∙ ap (λ (n : ℕ). taken (given_back m.runs.accounts r.query) r.query pool n) held in
    ap (bytes_under m.definitions a) (more ∙ ap (λ (l : List Runner). l ++ now ∷ []) out)
    ∙ subst (λ (b : Holdings). bytes_under m.definitions b (without_runner r.session m.runs.running ++ now ∷ []) ≡ b) (sym is) (last ∙ whole)

-- there is room for it among those that run
room-running : (s : State) (session : ℕ) (r : Runner) → IsHealthy s → runner_of s.running session ≡ Some r → length (without_runner session s.running) < SESSIONS_MOST
room-running s session r h found =
    omega (
      arith,
      h.in_phase.active,
      h.opened.few,
      length_without (λ (x : Runner). eqb x.session session) r s.running found,
      count_by-le-length (λ (x : Session). is_active x.phase) s.sessions,
    )

pub room-inside : (m : Inside) (s : State) (session : ℕ) (r : Runner) (left : List Runner) → seen_state m ≡ s → IsHealthy s → runner_of s.running session ≡ Some r
    → left ≡ without_runner session m.runs.running → length left < SESSIONS_MOST
room-inside m s session r left same h found is =
    subst (λ (l : List Runner). length l < SESSIONS_MOST) (sym (is ∙ ap (λ (t : State). without_runner session t.running) same)) (room-running s session r h found)

-- its number waits nowhere
waits-nowhere : (s : State) (session : ℕ) (r : Runner) → AreNumbered s.last_query s.waiting s.running → runner_of s.running session ≡ Some r → waits_as s.waiting r.query ≡ false
waits-nowhere s session r numbered found =
    let one : cond (eqb r.query r.query) 1 0 ≡ 1 = ap {B = ℕ} (λ (c : Bool). cond c 1 0) (is-itself r.query) in
    none-any (λ (w : Waiter). eqb w.query r.query) s.waiting
    (omega (arith, one, numbered.once r.query, sum_without (λ (x : Runner). cond (eqb x.query r.query) 1 0) (λ (x : Runner). eqb x.session session) r s.running found))

pub waits-inside : (m : Inside) (s : State) (r : Runner) (w : Waiter) → seen_state m ≡ s → AreNumbered s.last_query s.waiting s.running → runner_of s.running r.session ≡ Some r
    → w.query ≡ r.query → waits_as m.waiting w.query ≡ false
waits-inside m s r w same numbered found is =
    ap (λ (n : ℕ). waits_as m.waiting n) is ∙ ap (λ (t : State). waits_as t.waiting r.query) same ∙ waits-nowhere s r.session r numbered found
