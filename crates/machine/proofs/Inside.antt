-- What the fields of an open machine keep of what is known of it as a state.
use Rattle.std.proofs.Common.{◌≡◌, ◌≤◌, ℕ, false, eqb, nat_eq, List, [], ◌∷◌, ◌++◌, Option, Some, None, sym, subst, ap, ◌∙◌, map, count_by}
use Rattle.std.specs.List.{find}
use Rattle.std.proofs.lemmas.Bool.{eqb-true}
use Rattle.rm_base.specs.declared.definitions.Definitions.{Definitions}
use Rattle.rm_base.specs.declared.name.Name.{Name}
use Rattle.rm_rules.specs.declared.state.Judged.{Judged}
use Rattle.rm_rules.specs.declared.state.Runner.{Runner}
use Rattle.rm_rules.specs.declared.state.Waiter.{Waiter}
use Rattle.rm_rules.specs.Definitions.{user_pools, pool_row}
use Rattle.rm_rules.specs.Ask.{ask}
use Rattle.rm_rules.specs.State.{State, without_runner, runner_of}
use Rattle.rm_rules.specs.Holdings.{Holdings, holdings, reserves_of, holdings_of, reserve_names}
use Rattle.rm_rules.specs.Accounting.{need, free}
use Rattle.rm_rules.specs.Fit.{judged, judged_by}
use Rattle.rm_rules.specs.Admission.{ask_of, first_in_queue, first_entitled}
use Rattle.rm_rules.specs.Settle.{first_too_large}
use Rattle.rm_rules.specs.Shuffle.{shuffled, with_sizes, shuffled_state}
use Rattle.rm_rules.specs.Sound.{IsSound, has_pool}
use Rattle.rm_rules.specs.Healthy.{AreSized, AreNumbered}
use Rattle.rm_rules.proofs.Shuffling.{shuffled-bytes}
use Rattle.rm_rules.proofs.Taken.{found_passes}
use Rattle.accounts.specs.Accounts.{names_in, has_name, has_query, taken, given_back}
use Rattle.accounts.proofs.Standing.{names-stand, pools-stand, queries-stand, taken-stands, given-stands}
use Rattle.pool_queue.specs.Queue.{query_of, is_large}
use Rattle.machine.specs.declared.machine.Machine.TheInside.{Inside}
use Rattle.machine.specs.Inside.{seen_state, IsTied}
use Rattle.machine.proofs.Running.{once-running}
use Rattle.machine.proofs.Submitting.{none-any}

pub sound_inside : (m : Inside) (s : State) → seen_state m ≡ s → IsSound s.definitions → IsSound m.definitions
sound_inside m s same sound = let P : State → Type 0 = λ x. IsSound x.definitions in subst P (sym same) sound

pub sized_inside : (m : Inside) (s : State) → seen_state m ≡ s → AreSized s.definitions s.actual s.counters → AreSized m.definitions (seen_state m).actual m.counters
sized_inside m s same sized = subst (λ (t : State). AreSized t.definitions t.actual t.counters) (sym same) sized

-- its accounts are the bytes of the state
pub bytes_inside : (m : Inside) (s : State) → seen_state m ≡ s → IsTied m → m.runs.accounts ≡ holdings_of s
bytes_inside m s same h = sym h.bytes ∙ ap holdings_of same

-- they have the names of the pools, and a pool is there just where they have its name
pub names_inside : (m : Inside) (s : State) → seen_state m ≡ s → IsTied m → AreSized s.definitions s.actual s.counters → names_in m.definitions ≡ reserve_names m.runs.accounts.reserves
names_inside m s same h sized =
    sym (names-stand (seen_state m) (sized_inside m s same sized)) ∙ ap (λ (a : Holdings). reserve_names a.reserves) h.bytes

pub name_inside : (m : Inside) (s : State) (pool : Name) → seen_state m ≡ s → IsTied m → IsSound s.definitions → AreSized s.definitions s.actual s.counters
    → has_name m.runs.accounts.reserves pool ≡ has_pool s.definitions pool
name_inside m s pool same h sound sized =
    ap (λ (a : Holdings). has_name a.reserves pool) (bytes_inside m s same h) ∙ pools-stand s pool sound sized

-- the bytes as they are seen under these definitions, while these queries run
abbrev pub bytes_under : Definitions → Holdings → List Runner → Holdings
bytes_under d a running = record {
  in_force = a.in_force;
  reserves = reserves_of (user_pools d.pools) (map (λ e. e.size) a.reserves);
  grants = holdings running;
}

-- how a query fits, and which is entitled
pub judged_inside : (m : Inside) (s : State) (pool user : Name) (floor bytes : ℕ) (j : Judged) → seen_state m ≡ s → IsTied m → bytes ≡ ask m.definitions (pool_row m.definitions pool) user floor
    → j ≡ judged m.definitions m.runs.accounts pool bytes → j ≡ judged_by s.definitions (holdings_of s) pool user floor
judged_inside m s pool user floor bytes j same h asks is =
    is ∙ ap (λ (n : ℕ). judged m.definitions m.runs.accounts pool n) asks
    ∙ ap (λ (b : Holdings). judged_by m.definitions b pool user floor) (bytes_inside m s same h)
    ∙ ap (λ (t : State). judged_by t.definitions (holdings_of s) pool user floor) same

pub entitled_inside : (m : Inside) (s : State) (q : Option ℕ) → seen_state m ≡ s → q ≡ query_of (first_in_queue m.definitions (holdings_of s) m.waiting) → query_of (first_entitled s) ≡ q
entitled_inside m s q same is = sym (is ∙ ap (λ (t : State). query_of (first_in_queue t.definitions (holdings_of s) t.waiting)) same)

pub small_inside : (m : Inside) (s : State) → seen_state m ≡ s → first_too_large s ≡ None → find (is_large m.definitions) m.waiting ≡ None
small_inside m s same small = subst (λ (t : State). find (is_large t.definitions) t.waiting ≡ None) (sym same) small

pub fits_inside : (m : Inside) (s : State) (w : Waiter) (grant : ℕ) → seen_state m ≡ s → IsTied m → grant ≡ ask m.definitions (pool_row m.definitions w.pool) w.user w.floor
    → need (holdings_of s) w.pool (ask_of s.definitions w) ≤ free (holdings_of s) → need m.runs.accounts w.pool grant ≤ free m.runs.accounts
fits_inside m s w grant same h asks fits =
    subst (λ (b : Holdings). need b w.pool grant ≤ free b) (sym (bytes_inside m s same h))
    (subst (λ (n : ℕ). need (holdings_of s) w.pool n ≤ free (holdings_of s)) (sym (asks ∙ ap (λ (t : State). ask_of t.definitions w) same)) fits)

pub absent_inside : (m : Inside) (s : State) (query : ℕ) → seen_state m ≡ s → IsTied m → count_by (λ (r : Runner). nat_eq r.query query) s.running ≡ 0 → has_query m.runs.accounts.grants query ≡ false
absent_inside m s query same h none =
    ap (λ (b : Holdings). has_query b.grants query) (bytes_inside m s same h)
    ∙ queries-stand s.running query ∙ none-any (λ (r : Runner). nat_eq r.query query) s.running none

-- one query more
pub bytes-taken : (m : Inside) (r : Runner) (a : Holdings) (running : List Runner) → IsTied m → a ≡ taken m.runs.accounts r.query r.pool r.grant → running ≡ m.runs.running ++ r ∷ []
    → bytes_under m.definitions a running ≡ a
bytes-taken m r a running h is more =
    ap (bytes_under m.definitions a) more
    ∙ subst (λ (b : Holdings). bytes_under m.definitions b (m.runs.running ++ r ∷ []) ≡ b) (sym is)
    (taken-stands (seen_state m) r ∙ ap (λ (b : Holdings). taken b r.query r.pool r.grant) h.bytes)

-- one query less
pub bytes-given : (m : Inside) (s : State) (session : ℕ) (r : Runner) (a : Holdings) (running : List Runner) → seen_state m ≡ s → IsTied m → AreNumbered s.last_query s.waiting s.running
    → runner_of m.runs.running session ≡ Some r → a ≡ given_back m.runs.accounts r.query → running ≡ without_runner session m.runs.running → bytes_under m.definitions a running ≡ a
bytes-given m s session r a running same h numbered found is left =
    let there = subst (λ (t : State). AreNumbered t.last_query t.waiting t.running) (sym same) numbered in
    ap (bytes_under m.definitions a) left
    ∙ subst (λ (b : Holdings). bytes_under m.definitions b (without_runner session m.runs.running) ≡ b) (sym is)
    (given-stands (seen_state m) session r (once-running (seen_state m) there) found ∙ ap (λ (b : Holdings). given_back b r.query) h.bytes)

pub seen-given : (m : Inside) (s : State) (session : ℕ) (r : Runner) (a : Holdings) (running : List Runner) → seen_state m ≡ s → runner_of m.runs.running session ≡ Some r
    → a ≡ given_back m.runs.accounts r.query → running ≡ without_runner r.session m.runs.running
    → seen_state (record m { runs = record { accounts = a; running = running } }) ≡ record s { running = without_runner session s.running }
seen-given m s session r a running same found is left =
    let own : r.session ≡ session = eqb-true r.session session (found_passes (λ (x : Runner). eqb x.session session) r m.runs.running found) in
    ap (λ (b : Holdings). seen_state (record m { runs = record { accounts = b; running = running } })) is
    ∙ ap (λ (l : List Runner). let t : State = record (seen_state m) { running = l } in t) (left ∙ ap (λ (n : ℕ). without_runner n m.runs.running) own)
    ∙ ap (λ (t : State). let u : State = record t { running = without_runner session t.running } in u) same

-- shuffled
pub seen-shuffled : (m : Inside) (s : State) (a : Holdings) → seen_state m ≡ s → IsTied m → a ≡ shuffled m.definitions m.runs.accounts
    → seen_state (record m { runs = record { accounts = a; running = m.runs.running } }) ≡ shuffled_state s
seen-shuffled m s a same h is =
    ap (with_sizes (seen_state m)) is
    ∙ ap (λ (b : Holdings). with_sizes (seen_state m) (shuffled m.definitions b)) (sym h.bytes)
    ∙ ap shuffled_state same

pub bytes-shuffled : (m : Inside) (s : State) (a : Holdings) → seen_state m ≡ s → IsTied m → AreSized s.definitions s.actual s.counters → a ≡ shuffled m.definitions m.runs.accounts
    → bytes_under m.definitions a m.runs.running ≡ a
bytes-shuffled m s a same h sized is =
    let now = is ∙ ap (shuffled m.definitions) (sym h.bytes) in
    ap (λ (b : Holdings). bytes_under m.definitions b m.runs.running) now ∙ shuffled-bytes (seen_state m) (sized_inside m s same sized) ∙ sym now
