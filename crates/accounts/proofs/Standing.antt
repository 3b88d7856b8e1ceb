-- What the accounts' words say of the bytes of a state.
use Rattle.std.proofs.Common.{◌≡◌, ◌≤◌, ℕ, ◌||◌, cond, nat_eq, Option, Some, None, List, [], ◌∷◌, ◌++◌, map, refl, ap, sym, ◌∙◌, arith, count_by, find, take_while, not}
use Rattle.std.specs.List.{list_any}
use Rattle.std.proofs.lemmas.List.{map-append}
use Rattle.rm_base.specs.declared.definitions.Definitions.{Definitions}
use Rattle.rm_base.specs.declared.entry.Account.{Account}
use Rattle.rm_base.specs.declared.name.Name.{Name}
use Rattle.rm_base.specs.Name.{same_name, general}
use Rattle.rm_rules.specs.declared.state.Holding.{Holding}
use Rattle.rm_rules.specs.declared.state.Reserve.{Reserve}
use Rattle.rm_rules.specs.declared.state.Runner.{Runner}
use Rattle.rm_rules.specs.Definitions.{user_pools}
use Rattle.rm_rules.specs.State.{State, without_runner}
use Rattle.rm_rules.specs.Holdings.{Holdings, holding, holdings, reserves_of, holdings_of, reserve_names}
use Rattle.rm_rules.specs.Accounting.{account_behind}
use Rattle.rm_rules.specs.Sound.{IsSound, has_pool}
use Rattle.rm_rules.specs.Healthy.{AreSized}
use Rattle.rm_rules.proofs.Bytes.{reserve_names-of, sizes-of, reserves-again}
use Rattle.rm_rules.proofs.Once.{is-itself, find-single, before-single, without-map, without-same}
use Rattle.rm_rules.proofs.Pools.{sum_by-map, is_called, pool_names}
use Rattle.accounts.specs.Accounts.{names_in, is_of, has_name, has_query, grant_of, no_account, account_of, taken, given_back, with_pool}

abbrev pub IsSized : State → Type 0
IsSized s = AreSized s.definitions s.actual s.counters

-- the pools
pub names-stand : (s : State) → IsSized s → reserve_names (holdings_of s).reserves ≡ names_in s.definitions
names-stand s sized = reserve_names-of (user_pools s.definitions.pools) s.actual sized.sizes

pub pools-stand : (s : State) (pool : Name) → IsSound s.definitions → IsSized s → has_name (holdings_of s).reserves pool ≡ has_pool s.definitions pool
pools-stand s pool sound sized =
    sym (
    is_called s.definitions.pools pool
    ∙ ap (λ (ns : List Name). list_any (same_name pool) ns) (pool_names s.definitions.pools sound.general_first)
    ∙ ap (λ (ns : List Name). list_any (same_name pool) (general ∷ ns)) (sym (names-stand s sized))
    )

-- reserves of other definitions with the same pools, and with one more
pub kept-stand : (s : State) (d : Definitions) → IsSized s → names_in d ≡ names_in s.definitions
    → (let u : State = record s { definitions = d } in holdings_of u ≡ holdings_of s)
kept-stand s d sized same =
    let old = (holdings_of s).reserves in
    let again : reserves_of (user_pools d.pools) s.actual ≡ old =
    ap (reserves_of (user_pools d.pools)) (sym (sizes-of (user_pools s.definitions.pools) s.actual sized.sizes))
    ∙ reserves-again (user_pools d.pools) old (names-stand s sized ∙ sym same) in
    ap (λ (es : List Reserve). let u : Holdings = record (holdings_of s) { reserves = es } in u) again

pub added-stand : (s : State) (d : Definitions) (pool : Name) → IsSized s → names_in d ≡ names_in s.definitions ++ pool ∷ []
    → (let u : State = record s { definitions = d; actual = s.actual ++ 0 ∷ [] } in holdings_of u ≡ with_pool (holdings_of s) pool)
added-stand s d pool sized same =
    let old = (holdings_of s).reserves in
    let x : Reserve = record { pool = pool; size = 0 } in
    let named : reserve_names (old ++ x ∷ []) ≡ names_in d =
    map-append (λ (e : Reserve). e.pool) old (x ∷ []) ∙ ap (λ (ns : List Name). ns ++ pool ∷ []) (names-stand s sized) ∙ sym same in
    let sizes : map (λ (e : Reserve). e.size) (old ++ x ∷ []) ≡ s.actual ++ 0 ∷ [] =
    map-append (λ (e : Reserve). e.size) old (x ∷ []) ∙ ap (λ (ns : List ℕ). ns ++ 0 ∷ []) (sizes-of (user_pools s.definitions.pools) s.actual sized.sizes) in
    let again : reserves_of (user_pools d.pools) (s.actual ++ 0 ∷ []) ≡ old ++ x ∷ [] =
    ap (reserves_of (user_pools d.pools)) (sym sizes) ∙ reserves-again (user_pools d.pools) (old ++ x ∷ []) named in
    ap (λ (es : List Reserve). let u : Holdings = record (holdings_of s) { reserves = es } in u) again

-- the queries
pub queries-stand : (running : List Runner) (query : ℕ) → has_query (holdings running) query ≡ list_any (λ r. nat_eq r.query query) running
queries-stand [] query = refl
queries-stand (r ∷ rs) query = ap (λ b. nat_eq r.query query || b) (queries-stand rs query)

abbrev pub OnceByNumber : List Runner → Type 0
OnceByNumber running = (query : ℕ) → count_by (λ r. nat_eq r.query query) running ≤ 1

-- a query that runs once is found, behind those before it
record IsFound (query : ℕ) (before : List Runner) (r : Runner) (running : List Runner) : Type 0 where
  pub found : find (is_of query) (holdings running) ≡ Some (holding r)
  pub behind : take_while (λ g. not (is_of query g)) (holdings running) ≡ holdings before

among : (running before rest : List Runner) (r : Runner) → OnceByNumber running → running ≡ before ++ r ∷ rest → IsFound r.query before r running
among running before rest r once split =
    let all : holdings running ≡ holdings before ++ holding r ∷ holdings rest = ap holdings split ∙ map-append holding before (r ∷ rest) in
    let counted : count_by (is_of r.query) (holdings running) ≡ count_by (λ x. nat_eq x.query r.query) running = sum_by-map (λ g. cond (is_of r.query g) 1 0) holding running in
    let few : count_by (is_of r.query) (holdings before ++ holding r ∷ holdings rest) ≤ 1 =
    omega (arith, counted, once r.query, ap (λ (gs : List Holding). count_by (is_of r.query) gs) all) in
    record {
      found = ap (λ (gs : List Holding). find (is_of r.query) gs) all ∙ find-single (is_of r.query) (holdings before) (holdings rest) (holding r) (is-itself r.query) few;
      behind = ap (λ (gs : List Holding). take_while (λ g. not (is_of r.query g)) gs) all ∙ before-single (is_of r.query) (holdings before) (holdings rest) (holding r) (is-itself r.query) few;
    }

pub grant-stands : (running before rest : List Runner) (r : Runner) → OnceByNumber running → running ≡ before ++ r ∷ rest → grant_of (holdings running) r.query ≡ r.grant
grant-stands running before rest r once split = ap (λ (o : Option Holding). elim o [ Some g ↦ g.bytes | None ↦ 0 ]) (among running before rest r once split).found

abbrev in_account : Holdings → List Holding → Option Holding → Account
in_account h front o = elim o [ Some g ↦ account_behind h front g | None ↦ no_account ]

pub account-stands : (s : State) (before rest : List Runner) (r : Runner) → OnceByNumber s.running → s.running ≡ before ++ r ∷ rest
    → account_of (holdings_of s) r.query ≡ account_behind (holdings_of s) (holdings before) (holding r)
account-stands s before rest r once split =
    let at = among s.running before rest r once split in
    λ i. in_account (holdings_of s) (at.behind i) (at.found i)

-- a query that begins or ends
pub taken-stands : (s : State) (r : Runner) → (let u : State = record s { running = s.running ++ r ∷ [] } in holdings_of u ≡ taken (holdings_of s) r.query r.pool r.grant)
taken-stands s r = ap (λ (gs : List Holding). let u : Holdings = record (holdings_of s) { grants = gs } in u) (map-append holding s.running (r ∷ []))

pub given-stands : (s : State) (session : ℕ) (r : Runner) → OnceByNumber s.running → find (λ x. nat_eq x.session session) s.running ≡ Some r
    → (let u : State = record s { running = without_runner session s.running } in holdings_of u ≡ given_back (holdings_of s) r.query)
given-stands s session r once found =
    ap (λ (gs : List Holding). let u : Holdings = record (holdings_of s) { grants = gs } in u) (
    ap holdings (without-same (λ (x : Runner). nat_eq x.session session) (λ (x : Runner). nat_eq x.query r.query) r s.running found (is-itself r.query) (once r.query))
    ∙ without-map holding (is_of r.query) s.running
    )
