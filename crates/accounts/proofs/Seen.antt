-- What the fields of open accounts say of the accounts as they are seen.
use Rattle.std.proofs.Common.{◌≡◌, ℕ, ◌+◌, ◌-◌, max, Option, Some, None, List, [], ◌∷◌, ◌++◌, ap, sym, ◌∙◌, sum_by, map, position, take, get_or, remove}
use Rattle.rm_base.specs.declared.definitions.Definitions.{Definitions}
use Rattle.rm_base.specs.declared.entry.Account.{Account}
use Rattle.rm_base.specs.declared.name.Name.{Name}
use Rattle.rm_base.specs.Name.{general}
use Rattle.rm_rules.specs.declared.state.Holding.{Holding}
use Rattle.rm_rules.specs.declared.state.Reserve.{Reserve}
use Rattle.rm_rules.specs.Definitions.{total}
use Rattle.rm_rules.specs.Holdings.{Holdings}
use Rattle.rm_rules.specs.State.{without}
use Rattle.rm_rules.specs.Accounting.{used, debt, kept_back, account_behind}
use Rattle.rm_rules.specs.Shuffle.{grown_reserves, shuffled}
use Rattle.rm_rules.proofs.Places.{without-found, without-absent, find-found, find-absent, before-found}
use Rattle.accounts.specs.Accounts.{is_of, grant_of, before, no_account, account_of, taken, given_back, with_pool}
use Rattle.rm_rules.specs.DropPool.{is_reserve_of, holding_beside, folded}
use Rattle.accounts.specs.Sizes.{fallen_reserves}

-- a query more, and one pool more
pub taken-seen : (h a : Holdings) (gs : List Holding) (query : ℕ) (pool : Name) (bytes : ℕ) → h ≡ a
    → gs ≡ h.grants ++ record { query = query; pool = pool; bytes = bytes } ∷ [] → record h { grants = gs } ≡ taken a query pool bytes
taken-seen h a gs query pool bytes same items =
    ap (λ (xs : List Holding). let u : Holdings = record h { grants = xs } in u) items ∙ ap (λ (x : Holdings). taken x query pool bytes) same

pub pool-seen : (h a : Holdings) (es : List Reserve) (pool : Name) → h ≡ a → es ≡ h.reserves ++ record { pool = pool; size = 0 } ∷ []
    → record h { reserves = es } ≡ with_pool a pool
pool-seen h a es pool same items =
    ap (λ (xs : List Reserve). let u : Holdings = record h { reserves = xs } in u) items ∙ ap (λ (x : Holdings). with_pool x pool) same

-- without a pool, whose reserve is found at a place
pub folded-seen : (h a : Holdings) (es : List Reserve) (gs : List Holding) (pool : Name) (i : ℕ) → h ≡ a → es ≡ remove h.reserves i
    → position (is_reserve_of pool) a.reserves ≡ Some i → gs ≡ map (holding_beside pool) h.grants
    → record h { reserves = es; grants = gs } ≡ folded a pool
folded-seen h a es gs pool i same rest found handed =
    let place : position (is_reserve_of pool) h.reserves ≡ Some i = ap (λ (x : Holdings). position (is_reserve_of pool) x.reserves) same ∙ found in
    let reserves : es ≡ without (is_reserve_of pool) h.reserves = rest ∙ sym (without-found (is_reserve_of pool) h.reserves i place) in
    (λ j. record { in_force = h.in_force; reserves = reserves j; grants = handed j }) ∙ ap (λ (x : Holdings). folded x pool) same

-- a query is found at a place, or it does not run
pub given-seen : (h a : Holdings) (gs : List Holding) (query i : ℕ) → h ≡ a → gs ≡ remove h.grants i → position (is_of query) a.grants ≡ Some i
    → record h { grants = gs } ≡ given_back a query
given-seen h a gs query i same items found =
    let place : position (is_of query) h.grants ≡ Some i = ap (λ (x : Holdings). position (is_of query) x.grants) same ∙ found in
    ap (λ (xs : List Holding). let u : Holdings = record h { grants = xs } in u) (items ∙ sym (without-found (is_of query) h.grants i place))
    ∙ ap (λ (x : Holdings). given_back x query) same

pub given-absent : (a : Holdings) (query : ℕ) → let o : Option ℕ = None in position (is_of query) a.grants ≡ o → a ≡ given_back a query
given-absent a query absent = sym (ap (λ (xs : List Holding). let u : Holdings = record a { grants = xs } in u) (without-absent (is_of query) a.grants absent))

pub grant-found : (a : Holdings) (gs : List Holding) (query i : ℕ) (g : Holding) → gs ≡ a.grants → position (is_of query) a.grants ≡ Some i → g ≡ get_or gs i g
    → g.bytes ≡ grant_of a.grants query
grant-found a gs query i g same found there =
    let at : g ≡ get_or a.grants i g = there ∙ ap (λ (xs : List Holding). get_or xs i g) same in
    sym (ap (λ (o : Option Holding). elim o [ Some x ↦ x.bytes | None ↦ 0 ]) (find-found (is_of query) a.grants i g found at))

pub grant-absent : (gs : List Holding) (query : ℕ) → let o : Option ℕ = None in position (is_of query) gs ≡ o → 0 ≡ grant_of gs query
grant-absent gs query absent = sym (ap (λ (o : Option Holding). elim o [ Some x ↦ x.bytes | None ↦ 0 ]) (find-absent (is_of query) gs absent))

-- its account
abbrev in_account : Holdings → ℕ → Option Holding → Account
in_account a query o = elim o [ Some g ↦ account_behind a (before a.grants query) g | None ↦ no_account ]

pub account-found : (a : Holdings) (gs : List Holding) (query i : ℕ) (g : Holding) → gs ≡ a.grants → position (is_of query) a.grants ≡ Some i → g ≡ get_or gs i g
    → account_behind a (take i gs) g ≡ account_of a query
account-found a gs query i g same found there =
    let at : g ≡ get_or a.grants i g = there ∙ ap (λ (xs : List Holding). get_or xs i g) same in
    ap (λ (xs : List Holding). account_behind a xs g) (ap (take i) same ∙ sym (before-found (is_of query) a.grants i found))
    ∙ sym (ap (in_account a query) (find-found (is_of query) a.grants i g found at))

pub account-absent : (a : Holdings) (query : ℕ) → let o : Option ℕ = None in position (is_of query) a.grants ≡ o → no_account ≡ account_of a query
account-absent a query absent = sym (ap (in_account a query) (find-absent (is_of query) a.grants absent))

-- the shuffle, step by step
pub record IsShuffle (d : Definitions) (h : Holdings) (grants : List Holding) (fell es : List Reserve) (kept lends force : ℕ) : Type 0 where
  pub running : grants ≡ h.grants
  pub falls : fell ≡ fallen_reserves d grants h.reserves
  pub reserved : kept ≡ kept_back fell
  pub lent : lends ≡ used general grants + sum_by (debt grants) fell
  pub force_is : force ≡ max (total d) (kept + lends)
  pub grows : es ≡ grown_reserves d grants ((force - kept) - lends) fell

pub shuffled-seen : (d : Definitions) (h a : Holdings) (grants : List Holding) (fell es : List Reserve) (kept lends force : ℕ) → h ≡ a → IsShuffle d h grants fell es kept lends force
    → record h { in_force = force; reserves = es } ≡ shuffled d a
shuffled-seen d h a grants fell es kept lends force same s =
    let falls : fell ≡ fallen_reserves d h.grants h.reserves = s.falls ∙ ap (λ (gs : List Holding). fallen_reserves d gs h.reserves) s.running in
    let now = fallen_reserves d h.grants h.reserves in
    let reserved : kept ≡ kept_back now = s.reserved ∙ ap kept_back falls in
    let lent : lends ≡ used general h.grants + sum_by (debt h.grants) now = s.lent ∙ (λ i. used general (s.running i) + sum_by (debt (s.running i)) (falls i)) in
    let force_is : force ≡ (shuffled d h).in_force = s.force_is ∙ (λ i. max (total d) (reserved i + lent i)) in
    let grows : es ≡ (shuffled d h).reserves = s.grows ∙ (λ i. grown_reserves d (s.running i) ((force_is i - reserved i) - lent i) (falls i)) in
    (λ i. record { in_force = force_is i; reserves = grows i; grants = h.grants }) ∙ ap (shuffled d) same
