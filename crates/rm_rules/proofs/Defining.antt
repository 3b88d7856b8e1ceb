-- What an accepted statement leaves of the bytes, before the sizes are shuffled.
use Rattle.std.proofs.Common.{◌≡◌, ℕ, ◌+◌, ◌-◌, Bool, true, false, cond, ltb, List, [], ◌∷◌, ◌++◌, length, Ok, ◌||◌, refl, sym, ap, ◌∙◌, subst, arith, sum_by}
use Rattle.std.specs.List.{list_all, list_any}
use Rattle.std.proofs.lemmas.Bool.{false≢true}
use Rattle.std.proofs.lemmas.Bool.Decides.{nat_tests}
use Rattle.std.proofs.lemmas.List.{length_push, length-map, map_push}
use Rattle.std.proofs.lemmas.List.Folds.{list_any-append}
use Rattle.std.proofs.lemmas.List.Sums.{sum_by-cons, sum_by_push}
use Rattle.rm_base.specs.declared.definitions.Definitions.{Definitions}
use Rattle.rm_base.specs.declared.name.Name.{Name}
use Rattle.rm_base.specs.declared.rows.PoolRow.{PoolRow}
use Rattle.rm_base.specs.declared.rows.GrantRow.{GrantRow}
use Rattle.rm_base.specs.declared.rows.GrantRow.TheVariants.{RoleToUser}
use Rattle.rm_base.specs.declared.statement.Statement.{Statement}
use Rattle.rm_base.specs.declared.statement.Statement.TheVariants.{CreatePool, AlterPool, DropPool, CreateUser, AlterUser, DropUser, CreateRole, AlterRole, DropRole, GrantUsage, RevokeUsage, GrantRole, RevokeRole}
use Rattle.rm_base.specs.Name.{same_name}
use Rattle.rm_base.specs.Ranges.{passes_if_set}
use Rattle.rm_base.proofs.Names.{same_name-eq}
use Rattle.rm_rules.specs.declared.state.Reserve.{Reserve}
use Rattle.rm_rules.specs.declared.state.Runner.{Runner}
use Rattle.rm_rules.specs.declared.state.Waiter.{Waiter}
use Rattle.rm_rules.specs.declared.state.Session.{Session}
use Rattle.rm_rules.specs.Definitions.{user_pools}
use Rattle.rm_rules.specs.State.{State, none_ended}
use Rattle.rm_rules.specs.Holdings.{holding, holdings, reserves_of, holdings_of}
use Rattle.rm_rules.specs.Accounting.{held_in, used, debt, kept_back}
use Rattle.rm_rules.specs.PoolStatements.{created_pool, altered_pool, with_pool}
use Rattle.rm_rules.specs.GrantStatements.{usage_grant, with_grant}
use Rattle.rm_rules.specs.DropPool.{drops_none}
use Rattle.rm_rules.specs.Acceptance.{left_by, counted, accepted}
use Rattle.rm_rules.specs.Change.{with_place, defined}
use Rattle.rm_rules.specs.Sound.{IsSound, has_pool, has_grant, begins_with_general}
use Rattle.rm_rules.specs.Healthy.{AreSized, AreThere}
use Rattle.rm_rules.proofs.Taken.{and_left, and_right, all_wider, set_wider}
use Rattle.rm_rules.proofs.Rows.{names-there, last-absent}
use Rattle.rm_rules.proofs.Pools.{names, is_called}
use Rattle.rm_rules.proofs.AcceptanceLaws.{accepted-left}

-- a statement leaves the names of the pools, or puts one behind them that was not there
pub data NamesAfter (d new : Definitions) : Type 0 where
  keeps_names : names new.pools ≡ names d.pools → NamesAfter d new
  adds_name : (row : PoolRow) → has_pool d row.name ≡ false → new.pools ≡ d.pools ++ row ∷ [] → NamesAfter d new

row-turn : (d : Definitions) (row : PoolRow) (b : Bool) → has_pool d row.name ≡ b → NamesAfter d (with_pool d row)
row-turn d row true there = keeps_names (names-there (λ (r : PoolRow). r.name) row d.pools there)
row-turn d row false absent = adds_name row absent (last-absent (λ (r : PoolRow). r.name) row d.pools absent)

row-names : (d : Definitions) (row : PoolRow) → NamesAfter d (with_pool d row)
row-names d row = row-turn d row (has_pool d row.name) refl

grant-turn : (d : Definitions) (g : GrantRow) (b : Bool) → (let more : Definitions = record d { grants = d.grants ++ g ∷ [] } in NamesAfter d (cond b d more))
grant-turn d g true = keeps_names refl
grant-turn d g false = keeps_names refl

grant-names : (d : Definitions) (g : GrantRow) → NamesAfter d (with_grant d g)
grant-names d g = grant-turn d g (has_grant d.grants g)

left-names : (d : Definitions) (statement : Statement) → drops_none statement ≡ true → NamesAfter d (left_by d statement)
left-names d (CreatePool name c) none = row-names d (created_pool d name c)
left-names d (AlterPool name c) none = row-names d (altered_pool d name c)
left-names d (DropPool name) none = absurd (false≢true none)
left-names d (CreateUser name c) none = keeps_names refl
left-names d (AlterUser name c) none = keeps_names refl
left-names d (DropUser name) none = keeps_names refl
left-names d (CreateRole name) none = keeps_names refl
left-names d (AlterRole name pool) none = keeps_names refl
left-names d (DropRole name) none = keeps_names refl
left-names d (GrantUsage pool grantee) none = grant-names d (usage_grant d pool grantee)
left-names d (RevokeUsage pool grantee) none = keeps_names refl
left-names d (GrantRole role user) none = grant-names d (RoleToUser role user)
left-names d (RevokeRole role user) none = keeps_names refl

counted-names : (d new : Definitions) → NamesAfter d new → NamesAfter d (counted new)
counted-names d new (keeps_names same) = keeps_names same
counted-names d new (adds_name row absent last) = adds_name row absent last

pub accepted-names : (d : Definitions) (statement : Statement) (new : Definitions) → drops_none statement ≡ true → accepted d statement ≡ Ok new → NamesAfter d new
accepted-names d statement new none h =
    subst (NamesAfter d) (accepted-left d statement new h).1 (counted-names d (left_by d statement) (left-names d statement none))

-- reserves hang on names and sizes alone
reserves-named : (rows others : List PoolRow) (ns : List ℕ) → names rows ≡ names others → reserves_of rows ns ≡ reserves_of others ns
reserves-named [] [] ns e = refl
reserves-named [] (o ∷ os) ns e = let none : [] ≡ o.name ∷ names os = e in absurd (cc)
reserves-named (r ∷ rs) [] ns e = let none : r.name ∷ names rs ≡ [] = e in absurd (cc)
reserves-named (r ∷ rs) (o ∷ os) [] e = refl
reserves-named (r ∷ rs) (o ∷ os) (n ∷ ns) e =
    let first : r.name ≡ o.name = cc in
    let rest : names rs ≡ names os = cc in
    ap (λ (p : Name). let x : Reserve = record { pool = p; size = n } in x ∷ reserves_of rs ns) first
    ∙ ap (λ l. (let x : Reserve = record { pool = o.name; size = n } in x) ∷ l) (reserves-named rs os ns rest)

-- one more pool with nothing reserved
reserves-push : (rows : List PoolRow) (ns : List ℕ) (row : PoolRow) → length ns ≡ length rows
    → reserves_of (rows ++ row ∷ []) (ns ++ 0 ∷ []) ≡ reserves_of rows ns ++ (let x : Reserve = record { pool = row.name; size = 0 } in x) ∷ []
reserves-push [] [] row e = refl
reserves-push [] (m ∷ ns) row e = absurd (omega arith)
reserves-push (r ∷ rs) [] row e = absurd (omega arith)
reserves-push (r ∷ rs) (m ∷ ns) row e =
    let same : length ns ≡ length rs = omega arith in
    ap (λ l. (let x : Reserve = record { pool = r.name; size = m } in x) ∷ l) (reserves-push rs ns row same)

-- a pool that is not there has no running query
none-turn : (d : Definitions) (name : Name) (r : Runner) (b : Bool) → same_name r.pool name ≡ b → has_pool d name ≡ false → has_pool d r.pool ≡ true → cond b r.grant 0 ≡ 0
none-turn d name r true e absent there = absurd (false≢true (sym absent ∙ ap (has_pool d) (sym (same_name-eq r.pool name e)) ∙ there))
none-turn d name r false e absent there = refl

used-absent : (d : Definitions) (name : Name) (running : List Runner) → has_pool d name ≡ false → list_all (λ r. has_pool d r.pool) running ≡ true
    → used name (holdings running) ≡ 0
used-absent d name [] absent all = refl
used-absent d name (r ∷ rs) absent all =
    omega (
      arith,
      sum_by-cons (held_in name) (holding r) (holdings rs),
      none-turn d name r (same_name r.pool name) refl absent (and_left (has_pool d r.pool) (list_all (λ x. has_pool d x.pool) rs) all),
      used-absent d name rs absent (and_right (has_pool d r.pool) (list_all (λ x. has_pool d x.pool) rs) all),
    )

-- the pools behind GENERAL, by their names and their number
pub user_named : (pools others : List PoolRow) → names pools ≡ names others → names (user_pools pools) ≡ names (user_pools others)
user_named [] [] e = refl
user_named [] (o ∷ os) e = let none : [] ≡ o.name ∷ names os = e in absurd (cc)
user_named (r ∷ rs) [] e = let none : r.name ∷ names rs ≡ [] = e in absurd (cc)
user_named (r ∷ rs) (o ∷ os) e = cc

user_length : (pools : List PoolRow) → length (user_pools pools) ≡ length pools - 1
user_length [] = refl
user_length (r ∷ rs) = omega arith

pub user_push : (pools : List PoolRow) (row : PoolRow) → begins_with_general pools ≡ true → user_pools (pools ++ row ∷ []) ≡ user_pools pools ++ row ∷ []
user_push [] row begins = absurd (false≢true begins)
user_push (r ∷ rs) row begins = refl

-- where no pool comes in, the lists of one item a pool stay; where one does, each gets its item
pub place-same : {A : Type 0} (old new : Definitions) (x : A) (xs : List A) → length new.pools ≡ length old.pools → with_place old new x xs ≡ xs
place-same old new x xs e =
    let is : ltb (length old.pools) (length new.pools) ≡ false = grind (arith, nat_tests) in
    ap (λ b. cond b (xs ++ x ∷ []) xs) is

pub place-more : {A : Type 0} (old new : Definitions) (x : A) (xs : List A) → length new.pools ≡ length old.pools + 1 → with_place old new x xs ≡ xs ++ x ∷ []
place-more old new x xs e =
    let is : ltb (length old.pools) (length new.pools) ≡ true = grind (arith, nat_tests) in
    ap (λ b. cond b (xs ++ x ∷ []) xs) is

-- the sizes, counts and reserves that a statement leaves
pub record HasPlaces (s : State) (d : Definitions) : Type 0 where
  pub sized : AreSized d (defined s d).actual (defined s d).counters
  pub kept : kept_back (holdings_of (defined s d)).reserves ≡ kept_back (holdings_of s).reserves
  pub debts : sum_by (debt (holdings s.running)) (holdings_of (defined s d)).reserves ≡ sum_by (debt (holdings s.running)) (holdings_of s).reserves

pub names-length : (pools : List PoolRow) → length (names pools) ≡ length pools
names-length pools = length-map pools (λ (r : PoolRow). r.name)

places-kept : (s : State) (new : Definitions) → AreSized s.definitions s.actual s.counters → names new.pools ≡ names s.definitions.pools → HasPlaces s new
places-kept s new sized same =
    let d = s.definitions in
    let many : length new.pools ≡ length d.pools = omega (arith, names-length new.pools, names-length d.pools, ap (λ (ns : List Name). length ns) same) in
    let size = place-same d new 0 s.actual many in
    let counter = place-same d new none_ended s.counters many in
    let stays : (holdings_of (defined s new)).reserves ≡ (holdings_of s).reserves =
    ap (reserves_of (user_pools new.pools)) size ∙ reserves-named (user_pools new.pools) (user_pools d.pools) s.actual (user_named new.pools d.pools same) in
    record {
      sized = record {
        sizes = ap (λ (l : List ℕ). length l) size ∙ omega (arith, sized.sizes, many, user_length d.pools, user_length new.pools);
        counts = ap (λ l. length l) counter ∙ sized.counts ∙ sym many;
      };
      kept = ap kept_back stays;
      debts = ap (sum_by (debt (holdings s.running))) stays;
    }

places-added : (s : State) (new : Definitions) (row : PoolRow) → IsSound s.definitions → AreSized s.definitions s.actual s.counters
    → AreThere s.definitions s.sessions s.waiting s.running → has_pool s.definitions row.name ≡ false → new.pools ≡ s.definitions.pools ++ row ∷ [] → HasPlaces s new
places-added s new row sound sized there absent last =
    let d = s.definitions in
    let pools = d.pools in
    let many : length new.pools ≡ length pools + 1 = ap (λ l. length l) last ∙ omega (arith, length_push pools row) in
    let size = place-more d new 0 s.actual many in
    let counter = place-more d new none_ended s.counters many in
    let users : user_pools new.pools ≡ user_pools pools ++ row ∷ [] = ap user_pools last ∙ user_push pools row sound.general_first in
    let unused = used-absent d row.name s.running absent there.runs in
    let old = (holdings_of s).reserves in
    let reserve : Reserve = record { pool = row.name; size = 0 } in
    let more : (holdings_of (defined s new)).reserves ≡ old ++ reserve ∷ [] =
    ap (reserves_of (user_pools new.pools)) size ∙ ap (λ rows. reserves_of rows (s.actual ++ 0 ∷ [])) users ∙ reserves-push (user_pools pools) s.actual row sized.sizes in
    record {
      sized = record {
        sizes = ap (λ (l : List ℕ). length l) size ∙ omega (arith, sized.sizes, length_push s.actual 0, ap (λ l. length l) users, length_push (user_pools pools) row);
        counts = ap (λ l. length l) counter ∙ omega (arith, length_push s.counters none_ended, sized.counts, many);
      };
      kept = ap kept_back more ∙ omega (arith, sum_by_push (λ (e : Reserve). e.size) old reserve);
      debts = ap (sum_by (debt (holdings s.running))) more ∙ omega (arith, sum_by_push (debt (holdings s.running)) old reserve, unused);
    }

pub places : (s : State) (new : Definitions) → NamesAfter s.definitions new → IsSound s.definitions → AreSized s.definitions s.actual s.counters
    → AreThere s.definitions s.sessions s.waiting s.running → HasPlaces s new
places s new (keeps_names same) sound sized there = places-kept s new sized same
places s new (adds_name row absent last) sound sized there = places-added s new row sound sized there absent last

-- the pools that were there are there
any-push : (n : Name) (ns : List Name) (m : Name) → list_any (same_name n) ns ≡ true → list_any (same_name n) (ns ++ m ∷ []) ≡ true
any-push n ns m there = list_any-append (same_name n) ns (m ∷ []) ∙ ap (λ b. b || list_any (same_name n) (m ∷ [])) there

stays-there : (d new : Definitions) → NamesAfter d new → (n : Name) → has_pool d n ≡ true → has_pool new n ≡ true
stays-there d new (keeps_names same) n there = is_called new.pools n ∙ ap (list_any (same_name n)) same ∙ sym (is_called d.pools n) ∙ there
stays-there d new (adds_name row absent last) n there =
    is_called new.pools n ∙ ap (λ (l : List PoolRow). list_any (same_name n) (names l)) last ∙ ap (list_any (same_name n)) (map_push (λ (r : PoolRow). r.name) d.pools row)
    ∙ any-push n (names d.pools) row.name (sym (is_called d.pools n) ∙ there)

pub there-after : (d new : Definitions) (sessions : List Session) (waiting : List Waiter) (running : List Runner) → NamesAfter d new
    → AreThere d sessions waiting running → AreThere new sessions waiting running
there-after d new sessions waiting running after there = record {
  runs = all_wider (λ (r : Runner). has_pool d r.pool) (λ r. has_pool new r.pool) running (λ r known. stays-there d new after r.pool known) there.runs;
  waits = all_wider (λ (w : Waiter). has_pool d w.pool) (λ w. has_pool new w.pool) waiting (λ w known. stays-there d new after w.pool known) there.waits;
  chosen = all_wider (λ (x : Session). passes_if_set (has_pool d) x.pool) (λ x. passes_if_set (has_pool new) x.pool) sessions
      (λ x known. set_wider (has_pool d) (has_pool new) x.pool (λ n is. stays-there d new after n is) known) there.chosen;
  leaves = all_wider (λ (r : Runner). passes_if_set (has_pool d) r.leaving) (λ r. passes_if_set (has_pool new) r.leaving) running
      (λ r known. set_wider (has_pool d) (has_pool new) r.leaving (λ n is. stays-there d new after n is) known) there.leaves;
}
