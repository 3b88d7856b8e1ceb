-- What each call keeps of the accounts.
use Rattle.std.proofs.Common.{◌≡◌, ◌≤◌, ℕ, ◌+◌, Bool, true, false, ◌||◌, not, cond, List, [], ◌∷◌, ◌++◌, map, refl, ap, sym, subst, ◌∙◌, arith, sum_by, count_by, nat_eq}
use Rattle.std.specs.List.{list_any, list_all}
use Rattle.std.proofs.lemmas.Bool.{false≢true}
use Rattle.std.proofs.lemmas.Bool.Decides.{nat_tests}
use Rattle.std.proofs.lemmas.List.{length-map}
use Rattle.std.proofs.lemmas.List.Sums.{sum_by-cons, sum_by_push}
use Rattle.rm_base.specs.declared.limits.TheConstants.{MEMORY_MOST}
use Rattle.rm_base.specs.declared.definitions.Definitions.{Definitions}
use Rattle.rm_base.specs.declared.rows.PoolRow.{PoolRow}
use Rattle.rm_base.specs.declared.name.Name.{Name}
use Rattle.rm_base.specs.Name.{same_name, general}
use Rattle.rm_base.proofs.Names.{same_name-eq, same_name-sym}
use Rattle.rm_rules.specs.declared.state.Holding.{Holding}
use Rattle.rm_rules.specs.declared.state.Reserve.{Reserve}
use Rattle.rm_rules.specs.Definitions.{total, user_pools}
use Rattle.rm_rules.specs.Holdings.{Holdings, reserves_of, reserve_names}
use Rattle.rm_rules.specs.State.{without}
use Rattle.rm_rules.specs.Accounting.{held_in, used, debt, kept_back, free, need, taken_up}
use Rattle.rm_rules.specs.Shuffle.{fallen, with_force, shuffled}
use Rattle.rm_rules.specs.Sound.{IsSound, are_distinct}
use Rattle.rm_rules.proofs.Bytes.{AreNamed, reserve_names-of, lent-push, lent-less}
use Rattle.rm_rules.proofs.Conserved.{granted-within}
use Rattle.rm_rules.proofs.Covering.{covered-start}
use Rattle.rm_rules.proofs.Pools.{names, pool_names}
use Rattle.rm_rules.proofs.Shuffling.{grown-whole, force-shuffle, shuffle-names}
use Rattle.rm_rules.proofs.Sizes.{sound_memory_most}
use Rattle.rm_rules.proofs.Taken.{and_left, and_right, and_both, or_left_false, or_right_false, or_both_false, not_false, all_push, all_without, count_without}
use Rattle.accounts.specs.Accounts.{has_name, is_of, first_holdings, taken, given_back, with_pool}
use Rattle.accounts.specs.Kept.{IsBalanced}
use Rattle.accounts.specs.Sizes.{fallen_reserves}
use Rattle.accounts.proofs.Sums.{sum_without_le}

-- the start
pub kept_first : (d : Definitions) → IsSound d → IsBalanced (first_holdings d)
kept_first d sound =
    let rows = user_pools d.pools in
    let sizes = map (λ (r : PoolRow). r.memory) rows in
    let same : general ∷ reserve_names (reserves_of rows sizes) ≡ names d.pools =
    ap (λ (ns : List Name). general ∷ ns) (reserve_names-of rows sizes (length-map rows (λ (r : PoolRow). r.memory))) ∙ sym (pool_names d.pools sound.general_first) in
    let covered = covered-start d 0 sound in
    record {
      names_distinct = ap are_distinct same ∙ sound.pools_distinct;
      queries_distinct = λ query. omega arith;
      known = refl;
      within = covered.held.within;
      granted = covered.held.granted;
      in_force_most = omega (arith, sound.total_most, sound_memory_most d sound);
    }

pub kept_new : (d : Definitions) (pools : List PoolRow) (a : Holdings) → IsSound d → pools ≡ d.pools → a.in_force ≡ total d
    → a.reserves ≡ reserves_of (user_pools pools) (map (λ r. r.memory) (user_pools pools)) → a.grants ≡ [] → IsBalanced a
kept_new d pools a sound is force reserves grants =
    let sized = reserves ∙ ap (λ (rows : List PoolRow). reserves_of (user_pools rows) (map (λ (r : PoolRow). r.memory) (user_pools rows))) is in
    let same : a ≡ first_holdings d = λ i. record { in_force = force i; reserves = sized i; grants = grants i } in
    subst IsBalanced (sym same) (kept_first d sound)

-- one query more
count-turn : (query : ℕ) (x : Holding) (gs : List Holding) (b : Bool) → is_of query x ≡ b → (b ≡ true → count_by (is_of query) gs ≡ 0) → count_by (is_of query) gs ≤ 1
    → count_by (is_of query) (gs ++ x ∷ []) ≤ 1
count-turn query x gs true e none less =
    omega (arith, none refl, sum_by_push (λ g. cond (is_of query g) 1 0) gs x, ap {B = ℕ} (λ (c : Bool). cond c 1 0) e)
count-turn query x gs false e none less =
    omega (arith, less, sum_by_push (λ g. cond (is_of query g) 1 0) gs x, ap {B = ℕ} (λ (c : Bool). cond c 1 0) e)

absent-count : {A : Type 0} (test : A → Bool) (xs : List A) → list_any test xs ≡ false → count_by test xs ≡ 0
absent-count test [] h = refl
absent-count test (x ∷ xs) h =
    omega (
      arith,
      absent-count test xs (or_right_false (test x) _ h),
      sum_by-cons (λ z. cond (test z) 1 0) x xs,
      ap {B = ℕ} (λ (c : Bool). cond c 1 0) (or_left_false (test x) _ h),
    )

pub same-number : (m n : ℕ) → nat_eq m n ≡ true → m ≡ n
same-number m n e = grind (arith, nat_tests)

pub kept_taken : (h : Holdings) (query : ℕ) (pool : Name) (bytes : ℕ) → IsBalanced h → list_any (is_of query) h.grants ≡ false → has_name h.reserves pool ≡ true
    → need h pool bytes ≤ free h → IsBalanced (taken h query pool bytes)
kept_taken h query pool bytes k absent there fits =
    let x : Holding = record { query = query; pool = pool; bytes = bytes } in
    let new = taken h query pool bytes in
    let within : taken_up new ≤ h.in_force = omega (arith, k.within, fits, lent-push h x k.names_distinct) in
    let known : list_all (λ g. has_name h.reserves g.pool) (h.grants ++ x ∷ []) ≡ true = all_push (λ (g : Holding). has_name h.reserves g.pool) h.grants x k.known there in
    let named : AreNamed new = record { distinct = k.names_distinct; known = known } in
    record {
      names_distinct = k.names_distinct;
      queries_distinct = λ q. count-turn q x h.grants (is_of q x) refl (λ e. ap (λ (n : ℕ). count_by (is_of n) h.grants) (sym (same-number query q e)) ∙ absent-count (is_of query) h.grants absent) (k.queries_distinct q);
      known = known;
      within = within;
      granted = granted-within new named within;
      in_force_most = k.in_force_most;
    }

-- without a query
pub kept_given_back : (h : Holdings) (query : ℕ) → IsBalanced h → IsBalanced (given_back h query)
kept_given_back h query k =
    let gs = without (is_of query) h.grants in
    let less : (p : Name) → used p gs ≤ used p h.grants = λ p. sum_without_le (held_in p) (is_of query) h.grants in
    record {
      names_distinct = k.names_distinct;
      queries_distinct = λ q. omega (arith, k.queries_distinct q, count_without (is_of q) (is_of query) h.grants);
      known = all_without (λ (g : Holding). has_name h.reserves g.pool) (is_of query) h.grants k.known;
      within = omega (arith, k.within, lent-less h gs less);
      granted = omega (arith, k.granted, sum_without_le (λ (g : Holding). g.bytes) (is_of query) h.grants);
      in_force_most = k.in_force_most;
    }

-- one pool more: nothing runs in it
unheld-turn : (es : List Reserve) (pool : Name) (g : Holding) (b : Bool) → same_name g.pool pool ≡ b → has_name es pool ≡ false → has_name es g.pool ≡ true → cond b g.bytes 0 ≡ 0
unheld-turn es pool g true e absent there = absurd (false≢true (sym absent ∙ ap (λ n. has_name es n) (sym (same_name-eq g.pool pool e)) ∙ there))
unheld-turn es pool g false e absent there = refl

pub unheld : (es : List Reserve) (pool : Name) (gs : List Holding) → has_name es pool ≡ false → list_all (λ g. has_name es g.pool) gs ≡ true → used pool gs ≡ 0
unheld es pool [] absent known = refl
unheld es pool (g ∷ gs) absent known =
    omega (
      arith,
      sum_by-cons (held_in pool) g gs,
      unheld-turn es pool g (same_name g.pool pool) refl absent (and_left (has_name es g.pool) _ known),
      unheld es pool gs absent (and_right (has_name es g.pool) _ known),
    )

-- its name is none of those before it
absent-push : (n pool : Name) (es : List Reserve) (x : Reserve) → x.pool ≡ pool → list_any (same_name n) (reserve_names es) ≡ false → same_name pool n ≡ false
    → list_any (same_name n) (reserve_names (es ++ x ∷ [])) ≡ false
absent-push n pool [] x is absent other = or_both_false (same_name n x.pool) false (ap (same_name n) is ∙ same_name-sym n pool ∙ other) refl
absent-push n pool (e ∷ es) x is absent other =
    or_both_false (same_name n e.pool) _ (or_left_false (same_name n e.pool) _ absent) (absent-push n pool es x is (or_right_false (same_name n e.pool) _ absent) other)

distinct-push : (es : List Reserve) (x : Reserve) → are_distinct (reserve_names es) ≡ true → list_any (same_name x.pool) (reserve_names es) ≡ false → are_distinct (reserve_names (es ++ x ∷ [])) ≡ true
distinct-push [] x distinct absent = refl
distinct-push (e ∷ es) x distinct absent =
    let here = not_false _ (and_left (not (list_any (same_name e.pool) (reserve_names es))) (are_distinct (reserve_names es)) distinct) in
    let now = absent-push e.pool x.pool es x refl here (or_left_false (same_name x.pool e.pool) _ absent) in
    and_both (not (list_any (same_name e.pool) (reserve_names (es ++ x ∷ [])))) _ (ap not now)
    (distinct-push es x (and_right (not (list_any (same_name e.pool) (reserve_names es))) _ distinct) (or_right_false (same_name x.pool e.pool) _ absent))

any-push : (n : Name) (es : List Reserve) (x : Reserve) → list_any (same_name n) (reserve_names es) ≡ true → list_any (same_name n) (reserve_names (es ++ x ∷ [])) ≡ true
any-push n [] x h = absurd (false≢true h)
any-push n (e ∷ es) x h = elim (same_name n e.pool) as (λ b. (b || list_any (same_name n) (reserve_names es)) ≡ true → (b || list_any (same_name n) (reserve_names (es ++ x ∷ []))) ≡ true) [
  | true ↦ λ k. refl
  | false ↦ λ k. any-push n es x k
] h

there-push : (n : Name) (es : List Reserve) (x : Reserve) → has_name es n ≡ true → has_name (es ++ x ∷ []) n ≡ true
there-push n es x h = elim (same_name n general) as (λ b. (b || list_any (same_name n) (reserve_names es)) ≡ true → (b || list_any (same_name n) (reserve_names (es ++ x ∷ []))) ≡ true) [
  | true ↦ λ k. refl
  | false ↦ λ k. any-push n es x k
] h

known-push : (es : List Reserve) (x : Reserve) (gs : List Holding) → list_all (λ g. has_name es g.pool) gs ≡ true → list_all (λ g. has_name (es ++ x ∷ []) g.pool) gs ≡ true
known-push es x [] known = refl
known-push es x (g ∷ gs) known =
    and_both (has_name (es ++ x ∷ []) g.pool) _ (there-push g.pool es x (and_left (has_name es g.pool) _ known)) (known-push es x gs (and_right (has_name es g.pool) _ known))

pub kept_with_pool : (h : Holdings) (pool : Name) → IsBalanced h → has_name h.reserves pool ≡ false → IsBalanced (with_pool h pool)
kept_with_pool h pool k absent =
    let x : Reserve = record { pool = pool; size = 0 } in
    let es = h.reserves in
    let others = not_false _ (and_left (not (list_any (same_name general) (reserve_names es))) (are_distinct (reserve_names es)) k.names_distinct) in
    let distinct = and_right (not (list_any (same_name general) (reserve_names es))) (are_distinct (reserve_names es)) k.names_distinct in
    record {
      names_distinct = and_both (not (list_any (same_name general) (reserve_names (es ++ x ∷ [])))) _
          (ap not (absent-push general pool es x refl others (or_left_false (same_name pool general) _ absent)))
          (distinct-push es x distinct (or_right_false (same_name pool general) _ absent));
      queries_distinct = k.queries_distinct;
      known = known-push es x h.grants k.known;
      within = omega (
        arith,
        k.within,
        sum_by_push (λ (e : Reserve). e.size) es x,
        sum_by_push (debt h.grants) es x,
        unheld es pool h.grants absent k.known,
      );
      granted = k.granted;
      in_force_most = k.in_force_most;
    }

-- the shuffle
pub fallen-fits : (d : Definitions) (h : Holdings) (grants : List Holding) (fell : List Reserve) → IsSound d → IsBalanced h → grants ≡ h.grants → fell ≡ fallen_reserves d grants h.reserves
    → kept_back fell + (used general grants + sum_by (debt grants) fell) ≤ MEMORY_MOST
fallen-fits d h grants fell sound k running falls =
    let most : taken_up (fallen d h) ≤ MEMORY_MOST = omega (arith, force-shuffle d h k.within, k.in_force_most, sound.total_most, sound_memory_most d sound) in
    let same : fell ≡ fallen_reserves d h.grants h.reserves = falls ∙ ap (λ (gs : List Holding). fallen_reserves d gs h.reserves) running in
    let up : kept_back fell + (used general grants + sum_by (debt grants) fell) ≡ taken_up (fallen d h) =
    λ i. kept_back (same i) + (used general (running i) + sum_by (debt (running i)) (same i)) in
    omega (arith, most, up)

pub kept_shuffled : (d : Definitions) (h : Holdings) → IsSound d → IsBalanced h → IsBalanced (shuffled d h)
kept_shuffled d h sound k =
    let t = with_force d (fallen d h) in
    let new = shuffled d h in
    let same = shuffle-names d h in
    let distinct : are_distinct (general ∷ reserve_names new.reserves) ≡ true = ap (λ (ns : List Name). are_distinct (general ∷ ns)) same ∙ k.names_distinct in
    let known : list_all (λ g. has_name new.reserves g.pool) h.grants ≡ true =
    ap (λ (ns : List Name). list_all (λ (g : Holding). list_any (same_name g.pool) (general ∷ ns)) h.grants) same ∙ k.known in
    let named : AreNamed new = record { distinct = distinct; known = known } in
    let within : taken_up new ≤ new.in_force = omega (arith, grown-whole d h.grants (free t) t.reserves) in
    record {
      names_distinct = distinct;
      queries_distinct = k.queries_distinct;
      known = known;
      within = within;
      granted = granted-within new named within;
      in_force_most = omega (arith, force-shuffle d h k.within, k.in_force_most, sound.total_most, sound_memory_most d sound);
    }
