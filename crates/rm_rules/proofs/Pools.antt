-- Lemmas on names, and on sums that are split by pools.
use Rattle.std.specs.Prelude.{◌≡◌, ℕ, ◌+◌, Bool, true, false, not, ◌==◌, List, [], ◌∷◌, is_some, find, map, sum_by, refl, if◌then◌else◌}
use Rattle.std.specs.List.{list_all, list_any}
use Rattle.std.proofs.Common.{sym, ap, ◌∙◌, subst, true≢false, arith}
use Rattle.std.proofs.lemmas.Bool.{and_parts, not-true}
use Rattle.std.proofs.lemmas.List.Sums.{sum_by-cons}
use Rattle.rm_base.specs.declared.rows.PoolRow.{PoolRow}
use Rattle.rm_base.specs.declared.name.Name.{Name}
use Rattle.rm_base.specs.Name.{same_name, general}
use Rattle.rm_base.proofs.Names.{same_name-refl, same_name-eq, same_name-sym}
use Rattle.rm_rules.specs.declared.state.Reserve.{Reserve}
use Rattle.rm_rules.specs.Definitions.{pool_called, user_pools}
use Rattle.rm_rules.specs.Holdings.{reserve_names}
use Rattle.rm_rules.specs.Accounting.{of_reserve}
use Rattle.rm_rules.specs.Sound.{begins_with_general, are_distinct}
use Rattle.rm_rules.proofs.Rows.{called-named}

-- the names of these rows
abbrev pub names : List PoolRow → List Name
names rows = map (λ r. r.name) rows

-- what of an item counts in this pool
abbrev pub in_pool : {A : Type 0} → (A → Name) → (A → ℕ) → Name → A → ℕ
in_pool pool f p x = if same_name (pool x) p then f x else 0

-- what the first reserve of this name is worth, or nothing
abbrev pub worth : (Reserve → ℕ) → List Reserve → Name → ℕ
worth f es p = of_reserve f (find (λ e. same_name e.pool p) es)

-- the sum of sums is the sum of both
pub sum_by-add : {A : Type 0} (f g : A → ℕ) (xs : List A) → sum_by (λ x. f x + g x) xs ≡ sum_by f xs + sum_by g xs
sum_by-add f g [] = refl
sum_by-add f g (x ∷ xs) =
    omega (arith, sum_by-cons (λ y. f y + g y) x xs, sum_by-cons f x xs, sum_by-cons g x xs, sum_by-add f g xs)

-- a sum over a list that is mapped is one over the list
pub sum_by-map : {A B : Type 0} (f : B → ℕ) (g : A → B) (xs : List A) → sum_by f (map g xs) ≡ sum_by (λ x. f (g x)) xs
sum_by-map f g [] = refl
sum_by-map {A} f g (x ∷ xs) = omega (arith, sum_by-cons f (g x) (map g xs), sum_by-cons (λ (y : A). f (g y)) x xs, sum_by-map f g xs)

-- nothing adds up to nothing
pub sum_by-zero : {A : Type 0} (xs : List A) → sum_by (λ x. 0) xs ≡ 0
sum_by-zero [] = refl
sum_by-zero {A} (x ∷ xs) = omega (arith, sum_by-cons (λ (y : A). 0) x xs, sum_by-zero xs)

-- a place that no name has
never_turn : (n p : Name) (v : ℕ) (ps : List Name) (b : Bool) → same_name n p ≡ b → list_any (same_name n) (p ∷ ps) ≡ false
    → (list_any (same_name n) ps ≡ false → sum_by (λ q. if same_name n q then v else 0) ps ≡ 0)
    → sum_by (λ q. if same_name n q then v else 0) (p ∷ ps) ≡ 0
never_turn n p v ps true e h behind = absurd (true≢false (rw e at h))
never_turn n p v ps false e h behind =
    let first : (if same_name n p then v else 0) ≡ 0 = rw e refl in
    omega (arith, sum_by-cons (λ q. if same_name n q then v else 0) p ps, first, behind (rw e at h))

never : (n : Name) (v : ℕ) (ps : List Name) → list_any (same_name n) ps ≡ false → sum_by (λ q. if same_name n q then v else 0) ps ≡ 0
never n v [] h = refl
never n v (p ∷ ps) h = never_turn n p v ps (same_name n p) refl h (never n v ps)

-- one of distinct names counts once
once_turn : (n p : Name) (v : ℕ) (ps : List Name) (b : Bool) → same_name n p ≡ b → are_distinct (p ∷ ps) ≡ true → list_any (same_name n) (p ∷ ps) ≡ true
    → (are_distinct ps ≡ true → list_any (same_name n) ps ≡ true → sum_by (λ q. if same_name n q then v else 0) ps ≡ v)
    → sum_by (λ q. if same_name n q then v else 0) (p ∷ ps) ≡ v
once_turn n p v ps true e distinct h behind =
    let parts = and_parts (not (list_any (same_name p) ps)) (are_distinct ps) distinct in
    let others : list_any (same_name n) ps ≡ false =
    subst (λ m. list_any (same_name m) ps ≡ false) (sym (same_name-eq n p e)) (not-true (list_any (same_name p) ps) parts.0) in
    let first : (if same_name n p then v else 0) ≡ v = rw e refl in
    omega (arith, sum_by-cons (λ q. if same_name n q then v else 0) p ps, first, never n v ps others)
once_turn n p v ps false e distinct h behind =
    let parts = and_parts (not (list_any (same_name p) ps)) (are_distinct ps) distinct in
    let first : (if same_name n p then v else 0) ≡ 0 = rw e refl in
    omega (arith, sum_by-cons (λ q. if same_name n q then v else 0) p ps, first, behind parts.1 (rw e at h))

once : (n : Name) (v : ℕ) (ps : List Name) → are_distinct ps ≡ true → list_any (same_name n) ps ≡ true → sum_by (λ q. if same_name n q then v else 0) ps ≡ v
once n v [] distinct h = absurd (true≢false (sym h))
once n v (p ∷ ps) distinct h = once_turn n p v ps (same_name n p) refl distinct h (once n v ps)

-- a sum over items, each in one of these pools, is the sum of what counts in each
pub split_by_pools : {A : Type 0} (pool : A → Name) (f : A → ℕ) (ps : List Name) (xs : List A) → are_distinct ps ≡ true
    → list_all (λ x. list_any (same_name (pool x)) ps) xs ≡ true → sum_by f xs ≡ sum_by (λ p. sum_by (in_pool pool f p) xs) ps
split_by_pools pool f ps [] distinct known = sym (sum_by-zero ps)
split_by_pools pool f ps (x ∷ xs) distinct known =
    let parts = and_parts (list_any (same_name (pool x)) ps) (list_all (λ y. list_any (same_name (pool y)) ps) xs) known in
    let each : sum_by (λ p. sum_by (in_pool pool f p) (x ∷ xs)) ps ≡ sum_by (λ p. in_pool pool f p x + sum_by (in_pool pool f p) xs) ps =
    λ i. sum_by (λ p. sum_by-cons (in_pool pool f p) x xs i) ps in
    let both = sum_by-add (λ p. in_pool pool f p x) (λ p. sum_by (in_pool pool f p) xs) ps in
    omega (arith, sum_by-cons f x xs, each, both, once (pool x) (f x) ps distinct parts.0, split_by_pools pool f ps xs distinct parts.1)

-- a row of this name is there just where the name is among those of the rows
pub is_called : (rows : List PoolRow) (n : Name) → is_some (pool_called rows n) ≡ list_any (same_name n) (names rows)
is_called rows n = called-named (λ (r : PoolRow). r.name) rows n

-- the names of all pools are GENERAL's and those of the other pools
pub pool_names : (pools : List PoolRow) → begins_with_general pools ≡ true → names pools ≡ general ∷ names (user_pools pools)
pool_names [] h = absurd (true≢false (sym h))
pool_names (r ∷ rows) h = ap (λ n. n ∷ names rows) (same_name-eq r.name general (and_parts (same_name r.name general) (r.memory == 0) h).0)

-- two measures that agree but at GENERAL have one sum over names without it
others_turn : (h k : Name → ℕ) (p : Name) (ps : List Name) (b : Bool) → same_name general p ≡ b → list_any (same_name general) (p ∷ ps) ≡ false
    → ((q : Name) → same_name q general ≡ false → h q ≡ k q) → (list_any (same_name general) ps ≡ false → sum_by h ps ≡ sum_by k ps)
    → sum_by h (p ∷ ps) ≡ sum_by k (p ∷ ps)
others_turn h k p ps true e free agree behind = absurd (true≢false (rw e at free))
others_turn h k p ps false e free agree behind =
    omega (arith, sum_by-cons h p ps, sum_by-cons k p ps, agree p (same_name-sym p general ∙ e), behind (rw e at free))

pub others_agree : (h k : Name → ℕ) (ps : List Name) → list_any (same_name general) ps ≡ false
    → ((q : Name) → same_name q general ≡ false → h q ≡ k q) → sum_by h ps ≡ sum_by k ps
others_agree h k [] free agree = refl
others_agree h k (p ∷ ps) free agree = others_turn h k p ps (same_name general p) refl free agree (λ rest. others_agree h k ps rest agree)

-- a reserve before others is not found by other names
behind_turn : (f : Reserve → ℕ) (e : Reserve) (es : List Reserve) (p : Name) (ps : List Name) (b : Bool) → same_name e.pool p ≡ b
    → list_any (same_name e.pool) (p ∷ ps) ≡ false
    → (list_any (same_name e.pool) ps ≡ false → sum_by (worth f (e ∷ es)) ps ≡ sum_by (worth f es) ps)
    → sum_by (worth f (e ∷ es)) (p ∷ ps) ≡ sum_by (worth f es) (p ∷ ps)
behind_turn f e es p ps true is free behind = absurd (true≢false (rw is at free))
behind_turn f e es p ps false is free behind =
    let first : worth f (e ∷ es) p ≡ worth f es p = rw (is, worth) refl in
    omega (arith, sum_by-cons (worth f (e ∷ es)) p ps, sum_by-cons (worth f es) p ps, first, behind (rw is at free))

behind_others : (f : Reserve → ℕ) (e : Reserve) (es : List Reserve) (ps : List Name) → list_any (same_name e.pool) ps ≡ false
    → sum_by (worth f (e ∷ es)) ps ≡ sum_by (worth f es) ps
behind_others f e es [] free = refl
behind_others f e es (p ∷ ps) free = behind_turn f e es p ps (same_name e.pool p) refl free (behind_others f e es ps)

-- by distinct names each reserve is found once
pub worth_of_all : (f : Reserve → ℕ) (es : List Reserve) → are_distinct (reserve_names es) ≡ true → sum_by (worth f es) (reserve_names es) ≡ sum_by f es
worth_of_all f [] distinct = refl
worth_of_all f (e ∷ es) distinct =
    let parts = and_parts (not (list_any (same_name e.pool) (reserve_names es))) (are_distinct (reserve_names es)) distinct in
    let first : worth f (e ∷ es) e.pool ≡ f e = rw (same_name-refl e.pool, worth) refl in
    let others = behind_others f e es (reserve_names es) (not-true (list_any (same_name e.pool) (reserve_names es)) parts.0) in
    omega (arith, sum_by-cons (worth f (e ∷ es)) e.pool (reserve_names es), first, others, worth_of_all f es parts.1, sum_by-cons f e es)
