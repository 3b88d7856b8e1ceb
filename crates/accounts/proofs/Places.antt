-- Pools by their places, and a list that is changed from place to place.
use Rattle.std.proofs.Common.{◌≡◌, ◌<◌, ◌≤◌, ℕ, ◌+◌, zero, suc, Bool, true, false, not, cond, List, [], ◌∷◌, ◌++◌, length, map, take, drop, set, get_or, Some, refl, sym, ap, ◌∙◌, subst, arith, append_assoc, append-nil, drop-cons}
use Rattle.std.specs.List.{list_any}
use Rattle.std.proofs.lemmas.List.{length-map, take_more_set, drop-set-lt, take_all, drop_all}
use Rattle.rm_base.specs.declared.definitions.Definitions.{Definitions}
use Rattle.rm_base.specs.declared.rows.PoolRow.{PoolRow}
use Rattle.rm_base.specs.declared.name.Name.{Name}
use Rattle.rm_base.specs.Name.{same_name}
use Rattle.rm_base.proofs.Names.{same_name-refl}
use Rattle.rm_rules.specs.declared.state.Reserve.{Reserve}
use Rattle.rm_rules.specs.Definitions.{pool_called, user_pools, memory_size}
use Rattle.rm_rules.specs.Holdings.{reserve, reserves_of, reserve_names}
use Rattle.rm_rules.specs.Sound.{IsSound, are_distinct}
use Rattle.rm_rules.proofs.Taken.{and_left, and_right, or_left_false, or_right_false, not_false}
use Rattle.rm_rules.proofs.Pools.{names}
use Rattle.accounts.specs.Accounts.{names_in}

-- a list that is changed from its front on, one place further: what is left to do is done to the rest
pub in_place : {A : Type 0} (f g : List A → List A) (xs all : List A) (i : ℕ) (x y : A) → i < length xs → x ≡ get_or xs i x
    → f (x ∷ drop (i + 1) xs) ≡ y ∷ g (drop (i + 1) xs) → take i xs ++ f (drop i xs) ≡ all
    → take (i + 1) (set xs i y) ++ g (drop (i + 1) (set xs i y)) ≡ all
in_place {A} f g xs all i x y within at turn so_far =
    let here : drop i xs ≡ x ∷ drop (i + 1) xs =
    drop-cons xs i x within ∙ (ap (λ (z : A). z ∷ drop (suc i) xs) (sym at) ∙ ap (λ (n : ℕ). x ∷ drop n xs) (let e : suc i ≡ i + 1 = omega arith in e)) in
    ap (λ l. l ++ g (drop (i + 1) (set xs i y))) (take_more_set xs i y within)
    ∙ append_assoc (take i xs) (y ∷ []) (g (drop (i + 1) (set xs i y)))
    ∙ ap (λ l. take i xs ++ (y ∷ g l)) (drop-set-lt (i + 1) xs i y (omega arith))
    ∙ ap (λ l. take i xs ++ l) (sym turn ∙ ap f (sym here))
    ∙ so_far

-- at its end nothing is left to do
pub all_done : {A : Type 0} (f : List A → List A) (xs all : List A) (i : ℕ) → length xs ≤ i → f [] ≡ [] → take i xs ++ f (drop i xs) ≡ all → xs ≡ all
all_done f xs all i past none so_far =
    sym (append-nil xs)
    ∙ ap (λ l. l ++ []) (sym (take_all i xs past))
    ∙ ap (λ l. take i xs ++ l) (sym (ap f (drop_all i xs past) ∙ none))
    ∙ so_far

-- another size leaves the names
pub names-set : (es : List Reserve) (i : ℕ) (e new : Reserve) → i < length es → e ≡ get_or es i e → new.pool ≡ e.pool → reserve_names (set es i new) ≡ reserve_names es
names-set [] i e new within at same = refl
names-set (x ∷ xs) zero e new within at same = ap (λ n. n ∷ reserve_names xs) (same ∙ ap (λ (r : Reserve). r.pool) at)
names-set (x ∷ xs) (suc i) e new within at same = ap (λ ns. x.pool ∷ ns) (names-set xs i e new (omega arith) at same)

-- of distinct names the row in a place is found by its name
elsewhere : (r row : PoolRow) (rs : List PoolRow) (i : ℕ) (b : Bool) → same_name r.name row.name ≡ b → list_any (same_name r.name) (names rs) ≡ false
    → i < length rs → row ≡ get_or rs i row → b ≡ false
elsewhere r row rs i false is others within at = refl
elsewhere r row [] i true is others within at = absurd (omega arith)
elsewhere r row (x ∷ xs) zero true is others within at =
    sym (subst (λ (n : Name). same_name r.name n ≡ true) (ap (λ (y : PoolRow). y.name) at) is) ∙ or_left_false (same_name r.name x.name) _ others
elsewhere r row (x ∷ xs) (suc i) true is others within at =
    elsewhere r row xs i true is (or_right_false (same_name r.name x.name) _ others) (omega arith) at

pub called-at : (rows : List PoolRow) (i : ℕ) (row : PoolRow) → are_distinct (names rows) ≡ true → i < length rows → row ≡ get_or rows i row
    → pool_called rows row.name ≡ Some row
called-at [] i row distinct within at = absurd (omega arith)
called-at (r ∷ rs) zero row distinct within at =
    let is : same_name r.name row.name ≡ true = subst (λ (x : PoolRow). same_name x.name row.name ≡ true) at (same_name-refl row.name) in
    ap (λ b. cond b (Some r) (pool_called rs row.name)) is ∙ ap Some (sym at)
called-at (r ∷ rs) (suc i) row distinct within at =
    let others = not_false _ (and_left (not (list_any (same_name r.name) (names rs))) (are_distinct (names rs)) distinct) in
    let other : same_name r.name row.name ≡ false = elsewhere r row rs i (same_name r.name row.name) refl others (omega arith) at in
    ap (λ b. cond b (Some r) (pool_called rs row.name)) other
    ∙ called-at rs i row (and_right (not (list_any (same_name r.name) (names rs))) _ distinct) (omega arith) at

-- so is the row in a place behind GENERAL
behind-general : (pools : List PoolRow) (i : ℕ) (row : PoolRow) → are_distinct (names pools) ≡ true → i < length (user_pools pools) → row ≡ get_or (user_pools pools) i row
    → pool_called pools row.name ≡ Some row
behind-general [] i row distinct within at = absurd (omega arith)
behind-general (r ∷ rs) i row distinct within at = called-at (r ∷ rs) (suc i) row distinct (omega arith) at

-- what stands in one place has one name
name-at : (rows : List PoolRow) (es : List Reserve) (i : ℕ) (row : PoolRow) (e : Reserve) → names rows ≡ reserve_names es → i < length rows → row ≡ get_or rows i row → e ≡ get_or es i e
    → e.pool ≡ row.name
name-at [] es i row e same within at_row at_e = absurd (omega arith)
name-at (r ∷ rs) [] i row e same within at_row at_e = let none : r.name ∷ names rs ≡ [] = same in absurd (cc)
name-at (r ∷ rs) (x ∷ xs) zero row e same within at_row at_e =
    let first : r.name ≡ x.pool = cc in
    ap (λ (y : Reserve). y.pool) at_e ∙ sym first ∙ sym (ap (λ (y : PoolRow). y.name) at_row)
name-at (r ∷ rs) (x ∷ xs) (suc i) row e same within at_row at_e =
    let rest : names rs ≡ reserve_names xs = cc in
    name-at rs xs i row e rest (omega arith) at_row at_e

-- The MEMORYSIZE of a reserve's pool is that of the row in the same place.
pub memory-at : (d : Definitions) (rows : List PoolRow) (es : List Reserve) (i : ℕ) (row : PoolRow) (e : Reserve) → IsSound d → rows ≡ user_pools d.pools → names_in d ≡ reserve_names es
    → i < length rows → row ≡ get_or rows i row → e ≡ get_or es i e → row.memory ≡ memory_size d e.pool
memory-at d rows es i row e sound is same within at_row at_e =
    let inside : i < length (user_pools d.pools) = omega (arith, ap (λ (l : List PoolRow). length l) is) in
    let at : row ≡ get_or (user_pools d.pools) i row = at_row ∙ ap (λ (l : List PoolRow). get_or l i row) is in
    let name = name-at (user_pools d.pools) es i row e same inside at at_e in
    let called : pool_called d.pools e.pool ≡ Some row = ap (pool_called d.pools) name ∙ behind-general d.pools i row sound.pools_distinct inside at in
    let found : memory_size d e.pool ≡ row.memory = rw (called, memory_size) refl in
    sym found

-- there is a reserve in each place
pub lengths-same : (d : Definitions) (rows : List PoolRow) (es : List Reserve) → rows ≡ user_pools d.pools → names_in d ≡ reserve_names es → length es ≡ length rows
lengths-same d rows es is same =
    sym (length-map es (λ (e : Reserve). e.pool))
    ∙ ap (λ (l : List Name). length l) (sym same)
    ∙ length-map (user_pools d.pools) (λ (r : PoolRow). r.name)
    ∙ ap (λ (l : List PoolRow). length l) (sym is)

-- each pool at its MEMORYSIZE
pub reserves-first : (rows : List PoolRow) → map (λ r. reserve (r, r.memory)) rows ≡ reserves_of rows (map (λ r. r.memory) rows)
reserves-first [] = refl
reserves-first (r ∷ rs) = ap (λ l. reserve (r, r.memory) ∷ l) (reserves-first rs)
