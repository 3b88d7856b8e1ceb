-- What a snapshot's bytes come to, and that they fit.
use Rattle.std.proofs.Common.{◌≡◌, ℕ, zero, suc, ◌+◌, ◌-◌, ◌≤◌, ◌<◌, ◌^◌, true, List, [], ◌∷◌, ◌++◌, length, get_or, take, drop, map, append_assoc, Some, unwrap_or, refl, sym, ap, ◌∙◌, subst, arith}
use Rattle.std.specs.List.{sum, zip}
use Rattle.std.proofs.lemmas.List.{take_more, take_all, drop_more, map_push}
use Rattle.std.proofs.lemmas.List.Sums.{sum_by-cons}
use Rattle.rm_base.specs.declared.rows.PoolRow.{PoolRow}
use Rattle.rm_base.specs.declared.snapshot.RunningSeen.{RunningSeen}
use Rattle.rm_base.specs.declared.snapshot.Snapshot.{Snapshot}
use Rattle.rm_base.specs.Definitions.{default_pool_row}
use Rattle.rm_rules.specs.declared.state.Holding.{Holding}
use Rattle.rm_rules.specs.declared.state.Reserve.{Reserve}
use Rattle.rm_rules.specs.Accounting.{kept_back}
use Rattle.rm_rules.specs.Definitions.{pool_called, pool_row, user_pools}
use Rattle.rm_rules.specs.Sound.{are_distinct}
use Rattle.accounts.proofs.Places.{called-at}
use Rattle.rm_rules.specs.Holdings.{reserve, reserves_of}
use Rattle.rm_rules.proofs.Sizes.{sound_memory_most}
use Rattle.accounts.specs.Sizes.{held}
use Rattle.rm_base.specs.declared.value.Value.{Value}
use Rattle.system_tables.specs.Seen.{holding_seen, holdings_seen, IsSeen}
use Rattle.system_tables.specs.TableRows.{general_bytes, status_shown, other_shown, status_rows}

-- the actual sizes are those of the reserves
pub sizes_kept : (pools : List PoolRow) (sizes : List ℕ) → length sizes ≡ length pools → sum sizes ≡ kept_back (reserves_of pools sizes)
sizes_kept [] [] same = refl
sizes_kept (r ∷ rs) [] same = refl
sizes_kept [] (n ∷ ns) same = absurd (omega (arith, same))
sizes_kept (r ∷ rs) (n ∷ ns) same =
    omega (arith, sizes_kept rs ns (omega (arith, same)), sum_by-cons (λ (x : ℕ). x) n ns, sum_by-cons (λ (e : Reserve). e.size) (reserve (r, n)) (reserves_of rs ns))

pub sizes-fit : (s : Snapshot) → IsSeen s → sum s.actual < 2 ^ 64
sizes-fit s seen =
    omega (arith, sizes_kept (user_pools s.definitions.pools) s.actual seen.sized.sizes, seen.held.within, seen.held.in_force_most, sound_memory_most s.definitions seen.sound)

pub kept_within : (s : Snapshot) → IsSeen s → kept_back (holdings_seen s).reserves ≤ s.in_force
kept_within s seen = omega (arith, seen.held.within)

pub grants-fit : (s : Snapshot) → IsSeen s → held (map holding_seen s.running) < 2 ^ 64
grants-fit s seen = omega (arith, seen.held.granted, seen.held.in_force_most, sound_memory_most s.definitions seen.sound)

-- a query holds no more than all do
pub one-held : (xs : List RunningSeen) (i : ℕ) (r : RunningSeen) → i < length xs → r ≡ get_or xs i r → r.account.own + r.account.borrowed ≤ held (map holding_seen xs)
one-held [] i r within at = absurd (omega (arith, within))
one-held (x ∷ xs) zero r within at =
    subst (λ (y : RunningSeen). y.account.own + y.account.borrowed ≤ held (map holding_seen (x ∷ xs))) (sym at)
    (omega (arith, sum_by-cons (λ (g : Holding). g.bytes) (holding_seen x) (map holding_seen xs)))
one-held (x ∷ xs) (suc i) r within at =
    omega (arith, one-held xs i r (omega (arith, within)) at, sum_by-cons (λ (g : Holding). g.bytes) (holding_seen x) (map holding_seen xs))

-- one more is mapped
pub mapped-more : {A B : Type 0} (f : A → B) (xs : List A) (i : ℕ) (x : A) (done new : List B) (y : B) → i < length xs → x ≡ get_or xs i x → done ≡ map f (take i xs) → new ≡ done ++ y ∷ [] → y ≡ f x
    → new ≡ map f (take (i + 1) xs)
mapped-more f xs i x done new y within at so pushed is =
    pushed ∙ ap (λ l. l ++ y ∷ []) so ∙ ap (λ z. map f (take i xs) ++ z ∷ []) is
    ∙ sym (ap (map f) (take_more xs i x within ∙ ap (λ z. take i xs ++ z ∷ []) (sym at)) ∙ map_push f (take i xs) x)

-- what a query holds fits
pub held-at : (s : Snapshot) (xs : List RunningSeen) (i : ℕ) (r : RunningSeen) → IsSeen s → xs ≡ s.running → i < length xs → r ≡ get_or xs i r → r.account.own + r.account.borrowed < 2 ^ 64
held-at s xs i r seen are within at =
    omega (arith, one-held xs i r within at, ap (λ (l : List RunningSeen). held (map holding_seen l)) are, grants-fit s seen)

-- a pool of the definitions is found by its name
pub named-at : (s : Snapshot) (rows : List PoolRow) (i : ℕ) (r : PoolRow) → IsSeen s → rows ≡ s.definitions.pools → i < length rows → r ≡ get_or rows i r → pool_row s.definitions r.name ≡ r
named-at s rows i r seen are within at =
    ap (λ o. unwrap_or o (default_pool_row r.name))
    (called-at s.definitions.pools i r seen.sound.pools_distinct (omega (arith, within, ap (λ (l : List PoolRow). length l) are)) (subst (λ (l : List PoolRow). r ≡ get_or l i r) are at))

behind : (pools others : List PoolRow) (i : ℕ) (r : PoolRow) → are_distinct (map (λ (x : PoolRow). x.name) pools) ≡ true → user_pools pools ≡ others → i < length others → r ≡ get_or others i r
    → pool_called pools r.name ≡ Some r
behind [] others i r distinct are within at = absurd (omega (arith, within, ap (λ (l : List PoolRow). length l) are))
behind (x ∷ xs) others i r distinct are within at =
    called-at (x ∷ xs) (suc i) r distinct (omega (arith, within, ap (λ (l : List PoolRow). length l) are)) (subst (λ (l : List PoolRow). r ≡ get_or l i r) (sym are) at)

-- so is one behind GENERAL
pub other-named : (s : Snapshot) (others : List PoolRow) (i : ℕ) (r : PoolRow) → IsSeen s → user_pools s.definitions.pools ≡ others → i < length others → r ≡ get_or others i r
    → pool_row s.definitions r.name ≡ r
other-named s others i r seen are within at = ap (λ o. unwrap_or o (default_pool_row r.name)) (behind s.definitions.pools others i r seen.sound.pools_distinct are within at)

-- one more of each list is mapped
pub zipped-more : {A B C : Type 0} (f : A × B → C) (xs : List A) (ys : List B) (i : ℕ) (x : A) (d : B) (whole done new : List C) (z : C) → i < length xs → i < length ys
    → x ≡ get_or xs i x → whole ≡ done ++ map f (zip (drop i xs) (drop i ys)) → new ≡ done ++ z ∷ [] → z ≡ f (x, get_or ys i d)
    → whole ≡ new ++ map f (zip (drop (i + 1) xs) (drop (i + 1) ys))
zipped-more f xs ys i x d whole done new z inx iny at so pushed is =
    let fx : drop i xs ≡ x ∷ drop (i + 1) xs = drop_more xs i x inx ∙ ap (λ v. v ∷ drop (i + 1) xs) (sym at) in
    let fy : drop i ys ≡ get_or ys i d ∷ drop (i + 1) ys = drop_more ys i d iny in
    let tail = map f (zip (drop (i + 1) xs) (drop (i + 1) ys)) in
    so ∙ ap (λ l. done ++ map f (zip l (drop i ys))) fx ∙ ap (λ l. done ++ map f (zip (x ∷ drop (i + 1) xs) l)) fy ∙ ap (λ v. done ++ v ∷ tail) (sym is)
    ∙ sym (append_assoc done (z ∷ []) tail) ∙ ap (λ l. l ++ tail) (sym pushed)

-- pools are the first and those behind it
pub first-and-others : (rows : List PoolRow) (r : PoolRow) → 1 ≤ length rows → r ≡ get_or rows 0 r → rows ≡ r ∷ take (length rows - 1) (drop 1 rows)
first-and-others [] r some at = absurd (omega (arith, some))
first-and-others (x ∷ xs) r some at =
    ap (λ l. x ∷ l) (sym (take_all (length (x ∷ xs) - 1) xs (omega arith))) ∙ ap (λ y. y ∷ take (length (x ∷ xs) - 1) xs) (sym at)

-- the status of GENERAL, and behind it that of the others
pub status-whole : (s : Snapshot) (pools others : List PoolRow) (r : PoolRow) (first pushed items : List (List Value)) (row : List Value) → pools ≡ r ∷ others → first ≡ [] → pushed ≡ first ++ row ∷ []
    → row ≡ status_shown s r (general_bytes s) → items ≡ pushed ++ map (other_shown s) (zip others s.actual) → items ≡ status_rows s pools
status-whole s pools others r first pushed items row parts none one is all =
    let rest = map (other_shown s) (zip others s.actual) in
    all ∙ ap (λ l. l ++ rest) (one ∙ ap (λ l. l ++ row ∷ []) none) ∙ ap (λ v. v ∷ rest) is ∙ ap (status_rows s) (sym parts)
