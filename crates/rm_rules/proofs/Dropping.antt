-- What the drop of a pool leaves of a state.
use Rattle.std.proofs.Common.{◌≡◌, ℕ, ◌+◌, Bool, true, false, ◌||◌, not, cond, eqb, leb, ltb, List, [], ◌∷◌, ◌++◌, length, Some, None, Option, refl, sym, ap, ◌∙◌, subst, arith, map, filter, sum_by}
use Rattle.std.specs.Prelude.{option_map}
use Rattle.std.specs.Option.{is_some}
use Rattle.std.specs.List.{find, list_all, list_any}
use Rattle.std.proofs.lemmas.List.{length-map}
use Rattle.std.proofs.lemmas.List.Sums.{sum_by-cons, sum_by-append}
use Rattle.std.proofs.lemmas.Bool.{false≢true}
use Rattle.rm_base.specs.declared.definitions.Definitions.{Definitions}
use Rattle.rm_base.specs.declared.rows.PoolRow.{PoolRow}
use Rattle.rm_base.specs.declared.name.Name.{Name}
use Rattle.rm_base.specs.Name.{same_name, general}
use Rattle.rm_base.specs.Ranges.{passes_if_set}
use Rattle.rm_base.proofs.Names.{same_name-eq, same_name-sym}
use Rattle.rm_rules.specs.declared.state.Holding.{Holding}
use Rattle.rm_rules.specs.declared.state.Reserve.{Reserve}
use Rattle.rm_rules.specs.declared.state.Session.{Session}
use Rattle.rm_rules.specs.declared.state.Waiter.{Waiter}
use Rattle.rm_rules.specs.declared.state.Runner.{Runner}
use Rattle.rm_rules.specs.Definitions.{pool_called, user_pools}
use Rattle.rm_rules.specs.State.{State, without, session_called, phase_of, is_waiting, is_running, is_active, is_ended}
use Rattle.rm_rules.specs.Holdings.{Holdings, holding, holdings, holdings_of, reserves_of, reserve_names}
use Rattle.rm_rules.specs.Tables.{without_row, all_but}
use Rattle.rm_rules.specs.DropPool.{in_place, named_in_place, without_pool, without_place, session_beside, runner_beside, waits_in, as_generals, transferred, is_reserve_of, holding_beside, folded, dropped}
use Rattle.rm_rules.specs.Sound.{IsSound, begins_with_general, are_distinct, has_pool}
use Rattle.rm_rules.specs.Healthy.{AreWithinMemory, AreSized, AreThere, AreInPhase, AreOpened, AreNumbered, AreTimed, ran_by, began_by, was_asked, one_if}
use Rattle.rm_rules.specs.Owed.{entries_moving, entries_waiting, entries_running, owed}
use Rattle.rm_rules.proofs.Taken.{and_left, and_right, and_both, not_false}
use Rattle.rm_rules.proofs.Pools.{names, pool_names}
use Rattle.rm_rules.proofs.Bytes.{named, named-pool, apart, apart-rest}
use Rattle.rm_rules.proofs.Folding.{sum-handed, bytes-same, folded-within}
use Rattle.rm_rules.proofs.Phases.{phase_in}

-- a reading that a change does not change sums up as before
sum-mapped : {A : Type 0} (f : A → ℕ) (act : A → A) (xs : List A) → ((x : A) → f (act x) ≡ f x) → sum_by f (map act xs) ≡ sum_by f xs
sum-mapped f act [] same = refl
sum-mapped f act (x ∷ xs) same = omega (arith, sum_by-cons f (act x) (map act xs), sum_by-cons f x xs, same x, sum-mapped f act xs same)

-- those that pass a test and all others are all
filter-turn : {A : Type 0} (f : A → ℕ) (test : A → Bool) (x : A) (xs : List A) (b : Bool)
    → sum_by f (filter test xs) + sum_by f (filter (λ y. not (test y)) xs) ≡ sum_by f xs
    → sum_by f (cond b (x ∷ filter test xs) (filter test xs)) + sum_by f (cond (not b) (x ∷ filter (λ y. not (test y)) xs) (filter (λ y. not (test y)) xs)) ≡ sum_by f (x ∷ xs)
filter-turn f test x xs true rest = omega (arith, rest, sum_by-cons f x xs, sum_by-cons f x (filter test xs))
filter-turn f test x xs false rest = omega (arith, rest, sum_by-cons f x xs, sum_by-cons f x (filter (λ y. not (test y)) xs))

sum-parted : {A : Type 0} (f : A → ℕ) (test : A → Bool) (xs : List A) → sum_by f (filter test xs) + sum_by f (filter (λ y. not (test y)) xs) ≡ sum_by f xs
sum-parted f test [] = refl
sum-parted f test (x ∷ xs) = filter-turn f test x xs (test x) (sum-parted f test xs)

-- the queue has the same queries then
front-turn : (f : Waiter → ℕ) (those others : List Waiter) (b : Bool) → sum_by f (cond b (those ++ others) (others ++ those)) ≡ sum_by f those + sum_by f others
front-turn f those others true = sum_by-append f those others
front-turn f those others false = omega (arith, sum_by-append f others those)

pub sum-transferred : (f : Waiter → ℕ) (waiting : List Waiter) (pool : Name) (front : Bool) → ((w : Waiter) → f (as_generals w) ≡ f w)
    → sum_by f (transferred waiting pool front) ≡ sum_by f waiting
sum-transferred f waiting pool front same =
    let those = filter (waits_in pool) waiting in
    let others = filter (λ w. not (waits_in pool w)) waiting in
    omega (arith, front-turn f (map as_generals those) others front, sum-mapped f as_generals those same, sum-parted f (waits_in pool) waiting)

sum-ones : {A : Type 0} (xs : List A) → sum_by (λ x. 1) xs ≡ length xs
sum-ones [] = refl
sum-ones {A} (x ∷ xs) = omega (arith, sum_by-cons (λ (y : A). 1) x xs, sum-ones xs)

length-transferred : (waiting : List Waiter) (pool : Name) (front : Bool) → length (transferred waiting pool front) ≡ length waiting
length-transferred waiting pool front =
    omega (arith, sum-ones (transferred waiting pool front), sum-ones waiting, sum-transferred (λ w. 1) waiting pool front (λ w. refl))

-- what all of these pass once they are changed, and what those of them pass that pass another test
all-mapped : {A B : Type 0} (p : A → Bool) (q : B → Bool) (act : A → B) (xs : List A) → ((x : A) → p x ≡ true → q (act x) ≡ true) → list_all p xs ≡ true → list_all q (map act xs) ≡ true
all-mapped p q act [] keeps all = refl
all-mapped p q act (x ∷ xs) keeps all =
    and_both (q (act x)) _ (keeps x (and_left (p x) (list_all p xs) all)) (all-mapped p q act xs keeps (and_right (p x) (list_all p xs) all))

kept-turn : {A : Type 0} (q : A → Bool) (x : A) (xs : List A) (b : Bool) → (b ≡ true → q x ≡ true) → list_all q xs ≡ true → list_all q (cond b (x ∷ xs) xs) ≡ true
kept-turn q x xs true here all = and_both (q x) _ (here refl) all
kept-turn q x xs false here all = all

all-filtered : {A : Type 0} (p q test : A → Bool) (xs : List A) → ((x : A) → p x ≡ true → test x ≡ true → q x ≡ true) → list_all p xs ≡ true → list_all q (filter test xs) ≡ true
all-filtered p q test [] keeps all = refl
all-filtered p q test (x ∷ xs) keeps all =
    kept-turn q x (filter test xs) (test x) (keeps x (and_left (p x) (list_all p xs) all)) (all-filtered p q test xs keeps (and_right (p x) (list_all p xs) all))

all-append : {A : Type 0} (p : A → Bool) (xs ys : List A) → list_all p xs ≡ true → list_all p ys ≡ true → list_all p (xs ++ ys) ≡ true
all-append p [] ys h k = k
all-append p (x ∷ xs) ys h k = and_both (p x) _ (and_left (p x) (list_all p xs) h) (all-append p xs ys (and_right (p x) (list_all p xs) h) k)

both-turn : (p : Waiter → Bool) (those others : List Waiter) (b : Bool) → list_all p those ≡ true → list_all p others ≡ true → list_all p (cond b (those ++ others) (others ++ those)) ≡ true
both-turn p those others true h k = all-append p those others h k
both-turn p those others false h k = all-append p others those k h

all-transferred : (p q : Waiter → Bool) (waiting : List Waiter) (pool : Name) (front : Bool) → ((w : Waiter) → p w ≡ true → waits_in pool w ≡ true → q (as_generals w) ≡ true)
    → ((w : Waiter) → p w ≡ true → waits_in pool w ≡ false → q w ≡ true) → list_all p waiting ≡ true → list_all q (transferred waiting pool front) ≡ true
all-transferred p q waiting pool front own other all =
    both-turn q (map as_generals (filter (waits_in pool) waiting)) (filter (λ w. not (waits_in pool w)) waiting) front
    (all-mapped (λ w. q (as_generals w)) q as_generals (filter (waits_in pool) waiting) (λ w is. is) (all-filtered p (λ w. q (as_generals w)) (waits_in pool) waiting own all))
    (all-filtered p q (λ w. not (waits_in pool w)) waiting (λ w here away. other w here (not_false (waits_in pool w) away)) all)

-- the pools that are left: those of other names
beside-turn : {A : Type 0} (test q : A → Bool) (x : A) (xs : List A) (b : Bool) → (q x ≡ true → b ≡ false) → find q (all_but test xs) ≡ find q xs
    → find q (cond (not b) (x ∷ all_but test xs) (all_but test xs)) ≡ cond (q x) (Some x) (find q xs)
beside-turn {A} test q x xs true apart rest = rest ∙ away (q x) refl where
  away : (c : Bool) → q x ≡ c → find q xs ≡ cond c (Some x) (find q xs)
  away true here = absurd (false≢true (sym (apart here)))
  away false here = refl
beside-turn test q x xs false apart rest = ap (λ o. cond (q x) (Some x) o) rest

find-beside : {A : Type 0} (test q : A → Bool) (xs : List A) → ((x : A) → q x ≡ true → test x ≡ false) → find q (all_but test xs) ≡ find q xs
find-beside test q [] apart = refl
find-beside test q (x ∷ xs) apart = beside-turn test q x xs (test x) (apart x) (find-beside test q xs apart)

other-name : (r : PoolRow) (n pool : Name) → same_name n pool ≡ false → same_name r.name n ≡ true → same_name r.name pool ≡ false
other-name r n pool away here = ap (λ (m : Name). same_name m pool) (same_name-eq r.name n here) ∙ away

other-called : (pools : List PoolRow) (n pool : Name) → same_name n pool ≡ false → pool_called (without_row (λ r. r.name) pool pools) n ≡ pool_called pools n
other-called pools n pool away = find-beside (λ (r : PoolRow). same_name r.name pool) (λ r. same_name r.name n) pools (λ r here. other-name r n pool away here)

-- so a pool in the place of one that was there is there
place-turn : (d : Definitions) (n pool : Name) (b : Bool) → same_name n pool ≡ b → same_name general pool ≡ false → has_pool d general ≡ true → has_pool d n ≡ true
    → has_pool (without_pool d pool) (cond b general n) ≡ true
place-turn d n pool true is user first there = ap is_some (other-called d.pools general pool user) ∙ first
place-turn d n pool false is user first there = ap is_some (other-called d.pools n pool is) ∙ there

pub in_place-there : (d : Definitions) (n pool : Name) → same_name general pool ≡ false → has_pool d general ≡ true → has_pool d n ≡ true
    → has_pool (without_pool d pool) (in_place pool n) ≡ true
in_place-there d n pool user first there = place-turn d n pool (same_name n pool) refl user first there

named-there : (d : Definitions) (o : Option Name) (pool : Name) → same_name general pool ≡ false → has_pool d general ≡ true → passes_if_set (has_pool d) o ≡ true
    → passes_if_set (has_pool (without_pool d pool)) (named_in_place pool o) ≡ true
named-there d None pool user first there = refl
named-there d (Some n) pool user first there = in_place-there d n pool user first there

pub there-dropped : (d : Definitions) (pool : Name) (front : Bool) (sessions : List Session) (waiting : List Waiter) (running : List Runner) → same_name general pool ≡ false
    → has_pool d general ≡ true → AreThere d sessions waiting running
    → AreThere (without_pool d pool) (map (session_beside pool) sessions) (transferred waiting pool front) (map (runner_beside pool) running)
there-dropped d pool front sessions waiting running user first h =
    let new = without_pool d pool in
    record {
      runs = all-mapped (λ (r : Runner). has_pool d r.pool) (λ (r : Runner). has_pool new r.pool) (runner_beside pool) running (λ r there. in_place-there d r.pool pool user first there) h.runs;
      waits = all-transferred (λ w. has_pool d w.pool) (λ w. has_pool new w.pool) waiting pool front
          (λ w there own. ap is_some (other-called d.pools general pool user) ∙ first)
          (λ w there other. ap is_some (other-called d.pools w.pool pool other) ∙ there) h.waits;
      chosen = all-mapped (λ (x : Session). passes_if_set (has_pool d) x.pool) (λ (x : Session). passes_if_set (has_pool new) x.pool) (session_beside pool) sessions
          (λ x there. named-there d x.pool pool user first there) h.chosen;
      leaves = all-mapped (λ (r : Runner). passes_if_set (has_pool d) r.leaving) (λ (r : Runner). passes_if_set (has_pool new) r.leaving) (runner_beside pool) running
          (λ r there. named-there d r.leaving pool user first there) h.leaves;
    }

-- the sessions keep their numbers and their phases
called-turn : (pool : Name) (n : ℕ) (x : Session) (xs : List Session) (b : Bool) → session_called (map (session_beside pool) xs) n ≡ option_map (session_beside pool) (session_called xs n)
    → cond b (Some (session_beside pool x)) (session_called (map (session_beside pool) xs) n) ≡ option_map (session_beside pool) (cond b (Some x) (session_called xs n))
called-turn pool n x xs true rest = refl
called-turn pool n x xs false rest = rest

pub called-dropped : (pool : Name) (n : ℕ) (xs : List Session) → session_called (map (session_beside pool) xs) n ≡ option_map (session_beside pool) (session_called xs n)
called-dropped pool n [] = refl
called-dropped pool n (x ∷ xs) = called-turn pool n x xs (eqb x.number n) (called-dropped pool n xs)

beside-phase : (pool : Name) (o : Option Session) → phase_in (option_map (session_beside pool) o) ≡ phase_in o
beside-phase pool None = refl
beside-phase pool (Some x) = refl

pub phase_of-dropped : (pool : Name) (n : ℕ) (xs : List Session) → phase_of (map (session_beside pool) xs) n ≡ phase_of xs n
phase_of-dropped pool n xs = ap phase_in (called-dropped pool n xs) ∙ beside-phase pool (session_called xs n)

pub in_phase-dropped : (pool : Name) (front : Bool) (sessions : List Session) (waiting : List Waiter) (running : List Runner) → AreInPhase sessions waiting running
    → AreInPhase (map (session_beside pool) sessions) (transferred waiting pool front) (map (runner_beside pool) running)
in_phase-dropped pool front sessions waiting running h = record {
  waits = λ n. sum-transferred (λ w. cond (eqb w.session n) 1 0) waiting pool front (λ w. refl) ∙ h.waits n ∙ sym (ap (λ p. one_if (is_waiting p)) (phase_of-dropped pool n sessions));
  runs = λ n. sum-mapped (λ (r : Runner). cond (eqb r.session n) 1 0) (runner_beside pool) running (λ r. refl) ∙ h.runs n ∙ sym (ap (λ p. one_if (is_running p)) (phase_of-dropped pool n sessions));
  active = omega (
    arith,
    h.active,
    length-map running (runner_beside pool),
    length-transferred waiting pool front,
    sum-mapped (λ (x : Session). cond (is_active x.phase) 1 0) (session_beside pool) sessions (λ x. refl),
  );
}

pub opened-dropped : (last : ℕ) (pool : Name) (sessions : List Session) → AreOpened last sessions → AreOpened last (map (session_beside pool) sessions)
opened-dropped last pool sessions h = record {
  once = λ n. omega (arith, h.once n, sum-mapped (λ (x : Session). cond (eqb x.number n) 1 0) (session_beside pool) sessions (λ x. refl));
  given = all-mapped (λ (x : Session). leb x.number last) (λ (x : Session). leb x.number last) (session_beside pool) sessions (λ x given. given) h.given;
  few = omega (arith, h.few, length-map sessions (session_beside pool));
}

-- the queries keep their numbers and their times, and owe what they owed
pub numbered-dropped : (last : ℕ) (pool : Name) (front : Bool) (waiting : List Waiter) (running : List Runner) → AreNumbered last waiting running
    → AreNumbered last (transferred waiting pool front) (map (runner_beside pool) running)
numbered-dropped last pool front waiting running h =
    let waits = λ (n : ℕ). sum-transferred (λ w. cond (eqb w.query n) 1 0) waiting pool front (λ w. refl) in
    let runs = λ (n : ℕ). sum-mapped (λ (r : Runner). cond (eqb r.query n) 1 0) (runner_beside pool) running (λ r. refl) in
    record {
      once = λ n. omega (arith, h.once n, waits n, runs n);
      given = λ n above. omega (arith, h.given n above, waits n, runs n);
    }

leaves-some : (pool : Name) (o : Option Name) → is_some (named_in_place pool o) ≡ is_some o
leaves-some pool None = refl
leaves-some pool (Some n) = refl

pub timed-dropped : (clock : ℕ) (pool : Name) (front : Bool) (waiting : List Waiter) (running : List Runner) → AreTimed clock waiting running
    → AreTimed clock (transferred waiting pool front) (map (runner_beside pool) running)
timed-dropped clock pool front waiting running h = record {
  waits = all-transferred (ran_by clock) (ran_by clock) waiting pool front (λ w is own. is) (λ w is other. is) h.waits;
  runs = all-mapped (began_by clock) (began_by clock) (runner_beside pool) running (λ r is. is) h.runs;
  asked = all-mapped was_asked was_asked (runner_beside pool) running (λ r is. ap (λ b. not b || ltb 0 r.moves) (leaves-some pool r.leaving) ∙ is) h.asked;
}

pub owed-dropped : (pool : Name) (front : Bool) (sessions : List Session) (waiting : List Waiter) (running : List Runner)
    → owed (map (session_beside pool) sessions) (transferred waiting pool front) (map (runner_beside pool) running) ≡ owed sessions waiting running
owed-dropped pool front sessions waiting running =
    omega (
      arith,
      sum-transferred entries_waiting waiting pool front (λ w. refl),
      sum-mapped entries_running (runner_beside pool) running (λ r. ap {B = ℕ} (λ b. entries_moving r.moves + cond b 3 1 + cond r.cancelled 0 1) (leaves-some pool r.leaving)),
      sum-mapped (λ (x : Session). cond (is_ended x.phase) 1 0) (session_beside pool) sessions (λ x. refl),
      length-map sessions (session_beside pool),
    )

-- where no pool is of the name, none is taken out
absent-turn : (r : PoolRow) (rs : List PoolRow) (pool : Name) (b : Bool) → (b || list_any (same_name pool) (names rs)) ≡ false
    → (list_any (same_name pool) (names rs) ≡ false → without_row (λ x. x.name) pool rs ≡ rs)
    → same_name pool r.name ≡ b → without_row (λ x. x.name) pool (r ∷ rs) ≡ r ∷ rs
absent-turn r rs pool true none rest is = absurd (false≢true (sym none))
absent-turn r rs pool false none rest is =
    ap (λ c. cond (not c) (r ∷ without_row (λ x. x.name) pool rs) (without_row (λ x. x.name) pool rs)) (same_name-sym r.name pool ∙ is) ∙ ap (λ l. r ∷ l) (rest none)

without-absent_row : (rs : List PoolRow) (pool : Name) → list_any (same_name pool) (names rs) ≡ false → without_row (λ x. x.name) pool rs ≡ rs
without-absent_row [] pool none = refl
without-absent_row (r ∷ rs) pool none = absent-turn r rs pool (same_name pool r.name) none (without-absent_row rs pool) refl

-- of distinct pools with an item each, the one of this name goes, and its item with it
place-sizes : {A : Type 0} (r : PoolRow) (rs : List PoolRow) (pool : Name) (x : A) (xs : List A) (b : Bool) → same_name r.name pool ≡ b → length xs ≡ length rs
    → are_distinct (r.name ∷ names rs) ≡ true → length (without_place rs pool xs) ≡ length (without_row (λ y. y.name) pool rs)
    → length (cond b xs (x ∷ without_place rs pool xs)) ≡ length (cond (not b) (r ∷ without_row (λ y. y.name) pool rs) (without_row (λ y. y.name) pool rs))
place-sizes r rs pool x xs true is e distinct rest =
    e ∙ sym (ap (λ l. length l) (without-absent_row rs pool (subst (λ (n : Name). list_any (same_name n) (names rs) ≡ false) (same_name-eq r.name pool is) (apart r.name (names rs) distinct))))
place-sizes r rs pool x xs false is e distinct rest = omega (arith, rest)

pub length-placed : {A : Type 0} (rows : List PoolRow) (pool : Name) (xs : List A) → length xs ≡ length rows → are_distinct (names rows) ≡ true
    → length (without_place rows pool xs) ≡ length (without_row (λ r. r.name) pool rows)
length-placed [] pool [] e distinct = refl
length-placed [] pool (x ∷ xs) e distinct = absurd (omega arith)
length-placed (r ∷ rs) pool [] e distinct = absurd (omega arith)
length-placed (r ∷ rs) pool (x ∷ xs) e distinct =
    let same : length xs ≡ length rs = omega arith in
    place-sizes r rs pool x xs (same_name r.name pool) refl same distinct (length-placed rs pool xs same (apart-rest r.name (names rs) distinct))

reserves-turn : (r : PoolRow) (rs : List PoolRow) (pool : Name) (n : ℕ) (ns : List ℕ) (b : Bool) → same_name r.name pool ≡ b → are_distinct (r.name ∷ names rs) ≡ true
    → reserves_of (without_row (λ y. y.name) pool rs) (without_place rs pool ns) ≡ without (is_reserve_of pool) (reserves_of rs ns)
    → (let e : Reserve = record { pool = r.name; size = n } in
    reserves_of (cond (not b) (r ∷ without_row (λ y. y.name) pool rs) (without_row (λ y. y.name) pool rs)) (cond b ns (n ∷ without_place rs pool ns))
    ≡ cond b (reserves_of rs ns) (e ∷ without (is_reserve_of pool) (reserves_of rs ns)))
reserves-turn r rs pool n ns true is distinct rest =
    ap (λ l. reserves_of l ns)
    (without-absent_row rs pool (subst (λ (m : Name). list_any (same_name m) (names rs) ≡ false) (same_name-eq r.name pool is) (apart r.name (names rs) distinct)))
reserves-turn r rs pool n ns false is distinct rest = ap (λ l. (let e : Reserve = record { pool = r.name; size = n } in e) ∷ l) rest

pub reserves-placed : (rows : List PoolRow) (pool : Name) (ns : List ℕ) → length ns ≡ length rows → are_distinct (names rows) ≡ true
    → reserves_of (without_row (λ y. y.name) pool rows) (without_place rows pool ns) ≡ without (is_reserve_of pool) (reserves_of rows ns)
reserves-placed [] pool [] e distinct = refl
reserves-placed [] pool (n ∷ ns) e distinct = absurd (omega arith)
reserves-placed (r ∷ rs) pool [] e distinct = absurd (omega arith)
reserves-placed (r ∷ rs) pool (n ∷ ns) e distinct =
    let same : length ns ≡ length rs = omega arith in
    reserves-turn r rs pool n ns (same_name r.name pool) refl distinct (reserves-placed rs pool ns same (apart-rest r.name (names rs) distinct))

-- GENERAL stays in front
user-turn : (r : PoolRow) (rs : List PoolRow) (pool : Name) (b : Bool) → same_name r.name pool ≡ b → b ≡ false
    → user_pools (cond (not b) (r ∷ without_row (λ y. y.name) pool rs) (without_row (λ y. y.name) pool rs)) ≡ without_row (λ y. y.name) pool rs
user-turn r rs pool true is user = absurd (false≢true (sym user))
user-turn r rs pool false is user = refl

pub user-dropped : (pools : List PoolRow) (pool : Name) → begins_with_general pools ≡ true → same_name general pool ≡ false
    → user_pools (without_row (λ y. y.name) pool pools) ≡ without_row (λ y. y.name) pool (user_pools pools)
user-dropped [] pool begins user = absurd (false≢true begins)
user-dropped (r ∷ rs) pool begins user =
    let first : same_name r.name general ≡ true = and_left (same_name r.name general) (eqb r.memory 0) begins in
    user-turn r rs pool (same_name r.name pool) refl (ap (λ (n : Name). same_name n pool) (same_name-eq r.name general first) ∙ user)

-- what the running queries hold then
pub holdings-dropped : (pool : Name) (running : List Runner) → holdings (map (runner_beside pool) running) ≡ map (holding_beside pool) (holdings running)
holdings-dropped pool [] = refl
holdings-dropped pool (r ∷ rs) = ap (λ l. holding_beside pool (holding r) ∷ l) (holdings-dropped pool rs)

-- the bytes then: the pool is folded into GENERAL
pub bytes-dropped : (s : State) (pool : Name) (new : Definitions) → new.pools ≡ without_row (λ r. r.name) pool s.definitions.pools → IsSound s.definitions
    → AreSized s.definitions s.actual s.counters → same_name general pool ≡ false → holdings_of (dropped s pool new) ≡ folded (holdings_of s) pool
bytes-dropped s pool new left sound sized user =
    let d = s.definitions in
    let sizes = without_place (user_pools d.pools) pool s.actual in
    let h = λ (es : List Reserve) (gs : List Holding). let x : Holdings = record { in_force = s.in_force; reserves = es; grants = gs } in x in
    let grants = holdings (map (runner_beside pool) s.running) in
    let distinct : are_distinct (names (user_pools d.pools)) ≡ true =
    apart-rest general (names (user_pools d.pools)) (subst (λ l. are_distinct l ≡ true) (pool_names d.pools sound.general_first) sound.pools_distinct) in
    ap (λ rows. h (reserves_of (user_pools rows) sizes) grants) left
    ∙ ap (λ rows. h (reserves_of rows sizes) grants) (user-dropped d.pools pool sound.general_first user)
    ∙ ap (λ es. h es grants) (reserves-placed (user_pools d.pools) pool s.actual sized.sizes distinct)
    ∙ ap (λ gs. h (without (is_reserve_of pool) (holdings_of s).reserves) gs) (holdings-dropped pool s.running)

pub sized-dropped : (s : State) (pool : Name) (new : Definitions) → new.pools ≡ without_row (λ r. r.name) pool s.definitions.pools → IsSound s.definitions
    → AreSized s.definitions s.actual s.counters → same_name general pool ≡ false → AreSized new (dropped s pool new).actual (dropped s pool new).counters
sized-dropped s pool new left sound sized user =
    let d = s.definitions in
    let distinct : are_distinct (names (user_pools d.pools)) ≡ true =
    apart-rest general (names (user_pools d.pools)) (subst (λ l. are_distinct l ≡ true) (pool_names d.pools sound.general_first) sound.pools_distinct) in
    record {
      sizes = length-placed (user_pools d.pools) pool s.actual sized.sizes distinct
          ∙ sym (ap (λ l. length l) (user-dropped d.pools pool sound.general_first user)) ∙ sym (ap (λ l. length (user_pools l)) left);
      counts = length-placed d.pools pool s.counters sized.counts sound.pools_distinct ∙ sym (ap (λ l. length l) left);
    }

-- a pool that is there and is not GENERAL has a reserve
reserve-turn : (pool : Name) (e : Reserve) (es : List Reserve) (b : Bool) → same_name pool e.pool ≡ b → (b || list_any (same_name pool) (reserve_names es)) ≡ true
    → (list_any (same_name pool) (reserve_names es) ≡ true → (x : Reserve) × (find (is_reserve_of pool) es ≡ Some x))
    → (x : Reserve) × (cond (same_name e.pool pool) (Some e) (find (is_reserve_of pool) es) ≡ Some x)
reserve-turn pool e es true is there rest = (e, ap (λ c. cond c (Some e) (find (is_reserve_of pool) es)) (same_name-sym e.pool pool ∙ is))
reserve-turn pool e es false is there rest =
    let found = rest there in
    (found.0, ap (λ c. cond c (Some e) (find (is_reserve_of pool) es)) (same_name-sym e.pool pool ∙ is) ∙ found.1)

pub reserve_found : (pool : Name) (es : List Reserve) → list_any (same_name pool) (reserve_names es) ≡ true → (x : Reserve) × (find (is_reserve_of pool) es ≡ Some x)
reserve_found pool [] there = absurd (false≢true there)
reserve_found pool (e ∷ es) there = reserve-turn pool e es (same_name pool e.pool) refl there (reserve_found pool es)

-- which leaves no more bytes taken up than before
pub held-dropped : (s : State) (pool : Name) → IsSound s.definitions → AreSized s.definitions s.actual s.counters → AreThere s.definitions s.sessions s.waiting s.running
    → same_name pool general ≡ false → has_pool s.definitions pool ≡ true → AreWithinMemory s.definitions (holdings_of s)
    → AreWithinMemory s.definitions (folded (holdings_of s) pool)
held-dropped s pool sound sized there user known held =
    let h = holdings_of s in
    let distinct = (named s sound sized there).distinct in
    let among : list_any (same_name pool) (reserve_names h.reserves) ≡ true =
    sym (ap (λ b. b || list_any (same_name pool) (reserve_names h.reserves)) user) ∙ sym (named-pool s sound sized pool) ∙ known in
    let e = reserve_found pool h.reserves among in
    record {
      within = omega (arith, held.within, folded-within h pool e.0 distinct user e.1);
      granted = omega (arith, held.granted, sum-handed (λ (g : Holding). g.bytes) pool h.grants bytes-same);
      in_force_most = held.in_force_most;
    }
