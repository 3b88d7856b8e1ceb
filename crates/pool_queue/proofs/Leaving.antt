-- A query that leaves, and its place before that.
use Rattle.std.proofs.Common.{◌≡◌, ◌≤◌, ℕ, ◌+◌, Bool, true, false, ◌||◌, not, cond, Option, Some, None, List, [], ◌∷◌, length, get_or, set, filter, find, count_by, position, is_some, refl, ap, sym, subst, ◌∙◌, arith}
use Rattle.std.specs.Prelude.{ℤ, option_map}
use Rattle.std.specs.Int.Signed.{lt_z}
use Rattle.std.specs.List.{list_any, position_or_len}
use Rattle.std.proofs.lemmas.Int.{ints}
use Rattle.std.proofs.lemmas.List.Sums.{sum_by-cons}
use Rattle.std.proofs.lemmas.List.Filters.{sum_by-filter_both}
use Rattle.rm_base.specs.declared.name.Name.{Name}
use Rattle.rm_base.proofs.Names.{same_name-refl, same_name-eq}
use Rattle.rm_rules.specs.declared.state.Waiter.{Waiter}
use Rattle.rm_rules.specs.State.{without, changed_first}
use Rattle.rm_rules.proofs.Places.{changed-found}
use Rattle.pool_queue.specs.declared.lines.Arrived.{Arrived}
use Rattle.pool_queue.specs.declared.lines.Line.{Line}
use Rattle.pool_queue.specs.Lines.{merged, queries, is_of, is_elsewhere, is_line, AreAbove, IsRising, IsSplit, IsOrdered, has_other_number, with_kept, count_below, without_empty}
use Rattle.pool_queue.proofs.Places.{is_some-position, position-present}
use Rattle.pool_queue.proofs.Merging.{below-not_below, rising-filter, merged-split, ordered-from_split}
use Rattle.pool_queue.proofs.Splits.{AllPass, all-filter, filter-agree, waiters_in, line-of, split-kept}
use Rattle.pool_queue.proofs.Keeping.{split-without_empty}

pub not_itself : (n : ℤ) → lt_z n n ≡ false
not_itself n = grind (arith, ints)

-- one that is found stands above what is below all
found-above-turn : (n : ℤ) (x a : Arrived) (found : Option Arrived) (b : Bool) → lt_z n x.number ≡ true → (found ≡ Some a → lt_z n a.number ≡ true) → cond b (Some x) found ≡ Some a → lt_z n a.number ≡ true
found-above-turn n x a found true below rest e = let same : x ≡ a = some-same x a e in ap (λ (y : Arrived). lt_z n y.number) (sym same) ∙ below
  where
    some-same : (x a : Arrived) → Some x ≡ Some a → x ≡ a
    some-same x a e = cc
found-above-turn n x a found false below rest e = rest e

found-above : (n : ℤ) (test : Arrived → Bool) (a : Arrived) (xs : List Arrived) → AreAbove n xs → find test xs ≡ Some a → lt_z n a.number ≡ true
found-above n test a [] above found = absurd (cc)
found-above n test a (x ∷ xs) above found = found-above-turn n x a (find test xs) (test x) above.0 (found-above n test a xs above.1) found

-- who stays where this arrival leaves
abbrev pub stays : Arrived → Arrived → Bool
stays gone x = is_elsewhere gone.waiter.pool x || has_other_number gone.number x

all-stay-turn : (gone x : Arrived) (xs : List Arrived) (b c : Bool) → (lt_z x.number gone.number || lt_z gone.number x.number) ≡ true → filter (stays gone) xs ≡ xs → cond (b || (lt_z x.number gone.number || lt_z gone.number x.number)) (x ∷ filter (stays gone) xs) (filter (stays gone) xs) ≡ x ∷ xs
all-stay-turn gone x xs true c other rest = ap (λ (l : List Arrived). x ∷ l) rest
all-stay-turn gone x xs false c other rest = ap (λ b. cond b (x ∷ filter (stays gone) xs) (filter (stays gone) xs)) other ∙ ap (λ (l : List Arrived). x ∷ l) rest

or-right : (a b : Bool) → b ≡ true → (a || b) ≡ true
or-right true b e = refl
or-right false b e = e

or-left : (a b : Bool) → a ≡ true → (a || b) ≡ true
or-left true b e = refl
or-left false b e = absurd (cc)

all-stay : (gone : Arrived) (xs : List Arrived) → AreAbove gone.number xs → filter (stays gone) xs ≡ xs
all-stay gone [] above = refl
all-stay gone (x ∷ xs) above =
    all-stay-turn gone x xs (is_elsewhere gone.waiter.pool x) true (or-right (lt_z x.number gone.number) (lt_z gone.number x.number) above.0) (all-stay gone xs above.1)

itself-goes : (gone : Arrived) → stays gone gone ≡ false
itself-goes gone =
    let here : is_elsewhere gone.waiter.pool gone ≡ false = ap (λ (b : Bool). not b) (same_name-refl gone.waiter.pool) in
    let number : has_other_number gone.number gone ≡ false = ap (λ (b : Bool). b || b) (not_itself gone.number) in
    (λ i. here i || number i)

leave-turn : (test : Arrived → Bool) (x a : Arrived) (xs : List Arrived) (b : Bool) → AreAbove x.number xs → cond b (Some x) (find test xs) ≡ Some a
    → (find test xs ≡ Some a → filter (stays a) xs ≡ without test xs) → (find test xs ≡ Some a → lt_z x.number a.number ≡ true)
    → filter (stays a) (x ∷ xs) ≡ cond b xs (x ∷ without test xs)
leave-turn test x a xs true above found rest below =
    let same : x ≡ a = some-same x a found in
    subst (λ (y : Arrived). filter (stays y) (x ∷ xs) ≡ xs) same
    (ap (λ b. cond b (x ∷ filter (stays x) xs) (filter (stays x) xs)) (itself-goes x) ∙ all-stay x xs above)
  where
    some-same : (x a : Arrived) → Some x ≡ Some a → x ≡ a
    some-same x a e = cc
leave-turn test x a xs false above found rest below =
    ap (λ b. cond b (x ∷ filter (stays a) xs) (filter (stays a) xs))
    (or-right (is_elsewhere a.waiter.pool x) (has_other_number a.number x) (or-left (lt_z x.number a.number) (lt_z a.number x.number) (below found)))
    ∙ ap (λ (l : List Arrived). x ∷ l) (rest found)

pub leave-without : (test : Arrived → Bool) (a : Arrived) (xs : List Arrived) → IsRising xs → find test xs ≡ Some a → filter (stays a) xs ≡ without test xs
leave-without test a [] rises found = absurd (cc)
leave-without test a (x ∷ xs) rises found =
    leave-turn test x a xs (test x) rises.0 found (leave-without test a xs rises.1) (found-above x.number test a xs rises.0)

-- in its pool's list only the number matters
stays-in : (gone x : Arrived) → is_of gone.waiter.pool x ≡ true → has_other_number gone.number x ≡ stays gone x
stays-in gone x here = sym (ap (λ (b : Bool). not b || has_other_number gone.number x) here)

kept-turn : (gone : Arrived) (l : Line) (ls : List Line) (whole : List Arrived) (b : Bool) → is_line gone.waiter.pool l ≡ b → IsSplit (l ∷ ls) whole
    → changed_first (is_line gone.waiter.pool) (with_kept (has_other_number gone.number)) ls ≡ changed_first (is_line gone.waiter.pool) (with_kept (stays gone)) ls
    → cond b (with_kept (has_other_number gone.number) l ∷ ls) (l ∷ changed_first (is_line gone.waiter.pool) (with_kept (has_other_number gone.number)) ls)
    ≡ cond b (with_kept (stays gone) l ∷ ls) (l ∷ changed_first (is_line gone.waiter.pool) (with_kept (stays gone)) ls)
kept-turn gone l ls whole true same split rest =
    let name : l.pool ≡ gone.waiter.pool = same_name-eq l.pool gone.waiter.pool same in
    let all : AllPass (is_of l.pool) l.waiters = subst (λ (xs : List Arrived). AllPass (is_of l.pool) xs) (sym split.0) (all-filter (is_of l.pool) whole) in
    let here : AllPass (is_of gone.waiter.pool) l.waiters = subst (λ (n : Name). AllPass (is_of n) l.waiters) name all in
    let kept = filter-agree (has_other_number gone.number) (stays gone) (is_of gone.waiter.pool) l.waiters (stays-in gone) here in
    λ i. record { pool = l.pool; waiters = kept i } ∷ ls
kept-turn gone l ls whole false apart split rest = ap (λ (xs : List Line). l ∷ xs) rest

kept-same : (gone : Arrived) (ls : List Line) (whole : List Arrived) → IsSplit ls whole
    → changed_first (is_line gone.waiter.pool) (with_kept (has_other_number gone.number)) ls ≡ changed_first (is_line gone.waiter.pool) (with_kept (stays gone)) ls
kept-same gone [] whole split = refl
kept-same gone (l ∷ ls) whole split =
    kept-turn gone l ls whole (is_line gone.waiter.pool l) refl split (kept-same gone ls (filter (is_elsewhere l.pool) whole) split.1)

-- what is left
pub record IsLeft (test : Arrived → Bool) (gone : Arrived) (old new : List Line) : Type 0 where
  pub kept : merged new ≡ filter (stays gone) (merged old)
  pub whole : merged new ≡ without test (merged old)
  pub ordered : IsOrdered new

elsewhere-stays : (gone x : Arrived) → is_elsewhere gone.waiter.pool x ≡ true → stays gone x ≡ true
elsewhere-stays gone x e = or-left (is_elsewhere gone.waiter.pool x) (has_other_number gone.number x) e

pub leaving : (test : Arrived → Bool) (gone : Arrived) (ls : List Line) (i : ℕ) (l : Line) → IsOrdered ls → find test (merged ls) ≡ Some gone
    → position (is_line gone.waiter.pool) ls ≡ Some i → l ≡ get_or ls i l
    → IsLeft test gone ls (without_empty i (set ls i (with_kept (has_other_number gone.number) l)))
leaving test gone ls i l ordered found place at =
    let whole = merged ls in
    let changed : set ls i (with_kept (has_other_number gone.number) l) ≡ changed_first (is_line gone.waiter.pool) (with_kept (stays gone)) ls =
    ap (λ (x : Line). set ls i (with_kept (has_other_number gone.number) x)) at
    ∙ sym (changed-found (is_line gone.waiter.pool) (with_kept (has_other_number gone.number)) ls l i place)
    ∙ kept-same gone ls whole ordered.split in
    let left = subst (λ (xs : List Line). IsSplit xs (filter (stays gone) whole)) (sym changed)
    (split-kept gone.waiter.pool (stays gone) ls whole (elsewhere-stays gone) ordered.split) in
    let split = split-without_empty i (set ls i (with_kept (has_other_number gone.number) l)) (filter (stays gone) whole) left in
    let rises = rising-filter (stays gone) whole ordered.rising in
    let new = without_empty i (set ls i (with_kept (has_other_number gone.number) l)) in
    let kept = merged-split new (filter (stays gone) whole) split rises in
    record {
      kept = kept;
      whole = kept ∙ leave-without test gone whole ordered.rising found;
      ordered = ordered-from_split new (filter (stays gone) whole) split rises;
    }

-- who waits is found, and its pool has a list
pub record IsThere (o : Option Arrived) : Type 0 where
  pub one : Arrived
  pub is : o ≡ Some one

there-turn : (t : Waiter → Bool) (x : Waiter) (xs : List Waiter) (b : Bool) → (b || list_any t xs) ≡ true → (list_any t xs ≡ true → is_some (find t xs) ≡ true) → is_some (cond b (Some x) (find t xs)) ≡ true
there-turn t x xs true some rest = refl
there-turn t x xs false some rest = rest some

some-found : (t : Waiter → Bool) (xs : List Waiter) → list_any t xs ≡ true → is_some (find t xs) ≡ true
some-found t [] some = absurd (cc)
some-found t (x ∷ xs) some = there-turn t x xs (t x) some (some-found t xs)

there-from : (o : Option Arrived) → is_some (option_map (λ (a : Arrived). a.waiter) o) ≡ true → IsThere o
there-from None some = absurd (cc)
there-from (Some a) some = record { one = a; is = refl }

pub is-there : (t : Waiter → Bool) (o : Option Arrived) (ws : List Waiter) → option_map (λ (a : Arrived). a.waiter) o ≡ find t ws → list_any t ws ≡ true → IsThere o
is-there t o ws same some = there-from o (ap (λ (x : Option Waiter). is_some x) same ∙ some-found t ws some)

of-turn : (test p : Arrived → Bool) (x a : Arrived) (xs : List Arrived) (b c : Bool) → p x ≡ c → cond b (Some x) (find test xs) ≡ Some a → p a ≡ true → (find test xs ≡ Some a → 1 ≤ length (filter p xs)) → 1 ≤ length (cond c (x ∷ filter p xs) (filter p xs))
of-turn test p x a xs b true pc found here rest = omega arith
of-turn test p x a xs true false pc found here rest = absurd (false-true (p a) here (ap p (sym (some-same x a found)) ∙ pc))
  where
    some-same : (x a : Arrived) → Some x ≡ Some a → x ≡ a
    some-same x a e = cc

    false-true : (b : Bool) → b ≡ true → b ≡ false → ⊥
    false-true b e f = cc
of-turn test p x a xs false false pc found here rest = rest found

found-of : (test p : Arrived → Bool) (a : Arrived) (xs : List Arrived) → find test xs ≡ Some a → p a ≡ true → 1 ≤ length (filter p xs)
found-of test p a [] found here = absurd (cc)
found-of test p a (x ∷ xs) found here = of-turn test p x a xs (test x) (p x) refl found here (λ e. found-of test p a xs e here)

any-turn : (t : Line → Bool) (x : Line) (found : Option Line) (rest b : Bool) → is_some found ≡ rest → is_some (cond b (Some x) found) ≡ (b || rest)
any-turn t x found rest true e = refl
any-turn t x found rest false e = e

any-found : (t : Line → Bool) (xs : List Line) → is_some (find t xs) ≡ list_any t xs
any-found t [] = refl
any-found t (x ∷ xs) = any-turn t x (find t xs) (list_any t xs) (t x) (any-found t xs)

line-there : (o : Option Line) (xs : List Arrived) → waiters_in o ≡ xs → 1 ≤ length xs → is_some o ≡ true
line-there None xs same some = absurd (omega (arith, some, ap (λ (l : List Arrived). length l) same))
line-there (Some l) xs same some = refl

pub has-line : (test : Arrived → Bool) (a : Arrived) (ls : List Line) → IsOrdered ls → find test (merged ls) ≡ Some a → list_any (is_line a.waiter.pool) ls ≡ true
has-line test a ls ordered found =
    let pool = a.waiter.pool in
    sym (any-found (is_line pool) ls)
    ∙ line-there (find (is_line pool) ls) (filter (is_of pool) (merged ls)) (line-of pool ls (merged ls) ordered.split)
    (found-of test (is_of pool) a (merged ls) found (same_name-refl pool))

-- its place is behind those of lower numbers
pub count-lines : (n : ℤ) (ls : List Line) (whole : List Arrived) → IsSplit ls whole → count_below n ls ≡ count_by (λ (a : Arrived). lt_z a.number n) whole
count-lines n [] whole split = sym (ap (λ (xs : List Arrived). count_by (λ (a : Arrived). lt_z a.number n) xs) split)
count-lines n (l ∷ ls) whole split =
    let lower = λ (a : Arrived). lt_z a.number n in
    omega (
      arith,
      ap (λ (xs : List Arrived). count_by lower xs) split.0,
      count-lines n ls (filter (is_elsewhere l.pool) whole) split.1,
      sum_by-filter_both (is_of l.pool) (is_elsewhere l.pool) (λ x. refl) (λ (a : Arrived). cond (lower a) 1 0) whole,
    )

pub none-lower : (n : ℤ) (xs : List Arrived) → AreAbove n xs → count_by (λ (a : Arrived). lt_z a.number n) xs ≡ 0
none-lower n [] above = refl
none-lower n (x ∷ xs) above =
    omega (
      arith,
      sum_by-cons (λ (a : Arrived). cond (lt_z a.number n) 1 0) x xs,
      ap {B = ℕ} (λ (c : Bool). cond c 1 0) (below-not_below n x.number above.0),
      none-lower n xs above.1,
    )

place-turn : (t : Waiter → Bool) (x a : Arrived) (xs : List Arrived) (b : Bool) → AreAbove x.number xs
    → cond b (Some x) (find (λ (y : Arrived). t y.waiter) xs) ≡ Some a
    → (find (λ (y : Arrived). t y.waiter) xs ≡ Some a → position_or_len t (queries xs) ≡ count_by (λ (y : Arrived). lt_z y.number a.number) xs)
    → (find (λ (y : Arrived). t y.waiter) xs ≡ Some a → lt_z x.number a.number ≡ true)
    → cond (not b) (1 + position_or_len t (queries xs)) 0 ≡ count_by (λ (y : Arrived). lt_z y.number a.number) (x ∷ xs)
place-turn t x a xs true above found rest below =
    let same : x ≡ a = some-same x a found in
    let none : count_by (λ (y : Arrived). lt_z y.number x.number) (x ∷ xs) ≡ 0 =
    omega (
      arith,
      sum_by-cons (λ (y : Arrived). cond (lt_z y.number x.number) 1 0) x xs,
      ap {B = ℕ} (λ (c : Bool). cond c 1 0) (not_itself x.number),
      none-lower x.number xs above,
    ) in
    sym (subst (λ (z : Arrived). count_by (λ (y : Arrived). lt_z y.number z.number) (x ∷ xs) ≡ 0) same none)
  where
    some-same : (x a : Arrived) → Some x ≡ Some a → x ≡ a
    some-same x a e = cc
place-turn t x a xs false above found rest below =
    omega (
      arith,
      sum_by-cons (λ (y : Arrived). cond (lt_z y.number a.number) 1 0) x xs,
      ap {B = ℕ} (λ (c : Bool). cond c 1 0) (below found),
      rest found,
    )

place-found : (t : Waiter → Bool) (a : Arrived) (xs : List Arrived) → IsRising xs → find (λ (y : Arrived). t y.waiter) xs ≡ Some a
    → position_or_len t (queries xs) ≡ count_by (λ (y : Arrived). lt_z y.number a.number) xs
place-found t a [] rises found = absurd (cc)
place-found t a (x ∷ xs) rises found =
    place-turn t x a xs (t x.waiter) rises.0 found (place-found t a xs rises.1) (found-above x.number (λ (y : Arrived). t y.waiter) a xs rises.0)

found-any : (t : Waiter → Bool) (xs : List Waiter) (w : Waiter) → find t xs ≡ Some w → list_any t xs ≡ true
found-any t [] w found = absurd (cc)
found-any t (x ∷ xs) w found = turn (t x) found (found-any t xs w)
  where
    turn : (b : Bool) → cond b (Some x) (find t xs) ≡ Some w → (find t xs ≡ Some w → list_any t xs ≡ true) → (b || list_any t xs) ≡ true
    turn true found rest = refl
    turn false found rest = rest found

pub place-of_found : (t : Waiter → Bool) (a : Arrived) (ls : List Line) → IsOrdered ls → find (λ (y : Arrived). t y.waiter) (merged ls) ≡ Some a → find t (queries (merged ls)) ≡ Some a.waiter
    → position t (queries (merged ls)) ≡ Some (count_below a.number ls)
place-of_found t a ls ordered found here =
    position-present t (queries (merged ls)) (found-any t (queries (merged ls)) a.waiter here)
    ∙ ap (λ (n : ℕ). Some n) (place-found t a (merged ls) ordered.rising found ∙ sym (count-lines a.number ls (merged ls) ordered.split))

-- who is not found has no place
unfound : (t : Waiter → Bool) (xs : List Waiter) (b : Bool) → list_any t xs ≡ b → is_some (find t xs) ≡ false → is_some (position t xs) ≡ false
unfound t xs true some none = absurd (true-false (is_some (find t xs)) (some-found t xs some) none)
  where
    true-false : (b : Bool) → b ≡ true → b ≡ false → ⊥
    true-false b e f = cc
unfound t xs false some none = is_some-position t xs ∙ some

no-place : (o : Option ℕ) → is_some o ≡ false → o ≡ None
no-place None none = refl
no-place (Some n) none = absurd (cc)

pub none-placed : (t : Waiter → Bool) (o : Option Arrived) (ws : List Waiter) → option_map (λ (a : Arrived). a.waiter) o ≡ find t ws → o ≡ None → position t ws ≡ None
none-placed t o ws same none =
    let missing : is_some (find t ws) ≡ false = ap (λ (x : Option Waiter). is_some x) (sym same) ∙ ap (λ (x : Option Arrived). is_some (option_map (λ (a : Arrived). a.waiter) x)) none in
    no-place (position t ws) (unfound t ws (list_any t ws) refl missing)
