-- Queue order, and the first in it that passes a test.
use Rattle.std.proofs.Common.{◌≡◌, Bool, true, false, ◌&&◌, not, cond, Option, Some, None, List, [], ◌∷◌, find, refl, ap, sym, arith}
use Rattle.std.specs.Prelude.{ℤ}
use Rattle.std.specs.Int.Signed.{lt_z}
use Rattle.std.specs.List.{list_all}
use Rattle.std.proofs.lemmas.Int.{ints}
use Rattle.rm_base.specs.declared.definitions.Definitions.{Definitions}
use Rattle.rm_rules.specs.declared.state.Waiter.{Waiter}
use Rattle.rm_rules.specs.Admission.{priority_of, put_in_order, in_queue_order}

-- priorities
pub over-over : (a b c : ℤ) → lt_z a b ≡ true → lt_z b c ≡ true → lt_z a c ≡ true
over-over a b c first second = grind (arith, ints)

pub not_over-not_over : (a b c : ℤ) → lt_z a b ≡ false → lt_z b c ≡ false → lt_z a c ≡ false
not_over-not_over a b c first second = grind (arith, ints)

over-not_over : (a b : ℤ) → lt_z a b ≡ true → lt_z b a ≡ false
over-not_over a b over = grind (arith, ints)

-- none of these stands above the query by its priority
abbrev is_top : Definitions → Waiter → List Waiter → Bool
is_top d h xs = list_all (λ x. not (lt_z (priority_of d h) (priority_of d x))) xs

abbrev IsFalling : Definitions → List Waiter → Type 0
IsFalling d [] = Unit {0}
IsFalling d (x ∷ xs) = (is_top d x xs ≡ true) × IsFalling d xs

top-turn : (b : Bool) (rest : Bool) → b ≡ false → rest ≡ true → (not b && rest) ≡ true
top-turn true rest e h = absurd (cc)
top-turn false rest e h = h

top-head : (b : Bool) (rest : Bool) → (not b && rest) ≡ true → b ≡ false
top-head true rest h = absurd (cc)
top-head false rest h = refl

top-tail : (b : Bool) (rest : Bool) → (not b && rest) ≡ true → rest ≡ true
top-tail true rest h = absurd (cc)
top-tail false rest h = h

top-weaker : (d : Definitions) (h y : Waiter) (xs : List Waiter) → lt_z (priority_of d h) (priority_of d y) ≡ false → is_top d y xs ≡ true → is_top d h xs ≡ true
top-weaker d h y [] below top = refl
top-weaker d h y (x ∷ xs) below top =
    let first = top-head (lt_z (priority_of d y) (priority_of d x)) (is_top d y xs) top in
    let rest = top-tail (lt_z (priority_of d y) (priority_of d x)) (is_top d y xs) top in
    top-turn (lt_z (priority_of d h) (priority_of d x)) (is_top d h xs) (not_over-not_over (priority_of d h) (priority_of d y) (priority_of d x) below first) (top-weaker d h y xs below rest)

-- a query that is put in order is above none that it is not above
placed-turn : (d : Definitions) (y h x : Waiter) (xs : List Waiter) (b : Bool) → lt_z (priority_of d y) (priority_of d h) ≡ false → is_top d y (x ∷ xs) ≡ true
    → is_top d y (put_in_order d h xs) ≡ true → is_top d y (cond b (x ∷ put_in_order d h xs) (h ∷ x ∷ xs)) ≡ true
placed-turn d y h x xs true below top rest =
    top-turn (lt_z (priority_of d y) (priority_of d x)) (is_top d y (put_in_order d h xs)) (top-head (lt_z (priority_of d y) (priority_of d x)) (is_top d y xs) top) rest
placed-turn d y h x xs false below top rest = top-turn (lt_z (priority_of d y) (priority_of d h)) (is_top d y (x ∷ xs)) below top

top-placed : (d : Definitions) (y h : Waiter) (xs : List Waiter) → lt_z (priority_of d y) (priority_of d h) ≡ false → is_top d y xs ≡ true → is_top d y (put_in_order d h xs) ≡ true
top-placed d y h [] below top = top-turn (lt_z (priority_of d y) (priority_of d h)) true below refl
top-placed d y h (x ∷ xs) below top =
    placed-turn d y h x xs (lt_z (priority_of d h) (priority_of d x)) below top
    (top-placed d y h xs below (top-tail (lt_z (priority_of d y) (priority_of d x)) (is_top d y xs) top))

falling-turn : (d : Definitions) (h x : Waiter) (xs : List Waiter) (b : Bool) → lt_z (priority_of d h) (priority_of d x) ≡ b → IsFalling d (x ∷ xs)
    → IsFalling d (put_in_order d h xs) → IsFalling d (cond b (x ∷ put_in_order d h xs) (h ∷ x ∷ xs))
falling-turn d h x xs true over falls rest =
    (top-placed d x h xs (over-not_over (priority_of d h) (priority_of d x) over) falls.0, rest)
falling-turn d h x xs false over falls rest =
    (top-turn (lt_z (priority_of d h) (priority_of d x)) (is_top d h xs) over (top-weaker d h x xs over falls.0), falls)

falling-placed : (d : Definitions) (h : Waiter) (xs : List Waiter) → IsFalling d xs → IsFalling d (put_in_order d h xs)
falling-placed d h [] falls = (refl, tt)
falling-placed d h (x ∷ xs) falls = falling-turn d h x xs (lt_z (priority_of d h) (priority_of d x)) refl falls (falling-placed d h xs falls.1)

pub falling-ordered : (d : Definitions) (hs : List Waiter) → IsFalling d (in_queue_order d hs)
falling-ordered d [] = tt
falling-ordered d (h ∷ hs) = falling-placed d h (in_queue_order d hs) (falling-ordered d hs)

-- of two waiting queries, of which the second joined behind the first, the first in queue order
abbrev pub earlier : Definitions → Option Waiter → Option Waiter → Option Waiter
earlier d first None = first
earlier d None (Some second) = Some second
earlier d (Some first) (Some second) = cond (lt_z (priority_of d first) (priority_of d second)) (Some second) (Some first)

pub earlier-none : (d : Definitions) (o : Option Waiter) → earlier d None o ≡ o
earlier-none d None = refl
earlier-none d (Some w) = refl

abbrev pub if_passes : (Waiter → Bool) → Waiter → Option Waiter
if_passes test w = cond (test w) (Some w) None

top-found-turn : (d : Definitions) (test : Waiter → Bool) (h x : Waiter) (xs : List Waiter) (b : Bool) → is_top d h (x ∷ xs) ≡ true
    → earlier d (Some h) (find test xs) ≡ Some h → earlier d (Some h) (cond b (Some x) (find test xs)) ≡ Some h
top-found-turn d test h x xs true top rest = ap (λ c. cond c (Some x) (Some h)) (top-head (lt_z (priority_of d h) (priority_of d x)) (is_top d h xs) top)
top-found-turn d test h x xs false top rest = rest

top-found : (d : Definitions) (test : Waiter → Bool) (h : Waiter) (xs : List Waiter) → is_top d h xs ≡ true → earlier d (Some h) (find test xs) ≡ Some h
top-found d test h [] top = refl
top-found d test h (x ∷ xs) top =
    top-found-turn d test h x xs (test x) top (top-found d test h xs (top-tail (lt_z (priority_of d h) (priority_of d x)) (is_top d h xs) top))

-- the first that passes, with one more query that is put in order
over-turn : (d : Definitions) (h x : Waiter) (there rest : Option Waiter) (a b : Bool) → lt_z (priority_of d h) (priority_of d x) ≡ true
    → there ≡ earlier d (cond a (Some h) None) rest → cond b (Some x) there ≡ earlier d (cond a (Some h) None) (cond b (Some x) rest)
over-turn d h x there rest true true over step = sym (ap (λ c. cond c (Some x) (Some h)) over)
over-turn d h x there rest false true over step = refl
over-turn d h x there rest true false over step = step
over-turn d h x there rest false false over step = step

here-turn : (d : Definitions) (h : Waiter) (rest : Option Waiter) (a : Bool) → earlier d (Some h) rest ≡ Some h → cond a (Some h) rest ≡ earlier d (cond a (Some h) None) rest
here-turn d h rest true top = sym top
here-turn d h rest false top = sym (earlier-none d rest)

find-turn : (d : Definitions) (test : Waiter → Bool) (h x : Waiter) (xs : List Waiter) (b : Bool) → lt_z (priority_of d h) (priority_of d x) ≡ b → is_top d x xs ≡ true
    → find test (put_in_order d h xs) ≡ earlier d (if_passes test h) (find test xs)
    → find test (cond b (x ∷ put_in_order d h xs) (h ∷ x ∷ xs)) ≡ earlier d (if_passes test h) (find test (x ∷ xs))
find-turn d test h x xs true over top step = over-turn d h x (find test (put_in_order d h xs)) (find test xs) (test h) (test x) over step
find-turn d test h x xs false over top step =
    here-turn d h (find test (x ∷ xs)) (test h)
    (top-found d test h (x ∷ xs) (top-turn (lt_z (priority_of d h) (priority_of d x)) (is_top d h xs) over (top-weaker d h x xs over top)))

find-placed : (d : Definitions) (test : Waiter → Bool) (h : Waiter) (xs : List Waiter) → IsFalling d xs
    → find test (put_in_order d h xs) ≡ earlier d (if_passes test h) (find test xs)
find-placed d test h [] falls = refl
find-placed d test h (x ∷ xs) falls =
    find-turn d test h x xs (lt_z (priority_of d h) (priority_of d x)) refl falls.0 (find-placed d test h xs falls.1)

pub find-ordered : (d : Definitions) (test : Waiter → Bool) (h : Waiter) (hs : List Waiter)
    → find test (in_queue_order d (h ∷ hs)) ≡ earlier d (if_passes test h) (find test (in_queue_order d hs))
find-ordered d test h hs = find-placed d test h (in_queue_order d hs) (falling-ordered d hs)
