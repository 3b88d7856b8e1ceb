-- What is known of the waiting query that is admitted.
use Rattle.std.proofs.Common.{◌≡◌, ℕ, ◌≤◌, Bool, true, false, ◌&&◌, ◌||◌, ◌+◌, cond, eqb, leb, arith, List, [], ◌∷◌, ◌++◌, length, Some, None, refl, sym, ap, ◌∙◌, subst, count_by}
use Rattle.std.specs.List.{find, list_any}
use Rattle.std.specs.Int.Signed.{lt_z}
use Rattle.std.proofs.lemmas.Bool.{eq-eqb}
use Rattle.std.proofs.lemmas.Bool.Decides.{nat_tests}
use Rattle.rm_base.specs.declared.definitions.Definitions.{Definitions}
use Rattle.rm_base.specs.Name.{same_name, general}
use Rattle.rm_rules.specs.declared.state.Waiter.{Waiter}
use Rattle.rm_rules.specs.State.{State, without_waiter}
use Rattle.rm_rules.specs.Holdings.{Holdings, holdings_of}
use Rattle.rm_rules.specs.Definitions.{pool_row}
use Rattle.rm_rules.specs.Budget.{threshold}
use Rattle.rm_rules.specs.Accounting.{lent, free, need}
use Rattle.rm_rules.specs.Fit.{poolfit}
use Rattle.rm_rules.specs.Admission.{ask_of, heads_behind, heads, priority_of, put_in_order, in_queue_order, first_among, first_entitled, judged_for, is_entitled, is_blocked}
use Rattle.rm_rules.proofs.Taken.{and_left, found_counted, counted_among, length_without}

-- the query is one of these
pub record IsAmong (w : Waiter) (ws : List Waiter) : Type 0 where
  pub front : List Waiter
  pub rest : List Waiter
  pub split : ws ≡ front ++ w ∷ rest

pub further : (w x : Waiter) (ws : List Waiter) → IsAmong w ws → IsAmong w (x ∷ ws)
further w x ws among = record { front = x ∷ among.front; rest = among.rest; split = ap (λ l. x ∷ l) among.split }

first-turn : (d : Definitions) (k : Holdings) (blocked : Bool) (h w : Waiter) (hs : List Waiter) (b : Bool) → is_entitled blocked (judged_for d k h) ≡ b
    → cond b (Some h) (first_among d k (blocked || is_blocked (judged_for d k h)) hs) ≡ Some w
    → (first_among d k (blocked || is_blocked (judged_for d k h)) hs ≡ Some w → IsAmong w hs × ((judged_for d k w).fits ≡ true))
    → IsAmong w (h ∷ hs) × ((judged_for d k w).fits ≡ true)
first-turn d k blocked h w hs true entitled picked rest =
    let same : h ≡ w = cc in
    (record { front = []; rest = hs; split = ap (λ x. x ∷ hs) same }, ap (λ x. (judged_for d k x).fits) (sym same) ∙ and_left (judged_for d k h).fits _ entitled)
first-turn d k blocked h w hs false entitled picked rest = let r = rest picked in (further w h hs r.0, r.1)

first_among_fits : (d : Definitions) (k : Holdings) (blocked : Bool) (w : Waiter) (hs : List Waiter) → first_among d k blocked hs ≡ Some w
    → IsAmong w hs × ((judged_for d k w).fits ≡ true)
first_among_fits d k blocked w [] picked = let none : None ≡ Some w = picked in absurd (cc)
first_among_fits d k blocked w (h ∷ hs) picked =
    first-turn d k blocked h w hs (is_entitled blocked (judged_for d k h)) refl picked (first_among_fits d k (blocked || is_blocked (judged_for d k h)) w hs)

-- a head waits
here_or_further : (x w : Waiter) (hs ws front rest : List Waiter) → (x ∷ hs) ≡ front ++ w ∷ rest → (IsAmong w hs → IsAmong w ws) → IsAmong w (x ∷ ws)
here_or_further x w hs ws [] rest split more = let same : x ≡ w = cc in record { front = []; rest = ws; split = ap (λ y. y ∷ ws) same }
here_or_further x w hs ws (y ∷ front) rest split more =
    let tail : hs ≡ front ++ w ∷ rest = cc in
    further w x ws (more (record { front = front; rest = rest; split = tail }))

-- the first two may change places
swapped : (h x w : Waiter) (xs : List Waiter) → IsAmong w (x ∷ h ∷ xs) → IsAmong w (h ∷ x ∷ xs)
swapped h x w xs among = at-front among.front among.rest among.split where
  at-front : (front rest : List Waiter) → (x ∷ h ∷ xs) ≡ front ++ w ∷ rest → IsAmong w (h ∷ x ∷ xs)
  at-front [] rest split = let same : x ≡ w = cc in record { front = h ∷ []; rest = xs; split = ap (λ y. h ∷ y ∷ xs) same }
  at-front (y ∷ []) rest split = let same : h ≡ w = cc in record { front = []; rest = x ∷ xs; split = ap (λ z. z ∷ x ∷ xs) same }
  at-front (y ∷ z ∷ more) rest split =
      let tail : xs ≡ more ++ w ∷ rest = cc in
      record { front = h ∷ x ∷ more; rest = rest; split = ap (λ l. h ∷ x ∷ l) tail }

heads-turn : (before ws : List Waiter) (x w : Waiter) (hs : List Waiter) (b : Bool)
    → IsAmong w (cond b hs (x ∷ hs)) → (IsAmong w hs → IsAmong w ws) → IsAmong w (x ∷ ws)
heads-turn before ws x w hs true among rest = further w x ws (rest among)
heads-turn before ws x w hs false among rest = here_or_further x w hs ws among.front among.rest among.split rest

pub heads_wait : (before ws : List Waiter) (w : Waiter) → IsAmong w (heads_behind before ws) → IsAmong w ws
heads_wait before [] w among = among
heads_wait before (x ∷ ws) w among =
    heads-turn before ws x w (heads_behind (before ++ x ∷ []) ws) (list_any (λ b. same_name b.pool x.pool) before) among (heads_wait (before ++ x ∷ []) ws w)

-- queue order brings in no other query
placed-turn : (h x w : Waiter) (xs more : List Waiter) (b : Bool) → IsAmong w (cond b (x ∷ more) (h ∷ x ∷ xs)) → (IsAmong w more → IsAmong w (h ∷ xs)) → IsAmong w (h ∷ x ∷ xs)
placed-turn h x w xs more true among rest = swapped h x w xs (here_or_further x w more (h ∷ xs) among.front among.rest among.split rest)
placed-turn h x w xs more false among rest = among

placed_among : (d : Definitions) (h w : Waiter) (xs : List Waiter) → IsAmong w (put_in_order d h xs) → IsAmong w (h ∷ xs)
placed_among d h w [] among = among
placed_among d h w (x ∷ xs) among = placed-turn h x w xs (put_in_order d h xs) (lt_z (priority_of d h) (priority_of d x)) among (placed_among d h w xs)

pub ordered_among : (d : Definitions) (w : Waiter) (hs : List Waiter) → IsAmong w (in_queue_order d hs) → IsAmong w hs
ordered_among d w [] among = among
ordered_among d w (h ∷ hs) among =
    let placed = placed_among d h w (in_queue_order d hs) among in
    here_or_further h w (in_queue_order d hs) hs placed.front placed.rest placed.split (ordered_among d w hs)

-- the query that is admitted waits and fits
pub first_entitled_fits : (s : State) (w : Waiter) → first_entitled s ≡ Some w → IsAmong w s.waiting × ((judged_for s.definitions (holdings_of s) w).fits ≡ true)
first_entitled_fits s w picked =
    let among = first_among_fits s.definitions (holdings_of s) false w (in_queue_order s.definitions (heads s.waiting)) picked in
    (heads_wait [] s.waiting w (ordered_among s.definitions w (heads s.waiting) among.0), among.1)

-- a query that is found is among those that were searched
found-turn : (test : Waiter → Bool) (x w : Waiter) (ws : List Waiter) (b : Bool) → cond b (Some x) (find test ws) ≡ Some w
    → (find test ws ≡ Some w → IsAmong w ws) → IsAmong w (x ∷ ws)
found-turn test x w ws true found rest = let same : x ≡ w = cc in record { front = []; rest = ws; split = ap (λ y. y ∷ ws) same }
found-turn test x w ws false found rest = further w x ws (rest found)

pub found_among : (test : Waiter → Bool) (w : Waiter) (ws : List Waiter) → find test ws ≡ Some w → IsAmong w ws
found_among test w [] found = let none : None ≡ Some w = found in absurd (cc)
found_among test w (x ∷ ws) found = found-turn test x w ws (test x) found (found_among test w ws)

-- what fits needs no more than is free
pub enough-turn : (p : Bool) (n l t f : ℕ) → (p && (eqb n 0 || (leb l t && leb n f))) ≡ true → n ≤ f
enough-turn p n l t f h = grind (arith, nat_tests)

pub enough : (d : Definitions) (h : Holdings) (w : Waiter) → (judged_for d h w).fits ≡ true → need h w.pool (ask_of d w) ≤ free h
enough d h w fits = enough-turn (poolfit d h w.pool (ask_of d w)) (need h w.pool (ask_of d w)) (lent h) (threshold d (pool_row d general)) (free h) fits

-- the session of a waiting query has one that is found
pub session_found : (w : Waiter) (ws : List Waiter) → IsAmong w ws → (y : Waiter) × (find (λ x. eqb x.session w.session) ws ≡ Some y)
session_found w ws among =
    found_counted (λ (x : Waiter). eqb x.session w.session) ws
    (subst (λ (l : List Waiter). 1 ≤ count_by (λ x. eqb x.session w.session) l) (sym among.split)
    (counted_among (λ x. eqb x.session w.session) among.front among.rest w (eq-eqb w.session w.session refl)))

-- so one query fewer waits without it
pub without-fewer : (w : Waiter) (ws : List Waiter) → IsAmong w ws → 1 + length (without_waiter w.session ws) ≡ length ws
without-fewer w ws among =
    let found = session_found w ws among in
    omega (arith, length_without (λ (x : Waiter). eqb x.session w.session) found.0 ws found.1)
