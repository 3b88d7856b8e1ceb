-- Sessions by their numbers: what another phase or another choice of one of them changes, and what a new one does.
use Rattle.std.proofs.Common.{◌≡◌, ℕ, ◌+◌, ◌≤◌, Bool, true, false, not, cond, eqb, leb, List, [], ◌∷◌, ◌++◌, length, Some, None, Option, refl, sym, ap, ◌∙◌, subst, arith, count_by}
use Rattle.std.specs.Prelude.{option_map}
use Rattle.std.specs.Option.{is_some}
use Rattle.std.proofs.lemmas.List.Sums.{sum_by-cons, sum_by_push}
use Rattle.std.proofs.lemmas.Bool.{eqb-true, false≢true}
use Rattle.rm_base.specs.declared.name.Name.{Name}
use Rattle.rm_rules.specs.declared.state.Phase.{Phase}
use Rattle.rm_rules.specs.declared.state.Phase.TheVariants as phase
use Rattle.rm_rules.specs.declared.state.Session.{Session}
use Rattle.rm_rules.specs.State.{session_called, phase_of, changed_first, with_phase, without_session, is_idle, is_active, is_ended, is_waiting, is_running, live_queries, active_queries}
use Rattle.rm_rules.specs.Healthy.{AreOpened, one_if}
use Rattle.rm_rules.proofs.Taken.{sum_without, length_without, count_without, all_without}
use Rattle.rm_rules.proofs.Found.{find-without, none-left}
use Rattle.rm_rules.proofs.Changed.{sum-changed, sum-kept, length-changed, all-changed, found-changed, other-changed}

-- the session of this number, and that session in another phase, with another choice or with another cap
abbrev pub has_number : ℕ → Session → Bool
has_number n x = eqb x.number n

abbrev pub phased : Phase → Session → Session
phased p x = record x { phase = p }

abbrev pub choosing_pool : Name → Session → Session
choosing_pool pool x = record x { pool = Some pool }

abbrev pub capped : Option ℕ → Session → Session
capped cap x = record x { cap_ms = cap }

pub one_if-most : (b : Bool) → one_if b ≤ 1
one_if-most true = omega arith
one_if-most false = omega arith

-- numbers that are told apart
pub differ : (k n m : ℕ) → eqb n m ≡ false → eqb k n ≡ true → eqb k m ≡ false
differ k n m ne e = ap (λ z. eqb z m) (eqb-true k n e) ∙ ne

-- the session is found in its other phase, and every other one as it was
pub called-with_same : (n : ℕ) (p : Phase) (xs : List Session) → session_called (with_phase n p xs) n ≡ option_map (phased p) (session_called xs n)
called-with_same n p xs = found-changed (has_number n) (phased p) xs (λ y. refl)

pub called-with_other : (n m : ℕ) (p : Phase) (xs : List Session) → eqb n m ≡ false → session_called (with_phase n p xs) m ≡ session_called xs m
called-with_other n m p xs ne = other-changed (has_number n) (has_number m) (phased p) xs (λ y is. differ y.number n m ne is) (λ y. refl)

-- the phase of what is found
abbrev pub phase_in : Option Session → Phase
phase_in o = elim o [ Some x ↦ x.phase | None ↦ phase.Idle ]

phased-in : (p : Phase) (o : Option Session) → is_some o ≡ true → phase_in (option_map (phased p) o) ≡ p
phased-in p None there = absurd (false≢true there)
phased-in p (Some x) there = refl

-- the session's own phase is the new one, and another session's phase stays
with-turn : (n m : ℕ) (p : Phase) (xs : List Session) (b : Bool) → is_some (session_called xs n) ≡ true → eqb n m ≡ b
    → phase_of (with_phase n p xs) m ≡ cond b p (phase_of xs m)
with-turn n m p xs true there e =
    ap (λ k. phase_of (with_phase n p xs) k) (sym (eqb-true n m e)) ∙ ap phase_in (called-with_same n p xs) ∙ phased-in p (session_called xs n) there
with-turn n m p xs false there e = ap phase_in (called-with_other n m p xs e)

pub phase_of-with : (n m : ℕ) (p : Phase) (xs : List Session) → is_some (session_called xs n) ≡ true → phase_of (with_phase n p xs) m ≡ cond (eqb n m) p (phase_of xs m)
phase_of-with n m p xs there = with-turn n m p xs (eqb n m) there refl

pub phase_of-found : (n : ℕ) (xs : List Session) (x : Session) → session_called xs n ≡ Some x → phase_of xs n ≡ x.phase
phase_of-found n xs x found = ap phase_in found

-- how many sessions have a phase that passes a test
count-turn : (test : Phase → Bool) (n : ℕ) (p : Phase) (xs : List Session) (o : Option Session) → session_called xs n ≡ o → is_some o ≡ true
    → count_by (λ z. test z.phase) (with_phase n p xs) + one_if (test (phase_of xs n)) ≡ count_by (λ z. test z.phase) xs + one_if (test p)
count-turn test n p xs None found there = absurd (false≢true there)
count-turn test n p xs (Some x) found there =
    omega (arith, sum-changed (λ (z : Session). cond (test z.phase) 1 0) (has_number n) (phased p) x xs found, ap (λ q. one_if (test q)) (phase_of-found n xs x found))

pub count-with : (test : Phase → Bool) (n : ℕ) (p : Phase) (xs : List Session) → is_some (session_called xs n) ≡ true
    → count_by (λ z. test z.phase) (with_phase n p xs) + one_if (test (phase_of xs n)) ≡ count_by (λ z. test z.phase) xs + one_if (test p)
count-with test n p xs there = count-turn test n p xs (session_called xs n) refl there

pub length-with : (n : ℕ) (p : Phase) (xs : List Session) → length (with_phase n p xs) ≡ length xs
length-with n p xs = length-changed (has_number n) (phased p) xs

-- the numbers stay
pub opened-with : (last n : ℕ) (p : Phase) (xs : List Session) → AreOpened last xs → AreOpened last (with_phase n p xs)
opened-with last n p xs h = record {
  once = λ m. omega (arith, h.once m, sum-kept (λ (z : Session). cond (eqb z.number m) 1 0) (has_number n) (phased p) xs (λ z. refl));
  given = all-changed (λ z. leb z.number last) (has_number n) (phased p) xs (λ z given. given) h.given;
  few = omega (arith, h.few, length-with n p xs);
}

-- a change of a session that keeps its number and its phase: no phase, no count and no number changes
pub record KeepsQuery (act : Session → Session) : Type 0 where
  pub number : (x : Session) → (act x).number ≡ x.number
  pub phase : (x : Session) → (act x).phase ≡ x.phase

kept-in : (act : Session → Session) (o : Option Session) → KeepsQuery act → phase_in (option_map act o) ≡ phase_in o
kept-in act None keeps = refl
kept-in act (Some x) keeps = keeps.phase x

numbered-as : (n : ℕ) (act : Session → Session) → KeepsQuery act → (x : Session) → has_number n (act x) ≡ has_number n x
numbered-as n act keeps x = ap (λ k. eqb k n) (keeps.number x)

kept-turn : (n m : ℕ) (act : Session → Session) (xs : List Session) (b : Bool) → KeepsQuery act → eqb n m ≡ b → phase_of (changed_first (has_number n) act xs) m ≡ phase_of xs m
kept-turn n m act xs true keeps e =
    subst (λ k. phase_of (changed_first (has_number n) act xs) k ≡ phase_of xs k) (eqb-true n m e)
    (ap phase_in (found-changed (has_number n) act xs (numbered-as n act keeps)) ∙ kept-in act (session_called xs n) keeps)
kept-turn n m act xs false keeps e = ap phase_in (other-changed (has_number n) (has_number m) act xs (λ y is. differ y.number n m e is) (numbered-as m act keeps))

pub phase_of-kept : (n m : ℕ) (act : Session → Session) (xs : List Session) → KeepsQuery act → phase_of (changed_first (has_number n) act xs) m ≡ phase_of xs m
phase_of-kept n m act xs keeps = kept-turn n m act xs (eqb n m) keeps refl

pub count-kept : (test : Phase → Bool) (n : ℕ) (act : Session → Session) (xs : List Session) → KeepsQuery act
    → count_by (λ z. test z.phase) (changed_first (has_number n) act xs) ≡ count_by (λ z. test z.phase) xs
count-kept test n act xs keeps = sum-kept (λ (z : Session). cond (test z.phase) 1 0) (has_number n) act xs (λ z. ap {B = ℕ} (λ p. cond (test p) 1 0) (keeps.phase z))

pub opened-kept : (last n : ℕ) (act : Session → Session) (xs : List Session) → KeepsQuery act → AreOpened last xs → AreOpened last (changed_first (has_number n) act xs)
opened-kept last n act xs keeps h = record {
  once = λ m. omega (arith, h.once m, sum-kept (λ (z : Session). cond (eqb z.number m) 1 0) (has_number n) act xs (λ z. ap {B = ℕ} (λ b. cond b 1 0) (numbered-as m act keeps z)));
  given = all-changed (λ z. leb z.number last) (has_number n) act xs (λ z given. ap (λ k. leb k last) (keeps.number z) ∙ given) h.given;
  few = omega (arith, h.few, length-changed (has_number n) act xs);
}

-- a session that is given the phase in which it is stays as it is
same-turn : (n : ℕ) (p : Phase) (x y : Session) (xs : List Session) (b : Bool) → cond b (Some x) (session_called xs n) ≡ Some y → y.phase ≡ p
    → (session_called xs n ≡ Some y → with_phase n p xs ≡ xs) → cond b (phased p x ∷ xs) (x ∷ with_phase n p xs) ≡ x ∷ xs
same-turn n p x y xs true found is rest =
    let same : x ≡ y = cc in
    ap (λ q. (let z : Session = record x { phase = q } in z) ∷ xs) (sym (ap (λ (z : Session). z.phase) same ∙ is))
same-turn n p x y xs false found is rest = ap (λ l. x ∷ l) (rest found)

pub with_phase-same : (n : ℕ) (p : Phase) (y : Session) (xs : List Session) → session_called xs n ≡ Some y → y.phase ≡ p → with_phase n p xs ≡ xs
with_phase-same n p y [] found is = refl
with_phase-same n p y (x ∷ xs) found is = same-turn n p x y xs (has_number n x) found is (λ more. with_phase-same n p y xs more is)

-- a new session that is idle changes no phase and no count of those that are not idle
pushed-turn : (m : ℕ) (xs : List Session) (y : Session) → y.phase ≡ phase.Idle → phase_of (xs ++ y ∷ []) m ≡ phase_of xs m
pushed-turn m [] y idle = elim (eqb y.number m) as (λ b. phase_in (cond b (Some y) None) ≡ phase.Idle) [ true ↦ idle | false ↦ refl ]
pushed-turn m (x ∷ xs) y idle =
    elim (eqb x.number m) as (λ b. phase_in (cond b (Some x) (session_called (xs ++ y ∷ []) m)) ≡ phase_in (cond b (Some x) (session_called xs m))) [
      | true ↦ refl
      | false ↦ pushed-turn m xs y idle
    ]

pub phase_of-push : (m : ℕ) (xs : List Session) (y : Session) → y.phase ≡ phase.Idle → phase_of (xs ++ y ∷ []) m ≡ phase_of xs m
phase_of-push m xs y idle = pushed-turn m xs y idle

pub count-push : (test : Phase → Bool) (xs : List Session) (y : Session) → test y.phase ≡ false → count_by (λ z. test z.phase) (xs ++ y ∷ []) ≡ count_by (λ z. test z.phase) xs
count-push test xs y fails =
    omega (arith, sum_by_push (λ (z : Session). cond (test z.phase) 1 0) xs y, ap {B = ℕ} (λ b. cond b 1 0) fails)

-- a session that is idle may go: no phase changes, and no count of those that are not idle
dropped-turn : (n m : ℕ) (x : Session) (xs : List Session) (b : Bool) → eqb n m ≡ b → session_called xs n ≡ Some x → x.phase ≡ phase.Idle → count_by (has_number n) xs ≤ 1
    → phase_of (without_session n xs) m ≡ phase_of xs m
dropped-turn n m x xs true e found idle once =
    subst (λ k. phase_of (without_session n xs) k ≡ phase_of xs k) (eqb-true n m e)
    (ap phase_in (none-left (has_number n) xs once) ∙ sym (phase_of-found n xs x found ∙ idle))
dropped-turn n m x xs false e found idle once = ap phase_in (find-without (has_number n) (has_number m) xs (λ y is. differ y.number n m e is))

pub phase_of-drop : (n m : ℕ) (x : Session) (xs : List Session) → session_called xs n ≡ Some x → x.phase ≡ phase.Idle → count_by (has_number n) xs ≤ 1
    → phase_of (without_session n xs) m ≡ phase_of xs m
phase_of-drop n m x xs found idle once = dropped-turn n m x xs (eqb n m) refl found idle once

pub count-drop : (test : Phase → Bool) (n : ℕ) (x : Session) (xs : List Session) → session_called xs n ≡ Some x → test x.phase ≡ false
    → count_by (λ z. test z.phase) (without_session n xs) ≡ count_by (λ z. test z.phase) xs
count-drop test n x xs found fails =
    omega (arith, sum_without (λ (z : Session). cond (test z.phase) 1 0) (has_number n) x xs found, ap {B = ℕ} (λ b. cond b 1 0) fails)

-- the others keep their numbers
pub opened-drop : (last n : ℕ) (x : Session) (xs : List Session) → session_called xs n ≡ Some x → AreOpened last xs → AreOpened last (without_session n xs)
opened-drop last n x xs found h = record {
  once = λ m. omega (arith, h.once m, count_without (has_number m) (has_number n) xs);
  given = all_without (λ z. leb z.number last) (has_number n) xs h.given;
  few = omega (arith, h.few, length_without (has_number n) x xs found);
}

-- a session that has a query is there
live-turn : (o : Option Session) → is_idle (phase_in o) ≡ false → is_some o ≡ true
live-turn None live = sym live
live-turn (Some x) live = refl

pub there_if_live : (n : ℕ) (xs : List Session) → is_idle (phase_of xs n) ≡ false → is_some (session_called xs n) ≡ true
there_if_live n xs live = live-turn (session_called xs n) live

-- a query that is live waits, runs or has ended
parts-turn : (p : Phase) → one_if (is_waiting p) + one_if (is_running p) ≡ one_if (is_active p)
parts-turn phase.Idle = refl
parts-turn phase.Waiting = refl
parts-turn phase.Running = refl
parts-turn (phase.Ended end) = refl

pub active-parts : (p : Phase) → one_if (is_active p) ≡ one_if (is_waiting p) + one_if (is_running p)
active-parts p = sym (parts-turn p)

live-parts : (p : Phase) → one_if (not (is_idle p)) ≡ one_if (is_active p) + one_if (is_ended p)
live-parts phase.Idle = refl
live-parts phase.Waiting = refl
live-parts phase.Running = refl
live-parts (phase.Ended end) = refl

pub live-counts : (xs : List Session) → live_queries xs ≡ active_queries xs + count_by (λ x. is_ended x.phase) xs
live-counts [] = refl
live-counts (x ∷ xs) =
    omega (
      arith,
      live-parts x.phase,
      live-counts xs,
      sum_by-cons (λ (z : Session). cond (is_active z.phase) 1 0) x xs,
      sum_by-cons (λ (z : Session). cond (not (is_idle z.phase)) 1 0) x xs,
      sum_by-cons (λ (z : Session). cond (is_ended z.phase) 1 0) x xs,
    )

-- and there are no more live queries than sessions
pub live-most : (xs : List Session) → live_queries xs ≤ length xs
live-most [] = omega arith
live-most (x ∷ xs) =
    omega (arith, live-most xs, sum_by-cons (λ (z : Session). cond (not (is_idle z.phase)) 1 0) x xs, one_if-most (not (is_idle x.phase)))
