-- What an event leaves of the sessions for which it is not.
use Rattle.std.proofs.Common.{◌≡◌, ℕ, Bool, true, false, ◌||◌, cond, eqb, List, [], ◌∷◌, ◌++◌, map, Some, None, inl, inr, refl, sym, ap, ◌∙◌, subst}
use Rattle.std.specs.Prelude.{option_map}
use Rattle.std.proofs.lemmas.Bool.{eqb-true, false≢true}
use Rattle.rm_base.specs.declared.event.Event.{Event}
use Rattle.rm_base.specs.declared.event.Event.TheVariants.{Define, GiveWay}
use Rattle.rm_base.specs.declared.name.Name.{Name}
use Rattle.rm_base.specs.declared.reply.End.{End}
use Rattle.rm_base.specs.declared.reply.End.TheVariants.{Cancelled}
use Rattle.rm_base.specs.declared.statement.Statement.TheVariants.{DropPool}
use Rattle.rm_rules.specs.declared.answer.Answer.{Answer}
use Rattle.rm_rules.specs.declared.state.Phase.{Phase}
use Rattle.rm_rules.specs.declared.state.Phase.TheVariants as phase
use Rattle.rm_rules.specs.declared.state.Session.{Session}
use Rattle.rm_rules.specs.declared.state.Waiter.{Waiter}
use Rattle.rm_rules.specs.declared.state.Runner.{Runner}
use Rattle.rm_rules.specs.State.{State, session_called, session_of, runner_of, phase_of, with_phase, is_idle, is_waiting, is_ended}
use Rattle.rm_rules.specs.Admission.{admitted, first_entitled}
use Rattle.rm_rules.specs.Deadlines.{ended_as}
use Rattle.rm_rules.specs.Settle.{settled}
use Rattle.rm_rules.specs.Change.{Change, within_moments}
use Rattle.rm_rules.specs.Answers.{answered}
use Rattle.rm_rules.specs.Step.{moved_to, has_due, found_at, attempted, step}
use Rattle.rm_rules.specs.Replay.{IsFormed}
use Rattle.rm_rules.specs.DropPool.{named_in_place, session_beside}
use Rattle.rm_rules.specs.Sessions.{session_in, IsForeign, Settles, Stays, Runs, Ends, KeepsChoice, Same, Dropped, IsLeft, LeavesForeign}
use Rattle.rm_rules.specs.Healthy.{AreInPhase, IsHealthy}
use Rattle.rm_rules.proofs.Taken.{found_passes}
use Rattle.rm_rules.proofs.Found.{find-without}
use Rattle.rm_rules.proofs.Changed.{other-changed}
use Rattle.rm_rules.proofs.Dropping.{called-dropped}
use Rattle.rm_rules.proofs.Phases.{has_number, phased, choosing_pool, capped, differ, called-with_same, called-with_other, phase_of-found}
use Rattle.rm_rules.proofs.Queue.{IsAmong, found_among}
use Rattle.rm_rules.proofs.Admitting.{session-waits, in_phase-admitted}
use Rattle.rm_rules.proofs.Ending.{in_phase-ended}
use Rattle.rm_rules.proofs.Settling.{entitled-among, due-keeps, settled-keeps}
use Rattle.rm_rules.proofs.Changing.{IsTried, stays, changes, IsQuiet, refuses, repeats, caps_again, judges, stops_again, tells, IsChange, defines, drops, opens, chooses, caps, submits, collects, moves_on, asks, gives_way, finishes, withdraws, stops, closes, session_of-is, tried-is}
use Rattle.rm_rules.proofs.Stepping.{unsettled-tried, outcome-turn}

pub settles-then : (p q r : Phase) → Settles p q → Settles q r → Settles p r
settles-then p _ r (Stays _) then = then
settles-then _ _ _ Runs (Stays _) = Runs
settles-then _ _ _ (Ends end) (Stays _) = Ends end

pub settles-live : (p q : Phase) → Settles p q → is_idle p ≡ false → is_idle q ≡ false
settles-live p _ (Stays _) live = live
settles-live _ _ Runs live = refl
settles-live _ _ (Ends end) live = refl

-- a waiting query may begin to run, or end
waits-runs : (p : Phase) → is_waiting p ≡ true → Settles p phase.Running
waits-runs phase.Idle h = absurd (false≢true h)
waits-runs phase.Waiting h = Runs
waits-runs phase.Running h = absurd (false≢true h)
waits-runs (phase.Ended end) h = absurd (false≢true h)

waits-ends : (end : End) (p : Phase) → is_waiting p ≡ true → Settles p (phase.Ended end)
waits-ends end phase.Idle h = absurd (false≢true h)
waits-ends end phase.Waiting h = Ends end
waits-ends end phase.Running h = absurd (false≢true h)
waits-ends end (phase.Ended other) h = absurd (false≢true h)

-- what settling leaves of a session: all but its phase
pub record IsKept (old new : Session) : Type 0 where
  pub number : new.number ≡ old.number
  pub seat : new.seat ≡ old.seat
  pub user : new.user ≡ old.user
  pub pool : new.pool ≡ old.pool
  pub cap_ms : new.cap_ms ≡ old.cap_ms
  pub phase : Settles old.phase new.phase

-- the session of this number is left as it was
pub record IsLeftAt (n : ℕ) (x : Session) (sessions : List Session) : Type 0 where
  pub session : Session
  pub called : session_called sessions n ≡ Some session
  pub left : IsKept x session

pub left-self : (n : ℕ) (x : Session) (sessions : List Session) → session_called sessions n ≡ Some x → IsLeftAt n x sessions
left-self n x sessions found = record {
  session = x;
  called = found;
  left = record { number = refl; seat = refl; user = refl; pool = refl; cap_ms = refl; phase = Stays x.phase };
}

-- where a session goes over to another phase as settling may bring
with-turn : (n m : ℕ) (p : Phase) (x : Session) (sessions : List Session) (h : IsLeftAt n x sessions) (b : Bool) → eqb m n ≡ b → (b ≡ true → Settles (phase_of sessions n) p)
    → IsLeftAt n x (with_phase m p sessions)
with-turn n m p x sessions h true same settles = record {
  session = phased p h.session;
  called =
      ap (λ k. session_called (with_phase k p sessions) n) (eqb-true m n same) ∙ called-with_same n p sessions ∙ ap (option_map (phased p)) h.called;
  left = record {
    number = h.left.number;
    seat = h.left.seat;
    user = h.left.user;
    pool = h.left.pool;
    cap_ms = h.left.cap_ms;
    phase = settles-then x.phase h.session.phase p h.left.phase (subst (λ q. Settles q p) (phase_of-found n sessions h.session h.called) (settles refl));
  };
}
with-turn n m p x sessions h false apart settles = record {
  session = h.session;
  called = called-with_other m n p sessions apart ∙ h.called;
  left = h.left;
}

left-with : (n m : ℕ) (p : Phase) (x : Session) (sessions : List Session) → IsLeftAt n x sessions → (eqb m n ≡ true → Settles (phase_of sessions n) p) → IsLeftAt n x (with_phase m p sessions)
left-with n m p x sessions h settles = with-turn n m p x sessions h (eqb m n) refl settles

-- so settling and deadlines leave it
pub record IsLeftIn (n : ℕ) (x : Session) (s : State) : Type 0 where
  pub in_phase : AreInPhase s.sessions s.waiting s.running
  pub left : IsLeftAt n x s.sessions

waits-at : (n : ℕ) (s : State) (w : Waiter) → AreInPhase s.sessions s.waiting s.running → IsAmong w s.waiting → eqb w.session n ≡ true → is_waiting (phase_of s.sessions n) ≡ true
waits-at n s w h among same = ap (λ k. is_waiting (phase_of s.sessions k)) (sym (eqb-true w.session n same)) ∙ session-waits s.sessions s.waiting s.running w h among

left-ended : (n : ℕ) (x : Session) (s : State) (w : Waiter) (end : End) → IsAmong w s.waiting → IsLeftIn n x s → IsLeftIn n x (ended_as end s w)
left-ended n x s w end among h = record {
  in_phase = in_phase-ended end s w h.in_phase among;
  left = left-with n w.session (phase.Ended end) x s.sessions h.left (λ same. waits-ends end _ (waits-at n s w h.in_phase among same));
}

left-admitted : (n : ℕ) (x : Session) (s : State) (w : Waiter) → first_entitled s ≡ Some w → IsLeftIn n x s → IsLeftIn n x (admitted s w)
left-admitted n x s w picked h =
    let among = entitled-among s w picked in
    record {
      in_phase = in_phase-admitted s w h.in_phase among;
      left = left-with n w.session phase.Running x s.sessions h.left (λ same. waits-runs _ (waits-at n s w h.in_phase among same));
    }

pub left-settled : (n : ℕ) (x : Session) (s : State) → AreInPhase s.sessions s.waiting s.running → IsLeftAt n x s.sessions → IsLeftIn n x (settled s)
left-settled n x s in_phase left =
    settled-keeps (IsLeftIn n x) (left-ended n x) (λ t h. record { in_phase = h.in_phase; left = h.left }) (left-admitted n x) s (record { in_phase = in_phase; left = left })

pub left-found : (n : ℕ) (x : Session) (s : State) (at : ℕ) → AreInPhase s.sessions s.waiting s.running → session_called s.sessions n ≡ Some x → IsLeftIn n x (found_at s at)
left-found n x s at in_phase found =
    due-keeps (IsLeftIn n x) (left-ended n x) (moved_to s at) (record { in_phase = in_phase; left = left-self n x s.sessions found })

-- an event that is not for a session is for one of another number
number-turn : (s : State) (seat session n : ℕ) (event : Event) (x y z : Session) → session_in event ≡ Some session → IsForeign seat event x → x.number ≡ n → y.seat ≡ x.seat
    → session_called s.sessions n ≡ Some y → session_of s seat session ≡ Some z → (b : Bool) → eqb z.number n ≡ b → b ≡ false
number-turn s seat session n event x y z for foreign number of_seat called found false apart = refl
number-turn s seat session n event x y z for foreign number of_seat called found true same = absurd (both foreign) where
  is : eqb session n ≡ true
  is = ap (λ k. eqb k n) (sym (session_of-is s seat session z found).number) ∙ same

  both : IsForeign seat event x → ⊥
  both (inl other) = other (for ∙ ap (λ k. Some k) (eqb-true session n is ∙ sym number))
  both (inr other) =
      let one : session_called s.sessions n ≡ Some z = ap (session_called s.sessions) (sym (eqb-true session n is)) ∙ (session_of-is s seat session z found).called in
      let same : y ≡ z = let e : Some y ≡ Some z = sym called ∙ one in cc in
      other (sym of_seat ∙ ap (λ (v : Session). v.seat) same ∙ (session_of-is s seat session z found).of_seat)

-- a new session stands behind the others
behind : (b : Bool) (n : ℕ) (x y z : Session) (xs : List Session) → cond b (Some z) (session_called xs n) ≡ Some x
    → (session_called xs n ≡ Some x → session_called (xs ++ y ∷ []) n ≡ Some x) → cond b (Some z) (session_called (xs ++ y ∷ []) n) ≡ Some x
behind true n x y z xs found rest = found
behind false n x y z xs found rest = rest found

push-turn : (n : ℕ) (x y : Session) (xs : List Session) → session_called xs n ≡ Some x → session_called (xs ++ y ∷ []) n ≡ Some x
push-turn n x y [] found = let none : None ≡ Some x = found in absurd (cc)
push-turn n x y (z ∷ xs) found = behind (eqb z.number n) n x y z xs found (push-turn n x y xs)

abbrev apart : State → ℕ → Event → ℕ → Type 0
apart s seat event n =
    (session : ℕ) (z : Session) → session_in event ≡ Some session → session_of s seat session ≡ Some z → eqb z.number n ≡ false

-- a running query of another session
runner-apart : (s : State) (seat : ℕ) (event : Event) (n session : ℕ) (z : Session) (r : Runner) → apart s seat event n → session_in event ≡ Some session
    → session_of s seat session ≡ Some z → runner_of s.running z.number ≡ Some r → eqb r.session n ≡ false
runner-apart s seat event n session z r other for found runs =
    differ r.session z.number n (other session z for found) (found_passes (λ (y : Runner). eqb y.session z.number) r s.running runs)

-- the session as it was, or with GENERAL in the place of the pool that the event drops
data IsBeside (event : Event) (x : Session) : Session → Type 0 where
  as_before : IsBeside event x x
  beside : (pool : Name) → event ≡ Define (DropPool pool) → IsBeside event x (session_beside pool x)

-- the session is left so by this event
record IsLeftBy (event : Event) (n : ℕ) (x : Session) (sessions : List Session) : Type 0 where
  session : Session
  by_event : IsBeside event x session
  at : IsLeftAt n session sessions

by-same : {event : Event} {n : ℕ} {x : Session} {sessions : List Session} → IsLeftAt n x sessions → IsLeftBy event n x sessions
by-same {event} {n} {x} h = record { session = x; by_event = as_before; at = h }

left-dropped : (pool : Name) (n : ℕ) (x : Session) (sessions : List Session) → IsLeftAt n x sessions
    → IsLeftAt n (session_beside pool x) (map (session_beside pool) sessions)
left-dropped pool n x sessions h = record {
  session = session_beside pool h.session;
  called = called-dropped pool n sessions ∙ ap (option_map (session_beside pool)) h.called;
  left = record {
    number = h.left.number;
    seat = h.left.seat;
    user = h.left.user;
    pool = ap (named_in_place pool) h.left.pool;
    cap_ms = h.left.cap_ms;
    phase = h.left.phase;
  };
}

left-changed : (s : State) (seat : ℕ) (event : Event) (c : Change) (n : ℕ) (x : Session) → IsChange s seat event c → AreInPhase s.sessions s.waiting s.running
    → apart s seat event n → IsLeftAt n x s.sessions → IsLeftBy event n x c.state.sessions
left-changed s seat _ _ n x (defines statement new none accepts) in_phase other h = by-same h
left-changed s seat _ _ n x (drops pool new accepts) in_phase other h = record {
  session = session_beside pool x;
  by_event = beside pool refl;
  at = left-dropped pool n x s.sessions h;
}
left-changed s seat _ _ n x (opens user may) in_phase other h = by-same (record { session = h.session; called = push-turn n h.session _ s.sessions h.called; left = h.left })
left-changed s seat _ _ n x (chooses session pool z found may differs) in_phase other h = by-same (record {
  session = h.session;
  called =
      other-changed (has_number z.number) (has_number n) (choosing_pool pool) s.sessions
      (λ y is. differ y.number z.number n (other session z refl found) is) (λ y. refl)
      ∙ h.called;
  left = h.left;
})
left-changed s seat _ _ n x (caps session cap z found room differs) in_phase other h = by-same (record {
  session = h.session;
  called =
      other-changed (has_number z.number) (has_number n) (capped (within_moments cap)) s.sessions
      (λ y is. differ y.number z.number n (other session z refl found) is) (λ y. refl)
      ∙ h.called;
  left = h.left;
})
left-changed s seat _ _ n x (submits session floor z found may) in_phase other h =
    by-same (left-with n z.number phase.Waiting x s.sessions h (λ same. absurd (false≢true (sym (other session z refl found) ∙ same))))
left-changed s seat _ _ n x (collects session z end found ended) in_phase other h =
    by-same (left-with n z.number phase.Idle x s.sessions h (λ same. absurd (false≢true (sym (other session z refl found) ∙ same))))
left-changed s seat _ _ n x (moves_on session z r pool is taken) in_phase other h = by-same h
left-changed s seat _ _ n x (asks session z r pool is) in_phase other h = by-same h
left-changed s seat _ _ n x (gives_way session z r pool found runs leaves) in_phase other h =
    by-same (left-with n r.session phase.Waiting x s.sessions h
    (λ same. absurd (false≢true (sym (runner-apart s seat (GiveWay session) n session z r other refl found runs) ∙ same))))
left-changed s seat _ _ n x (finishes session z found runs) in_phase other h =
    by-same (left-with n z.number phase.Idle x s.sessions h (λ same. absurd (false≢true (sym (other session z refl found) ∙ same))))
left-changed s seat _ _ n x (withdraws by target z y w may waits) in_phase other h =
    let among = found_among (λ v. eqb v.session y.number) w s.waiting waits in
    by-same (left-with n w.session (phase.Ended Cancelled) x s.sessions h (λ same. waits-ends Cancelled _ (waits-at n s w in_phase among same)))
left-changed s seat _ _ n x (stops by target z y r may runs first) in_phase other h = by-same h
left-changed s seat _ _ n x (closes session z found rests) in_phase other h = by-same (record {
  session = h.session;
  called = find-without (has_number z.number) (has_number n) s.sessions (λ y is. differ y.number z.number n (other session z refl found) is) ∙ h.called;
  left = h.left;
})

-- and its answer is another session's
answer-turn : (n m : ℕ) (x : Session) (t : State) (b : Bool) → eqb m n ≡ false → IsLeftAt n x t.sessions → IsLeftAt n x (cond b (with_phase m phase.Idle t.sessions) t.sessions)
answer-turn n m x t true other h = left-with n m phase.Idle x t.sessions h (λ same. absurd (false≢true (sym other ∙ same)))
answer-turn n m x t false other h = h

quiet-answered : (s t : State) (seat : ℕ) (event : Event) (answer : Answer) (n : ℕ) (x : Session) → IsQuiet s seat event answer → IsLeftAt n x t.sessions
    → IsLeftAt n x (answered t answer).sessions
quiet-answered s t seat _ _ n x (refuses event r is) h = h
quiet-answered s t seat _ _ n x (repeats session pool z found same) h = h
quiet-answered s t seat _ _ n x (caps_again session cap z found same) h = h
quiet-answered s t seat _ _ n x (judges session z r answer is says) h = h
quiet-answered s t seat _ _ n x (stops_again by target z y r may runs already) h = h
quiet-answered s t seat _ _ n x (tells session z found active) h = h

change-answered : (s t : State) (seat : ℕ) (event : Event) (c : Change) (n : ℕ) (x : Session) → IsChange s seat event c → apart s seat event n → IsLeftAt n x t.sessions
    → IsLeftAt n x (answered t c.answer).sessions
change-answered s t seat _ _ n x (defines statement new none accepts) other h = h
change-answered s t seat _ _ n x (drops pool new accepts) other h = h
change-answered s t seat _ _ n x (opens user may) other h = h
change-answered s t seat _ _ n x (chooses session pool z found may differs) other h = h
change-answered s t seat _ _ n x (caps session cap z found room differs) other h = h
change-answered s t seat _ _ n x (submits session floor z found may) other h = answer-turn n z.number x t (is_ended (phase_of t.sessions z.number)) (other session z refl found) h
change-answered s t seat _ _ n x (collects session z end found ended) other h = h
change-answered s t seat _ _ n x (moves_on session z r pool is taken) other h = h
change-answered s t seat _ _ n x (asks session z r pool is) other h = h
change-answered s t seat _ _ n x (gives_way session z r pool found runs leaves) other h =
    answer-turn n r.session x t (is_ended (phase_of t.sessions r.session)) (runner-apart s seat (GiveWay session) n session z r other refl found runs) h
change-answered s t seat _ _ n x (finishes session z found runs) other h = h
change-answered s t seat _ _ n x (withdraws by target z y w may waits) other h = h
change-answered s t seat _ _ n x (stops by target z y r may runs first) other h = h
change-answered s t seat _ _ n x (closes session z found rests) other h = h

-- what is tried leaves the session, and so does its settling and its answer
tried-left : (s : State) (seat : ℕ) (event : Event) (c : Change) (n : ℕ) (x : Session) → IsTried s seat event c → AreInPhase c.state.sessions c.state.waiting c.state.running
    → apart s seat event n → IsLeftIn n x s → IsLeftBy event n x (answered (settled c.state) c.answer).sessions
tried-left s seat event _ n x (stays answer still) in_phase other h =
    by-same (quiet-answered s (settled s) seat event answer n x still (left-settled n x s in_phase h.left).left)
tried-left s seat event _ n x (changes c is loud) in_phase other h =
    let now = left-changed s seat event c n x is h.in_phase other h.left in
    record {
      session = now.session;
      by_event = now.by_event;
      at = change-answered s (settled c.state) seat event c n now.session is other (left-settled n now.session c.state in_phase now.at).left;
    }

-- so an event leaves a session for which it is not
kept-left : (event : Event) (x y z : Session) → IsBeside event x y → IsKept y z → IsLeft event x z
kept-left event x _ z as_before h = record {
  number = h.number;
  seat = h.seat;
  user = h.user;
  pool = subst (KeepsChoice event x.pool) (sym h.pool) Same;
  cap_ms = h.cap_ms;
  phase = h.phase;
}
kept-left event x _ z (beside pool is) h = record {
  number = h.number;
  seat = h.seat;
  user = h.user;
  pool = subst (KeepsChoice event x.pool) (sym h.pool) (Dropped pool is);
  cap_ms = h.cap_ms;
  phase = h.phase;
}

foreign-left : (event : Event) (n : ℕ) (x : Session) (sessions : List Session) → IsLeftBy event n x sessions
    → (y : Session) × (session_called sessions n ≡ Some y) × IsLeft event x y
foreign-left event n x sessions h = (h.at.session, h.at.called, kept-left event x h.session h.at.session h.by_event h.at.left)

pub foreign-step : (s : State) (seat at : ℕ) (event : Event) → IsHealthy s → IsFormed event → LeavesForeign seat event s (step s seat at event).state
foreign-step s seat at event h formed x called foreign =
    let t = found_at s at in
    let c = attempted t seat event in
    let is = tried-is t seat event in
    let n = x.number in
    let before = left-found n x s at h.in_phase called in
    let found = before.left in
    let other : apart t seat event n = λ session z for of.
    number-turn t seat session n event x found.session z for foreign refl found.left.seat found.called of (eqb z.number n) refl in
    outcome-turn (λ o. (y : Session) × (session_called o.state.sessions n ≡ Some y) × IsLeft event x y) s seat event c (has_due s at || c.changed)
    (λ settles. foreign-left event n x _ (tried-left t seat event c n x is (unsettled-tried s seat at event c is formed h settles).in_phase other before))
    (λ still. foreign-left event n x s.sessions (by-same (left-self n x s.sessions called)))
