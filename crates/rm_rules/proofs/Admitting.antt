-- What an admission keeps.
use Rattle.std.proofs.Common.{◌≡◌, ℕ, ◌≤◌, Bool, true, false, eqb, List, [], ◌∷◌, ◌++◌, Some, None, refl, sym, ap, ◌∙◌, subst, arith, count_by}
use Rattle.std.specs.List.{find}
use Rattle.std.proofs.lemmas.Bool.{eq-eqb, false≢true}
use Rattle.rm_rules.specs.declared.state.Phase.{Phase}
use Rattle.rm_rules.specs.declared.state.Phase.TheVariants as phase
use Rattle.rm_rules.specs.declared.state.Session.{Session}
use Rattle.rm_rules.specs.declared.state.Waiter.{Waiter}
use Rattle.rm_rules.specs.declared.state.Runner.{Runner}
use Rattle.rm_rules.specs.State.{State, phase_of, without_waiter, is_idle, is_waiting, is_running, is_ended}
use Rattle.rm_rules.specs.Admission.{started, admitted, first_entitled}
use Rattle.rm_rules.specs.Owed.{owed}
use Rattle.rm_rules.specs.Healthy.{AreInPhase, AreNumbered, IsHealthyWith, RoomOf, one_if}
use Rattle.rm_rules.proofs.Taken.{found_counted, counted_among, found_single}
use Rattle.rm_rules.proofs.Changed.{turns-leave, turns-come}
use Rattle.rm_rules.proofs.Phases.{one_if-most, there_if_live, opened-with}
use Rattle.rm_rules.proofs.Queue.{IsAmong, first_entitled_fits}
use Rattle.rm_rules.proofs.There.{pools-admitted}
use Rattle.rm_rules.proofs.Moving.{Goes, in_phase-goes, numbered-goes, owed-goes, room-owed}
use Rattle.rm_rules.proofs.Timed.{timed-admitted}
use Rattle.rm_rules.proofs.Covering.{covered-admitted}

-- a phase in which a query waits is no other
pub record IsJustWaiting (p : Phase) : Type 0 where
  pub idle : is_idle p ≡ false
  pub running : is_running p ≡ false
  pub ended : is_ended p ≡ false

pub waiting-just : (p : Phase) → is_waiting p ≡ true → IsJustWaiting p
waiting-just phase.Idle h = absurd (false≢true h)
waiting-just phase.Waiting h = record { idle = refl; running = refl; ended = refl }
waiting-just phase.Running h = absurd (false≢true h)
waiting-just (phase.Ended end) h = absurd (false≢true h)

pub one_or_none : (b : Bool) → 1 ≤ one_if b → b ≡ true
one_or_none true h = refl
one_or_none false h = absurd (omega arith)

-- the session of a waiting query waits
counted : (w : Waiter) (ws : List Waiter) → IsAmong w ws → 1 ≤ count_by (λ x. eqb x.session w.session) ws
counted w ws among =
    subst (λ (l : List Waiter). 1 ≤ count_by (λ x. eqb x.session w.session) l) (sym among.split)
    (counted_among (λ x. eqb x.session w.session) among.front among.rest w (eq-eqb w.session w.session refl))

pub session-waits : (sessions : List Session) (waiting : List Waiter) (running : List Runner) (w : Waiter) → AreInPhase sessions waiting running → IsAmong w waiting
    → is_waiting (phase_of sessions w.session) ≡ true
session-waits sessions waiting running w h among = one_or_none _ (omega (arith, counted w waiting among, h.waits w.session))

-- and it is what its session's number finds
pub waiter_found : (sessions : List Session) (waiting : List Waiter) (running : List Runner) (w : Waiter) → AreInPhase sessions waiting running → IsAmong w waiting
    → find (λ x. eqb x.session w.session) waiting ≡ Some w
waiter_found sessions waiting running w h among =
    let found = found_counted (λ (x : Waiter). eqb x.session w.session) waiting (counted w waiting among) in
    let few : count_by (λ (x : Waiter). eqb x.session w.session) waiting ≤ 1 = omega (arith, h.waits w.session, one_if-most (is_waiting (phase_of sessions w.session))) in
    let same : w ≡ found.0 =
    found_single (λ (x : Waiter). eqb x.session w.session) among.front among.rest w found.0 (eq-eqb w.session w.session refl)
    (subst (λ (l : List Waiter). count_by (λ x. eqb x.session w.session) l ≤ 1) among.split few)
    (subst (λ (l : List Waiter). find (λ x. eqb x.session w.session) l ≡ Some found.0) among.split found.1) in
    found.1 ∙ ap (λ z. Some z) (sym same)

-- the query of a waiting session goes over to running
abbrev pub goes-admitted : (s : State) (w : Waiter) → AreInPhase s.sessions s.waiting s.running → IsAmong w s.waiting
    → Goes w.session phase.Running s.sessions s.waiting (without_waiter w.session s.waiting) s.running (s.running ++ started s w ∷ [])
goes-admitted s w h among =
    let waits = session-waits s.sessions s.waiting s.running w h among in
    let just = waiting-just (phase_of s.sessions w.session) waits in
    record {
      there = there_if_live w.session s.sessions just.idle;
      waited = Some w;
      waits = None;
      ran = None;
      runs = Some (started s w);
      waited_is = sym waits;
      waits_is = refl;
      ran_is = sym just.running;
      runs_is = refl;
      waiters = turns-leave (λ (x : Waiter). x.session) w.session w s.waiting (waiter_found s.sessions s.waiting s.running w h among);
      runners = turns-come (λ (r : Runner). r.session) w.session (started s w) s.running refl;
    }

pub in_phase-admitted : (s : State) (w : Waiter) → AreInPhase s.sessions s.waiting s.running → IsAmong w s.waiting
    → AreInPhase (admitted s w).sessions (admitted s w).waiting (admitted s w).running
in_phase-admitted s w h among =
    in_phase-goes w.session phase.Running s.sessions s.waiting (without_waiter w.session s.waiting) s.running (s.running ++ started s w ∷ []) (goes-admitted s w h among) h

-- a query keeps its number when it begins to run
pub numbered-admitted : (s : State) (w : Waiter) → AreInPhase s.sessions s.waiting s.running → IsAmong w s.waiting → AreNumbered s.last_query s.waiting s.running
    → AreNumbered (admitted s w).last_query (admitted s w).waiting (admitted s w).running
numbered-admitted s w h among numbered =
    numbered-goes s.last_query w.session phase.Running s.sessions s.waiting (without_waiter w.session s.waiting) s.running (s.running ++ started s w ∷ [])
    (goes-admitted s w h among) (λ m. omega arith) numbered

-- and as much is owed to it
pub room-admitted : (entries statements : ℕ) (s : State) (w : Waiter) → AreInPhase s.sessions s.waiting s.running → IsAmong w s.waiting
    → RoomOf entries statements s → RoomOf entries statements (admitted s w)
room-admitted entries statements s w h among room =
    let just = waiting-just (phase_of s.sessions w.session) (session-waits s.sessions s.waiting s.running w h among) in
    room-owed entries entries statements (owed s.sessions s.waiting s.running) (owed (admitted s w).sessions (admitted s w).waiting (admitted s w).running)
    s.journal s.room s.definitions.changes s.last_session s.last_query (omega arith)
    (omega (
      arith,
      owed-goes w.session phase.Running s.sessions s.waiting (without_waiter w.session s.waiting) s.running (s.running ++ started s w ∷ []) (goes-admitted s w h among),
      ap one_if just.ended,
    ))
    room

pub healthy-admitted : (entries statements : ℕ) (s : State) (w : Waiter) → first_entitled s ≡ Some w → IsHealthyWith entries statements s
    → IsHealthyWith entries statements (admitted s w)
healthy-admitted entries statements s w picked h =
    let among = (first_entitled_fits s w picked).0 in
    record {
      sound = h.sound;
      sized = h.sized;
      there = pools-admitted s w among h.there;
      covered = covered-admitted s w h.sound h.sized h.there h.covered picked;
      in_phase = in_phase-admitted s w h.in_phase among;
      opened = opened-with s.last_session w.session phase.Running s.sessions h.opened;
      numbered = numbered-admitted s w h.in_phase among h.numbered;
      timed = timed-admitted s w among h.timed;
      room = room-admitted entries statements s w h.in_phase among h.room;
    }
