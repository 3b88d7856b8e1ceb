-- A session stays open until its own seat closes it.
use Rattle.std.proofs.Common.{◌≡◌, ◌≢◌, ◌⊎◌, ℕ, Bool, true, false, ◌||◌, cond, eqb, List, Option, Some, None, inl, inr, refl, sym, ap, ◌∙◌}
use Rattle.std.specs.Prelude.{option_map, option_and_then, IsSome}
use Rattle.std.specs.Option.{is_some}
use Rattle.std.proofs.lemmas.Bool.{eqb-true, eq-eqb, false≢true}
use Rattle.rm_base.specs.declared.event.Event.{Event}
use Rattle.rm_base.specs.declared.event.Event.TheVariants.{Close}
use Rattle.rm_base.specs.declared.name.Name.{Name}
use Rattle.rm_base.specs.declared.reply.End.TheVariants as end
use Rattle.rm_rules.specs.declared.state.Phase.{Phase}
use Rattle.rm_rules.specs.declared.state.Phase.TheVariants as phase
use Rattle.rm_rules.specs.declared.state.Session.{Session}
use Rattle.rm_rules.specs.State.{State, session_called, session_of, if_opened_by, phase_of, with_phase, with_choice, with_cap, changed_first, is_ended}
use Rattle.rm_rules.specs.Settle.{settled}
use Rattle.rm_rules.specs.Change.{Change, within_moments}
use Rattle.rm_rules.specs.Answers.{answered}
use Rattle.rm_rules.specs.Step.{entered, moved_to, has_due, found_at, attempted, step}
use Rattle.rm_rules.specs.Replay.{IsFormed}
use Rattle.rm_rules.specs.Sessions.{session_in, IsForeign}
use Rattle.rm_rules.specs.Healthy.{IsHealthy}
use Rattle.rm_rules.proofs.Changed.{found-changed, other-changed}
use Rattle.rm_rules.proofs.Phases.{has_number, phased, differ, called-with_same, called-with_other}
use Rattle.rm_rules.proofs.Settling.{due-keeps, settled-keeps}
use Rattle.rm_rules.proofs.Changing.{IsTried, stays, changes, refuses, repeats, caps_again, judges, stops_again, tells, defines, drops, opens, chooses, caps, submits, collects, moves_on, asks, gives_way, finishes, withdraws, stops, closes, session_of-is, tried-is}
use Rattle.rm_rules.proofs.Foreign.{foreign-step}
use Rattle.rm_rules.proofs.Stepping.{outcome-turn}
use Rattle.rm_rules.proofs.Laws.{IsKeptByOthers}
use Rattle.sessions.specs.Session.{IsOpen}

-- the session of this number is there, and this seat opened it
abbrev pub IsThere : ℕ → ℕ → List Session → Type 0
IsThere n seat sessions = (x : Session) × (session_called sessions n ≡ Some x) × (x.seat ≡ seat)

pub there-of : (s : State) (seat n : ℕ) → IsThere n seat s.sessions → (x : Session) × (session_of s seat n ≡ Some x)
there-of s seat n (x, called, of_seat) =
    (x, ap (option_and_then (if_opened_by seat)) called ∙ ap (λ b. cond b (Some x) None) (eq-eqb x.seat seat of_seat))

pub there-open : (s : State) (seat n : ℕ) → IsThere n seat s.sessions → IsOpen s seat n
there-open s seat n there = ap is_some (there-of s seat n there).1

-- what there is, where there is something
pub some-of : {A : Type 0} (o : Option A) → IsSome o → (x : A) × (o ≡ Some x)
some-of None h = absurd (false≢true h)
some-of (Some x) h = (x, refl)

pub open-there : (s : State) (seat n : ℕ) → IsOpen s seat n → IsThere n seat s.sessions
open-there s seat n h =
    let found = some-of (session_of s seat n) h in
    let is = session_of-is s seat n found.0 found.1 in
    (found.0, is.called, is.of_seat)

-- another phase or another choice leaves it there
with-turn : (n seat m : ℕ) (p : Phase) (xs : List Session) (b : Bool) → eqb m n ≡ b → IsThere n seat xs → IsThere n seat (with_phase m p xs)
with-turn n seat m p xs true same (x, called, of_seat) =
    (phased p x, ap (λ k. session_called (with_phase k p xs) n) (eqb-true m n same) ∙ called-with_same n p xs ∙ ap (option_map (phased p)) called, of_seat)
with-turn n seat m p xs false apart (x, called, of_seat) = (x, called-with_other m n p xs apart ∙ called, of_seat)

there-with : (n seat m : ℕ) (p : Phase) (xs : List Session) → IsThere n seat xs → IsThere n seat (with_phase m p xs)
there-with n seat m p xs h = with-turn n seat m p xs (eqb m n) refl h

-- what changes neither number nor seat of a session
record Keeps (act : Session → Session) : Type 0 where
  number : (y : Session) → (act y).number ≡ y.number
  of_seat : (y : Session) → (act y).seat ≡ y.seat

changed-turn : (act : Session → Session) → Keeps act → (n seat m : ℕ) (xs : List Session) (b : Bool) → eqb m n ≡ b → IsThere n seat xs → IsThere n seat (changed_first (has_number m) act xs)
changed-turn act keeps n seat m xs true same (x, called, of_seat) = (
  act x,
  ap (λ k. session_called (changed_first (has_number k) act xs) n) (eqb-true m n same) ∙ found-changed (has_number n) act xs (λ y. ap (λ k. eqb k n) (keeps.number y)) ∙ ap (option_map act) called,
  keeps.of_seat x ∙ of_seat,
)
changed-turn act keeps n seat m xs false apart (x, called, of_seat) =
    (x, other-changed (has_number m) (has_number n) act xs (λ y is. differ y.number m n apart is) (λ y. ap (λ k. eqb k n) (keeps.number y)) ∙ called, of_seat)

there-choice : (n seat m : ℕ) (pool : Name) (xs : List Session) → IsThere n seat xs → IsThere n seat (with_choice m pool xs)
there-choice n seat m pool xs h = changed-turn (λ x. record x { pool = Some pool }) (record { number = λ y. refl; of_seat = λ y. refl }) n seat m xs (eqb m n) refl h

there-cap : (n seat m : ℕ) (cap : Option ℕ) (xs : List Session) → IsThere n seat xs → IsThere n seat (with_cap m cap xs)
there-cap n seat m cap xs h = changed-turn (λ x. record x { cap_ms = cap }) (record { number = λ y. refl; of_seat = λ y. refl }) n seat m xs (eqb m n) refl h

-- so deadlines, settling and what is answered leave it there
pub there-found : (n seat : ℕ) (s : State) (at : ℕ) → IsThere n seat s.sessions → IsThere n seat (found_at s at).sessions
there-found n seat s at h = due-keeps (λ t. IsThere n seat t.sessions) (λ t w end among p. there-with n seat w.session (phase.Ended end) t.sessions p) (moved_to s at) h

pub there-settled : (n seat : ℕ) (s : State) → IsThere n seat s.sessions → IsThere n seat (settled s).sessions
there-settled n seat s h =
    settled-keeps (λ t. IsThere n seat t.sessions) (λ t w end among p. there-with n seat w.session (phase.Ended end) t.sessions p) (λ t p. p)
    (λ t w picked p. there-with n seat w.session phase.Running t.sessions p) s h

end-turn : (n seat m : ℕ) (xs : List Session) (b : Bool) → IsThere n seat xs → IsThere n seat (cond b (with_phase m phase.Idle xs) xs)
end-turn n seat m xs true h = there-with n seat m phase.Idle xs h
end-turn n seat m xs false h = h

-- each event of its own but Close leaves it there
tried-there : (s : State) (seat : ℕ) (event : Event) (c : Change) (n : ℕ) → IsTried s seat event c → session_in event ≡ Some n → event ≢ Close n → IsThere n seat s.sessions
    → IsThere n seat (answered (settled c.state) c.answer).sessions
tried-there s seat _ _ n (stays _ (refuses event r is)) of other h = there-settled n seat s h
tried-there s seat _ _ n (stays _ (repeats m pool x found same)) of other h = there-settled n seat s h
tried-there s seat _ _ n (stays _ (caps_again m cap x found same)) of other h = there-settled n seat s h
tried-there s seat _ _ n (stays _ (judges m x r answer is says)) of other h = there-settled n seat s h
tried-there s seat _ _ n (stays _ (stops_again by target x y r may runs already)) of other h = there-settled n seat s h
tried-there s seat _ _ n (stays _ (tells m x found active)) of other h = there-settled n seat s h
tried-there s seat _ _ n (changes _ (defines statement new none accepts) loud) of other h = absurd (cc)
tried-there s seat _ _ n (changes _ (drops pool new accepts) loud) of other h = absurd (cc)
tried-there s seat _ _ n (changes _ (opens user may) loud) of other h = absurd (cc)
tried-there s seat _ c n (changes _ (chooses m pool x found may differs) loud) of other h =
    there-settled n seat c.state (there-choice n seat x.number pool s.sessions h)
tried-there s seat _ c n (changes _ (caps m cap x found room differs) loud) of other h =
    there-settled n seat c.state (there-cap n seat x.number (within_moments cap) s.sessions h)
tried-there s seat _ c n (changes _ (moves_on m x r pool is taken) loud) of other h = there-settled n seat c.state h
tried-there s seat _ c n (changes _ (asks m x r pool is) loud) of other h = there-settled n seat c.state h
tried-there s seat _ c n (changes _ (gives_way m x r pool found runs leaves) loud) of other h =
    let u = settled c.state in
    end-turn n seat r.session u.sessions (is_ended (phase_of u.sessions r.session)) (there-settled n seat c.state (there-with n seat r.session phase.Waiting s.sessions h))
tried-there s seat _ c n (changes _ (withdraws by target x y w may waits) loud) of other h =
    there-settled n seat c.state (there-with n seat w.session (phase.Ended end.Cancelled) s.sessions h)
tried-there s seat _ c n (changes _ (stops by target x y r may runs first) loud) of other h = there-settled n seat c.state h
tried-there s seat _ c n (changes _ (submits m floor x found may) loud) of other h =
    let u = settled c.state in
    end-turn n seat x.number u.sessions (is_ended (phase_of u.sessions x.number)) (there-settled n seat c.state (there-with n seat x.number phase.Waiting s.sessions h))
tried-there s seat _ c n (changes _ (collects m x end found ended) loud) of other h = there-settled n seat c.state (there-with n seat x.number phase.Idle s.sessions h)
tried-there s seat _ c n (changes _ (finishes m x found runs) loud) of other h = there-settled n seat c.state (there-with n seat x.number phase.Idle s.sessions h)
tried-there s seat _ _ n (changes _ (closes m x found rests) loud) of other h = absurd (other (let same : m ≡ n = cc in ap (λ k. Close k) same))

own-open : (s : State) (seat at : ℕ) (event : Event) (n : ℕ) → session_in event ≡ Some n → event ≢ Close n → IsOpen s seat n → IsOpen (step s seat at event).state seat n
own-open s seat at event n of other h =
    let t = found_at s at in
    let c = attempted t seat event in
    let there = open-there s seat n h in
    outcome-turn (λ o. IsOpen o.state seat n) s seat event c (has_due s at || c.changed)
    (λ settles. there-open (entered seat event (settled c.state) c.answer).state seat n (tried-there t seat event c n (tried-is t seat event) of other (there-found n seat s at there)))
    (λ still. h)

-- and so does each event that is not for it
foreign-turn : (seat by n : ℕ) (event : Event) (x : Session) → x.number ≡ n → x.seat ≡ seat → (session_in event ≢ Some n) ⊎ (by ≢ seat) → IsForeign by event x
foreign-turn seat by n event x number of_seat (inl not_of) = inl (λ of. not_of (of ∙ ap (λ k. Some k) number))
foreign-turn seat by n event x number of_seat (inr apart) = inr (λ same. apart (sym same ∙ of_seat))

foreign-open : (s : State) (seat by at : ℕ) (event : Event) (n : ℕ) → IsHealthy s → IsFormed event → (session_in event ≢ Some n) ⊎ (by ≢ seat) → IsOpen s seat n
    → IsOpen (step s by at event).state seat n
foreign-open s seat by at event n healthy formed apart h =
    let found = some-of (session_of s seat n) h in
    let x = found.0 in
    let is = session_of-is s seat n x found.1 in
    let new = (step s by at event).state in
    let left = foreign-step s by at event healthy formed x (ap (session_called s.sessions) is.number ∙ is.called) (foreign-turn seat by n event x is.number is.of_seat apart) in
    there-open new seat n (left.0, ap (session_called new.sessions) (sym is.number) ∙ left.1, left.2.seat ∙ is.of_seat)

-- an event is for the session of this number, or not
of-turn : (o : Option ℕ) (n : ℕ) → (o ≡ Some n) ⊎ (o ≢ Some n)
of-turn None n = inr (λ e. cc)
of-turn (Some m) n = turn (eqb m n) refl where
  turn : (b : Bool) → eqb m n ≡ b → (Some m ≡ Some n) ⊎ (Some m ≢ Some n)
  turn true same = inl (ap (λ k. Some k) (eqb-true m n same))
  turn false apart = inr (λ e. let same : m ≡ n = cc in false≢true (sym apart ∙ eq-eqb m n same))

pub open-others : (seat n : ℕ) → IsKeptByOthers seat (λ s. IsOpen s seat n)
open-others seat n s other at event apart healthy formed h = foreign-open s seat other at event n healthy formed (inr apart) h

pub open-step : (s : State) (seat at : ℕ) (event : Event) (n : ℕ) → IsHealthy s → IsFormed event → event ≢ Close n → IsOpen s seat n → IsOpen (step s seat at event).state seat n
open-step s seat at event n healthy formed other h =
    elim (of-turn (session_in event) n) [
      | inl of ↦ own-open s seat at event n of other h
      | inr not_of ↦ foreign-open s seat seat at event n healthy formed (inl not_of) h
    ]
