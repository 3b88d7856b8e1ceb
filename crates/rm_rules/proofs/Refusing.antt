-- What a refused event leaves.
use Rattle.std.proofs.Common.{◌≡◌, ℕ, ◌≤◌, true, false, ◌||◌, cond, eqb, Some, None, Option, Err, refl, sym, ap, ◌∙◌, subst, arith, max, count_by}
use Rattle.std.specs.Prelude.{option_map}
use Rattle.std.proofs.lemmas.Bool.{eqb-true, false≢true}
use Rattle.rm_base.specs.declared.event.Event.{Event}
use Rattle.rm_base.specs.declared.refusal.Refusal.{Refusal}
use Rattle.rm_base.specs.declared.refusal.Refusal.TheVariants as refusal
use Rattle.rm_base.specs.declared.reply.Reply.{Reply}
use Rattle.rm_base.specs.declared.reply.Reply.TheVariants as reply
use Rattle.rm_rules.specs.declared.answer.Answer.{Answer}
use Rattle.rm_rules.specs.declared.answer.Answer.TheVariants.{Says}
use Rattle.rm_rules.specs.declared.state.Phase.{Phase}
use Rattle.rm_rules.specs.declared.state.Phase.TheVariants as phase
use Rattle.rm_rules.specs.declared.state.Session.{Session}
use Rattle.rm_rules.specs.declared.state.Waiter.{Waiter}
use Rattle.rm_rules.specs.declared.state.Runner.{Runner}
use Rattle.rm_rules.specs.State.{State, session_called, phase_of, with_phase, is_idle, is_active, is_waiting, is_running, runner_of, waiter_of}
use Rattle.rm_rules.specs.Settle.{settled}
use Rattle.rm_rules.specs.Change.{Change, quiet, change, tried}
use Rattle.rm_rules.specs.Answers.{told, told_in_phase, told_running, told_waiting, reply_of}
use Rattle.rm_rules.specs.Step.{Outcome, noted, recorded, entered, quietly, moved_to, has_due, found_at, attempted, step, left_refused}
use Rattle.rm_rules.specs.Replay.{IsFormed}
use Rattle.rm_rules.specs.Healthy.{AreInPhase, IsHealthy, one_if}
use Rattle.rm_rules.proofs.Taken.{found_passes, found_counted, or_left_false, or_right_false}
use Rattle.rm_rules.proofs.Phases.{phased, called-with_same, phase_of-found}
use Rattle.rm_rules.proofs.Settling.{rest-settled, rest-due}
use Rattle.rm_rules.proofs.Verdicts.{IsCheckReply, says_go, says_way, says_end, says_stop}
use Rattle.rm_rules.proofs.Changing.{IsTried, stays, changes, IsQuiet, refuses, repeats, caps_again, judges, stops_again, tells, IsChange, defines, drops, opens, chooses, caps, submits, collects, moves_on, asks, gives_way, finishes, withdraws, stops, closes, session_of-found, tried-is}
use Rattle.rm_rules.proofs.Foreign.{settles-live, left-self, left-settled}
use Rattle.rm_rules.proofs.Stepping.{or-false, found-facts, unsettled-tried, outcome-turn}

-- a session that has a query is told of it
abbrev IsToldOf : Reply → Type 0
IsToldOf answer = (r : Refusal) → answer ≡ reply.Refused r → ⊥

told-waiting : (s : State) (n : ℕ) (o : Option Waiter) → waiter_of s.waiting n ≡ o → 1 ≤ count_by (λ w. eqb w.session n) s.waiting → IsToldOf (told_waiting s n (waiter_of s.waiting n))
told-waiting s n o is some =
    let found = found_counted (λ (w : Waiter). eqb w.session n) s.waiting some in
    subst (λ (q : Option Waiter). IsToldOf (told_waiting s n q)) (sym found.1) (λ r e. cc)

told-running : (s : State) (n : ℕ) → 1 ≤ count_by (λ r. eqb r.session n) s.running → IsToldOf (told_running s n (runner_of s.running n))
told-running s n some =
    let found = found_counted (λ (r : Runner). eqb r.session n) s.running some in
    subst (λ (q : Option Runner). IsToldOf (told_running s n q)) (sym found.1) (λ r e. cc)

told-phase : (s : State) (n : ℕ) (p : Phase) → is_idle p ≡ false → count_by (λ w. eqb w.session n) s.waiting ≡ one_if (is_waiting p)
    → count_by (λ r. eqb r.session n) s.running ≡ one_if (is_running p) → IsToldOf (told_in_phase s n p)
told-phase s n phase.Idle live waits runs = absurd (false≢true (sym live))
told-phase s n phase.Waiting live waits runs = told-waiting s n (waiter_of s.waiting n) refl (omega (arith, waits))
told-phase s n phase.Running live waits runs = told-running s n (omega (arith, runs))
told-phase s n (phase.Ended end) live waits runs = λ r e. cc

pub told-live : (s : State) (n : ℕ) → AreInPhase s.sessions s.waiting s.running → is_idle (phase_of s.sessions n) ≡ false → IsToldOf (told s n)
told-live s n h live = turn (session_called s.sessions n) refl where
  turn : (o : Option Session) → session_called s.sessions n ≡ o → IsToldOf (elim o [ Some x ↦ told_in_phase s n x.phase | None ↦ reply.Refused refusal.NoSuchSession ])
  turn None found = absurd (false≢true (sym live ∙ ap (λ (o : Option Session). is_idle (elim o [ Some x ↦ x.phase | None ↦ phase.Idle ])) found))
  turn (Some x) found =
      let is : phase_of s.sessions n ≡ x.phase = phase_of-found n s.sessions x found in
      told-phase s n x.phase (ap is_idle (sym is) ∙ live) (h.waits n ∙ ap (λ p. one_if (is_waiting p)) is) (h.runs n ∙ ap (λ p. one_if (is_running p)) is)

-- so is one whose query is still there after settling
pub told-settled : (s : State) (n : ℕ) (x : Session) → AreInPhase s.sessions s.waiting s.running → session_called s.sessions n ≡ Some x → is_idle x.phase ≡ false → IsToldOf (told (settled s) n)
told-settled s n x h found live =
    let left = left-settled n x s h (left-self n x s.sessions found) in
    told-live (settled s) n left.in_phase
    (ap is_idle (phase_of-found n (settled s).sessions left.left.session left.left.called) ∙ settles-live x.phase left.left.session.phase left.left.left.phase live)

active-live : (p : Phase) → is_active p ≡ true → is_idle p ≡ false
active-live phase.Idle h = absurd (false≢true h)
active-live phase.Waiting h = refl
active-live phase.Running h = refl
active-live (phase.Ended end) h = absurd (false≢true h)

-- an event that is answered with a refusal was refused
pub record IsRefused (s : State) (seat : ℕ) (event : Event) (r : Refusal) (c : Change) : Type 0 where
  pub refused : change s seat event ≡ Err r
  pub is : c ≡ quiet s (Says (reply.Refused r))

-- a state that tells each live session of its query
abbrev TellsLive : State → State → Type 0
TellsLive s u = (x : Session) → session_called s.sessions x.number ≡ Some x → is_idle x.phase ≡ false → IsToldOf (told u x.number)

-- what a check replies is no refusal
check-told : (answer : Reply) → IsCheckReply answer → IsToldOf answer
check-told _ says_go = λ r e. cc
check-told _ (says_way pool) = λ r e. cc
check-told _ (says_end which ran cap) = λ r e. cc
check-told _ says_stop = λ r e. cc

refused-quiet : (s u : State) (seat : ℕ) (event : Event) (r : Refusal) (answer : Answer) → IsQuiet s seat event answer → TellsLive s u → reply_of u answer ≡ reply.Refused r
    → IsRefused s seat event r (quiet s answer)
refused-quiet s u seat _ r _ (refuses event other is) told_live e =
    let same : other ≡ r = cc in
    record { refused = is ∙ ap (λ q. Err q) same; is = ap (λ q. quiet s (Says (reply.Refused q))) same }
refused-quiet s u seat _ r _ (repeats session pool x found same) told_live e = absurd (cc)
refused-quiet s u seat _ r _ (caps_again session cap x found same) told_live e = absurd (cc)
refused-quiet s u seat _ r _ (judges session x y answer is says) told_live e = absurd (check-told answer says r e)
refused-quiet s u seat _ r _ (stops_again by target x y z may runs already) told_live e = absurd (cc)
refused-quiet s u seat _ r _ (tells session x found active) told_live e = absurd (told_live x (session_of-found s seat session x found) (active-live x.phase active) r e)

-- the session whose query waits from now on
called-waiting : (s : State) (x : Session) → session_called s.sessions x.number ≡ Some x
    → session_called (with_phase x.number phase.Waiting s.sessions) x.number ≡ Some (phased phase.Waiting x)
called-waiting s x found = called-with_same x.number phase.Waiting s.sessions ∙ ap (option_map (phased phase.Waiting)) found

refused-change : (s u : State) (seat : ℕ) (event : Event) (r : Refusal) (c : Change) → IsChange s seat event c → TellsLive c.state u → reply_of u c.answer ≡ reply.Refused r → ⊥
refused-change s u seat _ r _ (defines statement new none accepts) told_live e = cc
refused-change s u seat _ r _ (drops pool new accepts) told_live e = cc
refused-change s u seat _ r _ (opens user may) told_live e = cc
refused-change s u seat _ r _ (chooses session pool x found may differs) told_live e = cc
refused-change s u seat _ r _ (caps session cap x found room differs) told_live e = cc
refused-change s u seat _ r _ (submits session floor x found may) told_live e =
    told_live (phased phase.Waiting x) (called-waiting s x (session_of-found s seat session x found)) refl r e
refused-change s u seat _ r _ (collects session x end found ended) told_live e = cc
refused-change s u seat _ r _ (moves_on session x y pool is taken) told_live e = cc
refused-change s u seat _ r _ (asks session x y pool is) told_live e = cc
refused-change s u seat _ r _ (gives_way session x y pool found runs leaves) told_live e =
    let number : y.session ≡ x.number = eqb-true y.session x.number (found_passes (λ (z : Runner). eqb z.session x.number) y s.running runs) in
    let called : session_called (with_phase y.session phase.Waiting s.sessions) x.number ≡ Some (phased phase.Waiting x) =
    ap (λ k. session_called (with_phase k phase.Waiting s.sessions) x.number) number ∙ called-waiting s x (session_of-found s seat session x found) in
    told_live (phased phase.Waiting x) called refl r (ap (told u) (sym number) ∙ e)
refused-change s u seat _ r _ (finishes session x found runs) told_live e = cc
refused-change s u seat _ r _ (withdraws by target x y w may waits) told_live e = cc
refused-change s u seat _ r _ (stops by target x y z may runs first) told_live e = cc
refused-change s u seat _ r _ (closes session x found rests) told_live e = cc

refused-still : (s : State) (seat : ℕ) (event : Event) (r : Refusal) (c : Change) → IsTried s seat event c → AreInPhase s.sessions s.waiting s.running → c.changed ≡ false
    → reply_of c.state c.answer ≡ reply.Refused r → IsRefused s seat event r c
refused-still s seat event r _ (stays answer still) h plain e =
    refused-quiet s s seat event r answer still
    (λ x found live. told-live s x.number h (ap is_idle (phase_of-found x.number s.sessions x found) ∙ live)) e
refused-still s seat event r _ (changes c is loud) h plain e = absurd (false≢true (sym plain ∙ loud))

refused-settled : (s : State) (seat : ℕ) (event : Event) (r : Refusal) (c : Change) → IsTried s seat event c → AreInPhase c.state.sessions c.state.waiting c.state.running
    → reply_of (settled c.state) c.answer ≡ reply.Refused r → IsRefused s seat event r c
refused-settled s seat event r _ (stays answer still) h e =
    refused-quiet s (settled s) seat event r answer still (λ x found live. told-settled s x.number x h found live) e
refused-settled s seat event r _ (changes c is loud) h e =
    absurd (refused-change s (settled c.state) seat event r c is (λ x found live. told-settled c.state x.number x h found live) e)

-- it leaves the state as it was, but for the deadlines
abbrev LeftRefused : State → ℕ → ℕ → Event → Refusal → Outcome → Type 0
LeftRefused s seat at event r o = (change (found_at s at) seat event ≡ Err r) × (o.state ≡ left_refused s seat at event r)

enters-turn : (s : State) (seat at : ℕ) (event : Event) (r : Refusal) (c : Change) → IsRefused (found_at s at) seat event r c → (has_due s at || c.changed) ≡ true
    → LeftRefused s seat at event r (entered seat event (settled c.state) c.answer)
enters-turn s seat at event r c h settles =
    let t = found_at s at in
    let due : has_due s at ≡ true = or-false (has_due s at) (ap (λ (d : Change). has_due s at || d.changed) (sym h.is) ∙ settles) in
    let clock : (settled t).clock ≡ max s.clock at = (rest-settled t).clock ∙ (rest-due (moved_to s at)).clock in (
      h.refused,
      ap (λ (d : Change). (entered seat event (settled d.state) d.answer).state) h.is
          ∙ ap (λ k. recorded (settled t) (noted seat k event (reply.Refused r))) clock
          ∙ sym (ap (λ b. cond b (recorded (settled t) (noted seat (max s.clock at) event (reply.Refused r))) s) due),
    )

still-turn : (s : State) (seat at : ℕ) (event : Event) (r : Refusal) (c : Change) → IsRefused (found_at s at) seat event r c → (has_due s at || c.changed) ≡ false
    → LeftRefused s seat at event r (quietly s (reply_of c.state c.answer))
still-turn s seat at event r c h still =
    let none : has_due s at ≡ false = or_left_false (has_due s at) c.changed still in (
      h.refused,
      sym (ap (λ b. cond b (recorded (settled (found_at s at)) (noted seat (max s.clock at) event (reply.Refused r))) s) none),
    )

pub refused-step : (s : State) (seat at : ℕ) (event : Event) (r : Refusal) → IsHealthy s → IsFormed event → (step s seat at event).reply ≡ reply.Refused r
    → LeftRefused s seat at event r (step s seat at event)
refused-step s seat at event r h formed =
    let t = found_at s at in
    let c = attempted t seat event in
    let is = tried-is t seat event in
    outcome-turn (λ o. o.reply ≡ reply.Refused r → LeftRefused s seat at event r o) s seat event c (has_due s at || c.changed)
    (λ settles e. enters-turn s seat at event r c (refused-settled t seat event r c is (unsettled-tried s seat at event c is formed h settles).in_phase e) settles)
    (λ still e. still-turn s seat at event r c (refused-still t seat event r c is (found-facts s at h).in_phase (or_right_false (has_due s at) c.changed still) e) still)

-- and each refused event is answered so
pub replies-refused : (s : State) (seat at : ℕ) (event : Event) (r : Refusal) → change (found_at s at) seat event ≡ Err r → (step s seat at event).reply ≡ reply.Refused r
replies-refused s seat at event r is =
    let t = found_at s at in
    let c = attempted t seat event in
    let tries : c ≡ quiet t (Says (reply.Refused r)) = ap (tried t) is in
    outcome-turn (λ o. o.reply ≡ reply.Refused r) s seat event c (has_due s at || c.changed)
    (λ settles. ap (λ (d : Change). reply_of (settled d.state) d.answer) tries)
    (λ still. ap (λ (d : Change). reply_of d.state d.answer) tries)
