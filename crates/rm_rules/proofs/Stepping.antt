-- What each event leaves: a healthy state, and a journal with what the event made.
use Rattle.std.proofs.Common.{◌≡◌, ℕ, Bool, true, false, ◌||◌, cond, Some, None, Option, refl, sym, arith, max}
use Rattle.std.specs.Option.{is_some}
use Rattle.std.proofs.lemmas.Bool.{false≢true}
use Rattle.rm_base.specs.declared.event.Event.{Event}
use Rattle.rm_rules.specs.declared.answer.Answer.{Answer}
use Rattle.rm_rules.specs.declared.state.Waiter.{Waiter}
use Rattle.rm_rules.specs.State.{State}
use Rattle.rm_rules.specs.Settle.{settled}
use Rattle.rm_rules.specs.Deadlines.{first_due}
use Rattle.rm_rules.specs.Change.{Change}
use Rattle.rm_rules.specs.Answers.{is_defining, reply_of, answered}
use Rattle.rm_rules.specs.Step.{Outcome, noted, entered, quietly, moved_to, has_due, found_at, attempted}
use Rattle.rm_rules.specs.Replay.{IsFormed}
use Rattle.rm_rules.specs.Healthy.{IsHealthyWith, IsUnsettledWith, IsHealthy, IsUnsettled, counted_for, defining_for}
use Rattle.rm_rules.proofs.Settling.{kept-settled, kept-without_due, kept-due-more, none-due}
use Rattle.rm_rules.proofs.Changing.{IsTried, stays, changes, quiet-plain, tried-is}
use Rattle.rm_rules.proofs.Timed.{timed-later}
use Rattle.rm_rules.proofs.Unsettled.{to_unsettled, unsettled-changed}
use Rattle.rm_rules.proofs.Answering.{kept-answered, kept-recorded, answer-as}

-- at a later moment, and after the deadlines
pub moved-facts : (s : State) (at : ℕ) → IsHealthy s → IsHealthy (moved_to s at)
moved-facts s at h = record {
  sound = h.sound;
  sized = h.sized;
  there = h.there;
  covered = h.covered;
  in_phase = h.in_phase;
  opened = h.opened;
  numbered = h.numbered;
  timed = timed-later s.clock (max s.clock at) s.waiting s.running (omega arith) h.timed;
  room = h.room;
}

pub found-facts : (s : State) (at : ℕ) → IsHealthy s → IsHealthy (found_at s at)
found-facts s at h = kept-without_due 0 0 (moved_to s at) (moved-facts s at h)

-- where a deadline has acted there is room for an entry, also where the event changes nothing
due-turn : (s : State) (at : ℕ) (o : Option Waiter) → first_due (moved_to s at) ≡ o → is_some o ≡ true → IsHealthy s → IsHealthyWith 1 0 (found_at s at)
due-turn s at None found some h = absurd (false≢true some)
due-turn s at (Some w) found some h = kept-due-more 0 0 (moved_to s at) w found (moved-facts s at h)

pub due-facts : (s : State) (at : ℕ) → has_due s at ≡ true → IsHealthy s → IsHealthyWith 1 0 (found_at s at)
due-facts s at due h = due-turn s at (first_due (moved_to s at)) refl due h

-- where none has, the event finds the state as it was
none-turn : (s : State) (at : ℕ) (o : Option Waiter) → first_due (moved_to s at) ≡ o → is_some o ≡ false → found_at s at ≡ moved_to s at
none-turn s at None is empty = none-due (moved_to s at) is
none-turn s at (Some w) is empty = absurd (false≢true (sym empty))

pub none-found : (s : State) (at : ℕ) → has_due s at ≡ false → found_at s at ≡ moved_to s at
none-found s at none = none-turn s at (first_due (moved_to s at)) refl none

stays-turn : (t : State) (answer : Answer) (b : Bool) → is_defining answer ≡ b → b ≡ false → IsHealthyWith 1 0 t → IsUnsettledWith (cond b 0 1) (cond b 1 0) t
stays-turn t answer true is plain h = absurd (false≢true (sym plain))
stays-turn t answer false is plain h = to_unsettled 1 0 t h

pub or-false : (b : Bool) → (b || false) ≡ true → b ≡ true
or-false true h = refl
or-false false h = h

-- a change that settles: it says so, or a deadline has acted
pub unsettled-tried : (s : State) (seat at : ℕ) (event : Event) (c : Change) → IsTried (found_at s at) seat event c → IsFormed event → IsHealthy s → (has_due s at || c.changed) ≡ true
    → IsUnsettled c.answer c.state
unsettled-tried s seat at event _ (stays answer still) formed h settles =
    stays-turn (found_at s at) answer (is_defining answer) refl (quiet-plain (found_at s at) seat event answer still) (due-facts s at (or-false (has_due s at) settles) h)
unsettled-tried s seat at event _ (changes c is loud) formed h settles = unsettled-changed (found_at s at) seat event c formed (found-facts s at h) is

pub tried-facts : (s : State) (seat at : ℕ) (event : Event) → IsHealthy s → IsFormed event → (has_due s at || (attempted (found_at s at) seat event).changed) ≡ true
    → IsUnsettled (attempted (found_at s at) seat event).answer (attempted (found_at s at) seat event).state
tried-facts s seat at event h formed settles =
    unsettled-tried s seat at event (attempted (found_at s at) seat event) (tried-is (found_at s at) seat event) formed h settles

-- a change that settles is answered and noted
pub kept-entered : (seat : ℕ) (event : Event) (c : Change) → IsUnsettled c.answer c.state → IsHealthy (entered seat event (settled c.state) c.answer).state
kept-entered seat event c h =
    let t = settled c.state in
    kept-recorded (answered t c.answer) (noted seat t.clock event (reply_of t c.answer)) c.answer (answer-as t c.answer)
    (kept-answered (counted_for c.answer) (defining_for c.answer) t c.answer (kept-settled (counted_for c.answer) (defining_for c.answer) c.state h))

-- what holds of both outcomes of an event holds of it
pub outcome-turn : (P : Outcome → Type 0) (s : State) (seat : ℕ) (event : Event) (c : Change) (b : Bool)
    → (b ≡ true → P (entered seat event (settled c.state) c.answer)) → (b ≡ false → P (quietly s (reply_of c.state c.answer)))
    → P (cond b (entered seat event (settled c.state) c.answer) (quietly s (reply_of c.state c.answer)))
outcome-turn P s seat event c true enters rests = enters refl
outcome-turn P s seat event c false enters rests = rests refl
