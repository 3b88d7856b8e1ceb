-- What an answer and its entry keep.
use Rattle.std.proofs.Common.{◌≡◌, ℕ, ◌+◌, ◌≤◌, Bool, true, false, not, cond, [], ◌∷◌, ◌++◌, Some, None, Option, refl, ap, arith}
use Rattle.std.proofs.lemmas.List.Sums.{sum_by_push}
use Rattle.std.proofs.lemmas.List.{length_push}
use Rattle.rm_base.specs.declared.entry.Entry.{Entry}
use Rattle.rm_base.specs.declared.limits.TheConstants.{ENTRIES_BEYOND}
use Rattle.rm_base.specs.declared.refusal.Refusal.TheVariants as refusal
use Rattle.rm_base.specs.declared.reply.Reply.TheVariants as reply
use Rattle.rm_rules.specs.declared.answer.Answer.{Answer}
use Rattle.rm_rules.specs.declared.answer.Answer.TheVariants.{Says, Tells, Collects}
use Rattle.rm_rules.specs.declared.state.Phase.{Phase}
use Rattle.rm_rules.specs.declared.state.Phase.TheVariants as phase
use Rattle.rm_rules.specs.declared.state.Session.{Session}
use Rattle.rm_rules.specs.declared.state.Waiter.{Waiter}
use Rattle.rm_rules.specs.declared.state.Runner.{Runner}
use Rattle.rm_rules.specs.State.{State, session_called, phase_of, with_phase, is_ended, is_defined, is_definition, counted_entries, runner_of, waiter_of}
use Rattle.rm_rules.specs.Answers.{is_defining, told, told_in_phase, told_running, told_waiting, reply_of, answered}
use Rattle.rm_rules.specs.Step.{recorded}
use Rattle.rm_rules.specs.Owed.{owed}
use Rattle.rm_rules.specs.Healthy.{HasRoom, IsHealthyWith, IsHealthy, counted_for, defining_for}
use Rattle.rm_rules.proofs.Phases.{opened-with}
use Rattle.rm_rules.proofs.Moving.{room-owed}
use Rattle.rm_rules.proofs.Keeping.{in_phase-collected, there-collected, owed-collected}

-- the session goes over to idle, where its query has ended
healthy-idle : (entries statements : ℕ) (s : State) (n : ℕ) → is_ended (phase_of s.sessions n) ≡ true → IsHealthyWith entries statements s
    → (let t : State = record s { sessions = with_phase n phase.Idle s.sessions } in IsHealthyWith entries statements t)
healthy-idle entries statements s n ended h = record {
  sound = h.sound;
  sized = h.sized;
  there = there-collected s.definitions n s.sessions s.waiting s.running ended h.there;
  covered = h.covered;
  in_phase = in_phase-collected n s.sessions s.waiting s.running ended h.in_phase;
  opened = opened-with s.last_session n phase.Idle s.sessions h.opened;
  numbered = h.numbered;
  timed = h.timed;
  room =
      room-owed entries entries statements (owed s.sessions s.waiting s.running) (owed (with_phase n phase.Idle s.sessions) s.waiting s.running)
      s.journal s.room s.definitions.changes s.last_session s.last_query (omega arith) (omega (arith, owed-collected n s.sessions s.waiting s.running ended)) h.room;
}

collects-turn : (entries statements : ℕ) (s : State) (n : ℕ) (b : Bool) → is_ended (phase_of s.sessions n) ≡ b → IsHealthyWith entries statements s
    → (let t : State = record s { sessions = cond b (with_phase n phase.Idle s.sessions) s.sessions } in IsHealthyWith entries statements t)
collects-turn entries statements s n true ended h = healthy-idle entries statements s n ended h
collects-turn entries statements s n false ended h = h

pub kept-answered : (entries statements : ℕ) (s : State) (answer : Answer) → IsHealthyWith entries statements s → IsHealthyWith entries statements (answered s answer)
kept-answered entries statements s (Says reply) h = h
kept-answered entries statements s (Tells session) h = h
kept-answered entries statements s (Collects session) h = collects-turn entries statements s session (is_ended (phase_of s.sessions session)) refl h

-- an answer touches the sessions alone
pub record LeavesBytes (s t : State) : Type 0 where
  pub beside : t ≡ (let u : State = record s { sessions = t.sessions } in u)

pub beside-answered : (s : State) (answer : Answer) → LeavesBytes s (answered s answer)
beside-answered s (Says reply) = record { beside = refl }
beside-answered s (Tells session) = record { beside = refl }
beside-answered s (Collects session) = record { beside = refl }

-- what a session is told is no acceptance of a statement
told_running-plain : (s : State) (n : ℕ) (o : Option Runner) → is_defined (told_running s n o) ≡ false
told_running-plain s n None = refl
told_running-plain s n (Some r) = refl

told_waiting-plain : (s : State) (n : ℕ) (o : Option Waiter) → is_defined (told_waiting s n o) ≡ false
told_waiting-plain s n None = refl
told_waiting-plain s n (Some w) = refl

told_in_phase-plain : (s : State) (n : ℕ) (p : Phase) → is_defined (told_in_phase s n p) ≡ false
told_in_phase-plain s n phase.Idle = refl
told_in_phase-plain s n phase.Waiting = told_waiting-plain s n (waiter_of s.waiting n)
told_in_phase-plain s n phase.Running = told_running-plain s n (runner_of s.running n)
told_in_phase-plain s n (phase.Ended end) = refl

told-plain : (s : State) (n : ℕ) → is_defined (told s n) ≡ false
told-plain s n = turn (session_called s.sessions n) where
  turn : (o : Option Session) → is_defined (elim o [ Some x ↦ told_in_phase s n x.phase | None ↦ reply.Refused refusal.NoSuchSession ]) ≡ false
  turn (Some x) = told_in_phase-plain s n x.phase
  turn None = refl

-- so an entry is one of a statement just where the answer says so
pub answer-as : (t : State) (answer : Answer) → is_defined (reply_of t answer) ≡ is_defining answer
answer-as t (Says reply) = refl
answer-as t (Tells session) = told-plain t session
answer-as t (Collects session) = told-plain t session

-- a state with one entry more
counted-more : (s : State) (e : Entry) (b : Bool) → is_definition e ≡ b → counted_entries (s.journal ++ e ∷ []) ≡ counted_entries s.journal + cond (not b) 1 0
counted-more s e b is = omega (arith, sum_by_push (λ (x : Entry). cond (not (is_definition x)) 1 0) s.journal e, ap {B = ℕ} (λ c. cond (not c) 1 0) is)

room-turn : (s : State) (e : Entry) (owes : ℕ) (b : Bool) → is_definition e ≡ b
    → HasRoom (cond b 0 1) (cond b 1 0) owes s.journal s.room s.definitions.changes s.last_session s.last_query
    → HasRoom 0 0 owes (s.journal ++ e ∷ []) s.room s.definitions.changes s.last_session s.last_query
room-turn s e owes true is h =
    let more = counted-more s e true is in
    record {
      kept = omega (arith, h.kept, more);
      defined = omega (arith, h.defined, more, length_push s.journal e);
      sessions = omega (arith, h.sessions, more);
      queries = omega (arith, h.queries, more);
    }
room-turn s e owes false is h =
    let more = counted-more s e false is in
    record {
      kept = omega (arith, h.kept, more);
      defined = omega (arith, h.defined, more, length_push s.journal e);
      sessions = omega (arith, h.sessions, more);
      queries = omega (arith, h.queries, more);
    }

pub kept-recorded : (s : State) (e : Entry) (answer : Answer) → is_definition e ≡ is_defining answer → IsHealthyWith (counted_for answer) (defining_for answer) s
    → IsHealthy (recorded s e)
kept-recorded s e answer is h = record {
  sound = h.sound;
  sized = h.sized;
  there = h.there;
  covered = h.covered;
  in_phase = h.in_phase;
  opened = h.opened;
  numbered = h.numbered;
  timed = h.timed;
  room = room-turn s e (owed s.sessions s.waiting s.running) (is_defining answer) is h.room;
}

-- the numbers last given are within what the journal may hold
pub numbers-fit : (s : State) → IsHealthy s → (s.last_session ≤ s.room + ENTRIES_BEYOND) × (s.last_query ≤ s.room + ENTRIES_BEYOND)
numbers-fit s h = (omega (arith, h.room.sessions, h.room.kept), omega (arith, h.room.queries, h.room.kept))
