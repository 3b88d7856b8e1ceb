-- Close: what a session leaves that is gone.
use Rattle.std.proofs.Common.{◌≡◌, ℕ, ◌+◌, ◌≤◌, true, false, eqb, List, None, Some, refl, sym, ap, ◌∙◌, subst, arith, count_by}
use Rattle.std.specs.Prelude.{option_map}
use Rattle.std.specs.Option.{is_some}
use Rattle.std.specs.List.{find}
use Rattle.rm_base.specs.Ranges.{passes_if_set}
use Rattle.rm_rules.specs.declared.state.Phase.TheVariants as phase
use Rattle.rm_rules.specs.declared.state.Session.{Session}
use Rattle.rm_rules.specs.declared.state.Waiter.{Waiter}
use Rattle.rm_rules.specs.declared.state.Runner.{Runner}
use Rattle.rm_rules.specs.State.{State, session_called, phase_of, with_phase, without_session, without_waiter, is_active, is_ended, is_waiting, is_running}
use Rattle.rm_rules.specs.Change.{closed}
use Rattle.rm_rules.specs.Sound.{has_pool}
use Rattle.rm_rules.specs.Owed.{owed}
use Rattle.rm_rules.specs.Healthy.{AreInPhase, IsHealthyWith, IsUnsettledWith, one_if}
use Rattle.rm_rules.proofs.Taken.{length_without, all_without}
use Rattle.rm_rules.proofs.Found.{is_some-find}
use Rattle.rm_rules.proofs.Changed.{without-changed, turns-stay, turns-without}
use Rattle.rm_rules.proofs.Phases.{has_number, phased, called-with_same, phase_of-found, phase_of-drop, count-drop, opened-with, opened-drop}
use Rattle.rm_rules.proofs.Moving.{Goes, in_phase-goes, numbered-goes, owed-goes, room-owed}
use Rattle.rm_rules.proofs.Timed.{timed-left}

-- its query leaves the queue, if it has one
abbrev pub goes-closed : (n : ℕ) (sessions : List Session) (waiting : List Waiter) (running : List Runner) → is_some (session_called sessions n) ≡ true
    → is_running (phase_of sessions n) ≡ false → AreInPhase sessions waiting running
    → Goes n phase.Idle sessions waiting (without_waiter n waiting) running running
goes-closed n sessions waiting running there rests h = record {
  there = there;
  waited = find (λ (w : Waiter). eqb w.session n) waiting;
  waits = None;
  ran = None;
  runs = None;
  waited_is = is_some-find (λ (w : Waiter). eqb w.session n) waiting (is_waiting (phase_of sessions n)) (h.waits n);
  waits_is = refl;
  ran_is = sym rests;
  runs_is = refl;
  waiters = turns-without (λ (w : Waiter). w.session) n waiting;
  runners = turns-stay (λ (r : Runner). r.session) n running;
}

-- and then the session, which is idle
in_phase-drop : (n : ℕ) (x : Session) (sessions : List Session) (waiting : List Waiter) (running : List Runner) → session_called sessions n ≡ Some x → x.phase ≡ phase.Idle
    → count_by (has_number n) sessions ≤ 1 → AreInPhase sessions waiting running → AreInPhase (without_session n sessions) waiting running
in_phase-drop n x sessions waiting running found idle once h = record {
  waits = λ m. h.waits m ∙ sym (ap (λ p. one_if (is_waiting p)) (phase_of-drop n m x sessions found idle once));
  runs = λ m. h.runs m ∙ sym (ap (λ p. one_if (is_running p)) (phase_of-drop n m x sessions found idle once));
  active = h.active ∙ sym (count-drop is_active n x sessions found (ap is_active idle));
}

-- so nothing more is owed to it
owed-drop : (n : ℕ) (x : Session) (sessions : List Session) (waiting : List Waiter) (running : List Runner) → session_called sessions n ≡ Some x → x.phase ≡ phase.Idle
    → 1 + owed (without_session n sessions) waiting running ≤ owed sessions waiting running
owed-drop n x sessions waiting running found idle =
    omega (arith, count-drop is_ended n x sessions found (ap is_ended idle), length_without (has_number n) x sessions found)

pub unsettled-closed : (s : State) (x : Session) → IsHealthyWith 0 0 s → session_called s.sessions x.number ≡ Some x → is_running x.phase ≡ false
    → IsUnsettledWith 1 0 (closed s x).state
unsettled-closed s x h found is =
    let n = x.number in
    let rests : is_running (phase_of s.sessions n) ≡ false = ap is_running (phase_of-found n s.sessions x found) ∙ is in
    let idle = with_phase n phase.Idle s.sessions in
    let left = without_session n s.sessions in
    let waits = without_waiter n s.waiting in
    let goes = goes-closed n s.sessions s.waiting s.running (ap is_some found) rests h.in_phase in
    let then : session_called idle n ≡ Some (phased phase.Idle x) = called-with_same n phase.Idle s.sessions ∙ ap (option_map (phased phase.Idle)) found in
    let same : without_session n idle ≡ left = without-changed (has_number n) (phased phase.Idle) s.sessions (λ y. refl) in
    let once : count_by (has_number n) idle ≤ 1 = (opened-with s.last_session n phase.Idle s.sessions h.opened).once n in
    record {
      sound = h.sound;
      sized = h.sized;
      there = record {
        runs = h.there.runs;
        waits = goes.waiters.all (λ w. has_pool s.definitions w.pool) h.there.waits refl;
        chosen = all_without (λ y. passes_if_set (has_pool s.definitions) y.pool) (has_number n) s.sessions h.there.chosen;
        leaves = h.there.leaves;
      };
      held = h.covered.held;
      in_phase = subst (λ (l : List Session). AreInPhase l waits s.running) same
          (in_phase-drop n (phased phase.Idle x) idle waits s.running then refl once
          (in_phase-goes n phase.Idle s.sessions s.waiting waits s.running s.running goes h.in_phase));
      opened = opened-drop s.last_session n x s.sessions found h.opened;
      numbered = numbered-goes s.last_query n phase.Idle s.sessions s.waiting waits s.running s.running goes (λ m. omega arith) h.numbered;
      timed = timed-left s.clock n s.waiting s.running h.timed;
      room =
          room-owed 0 1 0 (owed s.sessions s.waiting s.running) (owed left waits s.running)
          s.journal s.room s.definitions.changes s.last_session s.last_query (omega arith)
          (omega (
            arith,
            owed-goes n phase.Idle s.sessions s.waiting waits s.running s.running goes,
            owed-drop n (phased phase.Idle x) idle waits s.running then refl,
            ap (λ (l : List Session). owed l waits s.running) same,
          ))
          h.room;
    }
