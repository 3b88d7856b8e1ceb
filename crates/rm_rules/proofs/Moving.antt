-- The query of a session goes over from one phase to another.
use Rattle.std.proofs.Common.{◌≡◌, ℕ, ◌+◌, ◌≤◌, Bool, true, false, cond, eqb, List, Option, refl, sym, ap, ◌∙◌, arith}
use Rattle.std.specs.Option.{is_some}
use Rattle.std.proofs.lemmas.Bool.{eqb-true}
use Rattle.rm_base.specs.Ranges.{passes_if_set}
use Rattle.rm_base.specs.declared.definitions.Definitions.{Definitions}
use Rattle.rm_base.specs.declared.entry.Entry.{Entry}
use Rattle.rm_rules.specs.declared.state.Phase.{Phase}
use Rattle.rm_rules.specs.declared.state.Session.{Session}
use Rattle.rm_rules.specs.declared.state.Waiter.{Waiter}
use Rattle.rm_rules.specs.declared.state.Runner.{Runner}
use Rattle.rm_rules.specs.State.{session_called, phase_of, with_phase, is_active, is_ended, is_waiting, is_running}
use Rattle.rm_rules.specs.Sound.{has_pool}
use Rattle.rm_rules.specs.Owed.{entries_waiting, entries_running, owed}
use Rattle.rm_rules.specs.Healthy.{AreThere, AreInPhase, AreNumbered, HasRoom, one_if}
use Rattle.rm_rules.proofs.Changed.{of_one, Turns, counts-turned}
use Rattle.rm_rules.proofs.Known.{chosen-with}
use Rattle.rm_rules.proofs.Phases.{phase_of-with, count-with, length-with, active-parts}

-- The query of the session of this number goes over to this phase. It comes into the lists of the waiting and of the
-- running queries, or leaves them, as the phase says, and nothing else changes in them.
pub record Goes (n : ℕ) (q : Phase) (sessions : List Session) (waiting waiting_then : List Waiter) (running running_then : List Runner) : Type 0 where
  pub there : is_some (session_called sessions n) ≡ true
  pub waited : Option Waiter
  pub waits : Option Waiter
  pub ran : Option Runner
  pub runs : Option Runner
  pub waited_is : is_some waited ≡ is_waiting (phase_of sessions n)
  pub waits_is : is_some waits ≡ is_waiting q
  pub ran_is : is_some ran ≡ is_running (phase_of sessions n)
  pub runs_is : is_some runs ≡ is_running q
  pub waiters : Turns (λ w. w.session) n waited waits waiting waiting_then
  pub runners : Turns (λ r. r.session) n ran runs running running_then

-- how many queries of one session there are, by its phase
count-turn : (test : Phase → Bool) (n m a c : ℕ) (had has : Bool) (q : Phase) (sessions : List Session) (b : Bool) → eqb n m ≡ b
    → had ≡ test (phase_of sessions n) → has ≡ test q → a + cond b (one_if had) 0 ≡ c + cond b (one_if has) 0
    → c ≡ one_if (test (phase_of sessions m)) → a ≡ one_if (test (cond b q (phase_of sessions m)))
count-turn test n m a c had has q sessions true e was is turned before =
    let same : one_if had ≡ one_if (test (phase_of sessions m)) = ap one_if (was ∙ ap (λ k. test (phase_of sessions k)) (eqb-true n m e)) in
    omega (arith, same, turned, before, ap one_if is)
count-turn test n m a c had has q sessions false e was is turned before = omega (arith, turned, before)

pub in_phase-goes : (n : ℕ) (q : Phase) (sessions : List Session) (w0 w1 : List Waiter) (r0 r1 : List Runner) → Goes n q sessions w0 w1 r0 r1
    → AreInPhase sessions w0 r0 → AreInPhase (with_phase n q sessions) w1 r1
in_phase-goes n q sessions w0 w1 r0 r1 g h = record {
  waits = λ m.
      count-turn is_waiting n m _ _ (is_some g.waited) (is_some g.waits) q sessions (eqb n m) refl g.waited_is g.waits_is
      (counts-turned (λ (w : Waiter). w.session) n m g.waited g.waits w0 w1 g.waiters) (h.waits m)
      ∙ sym (ap (λ p. one_if (is_waiting p)) (phase_of-with n m q sessions g.there));
  runs = λ m.
      count-turn is_running n m _ _ (is_some g.ran) (is_some g.runs) q sessions (eqb n m) refl g.ran_is g.runs_is
      (counts-turned (λ (r : Runner). r.session) n m g.ran g.runs r0 r1 g.runners) (h.runs m)
      ∙ sym (ap (λ p. one_if (is_running p)) (phase_of-with n m q sessions g.there));
  active = omega (
    arith,
    h.active,
    g.waiters.lengths,
    g.runners.lengths,
    ap one_if g.waited_is,
    ap one_if g.waits_is,
    ap one_if g.ran_is,
    ap one_if g.runs_is,
    active-parts (phase_of sessions n),
    active-parts q,
    count-with is_active n q sessions g.there,
  );
}

-- every pool is there, where that of what comes is
pub there-goes : (d : Definitions) (n : ℕ) (q : Phase) (sessions : List Session) (w0 w1 : List Waiter) (r0 r1 : List Runner) (g : Goes n q sessions w0 w1 r0 r1)
    → passes_if_set (λ w. has_pool d w.pool) g.waits ≡ true → passes_if_set (λ r. has_pool d r.pool) g.runs ≡ true
    → passes_if_set (λ r. passes_if_set (has_pool d) r.leaving) g.runs ≡ true → AreThere d sessions w0 r0 → AreThere d (with_phase n q sessions) w1 r1
there-goes d n q sessions w0 w1 r0 r1 g waits runs leaves h = record {
  runs = g.runners.all (λ r. has_pool d r.pool) h.runs runs;
  waits = g.waiters.all (λ w. has_pool d w.pool) h.waits waits;
  chosen = chosen-with d n q sessions h.chosen;
  leaves = g.runners.all (λ r. passes_if_set (has_pool d) r.leaving) h.leaves leaves;
}

-- a query keeps its number, or leaves it to nobody
pub numbered-goes : (last n : ℕ) (q : Phase) (sessions : List Session) (w0 w1 : List Waiter) (r0 r1 : List Runner) (g : Goes n q sessions w0 w1 r0 r1)
    → ((m : ℕ) → of_one (λ w. cond (eqb w.query m) 1 0) g.waits + of_one (λ r. cond (eqb r.query m) 1 0) g.runs
    ≤ of_one (λ w. cond (eqb w.query m) 1 0) g.waited + of_one (λ r. cond (eqb r.query m) 1 0) g.ran)
    → AreNumbered last w0 r0 → AreNumbered last w1 r1
numbered-goes last n q sessions w0 w1 r0 r1 g less h =
    let sums = λ (m : ℕ). g.waiters.sums (λ w. cond (eqb w.query m) 1 0) in
    let more = λ (m : ℕ). g.runners.sums (λ r. cond (eqb r.query m) 1 0) in
    record {
      once = λ m. omega (arith, sums m, more m, less m, h.once m);
      given = λ m above. omega (arith, sums m, more m, less m, h.given m above);
    }

-- what is owed then
pub owed-goes : (n : ℕ) (q : Phase) (sessions : List Session) (w0 w1 : List Waiter) (r0 r1 : List Runner) (g : Goes n q sessions w0 w1 r0 r1)
    → owed (with_phase n q sessions) w1 r1 + of_one entries_waiting g.waited + of_one entries_running g.ran + one_if (is_ended (phase_of sessions n))
    ≡ owed sessions w0 r0 + of_one entries_waiting g.waits + of_one entries_running g.runs + one_if (is_ended q)
owed-goes n q sessions w0 w1 r0 r1 g =
    omega (arith, g.waiters.sums entries_waiting, g.runners.sums entries_running, count-with is_ended n q sessions g.there, length-with n q sessions)

-- the journal has room for more entries, where so many less are owed
pub room-owed : (entries entries_then statements old new : ℕ) (journal : List Entry) (room changes last_session last_query : ℕ)
    → entries ≤ entries_then → entries_then + new ≤ entries + old
    → HasRoom entries statements old journal room changes last_session last_query
    → HasRoom entries_then statements new journal room changes last_session last_query
room-owed entries entries_then statements old new journal room changes last_session last_query more less h = record {
  kept = omega (arith, h.kept, less);
  defined = h.defined;
  sessions = omega (arith, h.sessions, more);
  queries = omega (arith, h.queries, more);
}
