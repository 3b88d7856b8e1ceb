-- No query has run for longer than the clock says that it may have, and none began after it.
use Rattle.std.proofs.Common.{◌≡◌, ℕ, ◌≤◌, true, leb, eqb, List, Some, refl, subst, arith}
use Rattle.std.specs.List.{list_all}
use Rattle.std.proofs.lemmas.Bool.Decides.{nat_tests}
use Rattle.rm_base.specs.Ranges.{passes_if_set}
use Rattle.rm_rules.specs.declared.state.Phase.{Phase}
use Rattle.rm_rules.specs.declared.state.Session.{Session}
use Rattle.rm_rules.specs.declared.state.Waiter.{Waiter}
use Rattle.rm_rules.specs.declared.state.Runner.{Runner}
use Rattle.rm_rules.specs.State.{State, without_waiter, runner_of}
use Rattle.rm_rules.specs.Admission.{admitted, started}
use Rattle.rm_rules.specs.Target.{running_time}
use Rattle.rm_rules.specs.Healthy.{ran_by, began_by, was_asked, AreTimed}
use Rattle.rm_rules.proofs.Taken.{and_left, and_right, and_both, all_wider, all_without, all_push, all_among, all_found}
use Rattle.rm_rules.proofs.Queue.{IsAmong}
use Rattle.rm_rules.proofs.Moving.{Goes}

pub within : (a b : ℕ) → leb a b ≡ true → a ≤ b
within a b h = grind (arith, nat_tests)

pub is_within : (a b : ℕ) → a ≤ b → leb a b ≡ true
is_within a b h = grind (arith, nat_tests)

-- at a later moment
later : (a b c : ℕ) → leb a b ≡ true → b ≤ c → leb a c ≡ true
later a b c h more = is_within a c (omega (arith, within a b h, more))

pub timed-later : (clock then : ℕ) (waiting : List Waiter) (running : List Runner) → clock ≤ then → AreTimed clock waiting running → AreTimed then waiting running
timed-later clock then waiting running more h = record {
  waits = all_wider (ran_by clock) (ran_by then) waiting (λ w is. later w.ran clock then is more) h.waits;
  runs = all_wider (began_by clock) (began_by then) running
      (λ r is. and_both (leb r.ran r.start) _ (and_left (leb r.ran r.start) (leb r.start clock) is) (later r.start clock then (and_right (leb r.ran r.start) (leb r.start clock) is) more)) h.runs;
  asked = h.asked;
}

-- where a query leaves the queue, and where it begins to run
pub timed-left : (clock : ℕ) (n : ℕ) (waiting : List Waiter) (running : List Runner) → AreTimed clock waiting running → AreTimed clock (without_waiter n waiting) running
timed-left clock n waiting running h = record { waits = all_without (ran_by clock) (λ w. eqb w.session n) waiting h.waits; runs = h.runs; asked = h.asked }

pub timed-admitted : (s : State) (w : Waiter) → IsAmong w s.waiting → AreTimed s.clock s.waiting s.running → AreTimed s.clock (admitted s w).waiting (admitted s w).running
timed-admitted s w among h =
    let ran : ran_by s.clock w ≡ true =
    all_among (ran_by s.clock) among.front among.rest w (subst (λ (l : List Waiter). list_all (ran_by s.clock) l ≡ true) among.split h.waits) in
    record {
      waits = all_without (ran_by s.clock) (λ x. eqb x.session w.session) s.waiting h.waits;
      runs = all_push (began_by s.clock) s.running (started s w) h.runs (and_both (leb w.ran s.clock) _ ran (is_within s.clock s.clock (omega arith)));
      asked = all_push was_asked s.running (started s w) h.asked refl;
    }

-- where a query goes over, and what comes is timed
pub timed-goes : (clock n : ℕ) (q : Phase) (sessions : List Session) (w0 w1 : List Waiter) (r0 r1 : List Runner) (g : Goes n q sessions w0 w1 r0 r1)
    → passes_if_set (ran_by clock) g.waits ≡ true → passes_if_set (began_by clock) g.runs ≡ true → passes_if_set was_asked g.runs ≡ true
    → AreTimed clock w0 r0 → AreTimed clock w1 r1
timed-goes clock n q sessions w0 w1 r0 r1 g waits runs asked h = record {
  waits = g.waiters.all (ran_by clock) h.waits waits;
  runs = g.runners.all (began_by clock) h.runs runs;
  asked = g.runners.all was_asked h.asked asked;
}

-- so no running query has run for longer than until now
pub record IsTimed (r : Runner) (clock : ℕ) : Type 0 where
  pub ran : r.ran ≤ r.start
  pub start : r.start ≤ clock
  pub running : running_time r clock ≤ clock

pub runner-timed : (clock n : ℕ) (waiting : List Waiter) (running : List Runner) (r : Runner) → AreTimed clock waiting running → runner_of running n ≡ Some r → IsTimed r clock
runner-timed clock n waiting running r h found =
    let is : began_by clock r ≡ true = all_found (began_by clock) (λ (x : Runner). eqb x.session n) running r h.runs found in
    let ran : r.ran ≤ r.start = within r.ran r.start (and_left (leb r.ran r.start) (leb r.start clock) is) in
    let start : r.start ≤ clock = within r.start clock (and_right (leb r.ran r.start) (leb r.start clock) is) in
    record { ran = ran; start = start; running = omega (arith, ran, start) }
