-- The session submits a query to the pool that it has chosen, while nothing runs or waits.
use Rattle.std.proofs.Common.{◌≡◌, ℕ, ◌+◌, ◌*◌, ◌<◌, ◌≤◌, Bool, true, false, not, ◌||◌, cond, ltb, eqb, List, [], ◌∷◌, ◌++◌, Some, None, Option, refl, sym, ap, ◌∙◌, subst, arith, max}
use Rattle.std.proofs.lemmas.Bool.{or_right, le-ltb}
use Rattle.rm_base.specs.declared.event.Event.TheVariants.{Submit}
use Rattle.rm_base.specs.declared.limits.TheConstants.{SCRIPT_ROOM}
use Rattle.rm_base.specs.declared.name.Name.{Name}
use Rattle.rm_base.specs.declared.refusal.Refusal.{Refusal}
use Rattle.rm_base.specs.declared.refusal.Refusal.TheVariants as refusal
use Rattle.rm_base.specs.declared.reply.Reply.{Reply}
use Rattle.rm_base.specs.declared.reply.Reply.TheVariants as reply
use Rattle.rm_base.specs.Name.{same_name, general, dbadmin}
use Rattle.rm_rules.specs.declared.answer.Answer.TheVariants.{Collects}
use Rattle.rm_rules.specs.declared.state.Phase.TheVariants as phase
use Rattle.rm_rules.specs.declared.state.Runner.{Runner}
use Rattle.rm_rules.specs.declared.state.Session.{Session}
use Rattle.rm_rules.specs.Admission.{started}
use Rattle.rm_rules.specs.Answers.{told, told_in_phase, told_running, without_end}
use Rattle.rm_rules.specs.Ask.{is_too_large, too_large}
use Rattle.rm_rules.specs.Change.{size_refusal, new_waiter, submitted, submitting_refusal, tried}
use Rattle.rm_rules.specs.Definitions.{pool_row}
use Rattle.rm_rules.specs.Healthy.{IsHealthy}
use Rattle.rm_rules.specs.Refusals.{refused_if, first_refusal, unless_refused}
use Rattle.rm_rules.specs.Settle.{settled}
use Rattle.rm_rules.specs.Sound.{has_user, has_pool}
use Rattle.rm_rules.specs.State.{State, counted_entries, session_called, runner_of}
use Rattle.rm_rules.specs.Step.{Outcome, noted, moved_to, outcome, step}
use Rattle.rm_rules.proofs.Alone.{RunsAlone, runs-alone}
use Rattle.rm_rules.proofs.Answering.{answer-as}
use Rattle.rm_rules.proofs.Settling.{LeavesRest, rest-settled}
use Rattle.workload.specs.Rested.{own_session, workload_ask, admitted_with}
use Rattle.workload.proofs.Choosing.{still, is-still, one_more_entry}

-- the first of these refuses nothing
pub passes : (o : Option Refusal) (more : List (Option Refusal)) → (let n : Option Refusal = None in o ≡ n) → first_refusal (o ∷ more) ≡ first_refusal more
passes o more none = ap (λ (x : Option Refusal). first_refusal (x ∷ more)) none

-- what a query leaves that is admitted
pub record IsBegun (pool : Name) (grant : ℕ) (s : State) (o : Outcome) : Type 0 where
  pub reply : admitted_with o.reply ≡ Some grant
  pub definitions : o.state.definitions ≡ s.definitions
  pub last_query : o.state.last_query ≡ s.last_query + 1
  pub room : o.state.room ≡ s.room
  pub runner : Runner
  pub sessions : o.state.sessions ≡ own_session (Some pool) phase.Running ∷ []
  pub running : o.state.running ≡ runner ∷ []
  pub own : runner.session ≡ 1
  pub granted : runner.grant ≡ grant
  pub runs_in : runner.pool ≡ pool
  pub waiting : o.state.waiting ≡ []
  pub journal : counted_entries o.state.journal ≤ counted_entries s.journal + 1

-- it is not refused
ask_allowed : (s : State) (pool : Name) (floor : ℕ) → has_user s.definitions dbadmin ≡ true → is_too_large s.definitions (pool_row s.definitions pool) dbadmin floor ≡ false
    → s.room ≡ SCRIPT_ROOM → counted_entries s.journal ≤ 30001
    → submitting_refusal (still s (Some pool)) (own_session (Some pool) phase.Idle) pool floor ≡ None
ask_allowed s pool floor there small room few =
    let d = s.definitions in
    let entries = counted_entries s.journal + 1 + 40 * 1 + 2 * 1 in
    let full : ltb s.room entries ≡ false = le-ltb s.room entries (omega (arith, room, few)) in
    let last = refused_if (ltb s.room entries) (refusal.JournalFull s.room) in
    let size = size_refusal d pool dbadmin floor in
    let may = refused_if (not (same_name pool general || true)) (refusal.NoUsage pool) in
    passes (refused_if (not (has_user d dbadmin)) (refusal.NoSuchUser dbadmin)) (may ∷ size ∷ last ∷ []) (ap (λ b. refused_if (not b) (refusal.NoSuchUser dbadmin)) there)
    ∙ passes may (size ∷ last ∷ []) (ap (λ b. refused_if (not b) (refusal.NoUsage pool)) (or_right (same_name pool general) true refl))
    ∙ passes size (last ∷ []) (ap (λ b. refused_if b (too_large d (pool_row d pool) dbadmin floor)) small)
    ∙ passes last [] (ap (λ b. refused_if b (refusal.JournalFull s.room)) full)

-- what the session is told once its query runs
told-running : (t : State) (pool : Name) (r : Runner) → t.sessions ≡ own_session (Some pool) phase.Running ∷ [] → t.running ≡ record r { session = 1 } ∷ []
    → admitted_with (told t 1) ≡ Some r.grant
told-running t pool r sessions running =
    ap (λ (l : List Session). let o : Option Session = session_called l 1 in
    let a : Reply = elim o [ Some y ↦ told_in_phase t 1 y.phase | None ↦ reply.Refused refusal.NoSuchSession ] in admitted_with a) sessions
    ∙ ap (λ (l : List Runner). admitted_with (told_running t 1 (runner_of l 1))) running

ask-still : (s : State) (pool : Name) (floor at : ℕ) → IsHealthy (still s (Some pool)) → has_pool s.definitions pool ≡ true
    → is_too_large s.definitions (pool_row s.definitions pool) dbadmin floor ≡ false → s.room ≡ SCRIPT_ROOM → counted_entries s.journal ≤ 30001
    → IsBegun pool (workload_ask s.definitions pool floor) s (step (still s (Some pool)) 0 at (Submit 1 floor))
ask-still s pool floor at h known small room few =
    let event = Submit 1 floor in
    let m = moved_to (still s (Some pool)) at in
    let x = own_session (Some pool) phase.Idle in
    let d = s.definitions in
    let c = submitted m x pool floor in
    let goes : step (still s (Some pool)) 0 at event ≡ outcome (still s (Some pool)) false 0 event c =
    ap (λ (o : Option Refusal). outcome (still s (Some pool)) false 0 event (tried m (unless_refused o c))) (ask_allowed m pool floor h.sound.dbadmin_there small room few) in
    let t = settled c.state in
    let alone : RunsAlone m x pool floor t =
    runs-alone m x pool floor h.sound h.sized h.there h.covered.held known refl refl (ap (λ b. refused_if b (too_large d (pool_row d pool) dbadmin floor)) small) in
    let rest = rest-settled c.state in
    let r = started m (new_waiter m x pool floor) in
    let told_so = told-running t pool r alone.sessions alone.running in
    let begun : IsBegun pool (workload_ask s.definitions pool floor) s (outcome (still s (Some pool)) false 0 event c) = record {
      reply = told_so;
      definitions = rest.definitions;
      last_query = rest.last_query;
      room = rest.room;
      runner = r;
      sessions = ap (without_end 1) alone.sessions;
      running = alone.running;
      own = refl;
      granted = refl;
      runs_in = refl;
      waiting = alone.waiting;
      journal = omega (
        arith,
        one_more_entry t.journal (noted 0 t.clock event (told t 1)) (answer-as t (Collects 1)),
        ap counted_entries rest.journal,
      );
    } in
    subst (IsBegun pool (workload_ask s.definitions pool floor) s) (sym goes) begun

pub ask-step : (s : State) (pool : Name) (floor at : ℕ) → IsHealthy s → s.sessions ≡ own_session (Some pool) phase.Idle ∷ [] → s.running ≡ [] → s.waiting ≡ []
    → has_pool s.definitions pool ≡ true → is_too_large s.definitions (pool_row s.definitions pool) dbadmin floor ≡ false → s.room ≡ SCRIPT_ROOM
    → counted_entries s.journal ≤ 30001 → IsBegun pool (workload_ask s.definitions pool floor) s (step s 0 at (Submit 1 floor))
ask-step s pool floor at h sessions running waiting known small room few =
    let same = is-still s (Some pool) sessions running waiting in
    subst (λ (u : State). IsBegun pool (workload_ask s.definitions pool floor) s (step u 0 at (Submit 1 floor))) (sym same)
    (ask-still s pool floor at (subst IsHealthy same h) known small room few)
