-- A query that is submitted to an idle host, and not refused, is admitted at once.
use Rattle.std.proofs.Common.{◌≡◌, ℕ, ◌+◌, ◌-◌, Bool, true, false, ◌||◌, cond, eqb, List, [], Some, None, Option, refl, sym, ap, ◌∙◌, subst, arith, min, max}
use Rattle.std.specs.Prelude.{option_map, take_while, not}
use Rattle.std.specs.List.{find}
use Rattle.std.proofs.lemmas.Bool.{eq-eqb, false≢true}
use Rattle.rm_base.specs.declared.event.Event.TheVariants.{Submit}
use Rattle.rm_base.specs.declared.refusal.Refusal.{Refusal}
use Rattle.rm_base.specs.declared.refusal.Refusal.TheVariants as refusal
use Rattle.rm_base.specs.declared.reply.Reply.{Reply}
use Rattle.rm_base.specs.declared.reply.Reply.TheVariants as reply
use Rattle.rm_base.specs.declared.name.Name.{Name}
use Rattle.rm_base.specs.Name.{same_name, general}
use Rattle.rm_base.specs.Ranges.{passes_if_set}
use Rattle.rm_rules.specs.declared.state.Holding.{Holding}
use Rattle.rm_rules.specs.declared.state.Phase.TheVariants as phase
use Rattle.rm_rules.specs.declared.state.Session.{Session}
use Rattle.rm_rules.specs.declared.state.Runner.{Runner}
use Rattle.rm_rules.specs.Definitions.{pool_row}
use Rattle.rm_rules.specs.Refusals.{refused_if}
use Rattle.rm_rules.specs.Ask.{too_large}
use Rattle.rm_rules.specs.State.{State, session_called, session_of, session_pool, with_phase, runner_of}
use Rattle.rm_rules.specs.Holdings.{Holdings, holdings_of, holdings, holding}
use Rattle.rm_rules.specs.Accounting.{own_of, used, account_behind}
use Rattle.rm_rules.specs.Admission.{started}
use Rattle.rm_rules.specs.Deadlines.{first_due, is_due}
use Rattle.rm_rules.specs.Settle.{settled}
use Rattle.rm_rules.specs.Settled.{IsSettled}
use Rattle.rm_rules.specs.Sound.{has_pool}
use Rattle.rm_rules.specs.Change.{Change, new_waiter, submitted}
use Rattle.rm_rules.specs.Answers.{told, told_in_phase, told_running, reply_of}
use Rattle.rm_rules.specs.Step.{moved_to, has_due, found_at, attempted, step}
use Rattle.rm_rules.specs.Healthy.{IsHealthy}
use Rattle.rm_rules.specs.Grants.{IsAdmittedAtOnce}
use Rattle.rm_rules.proofs.Taken.{all_found, or_right_false}
use Rattle.rm_rules.proofs.Known.{session_pool-known}
use Rattle.rm_rules.proofs.Phases.{phased, called-with_same}
use Rattle.rm_rules.proofs.Settling.{none-due}
use Rattle.rm_rules.proofs.Changing.{IsTried, stays, changes, refuses, submits, MaySubmit, session_of-found, tried-is}
use Rattle.rm_rules.proofs.Alone.{RunsAlone, runs-alone}
use Rattle.rm_rules.proofs.Stepping.{outcome-turn}

-- an account is its query's grant
whole-turn : (bytes part : ℕ) (b : Bool) → cond b bytes (min bytes part) + (bytes - cond b bytes (min bytes part)) ≡ bytes
whole-turn bytes part true = omega arith
whole-turn bytes part false = omega arith

account-whole : (h : Holdings) (before : List Holding) (g : Holding) → (account_behind h before g).own + (account_behind h before g).borrowed ≡ g.bytes
account-whole h before g = whole-turn g.bytes (own_of h g.pool - used g.pool before) (same_name g.pool general)

-- the session of the query runs, and is told of it
told-alone : (m t : State) (x : Session) (pool : Name) (floor : ℕ) → session_called m.sessions x.number ≡ Some x → RunsAlone m x pool floor t
    → (let r = started m (new_waiter m x pool floor) in
    let account = account_behind (holdings_of t) (holdings (take_while (λ y. not (eqb y.session x.number)) t.running)) (holding r) in
    told t x.number ≡ reply.Admitted r.query r.pool r.grant account.own account.borrowed)
told-alone m t x pool floor found alone =
    let n = x.number in
    let r = started m (new_waiter m x pool floor) in
    let waiting_then = with_phase n phase.Waiting m.sessions in
    let called : session_called t.sessions n ≡ Some (phased phase.Running (phased phase.Waiting x)) =
    ap (λ l. session_called l n) alone.sessions ∙ called-with_same n phase.Running waiting_then
    ∙ ap (option_map (phased phase.Running)) (called-with_same n phase.Waiting m.sessions ∙ ap (option_map (phased phase.Waiting)) found) in
    let runs : runner_of t.running n ≡ Some r = ap (λ l. runner_of l n) alone.running ∙ ap (λ b. cond b (Some r) None) (eq-eqb n n refl) in
    ap (λ (o : Option Session). elim o [ Some y ↦ told_in_phase t n y.phase | None ↦ reply.Refused refusal.NoSuchSession ]) called ∙ ap (told_running t n) runs

-- the event, where it is not refused
abbrev Admits : State → ℕ → ℕ → ℕ → Reply → Type 0
Admits s seat session floor answer = ((r : Refusal) → answer ≡ reply.Refused r → ⊥) → IsAdmittedAtOnce s seat session floor answer

submits-alone : (s : State) (at seat session floor : ℕ) (x : Session) → IsHealthy s → s.running ≡ [] → s.waiting ≡ [] → session_of s seat session ≡ Some x
    → MaySubmit (moved_to s at) x (session_pool s.definitions x) floor
    → IsAdmittedAtOnce s seat session floor (told (settled (submitted (moved_to s at) x (session_pool s.definitions x) floor).state) x.number)
submits-alone s at seat session floor x h idle nobody found may =
    let m = moved_to s at in
    let d = s.definitions in
    let pool = session_pool d x in
    let there = session_of-found s seat session x found in
    let chosen = all_found (λ (z : Session). passes_if_set (has_pool d) z.pool) (λ z. eqb z.number x.number) s.sessions x h.there.chosen there in
    let t = settled (submitted m x pool floor).state in
    let w = new_waiter m x pool floor in
    let alone =
    runs-alone m x pool floor h.sound h.sized h.there h.covered.held (session_pool-known d x h.sound chosen) idle nobody
    (ap (λ b. refused_if b (too_large d (pool_row d pool) x.user floor)) may.small) in
    let before = holdings (take_while (λ (y : Runner). not (eqb y.session x.number)) t.running) in
    let account = account_behind (holdings_of t) before (holding (started m w)) in
    record {
      submitter = x;
      open_session = found;
      own = account.own;
      borrowed = account.borrowed;
      whole = account-whole (holdings_of t) before (holding (started m w));
      reply = told-alone m t x pool floor there alone;
    }

-- what is tried there, and what it replies after settling and without
settled-submits : (s : State) (at seat session floor : ℕ) (c : Change) → IsTried (moved_to s at) seat (Submit session floor) c → IsHealthy s → s.running ≡ [] → s.waiting ≡ []
    → Admits s seat session floor (reply_of (settled c.state) c.answer)
settled-submits s at seat session floor _ (stays _ (refuses _ r is)) h idle nobody lets_in = absurd (lets_in r refl)
settled-submits s at seat session floor _ (changes _ (submits _ _ x found may) loud) h idle nobody lets_in = submits-alone s at seat session floor x h idle nobody found may

still-submits : (s : State) (at seat session floor : ℕ) (c : Change) → IsTried (moved_to s at) seat (Submit session floor) c → c.changed ≡ false
    → Admits s seat session floor (reply_of c.state c.answer)
still-submits s at seat session floor _ (stays _ (refuses _ r is)) plain lets_in = absurd (lets_in r refl)
still-submits s at seat session floor _ (changes c is loud) plain lets_in = absurd (false≢true (sym plain ∙ loud))

pub submit-step : (s : State) (seat at session floor : ℕ) → IsHealthy s → IsSettled s → s.running ≡ [] → Admits s seat session floor (step s seat at (Submit session floor)).reply
submit-step s seat at session floor h settles idle =
    let event = Submit session floor in
    let nobody = settles.idle idle in
    let none_due : first_due (moved_to s at) ≡ None = ap (find (is_due s.definitions (max s.clock at))) nobody in
    let found : found_at s at ≡ moved_to s at = none-due (moved_to s at) none_due in
    let c = attempted (found_at s at) seat event in
    let is : IsTried (moved_to s at) seat event c = subst (λ (t : State). IsTried t seat event c) found (tried-is (found_at s at) seat event) in
    outcome-turn (λ o. Admits s seat session floor o.reply) s seat event c (has_due s at || c.changed)
    (λ enters. settled-submits s at seat session floor c is h idle nobody)
    (λ still. still-submits s at seat session floor c is (or_right_false (has_due s at) c.changed still))
