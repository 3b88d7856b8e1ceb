-- What is known where a session may submit.
use Rattle.std.proofs.Common.{◌≡◌, ◌<◌, ℕ, ◌+◌, ◌||◌, Bool, true, false, cond, eqb, Option, Some, None, Result, Ok, Err, List, [], ◌∷◌, length, refl, sym, ap, ◌∙◌, subst, arith, count_by}
use Rattle.std.specs.Option.{is_some}
use Rattle.std.specs.List.{list_any}
use Rattle.std.proofs.lemmas.Bool.{eqb-true}
use Rattle.std.proofs.lemmas.List.Sums.{sum_by-cons, count_by-le-length}
use Rattle.rm_base.specs.declared.limits.TheConstants.{SESSIONS_MOST}
use Rattle.rm_base.specs.declared.name.Name.{Name}
use Rattle.rm_base.specs.declared.refusal.Refusal.{Refusal}
use Rattle.rm_rules.specs.declared.answer.Answer.TheVariants.{Collects}
use Rattle.rm_rules.specs.declared.state.Phase.{Phase}
use Rattle.rm_rules.specs.declared.state.Phase.TheVariants as phase
use Rattle.rm_rules.specs.declared.state.Session.{Session}
use Rattle.rm_rules.specs.declared.state.Waiter.{Waiter}
use Rattle.rm_rules.specs.State.{State, session_called, session_pool, with_phase, is_idle, is_active}
use Rattle.rm_rules.specs.Refusals.{unless_refused}
use Rattle.rm_rules.specs.Change.{Change, submitting_refusal, submitted, submitting_to, submitting}
use Rattle.rm_rules.specs.Healthy.{AreInPhase, AreOpened, AreNumbered, one_if}
use Rattle.rm_rules.proofs.Taken.{found_passes}
use Rattle.rm_rules.proofs.Phases.{phase_of-found, count-with, length-with}
use Rattle.pool_queue.specs.Queue.{has_query}
use Rattle.machine.specs.declared.done.Done.{Done}
use Rattle.machine.specs.Done.{change_to}

-- a session that is found is found by its own number
pub called-own : (xs : List Session) (n : ℕ) (x : Session) → session_called xs n ≡ Some x → session_called xs x.number ≡ Some x
called-own xs n x found =
    subst (λ (k : ℕ). session_called xs k ≡ Some x) (sym (eqb-true x.number n (found_passes (λ (y : Session). eqb y.number n) x xs found))) found

-- a query more may wait while a session is idle
idle-rests : (p : Phase) → is_idle p ≡ true → is_active p ≡ false
idle-rests phase.Idle idle = refl
idle-rests phase.Waiting idle = absurd (cc)
idle-rests phase.Running idle = absurd (cc)
idle-rests (phase.Ended end) idle = absurd (cc)

pub room_waiting : (s : State) (x : Session) → AreInPhase s.sessions s.waiting s.running → AreOpened s.last_session s.sessions → session_called s.sessions x.number ≡ Some x → is_idle x.phase ≡ true
    → length s.waiting < SESSIONS_MOST
room_waiting s x h opened found idle =
    let rests = ap is_active (phase_of-found x.number s.sessions x found) ∙ idle-rests x.phase idle in
    omega (
      arith,
      h.active,
      opened.few,
      count-with is_active x.number phase.Waiting s.sessions (ap (λ (o : Option Session). is_some o) found),
      ap one_if rests,
      count_by-le-length (λ (y : Session). is_active y.phase) (with_phase x.number phase.Waiting s.sessions),
      length-with x.number phase.Waiting s.sessions,
    )

-- where none is counted, none is there
none-turn : {A : Type 0} (test : A → Bool) (x : A) (xs : List A) (b : Bool) → test x ≡ b → count_by test (x ∷ xs) ≡ 0 → (count_by test xs ≡ 0 → list_any test xs ≡ false) → (b || list_any test xs) ≡ false
none-turn test x xs true e none rest = absurd (omega (arith, none, sum_by-cons (λ z. cond (test z) 1 0) x xs, ap {B = ℕ} (λ (c : Bool). cond c 1 0) e))
none-turn test x xs false e none rest = rest (omega (arith, none, sum_by-cons (λ z. cond (test z) 1 0) x xs))

pub none-any : {A : Type 0} (test : A → Bool) (xs : List A) → count_by test xs ≡ 0 → list_any test xs ≡ false
none-any test [] none = refl
none-any test (x ∷ xs) none = none-turn test x xs (test x) refl none (none-any test xs)

-- the number that comes next waits nowhere
pub next-absent : (s : State) → AreNumbered s.last_query s.waiting s.running → has_query s.waiting (s.last_query + 1) ≡ false
next-absent s h =
    let none = h.given (s.last_query + 1) (omega arith) in
    none-any (λ (w : Waiter). eqb w.query (s.last_query + 1)) s.waiting (omega (arith, none))

-- refused, or accepted
pub submit-refused : (s : State) (x : Session) (floor : ℕ) (pool : Name) (r : Refusal) → pool ≡ session_pool s.definitions x → Some r ≡ submitting_refusal s x pool floor → submitting s floor x ≡ Err r
submit-refused s x floor pool r same refused =
    ap (λ (p : Name). submitting_to s x p floor) (sym same) ∙ ap (λ (o : Option Refusal). unless_refused o (submitted s x pool floor)) (sym refused)

pub submit-accepted : (s : State) (x : Session) (floor : ℕ) (pool : Name) (t : State) (done : Done) → pool ≡ session_pool s.definitions x → (let n : Option Refusal = None in n ≡ submitting_refusal s x pool floor)
    → t ≡ (submitted s x pool floor).state → done ≡ record { answer = Collects x.number; changed = true } → submitting s floor x ≡ Ok (change_to t done)
submit-accepted s x floor pool t done same accepted state is =
    ap (λ (p : Name). submitting_to s x p floor) (sym same)
    ∙ ap (λ (o : Option Refusal). unless_refused o (submitted s x pool floor)) (sym accepted)
    ∙ ap (λ (u : State). let r : Result Change Refusal = Ok (change_to u (record { answer = Collects x.number; changed = true })) in r) (sym state)
    ∙ ap (λ (d : Done). let r : Result Change Refusal = Ok (change_to t d) in r) (sym is)
