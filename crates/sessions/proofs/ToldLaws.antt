-- What a session is told of its query.
use Rattle.std.proofs.Common.{◌≡◌, ℕ, Bool, true, false, ◌||◌, Option, Some, None, Result, Ok, Err, refl, sym, ap, ◌∙◌, subst}
use Rattle.std.proofs.lemmas.Bool.{false≢true}
use Rattle.rm_base.specs.declared.event.Event.{Event}
use Rattle.rm_base.specs.declared.event.Event.TheVariants.{Define, Open, SetPool, SetCap, Submit, Poll, Check, GiveWay, Finish, Cancel, Close}
use Rattle.rm_base.specs.declared.name.Name.{Name}
use Rattle.rm_base.specs.declared.refusal.Refusal.{Refusal}
use Rattle.rm_base.specs.declared.refusal.Refusal.TheVariants as refusal
use Rattle.rm_base.specs.declared.reply.Reply.{Reply}
use Rattle.rm_base.specs.declared.reply.Reply.TheVariants as reply
use Rattle.rm_rules.specs.declared.answer.Answer.TheVariants as answer
use Rattle.rm_rules.specs.declared.state.Phase.{Phase}
use Rattle.rm_rules.specs.declared.state.Phase.TheVariants as phase
use Rattle.rm_rules.specs.declared.state.Runner.{Runner}
use Rattle.rm_rules.specs.declared.state.Session.{Session}
use Rattle.rm_rules.specs.declared.state.Waiter.{Waiter}
use Rattle.rm_rules.specs.State.{State, session_called, session_of, is_idle, is_running, runner_of, waiter_of}
use Rattle.rm_rules.specs.Settle.{settled}
use Rattle.rm_rules.specs.Refusals.{refused_if, unless_refused}
use Rattle.rm_rules.specs.Change.{Change, quiet, polled, polling, change, tried}
use Rattle.rm_rules.specs.Answers.{told, told_in_phase, told_running, told_waiting, reply_of}
use Rattle.rm_rules.specs.Step.{entered, has_due, found_at, attempted, step}
use Rattle.rm_rules.specs.Grants.{Run, run_of, run_by}
use Rattle.rm_rules.specs.Healthy.{AreInPhase, IsHealthy}
use Rattle.rm_rules.proofs.Grants.{less-found}
use Rattle.rm_rules.proofs.Changing.{IsTried, stays, changes, refuses, repeats, caps_again, judges, stops_again, tells, defines, drops, opens, chooses, caps, submits, collects, moves_on, asks, gives_way, finishes, withdraws, stops, closes, session_of-is, tried-is}
use Rattle.rm_rules.proofs.Stepping.{found-facts, outcome-turn}
use Rattle.rm_rules.proofs.Laws.{healthy-step}
use Rattle.rm_rules.proofs.Runs.{run-is, run-found, runs-open, owned-opened, owned-found_at, runs-on}
use Rattle.sessions.specs.Session.{TellsQuery, Admits, Waits, Ends, Refuses}

-- what is told of a query, as the state stands
waiting-tells : (s : State) (n : ℕ) (o : Option Waiter) → TellsQuery (told_waiting s n o)
waiting-tells s n None = Refuses refusal.NotLive
waiting-tells s n (Some w) = Waits w.query _

running-tells : (s : State) (n : ℕ) (o : Option Runner) → TellsQuery (told_running s n o)
running-tells s n None = Refuses refusal.NotLive
running-tells s n (Some r) = Admits r.query r.pool r.grant _ _

phase-tells : (s : State) (n : ℕ) (p : Phase) → TellsQuery (told_in_phase s n p)
phase-tells s n phase.Idle = Refuses refusal.NotLive
phase-tells s n phase.Waiting = waiting-tells s n (waiter_of s.waiting n)
phase-tells s n phase.Running = running-tells s n (runner_of s.running n)
phase-tells s n (phase.Ended end) = Ends end

abbrev told_to : State → ℕ → Option Session → Reply
told_to s n o = elim o [ Some x ↦ told_in_phase s n x.phase | None ↦ reply.Refused refusal.NoSuchSession ]

session-tells : (s : State) (n : ℕ) (o : Option Session) → TellsQuery (told_to s n o)
session-tells s n None = Refuses refusal.NoSuchSession
session-tells s n (Some x) = phase-tells s n x.phase

-- whether an event asks for a query
abbrev pub is_asking : Event → Bool
is_asking (Define statement) = false
is_asking (Open user) = false
is_asking (SetPool session pool) = false
is_asking (SetCap session cap) = false
is_asking (Submit session floor) = true
is_asking (Poll session) = true
is_asking (Check session) = false
is_asking (GiveWay session) = true
is_asking (Finish session) = false
is_asking (Cancel by target) = false
is_asking (Close session) = false

tried-tells : (s u : State) (seat : ℕ) (event : Event) (c : Change) → IsTried s seat event c → is_asking event ≡ true → TellsQuery (reply_of u c.answer)
tried-tells s u seat _ _ (stays _ (refuses event r is)) for = Refuses r
tried-tells s u seat _ _ (stays _ (repeats n pool x found same)) for = absurd (false≢true for)
tried-tells s u seat _ _ (stays _ (caps_again n cap x found same)) for = absurd (false≢true for)
tried-tells s u seat _ _ (stays _ (judges n x r answer is says)) for = absurd (false≢true for)
tried-tells s u seat _ _ (stays _ (stops_again by target x y r may runs already)) for = absurd (false≢true for)
tried-tells s u seat _ _ (stays _ (tells n x found active)) for = session-tells u x.number (session_called u.sessions x.number)
tried-tells s u seat _ _ (changes _ (defines statement new none accepts) loud) for = absurd (false≢true for)
tried-tells s u seat _ _ (changes _ (drops pool new accepts) loud) for = absurd (false≢true for)
tried-tells s u seat _ _ (changes _ (opens user may) loud) for = absurd (false≢true for)
tried-tells s u seat _ _ (changes _ (chooses n pool x found may differs) loud) for = absurd (false≢true for)
tried-tells s u seat _ _ (changes _ (caps n cap x found room differs) loud) for = absurd (false≢true for)
tried-tells s u seat _ _ (changes _ (moves_on n x r pool is taken) loud) for = absurd (false≢true for)
tried-tells s u seat _ _ (changes _ (asks n x r pool is) loud) for = absurd (false≢true for)
tried-tells s u seat _ _ (changes _ (gives_way n x r pool found runs leaves) loud) for = session-tells u r.session (session_called u.sessions r.session)
tried-tells s u seat _ _ (changes _ (withdraws by target x y w may waits) loud) for = absurd (false≢true for)
tried-tells s u seat _ _ (changes _ (stops by target x y r may runs first) loud) for = absurd (false≢true for)
tried-tells s u seat _ _ (changes _ (submits n floor x found may) loud) for = session-tells u x.number (session_called u.sessions x.number)
tried-tells s u seat _ _ (changes _ (collects n x end found ended) loud) for = Ends end
tried-tells s u seat _ _ (changes _ (finishes n x found runs) loud) for = absurd (false≢true for)
tried-tells s u seat _ _ (changes _ (closes n x found rests) loud) for = absurd (false≢true for)

-- so the reply to Submit, to Poll and to GiveWay tells of a query
pub asking-tells : (s : State) (seat at : ℕ) (event : Event) → is_asking event ≡ true → TellsQuery (step s seat at event).reply
asking-tells s seat at event for =
    let t = found_at s at in
    let c = attempted t seat event in
    let is = tried-is t seat event in
    outcome-turn (λ o. TellsQuery o.reply) s seat event c (has_due s at || c.changed)
    (λ settles. tried-tells t (settled c.state) seat event c is for)
    (λ still. tried-tells t c.state seat event c is for)

-- a query that runs is told with its grant
pub record IsGiven (run : Run) (r : Reply) : Type 0 where
  pub pool : Name
  pub own : ℕ
  pub borrowed : ℕ
  pub is : r ≡ reply.Admitted run.query pool run.grant own borrowed

pub running-phase : (p : Phase) → is_running p ≡ true → p ≡ phase.Running
running-phase phase.Idle h = absurd (false≢true h)
running-phase phase.Waiting h = absurd (false≢true h)
running-phase phase.Running h = refl
running-phase (phase.Ended end) h = absurd (false≢true h)

runner-given : (s : State) (n : ℕ) (r : Runner) → IsGiven (run_by r) (told_running s n (Some r))
runner-given s n r = record { pool = r.pool; own = _; borrowed = _; is = refl }

told-given : (s : State) (seat n : ℕ) (run : Run) → AreInPhase s.sessions s.waiting s.running → run_of s seat n ≡ Some run → IsGiven run (told s n)
told-given s seat n run in_phase is =
    let was = run-is s seat n run is in
    let there = runs-open s n seat was.runner in_phase (owned-opened s seat n was.opener was.open_session) was.runs in
    let tells_it : told s n ≡ told_running s n (Some was.runner) =
    ap (told_to s n) (session_of-is s seat n there.0 there.1).called ∙ ap (told_in_phase s n) (running-phase there.0.phase there.2) ∙ ap (told_running s n) was.runs in
    subst (λ (q : Run). IsGiven q (told s n)) was.is (subst (IsGiven (run_by was.runner)) (sym tells_it) (runner-given s n was.runner))

-- by Poll too
abbrev pub done_for : (Session → Result Change Refusal) → Option Session → Result Change Refusal
done_for act o = elim o [ Some x ↦ act x | None ↦ Err refusal.NoSuchSession ]

pub poll-quiet : (s : State) (seat n : ℕ) (x : Session) → session_of s seat n ≡ Some x → is_running x.phase ≡ true → attempted s seat (Poll n) ≡ quiet s (answer.Tells n)
poll-quiet s seat n x found runs =
    let is = running-phase x.phase runs in
    let ok : change s seat (Poll n) ≡ Ok (quiet s (answer.Tells x.number)) =
    ap (done_for (polling s)) found ∙ ap (λ p. unless_refused (refused_if (is_idle p) refusal.NotLive) (polled s x p)) is in
    ap (tried s) ok ∙ ap (λ k. quiet s (answer.Tells k)) (session_of-is s seat n x found).number

pub poll-given : (s : State) (seat at n : ℕ) (run : Run) → IsHealthy s → run_of s seat n ≡ Some run → IsGiven run (step s seat at (Poll n)).reply
poll-given s seat at n run healthy is =
    let t = found_at s at in
    let event : Event = Poll n in
    let c = attempted t seat event in
    let was = run-is s seat n run is in
    let runs : runner_of t.running n ≡ Some was.runner = ap (λ l. runner_of l n) (less-found s at).running ∙ was.runs in
    let there = runs-open t n seat was.runner (found-facts s at healthy).in_phase (owned-found_at s at n seat (owned-opened s seat n was.opener was.open_session)) runs in
    let asks_it : c ≡ quiet t (answer.Tells n) = poll-quiet t seat n there.0 there.1 there.2 in
    let then = healthy-step s seat at event tt healthy in
    outcome-turn (λ o. AreInPhase o.state.sessions o.state.waiting o.state.running → run_of o.state seat n ≡ Some run → IsGiven run o.reply) s seat event c (has_due s at || c.changed)
    (λ settles. subst (λ (d : Change). let o = entered seat event (settled d.state) d.answer in AreInPhase o.state.sessions o.state.waiting o.state.running → run_of o.state seat n ≡ Some run → IsGiven run o.reply)
    (sym asks_it) (told-given (settled t) seat n run))
    (λ still in_phase running. subst (λ (d : Change). IsGiven run (reply_of d.state d.answer)) (sym asks_it)
    (told-given t seat n run (found-facts s at healthy).in_phase (run-found t seat n there.0 was.runner there.1 runs ∙ ap (λ q. Some q) was.is)))
    then.in_phase (runs-on s seat at seat n event run healthy tt is (λ e. cc) (λ e. cc))
