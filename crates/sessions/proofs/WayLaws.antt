-- What Check and GiveWay answer a session whose query runs.
use Rattle.std.proofs.Common.{◌≡◌, ℕ, Bool, true, false, ◌||◌, cond, eqb, Option, Some, None, Ok, Err, refl, sym, ap, ◌∙◌, subst}
use Rattle.std.specs.Option.{is_some}
use Rattle.std.proofs.lemmas.Bool.{eqb-true, eq-eqb, false≢true}
use Rattle.rm_base.specs.declared.event.Event.{Event}
use Rattle.rm_base.specs.declared.event.Event.TheVariants.{Poll, Check, GiveWay}
use Rattle.rm_base.specs.declared.name.Name.{Name}
use Rattle.rm_base.specs.declared.refusal.Refusal.{Refusal}
use Rattle.rm_base.specs.declared.refusal.Refusal.TheVariants as refusal
use Rattle.rm_base.specs.declared.reply.Reply.{Reply}
use Rattle.rm_base.specs.declared.reply.Reply.TheVariants as reply
use Rattle.rm_rules.specs.declared.answer.Answer.{Answer}
use Rattle.rm_rules.specs.declared.answer.Answer.TheVariants.{Says, Tells, Collects}
use Rattle.rm_rules.specs.declared.state.Phase.{Phase}
use Rattle.rm_rules.specs.declared.state.Phase.TheVariants as phase
use Rattle.rm_rules.specs.declared.state.Runner.{Runner}
use Rattle.rm_rules.specs.declared.state.Session.{Session}
use Rattle.rm_rules.specs.declared.state.Waiter.{Waiter}
use Rattle.rm_rules.specs.State.{State, session_called, session_of, runner_of, waiter_of, phase_of, with_phase, is_idle, is_waiting, is_running}
use Rattle.rm_rules.specs.Moving.{gave_way}
use Rattle.rm_rules.specs.Settle.{settled}
use Rattle.rm_rules.specs.Change.{Change, quiet, changing, checked, checking, giving_way, giving_way_to, change, tried}
use Rattle.rm_rules.specs.Answers.{told, told_in_phase, told_running, told_waiting, reply_of}
use Rattle.rm_rules.specs.Step.{outcome, has_due, found_at, attempted, step}
use Rattle.rm_rules.specs.Grants.{Run, run_of, is_refused}
use Rattle.rm_rules.specs.Healthy.{AreInPhase, IsHealthy, one_if, counted_for, defining_for}
use Rattle.rm_rules.proofs.Taken.{or_right_false}
use Rattle.rm_rules.proofs.Found.{is_some-find}
use Rattle.rm_rules.proofs.Phases.{phase_in, called-with_other, phase_of-with, phase_of-found, there_if_live}
use Rattle.rm_rules.proofs.Settling.{settled-keeps, kept-settled}
use Rattle.rm_rules.proofs.Grants.{less-found}
use Rattle.rm_rules.proofs.Changing.{IsTried, stays, changes, refuses, judges, moves_on, asks, gives_way, session_of-is, tried-is}
use Rattle.rm_rules.proofs.Verdicts.{IsCheckReply, says_go, says_way, says_end, says_stop}
use Rattle.rm_rules.proofs.Stepping.{found-facts, tried-facts, outcome-turn}
use Rattle.rm_rules.proofs.Runs.{run-is, runs-open, owned-opened, owned-found_at, runs-on}
use Rattle.sessions.specs.declared.submitted.Submitted.{Submitted}
use Rattle.sessions.specs.declared.submitted.Submitted.TheVariants.{Admitted, Waiting, Ended, Refused}
use Rattle.sessions.specs.Session.{IsTold, is_refusal, is_leaving}
use Rattle.sessions.proofs.OpenLaws.{some-of}
use Rattle.sessions.proofs.ToldLaws.{done_for, running-phase, poll-quiet}
use Rattle.sessions.proofs.LeavingLaws.{leaving_in, running_for, runner-session}

-- as an event finds the session: it is open, and its query runs
record RunsThere (t : State) (seat n : ℕ) : Type 0 where
  session : Session
  found : session_of t seat n ≡ Some session
  goes_on : is_running session.phase ≡ true
  runner : Runner
  runs : runner_of t.running session.number ≡ Some runner

runs-there : (s : State) (seat at n : ℕ) (run : Run) → IsHealthy s → run_of s seat n ≡ Some run → RunsThere (found_at s at) seat n
runs-there s seat at n run healthy is =
    let t = found_at s at in
    let was = run-is s seat n run is in
    let runs : runner_of t.running n ≡ Some was.runner = ap (λ l. runner_of l n) (less-found s at).running ∙ was.runs in
    let there = runs-open t n seat was.runner (found-facts s at healthy).in_phase (owned-found_at s at n seat (owned-opened s seat n was.opener was.open_session)) runs in
    record {
      session = there.0;
      found = there.1;
      goes_on = there.2;
      runner = was.runner;
      runs = ap (runner_of t.running) (session_of-is t seat n there.0 there.1).number ∙ runs;
    }

-- a check of it is not refused
check-change : (t : State) (seat n : ℕ) (h : RunsThere t seat n) → change t seat (Check n) ≡ Ok (checked t h.session h.runner)
check-change t seat n h = ap (done_for (checking t)) h.found ∙ ap (running_for (λ r. Ok (checked t h.session r))) h.runs

reply-plain : (answer : Reply) → IsCheckReply answer → is_refused answer ≡ false
reply-plain _ says_go = refl
reply-plain _ (says_way pool) = refl
reply-plain _ (says_end which ran cap) = refl
reply-plain _ says_stop = refl

check-plain : (t u : State) (seat n : ℕ) (c : Change) → RunsThere t seat n → IsTried t seat (Check n) c → is_refused (reply_of u c.answer) ≡ false
check-plain t u seat n _ h (stays _ (refuses _ r is)) = absurd (let both : Err r ≡ Ok (checked t h.session h.runner) = sym is ∙ check-change t seat n h in cc)
check-plain t u seat n _ h (stays _ (judges _ x r answer is says)) = reply-plain answer says
check-plain t u seat n _ h (changes _ (moves_on _ x r pool is taken) loud) = refl
check-plain t u seat n _ h (changes _ (asks _ x r pool is) loud) = refl

pub check-answers : (s : State) (seat at n : ℕ) (run : Run) → IsHealthy s → run_of s seat n ≡ Some run → is_refused (step s seat at (Check n)).reply ≡ false
check-answers s seat at n run healthy is =
    let t = found_at s at in
    let event : Event = Check n in
    let c = attempted t seat event in
    let h = runs-there s seat at n run healthy is in
    outcome-turn (λ o. is_refused o.reply ≡ false) s seat event c (has_due s at || c.changed)
    (λ settles. check-plain t (settled c.state) seat n c h (tried-is t seat event))
    (λ still. check-plain t c.state seat n c h (tried-is t seat event))

-- a session with a query that has not gone is told of it
waiting-plain : (u : State) (n : ℕ) (o : Option Waiter) → is_some o ≡ true → is_refused (told_waiting u n o) ≡ false
waiting-plain u n None some = absurd (false≢true some)
waiting-plain u n (Some w) some = refl

running-plain : (u : State) (n : ℕ) (o : Option Runner) → is_some o ≡ true → is_refused (told_running u n o) ≡ false
running-plain u n None some = absurd (false≢true some)
running-plain u n (Some r) some = refl

phase-plain : (u : State) (n : ℕ) (p : Phase) → AreInPhase u.sessions u.waiting u.running → phase_of u.sessions n ≡ p → is_idle p ≡ false → is_refused (told_in_phase u n p) ≡ false
phase-plain u n phase.Idle h is live = absurd (false≢true (sym live))
phase-plain u n phase.Waiting h is live =
    waiting-plain u n (waiter_of u.waiting n) (is_some-find (λ (w : Waiter). eqb w.session n) u.waiting true (h.waits n ∙ ap (λ p. one_if (is_waiting p)) is))
phase-plain u n phase.Running h is live =
    running-plain u n (runner_of u.running n) (is_some-find (λ (r : Runner). eqb r.session n) u.running true (h.runs n ∙ ap (λ p. one_if (is_running p)) is))
phase-plain u n (phase.Ended end) h is live = refl

abbrev told_to : State → ℕ → Option Session → Reply
told_to s n o = elim o [ Some x ↦ told_in_phase s n x.phase | None ↦ reply.Refused refusal.NoSuchSession ]

told-plain : (u : State) (n : ℕ) (o : Option Session) → AreInPhase u.sessions u.waiting u.running → session_called u.sessions n ≡ o → is_idle (phase_of u.sessions n) ≡ false
    → is_refused (told_to u n o) ≡ false
told-plain u n None h is live = absurd (false≢true (sym live ∙ ap is_idle (ap phase_in is)))
told-plain u n (Some x) h is live = let same = phase_of-found n u.sessions x is in phase-plain u n x.phase h same (ap is_idle (sym same) ∙ live)

-- and settling lets no query go without a word
live-turn : (n m : ℕ) (p : Phase) (s : State) (b : Bool) → eqb m n ≡ b → is_idle p ≡ false → is_idle (phase_of s.sessions n) ≡ false → is_idle (phase_of (with_phase m p s.sessions) n) ≡ false
live-turn n m p s true same lives live =
    ap (λ k. is_idle (phase_of (with_phase k p s.sessions) n)) (eqb-true m n same)
    ∙ ap is_idle (phase_of-with n n p s.sessions (there_if_live n s.sessions live) ∙ ap (λ b. cond b p (phase_of s.sessions n)) (eq-eqb n n refl)) ∙ lives
live-turn n m p s false apart lives live = ap (λ o. is_idle (phase_in o)) (called-with_other m n p s.sessions apart) ∙ live

live-with : (n m : ℕ) (p : Phase) (s : State) → is_idle p ≡ false → is_idle (phase_of s.sessions n) ≡ false → is_idle (phase_of (with_phase m p s.sessions) n) ≡ false
live-with n m p s lives live = live-turn n m p s (eqb m n) refl lives live

live-settled : (n : ℕ) (s : State) → is_idle (phase_of s.sessions n) ≡ false → is_idle (phase_of (settled s).sessions n) ≡ false
live-settled n s live =
    settled-keeps (λ t. is_idle (phase_of t.sessions n) ≡ false) (λ t w end among h. live-with n w.session (phase.Ended end) t refl h) (λ t h. h)
    (λ t w picked h. live-with n w.session phase.Running t refl h) s live

-- so a query that is to give way is not refused to
way-change : (t : State) (seat n : ℕ) (pool : Name) (h : RunsThere t seat n) → h.runner.leaving ≡ Some pool
    → change t seat (GiveWay n) ≡ Ok (changing (gave_way t h.runner pool) (Collects h.runner.session))
way-change t seat n pool h leaves =
    ap (done_for (giving_way t)) h.found ∙ ap (running_for (λ r. giving_way_to t r r.leaving)) h.runs ∙ ap (giving_way_to t h.runner) leaves

awake : (t : State) (seat n : ℕ) (h : RunsThere t seat n) → is_idle (phase_of t.sessions h.runner.session) ≡ false
awake t seat n h =
    let number = (session_of-is t seat n h.session h.found).number in
    ap (λ k. is_idle (phase_of t.sessions k)) (runner-session t.running h.session.number h.runner h.runs ∙ number)
    ∙ ap is_idle (phase_of-found n t.sessions h.session (session_of-is t seat n h.session h.found).called ∙ running-phase h.session.phase h.goes_on)

way-told : (s : State) (seat at n : ℕ) (pool : Name) → IsHealthy s → (h : RunsThere (found_at s at) seat n) → h.runner.leaving ≡ Some pool
    → is_refused (step s seat at (GiveWay n)).reply ≡ false
way-told s seat at n pool healthy h leaves =
    let t = found_at s at in
    let event : Event = GiveWay n in
    let c = attempted t seat event in
    let m = h.runner.session in
    let w : Change = changing (gave_way t h.runner pool) (Collects m) in
    let gives_it : c ≡ w = ap (tried t) (way-change t seat n pool h leaves) in
    outcome-turn (λ o. is_refused o.reply ≡ false) s seat event c (has_due s at || c.changed)
    (λ settles.
    let facts = kept-settled (counted_for c.answer) (defining_for c.answer) c.state (tried-facts s seat at event healthy tt settles) in
    let live : is_idle (phase_of (settled c.state).sessions m) ≡ false =
    subst (λ (d : Change). is_idle (phase_of (settled d.state).sessions m) ≡ false) (sym gives_it) (live-settled m w.state (live-with m m phase.Waiting t refl (awake t seat n h))) in
    subst (λ (a : Answer). is_refused (reply_of (settled c.state) a) ≡ false) (sym (ap (λ (d : Change). d.answer) gives_it))
    (told-plain (settled c.state) m (session_called (settled c.state).sessions m) facts.in_phase refl live)
    )
    (λ still. absurd (false≢true (sym (or_right_false (has_due s at) c.changed still) ∙ ap (λ (d : Change). d.changed) gives_it)))

pub way-answers : (s : State) (seat at n : ℕ) (run : Run) → IsHealthy s → run_of s seat n ≡ Some run → is_leaving s n ≡ true → is_refused (step s seat at (GiveWay n)).reply ≡ false
way-answers s seat at n run healthy is leaves =
    let t = found_at s at in
    let h = runs-there s seat at n run healthy is in
    let number = (session_of-is t seat n h.session h.found).number in
    let gone = some-of (leaving_in (runner_of s.running n)) leaves in
    let leaving : h.runner.leaving ≡ Some gone.0 = ap leaving_in (sym h.runs ∙ ap (runner_of t.running) number ∙ ap (λ l. runner_of l n) (less-found s at).running) ∙ gone.1 in
    way-told s seat at n gone.0 healthy h leaving

pub told-taken : (n : ℕ) (submitted : Submitted) (answer : Reply) → IsTold n submitted answer → is_refused answer ≡ false → is_refusal submitted ≡ false
told-taken n (Admitted grant account) answer told plain = refl
told-taken n (Waiting place) answer told plain = refl
told-taken n (Ended end) answer told plain = refl
told-taken n (Refused r) answer told plain = absurd (false≢true (sym plain ∙ ap is_refused told))

-- one that is not to give way is refused to, and runs on
stands-still : (t : State) (seat n : ℕ) (c : Change) → (h : RunsThere t seat n) → is_some (leaving_in (runner_of t.running n)) ≡ false → IsTried t seat (GiveWay n) c
    → (r : Refusal) × (c ≡ quiet t (Says (reply.Refused r)))
stands-still t seat n _ h stands (stays _ (refuses _ r is)) = (r, refl)
stands-still t seat n _ h stands (changes _ (gives_way _ x r pool found runs leaves) loud) =
    absurd (false≢true (sym stands
    ∙ ap (λ o. is_some (leaving_in o)) (ap (runner_of t.running) (sym (session_of-is t seat n x found).number) ∙ runs) ∙ ap is_some leaves))

-- what an event that changes nothing leaves of a run
quiet-run : (s : State) (seat n : ℕ) (due : Bool) (t : State) (e f : Event) (r : Reply) (m : ℕ)
    → run_of (outcome s due seat e (quiet t (Says r))).state seat n ≡ run_of (outcome s due seat f (quiet t (Tells m))).state seat n
quiet-run s seat n true t e f r m = refl
quiet-run s seat n false t e f r m = refl

pub stands-running : (s : State) (seat at n : ℕ) (run : Run) → IsHealthy s → run_of s seat n ≡ Some run → is_leaving s n ≡ false
    → run_of (step s seat at (GiveWay n)).state seat n ≡ Some run
stands-running s seat at n run healthy is stands =
    let t = found_at s at in
    let h = runs-there s seat at n run healthy is in
    let still = stands-still t seat n (attempted t seat (GiveWay n)) h (ap (λ l. is_some (leaving_in (runner_of l n))) (less-found s at).running ∙ stands) (tried-is t seat (GiveWay n)) in
    ap (λ (c : Change). run_of (outcome s (has_due s at) seat (GiveWay n) c).state seat n) still.1
    ∙ quiet-run s seat n (has_due s at) t (GiveWay n) (Poll n) (reply.Refused still.0) n
    ∙ ap (λ (c : Change). run_of (outcome s (has_due s at) seat (Poll n) c).state seat n) (sym (poll-quiet t seat n h.session h.found h.goes_on))
    ∙ runs-on s seat at seat n (Poll n) run healthy tt is (λ e. cc) (λ e. cc)
