-- How a session is opened, and how it is closed.
use Rattle.std.proofs.Common.{◌≡◌, ℕ, ◌+◌, Bool, true, false, ◌||◌, cond, eqb, leb, List, [], ◌∷◌, ◌++◌, Option, Some, None, refl, sym, ap, ◌∙◌, subst, arith, count_by}
use Rattle.std.specs.Prelude.{option_map}
use Rattle.std.specs.List.{list_all}
use Rattle.std.specs.Option.{is_some}
use Rattle.std.proofs.lemmas.Bool.{eqb-true, eq-eqb, leb-true, false≢true}
use Rattle.rm_base.specs.declared.event.Event.{Event}
use Rattle.rm_base.specs.declared.event.Event.TheVariants.{Open, Close}
use Rattle.rm_base.specs.declared.name.Name.{Name}
use Rattle.rm_base.specs.declared.refusal.Refusal.{Refusal}
use Rattle.rm_base.specs.declared.refusal.Refusal.TheVariants as refusal
use Rattle.rm_base.specs.declared.reply.Reply.{Reply}
use Rattle.rm_base.specs.declared.reply.Reply.TheVariants as reply
use Rattle.rm_rules.specs.declared.answer.Answer.TheVariants as answer
use Rattle.rm_rules.specs.declared.state.Phase.{Phase}
use Rattle.rm_rules.specs.declared.state.Phase.TheVariants as phase
use Rattle.rm_rules.specs.declared.state.Runner.{Runner}
use Rattle.rm_rules.specs.declared.state.Session.{Session}
use Rattle.rm_rules.specs.State.{State, session_called, session_of, with_phase, without_session, is_running, runner_of}
use Rattle.rm_rules.specs.Settle.{settled}
use Rattle.rm_rules.specs.Refusals.{refused_if, unless_refused}
use Rattle.rm_rules.specs.Change.{Change, quiet, new_session, closed, closing, tried}
use Rattle.rm_rules.specs.Answers.{reply_of, answered}
use Rattle.rm_rules.specs.Step.{entered, has_due, found_at, attempted, step}
use Rattle.rm_rules.specs.Grants.{Run, run_of, run_by}
use Rattle.rm_rules.specs.Healthy.{AreInPhase, AreOpened, IsHealthy, one_if}
use Rattle.rm_rules.proofs.Taken.{and_left, and_right, or_right_false, found_counted}
use Rattle.rm_rules.proofs.Found.{none-left}
use Rattle.rm_rules.proofs.Phases.{has_number, phased, called-with_same, called-with_other, phase_of-found}
use Rattle.rm_rules.proofs.Settling.{settled-keeps}
use Rattle.rm_rules.proofs.Grants.{less-found}
use Rattle.rm_rules.proofs.Changing.{IsTried, stays, changes, refuses, opens, session_of-is, tried-is}
use Rattle.rm_rules.proofs.Stepping.{found-facts, outcome-turn}
use Rattle.rm_rules.proofs.Runs.{run-found, runs-open, owned-opened, owned-found_at, runs-on}
use Rattle.sessions.specs.Session.{IsOpen, HasQuery}
use Rattle.sessions.proofs.OpenLaws.{IsThere, there-of, there-open, some-of, open-there, there-found, there-settled}
use Rattle.sessions.proofs.ToldLaws.{done_for}

-- a number that was not given yet finds the session that gets it
new-turn : (last : ℕ) (x y : Session) (xs : List Session) (b : Bool) → eqb x.number (last + 1) ≡ b → leb x.number last ≡ true
    → session_called (xs ++ y ∷ []) (last + 1) ≡ Some y → cond b (Some x) (session_called (xs ++ y ∷ []) (last + 1)) ≡ Some y
new-turn last x y xs false apart given rest = rest
new-turn last x y xs true same given rest = absurd (omega (arith, eqb-true x.number (last + 1) same, leb-true x.number last given))

new-found : (last : ℕ) (y : Session) (xs : List Session) → y.number ≡ last + 1 → list_all (λ x. leb x.number last) xs ≡ true → session_called (xs ++ y ∷ []) (last + 1) ≡ Some y
new-found last y [] is given = ap (λ b. cond b (Some y) None) (eq-eqb y.number (last + 1) is)
new-found last y (x ∷ xs) is given =
    new-turn last x y xs (eqb x.number (last + 1)) refl (and_left (leb x.number last) _ given) (new-found last y xs is (and_right (leb x.number last) _ given))

-- Open answers with the number of a session that is there then, or is refused
pub data AnswersOpen (seat : ℕ) : List Session → Reply → Type 0 where
  Opens : (sessions : List Session) (number : ℕ) → IsThere number seat sessions → AnswersOpen seat sessions (reply.Opened number)
  Refuses : (sessions : List Session) (refusal : Refusal) → AnswersOpen seat sessions (reply.Refused refusal)

settled-opens : (s : State) (seat : ℕ) (user : Name) (c : Change) → IsTried s seat (Open user) c → AreOpened s.last_session s.sessions
    → AnswersOpen seat (answered (settled c.state) c.answer).sessions (reply_of (settled c.state) c.answer)
settled-opens s seat user _ (stays _ (refuses _ r is)) h = Refuses _ r
settled-opens s seat _ c (changes _ (opens user may) loud) h =
    let y = new_session s seat user in
    Opens _ (s.last_session + 1) (there-settled (s.last_session + 1) seat c.state (y, new-found s.last_session y s.sessions refl h.given, refl))

still-opens : (s : State) (seat : ℕ) (user : Name) (c : Change) (sessions : List Session) → IsTried s seat (Open user) c → c.changed ≡ false
    → AnswersOpen seat sessions (reply_of c.state c.answer)
still-opens s seat user _ sessions (stays _ (refuses _ r is)) plain = Refuses sessions r
still-opens s seat _ _ sessions (changes c is loud) plain = absurd (false≢true (sym plain ∙ loud))

pub open-answers : (s : State) (seat at : ℕ) (user : Name) → IsHealthy s → AnswersOpen seat (step s seat at (Open user)).state.sessions (step s seat at (Open user)).reply
open-answers s seat at user healthy =
    let t = found_at s at in
    let event : Event = Open user in
    let c = attempted t seat event in
    let is = tried-is t seat event in
    outcome-turn (λ o. AnswersOpen seat o.state.sessions o.reply) s seat event c (has_due s at || c.changed)
    (λ settles. settled-opens t seat user c is (found-facts s at healthy).opened)
    (λ still. still-opens t seat user c s.sessions is (or_right_false (has_due s at) c.changed still))

pub open-opened : (s : State) (seat n : ℕ) (r : Reply) → AnswersOpen seat s.sessions r → r ≡ reply.Opened n → IsOpen s seat n
open-opened s seat n _ (Opens _ m there) is = let same : m ≡ n = cc in subst (IsOpen s seat) same (there-open s seat m there)
open-opened s seat n _ (Refuses _ r) is = absurd (cc)

pub open-other : (seat : ℕ) (sessions : List Session) (r : Reply) → AnswersOpen seat sessions r → ((n : ℕ) → r ≡ reply.Opened n → ⊥) → ((x : Refusal) → r ≡ reply.Refused x → ⊥) → ⊥
open-other seat _ _ (Opens sessions n there) not_opened not_refused = not_opened n refl
open-other seat _ _ (Refuses sessions r) not_opened not_refused = not_refused r refl

-- Close answers that the session is gone, or is refused since its query runs
pub data AnswersClose (seat n : ℕ) (s : State) : Reply → Type 0 where
  Closes : session_called s.sessions n ≡ None → AnswersClose seat n s reply.Closed
  Runs : (run : Run) → run_of s seat n ≡ Some run → AnswersClose seat n s (reply.Refused refusal.SessionBusy)

close-tried : (s : State) (seat n : ℕ) (x : Session) (b : Bool) → session_of s seat n ≡ Some x → is_running x.phase ≡ b
    → attempted s seat (Close n) ≡ tried s (unless_refused (refused_if b refusal.SessionBusy) (closed s x))
close-tried s seat n x b found is =
    ap (λ o. tried s (done_for (closing s) o)) found ∙ ap (λ c. tried s (unless_refused (refused_if c refusal.SessionBusy) (closed s x))) is

-- a session that is gone stays gone
gone-turn : (n m : ℕ) (p : Phase) (xs : List Session) (b : Bool) → eqb m n ≡ b → session_called xs n ≡ None → session_called (with_phase m p xs) n ≡ None
gone-turn n m p xs true same gone = ap (λ k. session_called (with_phase k p xs) n) (eqb-true m n same) ∙ called-with_same n p xs ∙ ap (option_map (phased p)) gone
gone-turn n m p xs false apart gone = called-with_other m n p xs apart ∙ gone

gone-settled : (n : ℕ) (s : State) → session_called s.sessions n ≡ None → session_called (settled s).sessions n ≡ None
gone-settled n s gone =
    settled-keeps (λ t. session_called t.sessions n ≡ None) (λ t w end among h. gone-turn n w.session (phase.Ended end) t.sessions (eqb w.session n) refl h) (λ t h. h)
    (λ t w picked h. gone-turn n w.session phase.Running t.sessions (eqb w.session n) refl h) s gone

busy-answers : (s : State) (seat at n : ℕ) (x : Session) (r : Runner) → IsHealthy s → session_of s seat n ≡ Some x → runner_of s.running n ≡ Some r
    → AnswersClose seat n (step s seat at (Close n)).state (step s seat at (Close n)).reply
busy-answers s seat at n x r healthy found runs =
    let t = found_at s at in
    let event : Event = Close n in
    let run = run_by r in
    let then : runner_of t.running n ≡ Some r = ap (λ l. runner_of l n) (less-found s at).running ∙ runs in
    let there = runs-open t n seat r (found-facts s at healthy).in_phase (owned-found_at s at n seat (owned-opened s seat n x found)) then in
    let refuses_it : attempted t seat event ≡ quiet t (answer.Says (reply.Refused refusal.SessionBusy)) = close-tried t seat n there.0 true there.1 there.2 in
    let c = attempted t seat event in
    outcome-turn (λ o. run_of o.state seat n ≡ Some run → AnswersClose seat n o.state o.reply) s seat event c (has_due s at || c.changed)
    (λ settles h. subst (AnswersClose seat n _) (sym (ap (λ (d : Change). reply_of (settled d.state) d.answer) refuses_it)) (Runs run h))
    (λ still h. subst (AnswersClose seat n s) (sym (ap (λ (d : Change). reply_of d.state d.answer) refuses_it)) (Runs run h))
    (runs-on s seat at seat n event run healthy tt (run-found s seat n x r found runs) (λ e. cc) (λ e. cc))

rests-turn : (s : State) (n : ℕ) (x : Session) (b : Bool) → AreInPhase s.sessions s.waiting s.running → session_called s.sessions n ≡ Some x → (let o : Option Runner = None in runner_of s.running n ≡ o)
    → is_running x.phase ≡ b → b ≡ false
rests-turn s n x false in_phase called none is = refl
rests-turn s n x true in_phase called none is =
    let one : count_by (λ (r : Runner). eqb r.session n) s.running ≡ 1 =
    in_phase.runs n ∙ ap (λ p. one_if (is_running p)) (phase_of-found n s.sessions x called) ∙ ap one_if is in
    let some = found_counted (λ (r : Runner). eqb r.session n) s.running (omega (arith, one)) in
    absurd (let both : Some some.0 ≡ None = sym some.1 ∙ none in cc)

closed-answers : (s : State) (seat at n : ℕ) → IsHealthy s → IsThere n seat s.sessions → (let o : Option Runner = None in runner_of s.running n ≡ o)
    → AnswersClose seat n (step s seat at (Close n)).state (step s seat at (Close n)).reply
closed-answers s seat at n healthy there none =
    let t = found_at s at in
    let event : Event = Close n in
    let facts = found-facts s at healthy in
    let there_open = there-of t seat n (there-found n seat s at there) in
    let x = there_open.0 in
    let is = session_of-is t seat n x there_open.1 in
    let rests = rests-turn t n x (is_running x.phase) facts.in_phase is.called (ap (λ l. runner_of l n) (less-found s at).running ∙ none) refl in
    let closes_it : attempted t seat event ≡ closed t x = close-tried t seat n x false there_open.1 rests in
    let gone : session_called (without_session x.number t.sessions) n ≡ None =
    ap (λ k. session_called (without_session k t.sessions) n) is.number ∙ none-left (has_number n) t.sessions (facts.opened.once n) in
    let c = attempted t seat event in
    outcome-turn (λ o. AnswersClose seat n o.state o.reply) s seat event c (has_due s at || c.changed)
    (λ settles. subst (λ (d : Change). let o = entered seat event (settled d.state) d.answer in AnswersClose seat n o.state o.reply) (sym closes_it) (Closes (gone-settled n (closed t x).state gone)))
    (λ still. absurd (false≢true (sym (or_right_false (has_due s at) c.changed still) ∙ ap (λ (d : Change). d.changed) closes_it)))

pub close-answers : (s : State) (seat at n : ℕ) → IsHealthy s → IsOpen s seat n → AnswersClose seat n (step s seat at (Close n)).state (step s seat at (Close n)).reply
close-answers s seat at n healthy h = turn (runner_of s.running n) refl where
  turn : (o : Option Runner) → runner_of s.running n ≡ o → AnswersClose seat n (step s seat at (Close n)).state (step s seat at (Close n)).reply
  turn None none = closed-answers s seat at n healthy (open-there s seat n h) none
  turn (Some r) runs = let found = some-of (session_of s seat n) h in busy-answers s seat at n found.0 r healthy found.1 runs

pub close-other : (seat n : ℕ) (s : State) (r : Reply) → AnswersClose seat n s r → (r ≡ reply.Closed → ⊥) → ((x : Refusal) → r ≡ reply.Refused x → ⊥) → ⊥
close-other seat n s _ (Closes gone) not_closed not_refused = not_closed refl
close-other seat n s _ (Runs run is) not_closed not_refused = not_refused refusal.SessionBusy refl

pub close-closed : (seat n : ℕ) (s : State) (r : Reply) → AnswersClose seat n s r → r ≡ reply.Closed → IsOpen s seat n → ⊥
close-closed seat n s _ (Closes gone) is h = let there = open-there s seat n h in let both : None ≡ Some there.0 = sym gone ∙ there.1 in cc
close-closed seat n s _ (Runs run runs) is there_open = cc

pub close-refused : (seat n : ℕ) (s : State) (r : Reply) (x : Refusal) → AnswersClose seat n s r → r ≡ reply.Refused x → (x ≡ refusal.SessionBusy) × HasQuery s seat n
close-refused seat n s _ x (Closes gone) is = absurd (cc)
close-refused seat n s _ x (Runs run runs) is = (let same : refusal.SessionBusy ≡ x = cc in sym same, ap is_some runs)
