-- What a call of a session is answered, and what it leaves of the sessions of its host.
use Rattle.std.proofs.Common.{◌≡◌, ◌≢◌, ℕ, Bool, true, false, ◌||◌, eqb, Option, Some, refl, sym, ap, ◌∙◌, subst}
use Rattle.std.specs.Option.{is_some}
use Rattle.std.proofs.lemmas.Bool.{eqb-true}
use Rattle.rm_base.specs.declared.entry.Answered.{Answered}
use Rattle.rm_base.specs.declared.event.Event.{Event}
use Rattle.rm_base.specs.declared.event.Event.TheVariants.{Open, Submit, Poll, Check, GiveWay, Finish, Close}
use Rattle.rm_base.specs.declared.name.Name.{Name}
use Rattle.rm_base.specs.declared.refusal.Refusal.{Refusal}
use Rattle.rm_base.specs.declared.refusal.Refusal.TheVariants.{SessionBusy}
use Rattle.rm_base.specs.declared.reply.Reply.{Reply}
use Rattle.rm_base.specs.declared.reply.Reply.TheVariants as reply
use Rattle.rm_rules.specs.State.{State}
use Rattle.rm_rules.specs.Replay.{IsFormed}
use Rattle.rm_rules.specs.Sessions.{session_in}
use Rattle.rm_rules.specs.Grants.{Run, run_of, is_refused}
use Rattle.rm_rules.proofs.Laws.{IsKeptByOthers}
use Rattle.rm_rules.proofs.Runs.{run-is, runs-on, finish-step, submit-step, told-step}
use Rattle.sessions.specs.declared.submitted.Submitted.{Submitted}
use Rattle.sessions.specs.declared.submitted.Submitted.TheVariants.{Admitted, Waiting, Ended, Refused}
use Rattle.sessions.specs.Granted.{Granted}
use Rattle.sessions.specs.Host.{Known, state_of, outcome_at, SeesMore, Called}
use Rattle.sessions.specs.Session.{IsOpen, IsRunning, HasQuery, is_leaving, SeesOpen, SeesRunning, sees_leaving, HoldsGrant, asks_way, IsTold, is_refusal, IfAdmitted, TellsQuery}
use Rattle.sessions.proofs.HostLaws.{sees-healthy, sees-keeps, sees-seat, called-state, called-keeps}
use Rattle.sessions.proofs.OpenLaws.{some-of, open-others, open-step}
use Rattle.sessions.proofs.ToldLaws.{is_asking, asking-tells, IsGiven, poll-given}
use Rattle.sessions.proofs.LeavingLaws.{leaving-others, steered, leaving-spared, check-leaving, finish-leaving, way-leaving}
use Rattle.sessions.proofs.WayLaws.{check-answers, way-answers, told-taken, stands-running}
use Rattle.sessions.proofs.EndingLaws.{AnswersOpen, open-answers, AnswersClose, close-answers}

-- what the event leaves and replies at what the host found, the call does
pub called-turn : (P : ℕ → State → Reply → Type 0) (old new : Known) (at : ℕ) (event : Event) (answered : Answered) (h : Called old new at event answered)
    → P h.found.seat (outcome_at h.found at event).state (outcome_at h.found at event).reply → P new.seat (state_of new) answered.reply
called-turn P old new at event answered h is =
    let o = outcome_at h.found at event in
    let seat : new.seat ≡ h.found.seat = ap (λ (k : Known). k.seat) h.seen in
    subst (λ r. P new.seat (state_of new) r) (sym h.reply)
    (subst (λ s. P new.seat s o.reply) (sym (called-state old new at event answered h)) (subst (λ n. P n o.state o.reply) (sym seat) is))

abbrev pub run_with : Granted → Run
run_with g = record { query = g.query; grant = g.bytes }

-- a session stays open until its own call closes it
pub open-sees : (old new : Known) (n : ℕ) → SeesMore old new → SeesOpen old n → SeesOpen new n
open-sees old new n h is = subst (λ k. IsOpen (state_of new) k n) (sym (sees-seat old new h)) (sees-keeps (λ s. IsOpen s old.seat n) old new h (open-others old.seat n) is)

pub open-called : (old new : Known) (at n : ℕ) (event : Event) (answered : Answered) → Called old new at event answered → IsFormed event → event ≢ Close n → SeesOpen old n → SeesOpen new n
open-called old new at n event answered h formed other was =
    called-keeps (λ seat s. IsOpen s seat n) old new at event answered h (open-others old.seat n) (λ s healthy is. open-step s old.seat at event n healthy formed other is) was

-- and its query runs on until its own call finishes it, or lets it give way
running-others : (seat : ℕ) (g : Granted) → IsKeptByOthers seat (λ s. IsRunning s seat g)
running-others seat g s other at event apart healthy formed is = runs-on s other at seat g.session event (run_with g) healthy formed is (λ e. apart) (λ e. apart)

pub running-sees : (old new : Known) (g : Granted) → SeesMore old new → SeesRunning old g → SeesRunning new g
running-sees old new g h is = subst (λ k. IsRunning (state_of new) k g) (sym (sees-seat old new h)) (sees-keeps (λ s. IsRunning s old.seat g) old new h (running-others old.seat g) is)

pub running-called : (old new : Known) (at : ℕ) (g : Granted) (event : Event) (answered : Answered) → Called old new at event answered → IsFormed event → event ≢ Finish g.session
    → event ≢ GiveWay g.session → SeesRunning old g → SeesRunning new g
running-called old new at g event answered h formed unfinished stands is =
    called-keeps (λ seat s. IsRunning s seat g) old new at event answered h (running-others old.seat g)
    (λ s healthy runs. runs-on s old.seat at old.seat g.session event (run_with g) healthy formed runs (λ e. absurd (unfinished e)) (λ e. absurd (stands e))) is

-- whether its query is to give way, only its own calls change
pub leaving-sees : (old new : Known) (n : ℕ) → SeesMore old new → SeesOpen old n → sees_leaving new n ≡ sees_leaving old n
leaving-sees old new n h opened =
    let b = sees_leaving old n in
    (sees-keeps (λ s. IsOpen s old.seat n × (is_leaving s n ≡ b)) old new h (leaving-others old.seat n b) (opened, refl)).1

unsteered-turn : (o : Option ℕ) (n m : ℕ) (b : Bool) → o ≢ Some n → o ≡ Some m → eqb m n ≡ b → b ≡ false
unsteered-turn o n m false not_of of e = refl
unsteered-turn o n m true not_of of e = absurd (not_of (of ∙ ap (λ k. Some k) (eqb-true m n e)))

pub leaving-called : (old new : Known) (at n : ℕ) (event : Event) (answered : Answered) → Called old new at event answered → steered event ≢ Some n → SeesOpen old n
    → sees_leaving new n ≡ sees_leaving old n
leaving-called old new at n event answered h spared opened =
    called-turn (λ seat s r. is_leaving s n ≡ sees_leaving old n) old new at event answered h
    (leaving-spared (state_of h.found) h.found.seat at event n (λ m x of found. unsteered-turn (steered event) n m (eqb m n) spared of refl) ∙ leaving-sees old h.found n h.sees opened)

pub check-called : (old new : Known) (at n : ℕ) (answered : Answered) → Called old new at (Check n) answered → SeesOpen old n
    → sees_leaving new n ≡ (sees_leaving old n || asks_way answered.reply)
check-called old new at n answered h opened =
    called-turn (λ seat s r. is_leaving s n ≡ (sees_leaving old n || asks_way r)) old new at (Check n) answered h
    (check-leaving (state_of h.found) h.found.seat at n (sees-healthy old h.found h.sees)
    ∙ ap (λ b. b || asks_way (outcome_at h.found at (Check n)).reply) (leaving-sees old h.found n h.sees opened))

pub finish-called : (old new : Known) (at n : ℕ) (answered : Answered) → Called old new at (Finish n) answered → SeesOpen old n → sees_leaving new n ≡ false
finish-called old new at n answered h opened =
    called-turn (λ seat s r. is_leaving s n ≡ false) old new at (Finish n) answered h
    (finish-leaving (state_of h.found) h.found.seat at n (sees-healthy old h.found h.sees) (open-sees old h.found n h.sees opened))

pub way-called : (old new : Known) (at n : ℕ) (answered : Answered) → Called old new at (GiveWay n) answered → SeesOpen old n → sees_leaving new n ≡ false
way-called old new at n answered h opened =
    called-turn (λ seat s r. is_leaving s n ≡ false) old new at (GiveWay n) answered h
    (way-leaving (state_of h.found) h.found.seat at n (sees-healthy old h.found h.sees) (open-sees old h.found n h.sees opened))

pub query-open : (s : State) (seat n : ℕ) → HasQuery s seat n → IsOpen s seat n
query-open s seat n h = let found = some-of (run_of s seat n) h in ap is_some (run-is s seat n found.0 found.1).open_session

pub running-open : (k : Known) (g : Granted) → SeesRunning k g → SeesOpen k g.session
running-open k g is = query-open (state_of k) k.seat g.session (ap is_some is)

-- what each call is answered
pub open-reply : (old new : Known) (at : ℕ) (user : Name) (answered : Answered) → Called old new at (Open user) answered → AnswersOpen new.seat (state_of new).sessions answered.reply
open-reply old new at user answered h =
    called-turn (λ seat s r. AnswersOpen seat s.sessions r) old new at (Open user) answered h
    (open-answers (state_of h.found) h.found.seat at user (sees-healthy old h.found h.sees))

pub asking-reply : (old new : Known) (at : ℕ) (event : Event) (answered : Answered) → Called old new at event answered → is_asking event ≡ true → TellsQuery answered.reply
asking-reply old new at event answered h for =
    called-turn (λ seat s r. TellsQuery r) old new at event answered h (asking-tells (state_of h.found) h.found.seat at event for)

-- where it tells of a grant, that is the session's, and its query runs
admitted-runs : (old new : Known) (at n query grant own borrowed : ℕ) (pool : Name) (event : Event) (answered : Answered) → Called old new at event answered → session_in event ≡ Some n
    → answered.reply ≡ reply.Admitted query pool grant own borrowed → SeesRunning new (record { session = n; query = query; bytes = grant })
admitted-runs old new at n query grant own borrowed pool event answered h of =
    called-turn (λ seat s r. r ≡ reply.Admitted query pool grant own borrowed → run_of s seat n ≡ Some (record { query = query; grant = grant })) old new at event answered h
    (told-step (state_of h.found) h.found.seat at n query event pool grant own borrowed of)

pub told-grant : (old new : Known) (at n : ℕ) (event : Event) (answered : Answered) (submitted : Submitted) → Called old new at event answered → session_in event ≡ Some n
    → IsTold n submitted answered.reply → IfAdmitted submitted (HoldsGrant new n)
told-grant old new at n event answered (Admitted grant account) h of (own, is) =
    let runs = admitted-runs old new at n grant.query grant.bytes account.own account.borrowed account.pool event answered h of is in
    (own, subst (λ k. run_of (state_of new) new.seat k ≡ Some (record { query = grant.query; grant = grant.bytes })) (sym own) runs)
told-grant old new at n event answered (Waiting place) h of is = tt
told-grant old new at n event answered (Ended end) h of is = tt
told-grant old new at n event answered (Refused refusal) h of is = tt

-- a session that holds its grant is told of just that one, and gives it back
pub poll-reply : (old new : Known) (at n : ℕ) (g : Granted) (answered : Answered) → Called old new at (Poll n) answered → HoldsGrant old n g → IsGiven (run_with g) answered.reply
poll-reply old new at n g answered h (own, is) =
    called-turn (λ seat s r. IsGiven (run_with g) r) old new at (Poll n) answered h
    (poll-given (state_of h.found) h.found.seat at n (run_with g) (sees-healthy old h.found h.sees)
    (subst (λ k. run_of (state_of h.found) h.found.seat k ≡ Some (run_with g)) own (running-sees old h.found g h.sees is)))

pub finish-reply : (old new : Known) (at n : ℕ) (g : Granted) (answered : Answered) → Called old new at (Finish n) answered → HoldsGrant old n g → answered.reply ≡ reply.Released g.bytes
finish-reply old new at n g answered h (own, is) =
    called-turn (λ seat s r. r ≡ reply.Released g.bytes) old new at (Finish n) answered h
    (finish-step (state_of h.found) h.found.seat at n (run_with g) (sees-healthy old h.found h.sees)
    (subst (λ k. run_of (state_of h.found) h.found.seat k ≡ Some (run_with g)) own (running-sees old h.found g h.sees is)))

-- while it holds its grant it gets no second one
submit-reply : (old new : Known) (at n floor : ℕ) (g : Granted) (answered : Answered) → Called old new at (Submit n floor) answered → HoldsGrant old n g
    → answered.reply ≡ reply.Refused SessionBusy
submit-reply old new at n floor g answered h (own, is) =
    called-turn (λ seat s r. r ≡ reply.Refused SessionBusy) old new at (Submit n floor) answered h
    (submit-step (state_of h.found) h.found.seat at n floor (run_with g) (sees-healthy old h.found h.sees)
    (subst (λ k. run_of (state_of h.found) h.found.seat k ≡ Some (run_with g)) own (running-sees old h.found g h.sees is)))

told-refused : (n : ℕ) (submitted : Submitted) (answer : Reply) (r : Refusal) → IsTold n submitted answer → answer ≡ reply.Refused r → submitted ≡ Refused r
told-refused n (Admitted grant account) answer r (own, told) is =
    absurd (let no : reply.Admitted grant.query account.pool grant.bytes account.own account.borrowed ≡ reply.Refused r = sym told ∙ is in cc)
told-refused n (Waiting place) answer r (query, told) is = absurd (let no : reply.Waiting query place ≡ reply.Refused r = sym told ∙ is in cc)
told-refused n (Ended end) answer r told is = absurd (let no : reply.Ended end ≡ reply.Refused r = sym told ∙ is in cc)
told-refused n (Refused other) answer r told is =
    let same : other ≡ r = (let both : reply.Refused other ≡ reply.Refused r = sym told ∙ is in cc) in
    ap (λ x. let said : Submitted = Refused x in said) same

-- a check of it is not refused, nor is its giving way, where it is to give way
pub check-told : (old new : Known) (at n : ℕ) (g : Granted) (answered : Answered) → Called old new at (Check n) answered → HoldsGrant old n g → is_refused answered.reply ≡ false
check-told old new at n g answered h (own, is) =
    called-turn (λ seat s r. is_refused r ≡ false) old new at (Check n) answered h
    (check-answers (state_of h.found) h.found.seat at n (run_with g) (sees-healthy old h.found h.sees)
    (subst (λ k. run_of (state_of h.found) h.found.seat k ≡ Some (run_with g)) own (running-sees old h.found g h.sees is)))

pub way-taken : (old new : Known) (at n : ℕ) (g : Granted) (answered : Answered) (submitted : Submitted) → Called old new at (GiveWay n) answered → IsTold n submitted answered.reply
    → HoldsGrant old n g → sees_leaving old n ≡ true → is_refusal submitted ≡ false
way-taken old new at n g answered submitted h told (own, is) leaves =
    let opened = subst (SeesOpen old) own (running-open old g is) in
    told-taken n submitted answered.reply told
    (called-turn (λ seat s r. is_refused r ≡ false) old new at (GiveWay n) answered h
    (way-answers (state_of h.found) h.found.seat at n (run_with g) (sees-healthy old h.found h.sees)
    (subst (λ k. run_of (state_of h.found) h.found.seat k ≡ Some (run_with g)) own (running-sees old h.found g h.sees is))
    (leaving-sees old h.found n h.sees opened ∙ leaves)))

-- one that is not to give way runs on
pub stands-called : (old new : Known) (at n : ℕ) (g : Granted) (answered : Answered) → Called old new at (GiveWay n) answered → HoldsGrant old n g → sees_leaving old n ≡ false
    → HoldsGrant new n g
stands-called old new at n g answered h (own, is) stands =
    let opened = subst (SeesOpen old) own (running-open old g is) in (
      own,
      subst (λ k. run_of (state_of new) new.seat k ≡ Some (run_with g)) (sym own)
          (called-turn (λ seat s r. run_of s seat n ≡ Some (run_with g)) old new at (GiveWay n) answered h
          (stands-running (state_of h.found) h.found.seat at n (run_with g) (sees-healthy old h.found h.sees)
          (subst (λ k. run_of (state_of h.found) h.found.seat k ≡ Some (run_with g)) own (running-sees old h.found g h.sees is))
          (leaving-sees old h.found n h.sees opened ∙ stands))),
    )

pub submit-busy : (old new : Known) (at n floor : ℕ) (g : Granted) (answered : Answered) (submitted : Submitted) → Called old new at (Submit n floor) answered → IsTold n submitted answered.reply
    → HoldsGrant old n g → submitted ≡ Refused SessionBusy
submit-busy old new at n floor g answered submitted h told holds = told-refused n submitted answered.reply SessionBusy told (submit-reply old new at n floor g answered h holds)

pub close-reply : (old new : Known) (at m n : ℕ) (answered : Answered) → m ≡ n → Called old new at (Close m) answered → SeesOpen old n → AnswersClose new.seat n (state_of new) answered.reply
close-reply old new at m n answered same called was =
    let h : Called old new at (Close n) answered = subst (λ k. Called old new at (Close k) answered) same called in
    called-turn (λ seat s r. AnswersClose seat n s r) old new at (Close n) answered h
    (close-answers (state_of h.found) h.found.seat at n (sees-healthy old h.found h.sees) (open-sees old h.found n h.sees was))
