-- Whether a session's query is to give way: what leaves that as it is, and what a check, a Finish and a GiveWay make of it.
use Rattle.std.proofs.Common.{◌≡◌, ℕ, Bool, true, false, ◌||◌, not, cond, eqb, List, [], ◌∷◌, ◌++◌, Option, Some, None, Result, Ok, Err, refl, sym, ap, ◌∙◌, subst, arith}
use Rattle.std.specs.Prelude.{option_map, option_and_then, map}
use Rattle.std.specs.Option.{is_some}
use Rattle.std.proofs.lemmas.Bool.{eqb-true, false≢true}
use Rattle.rm_base.specs.declared.definitions.Definitions.{Definitions}
use Rattle.rm_base.specs.declared.event.Event.{Event}
use Rattle.rm_base.specs.declared.event.Event.TheVariants.{Define, Open, SetPool, SetCap, Submit, Poll, Check, GiveWay, Finish, Cancel, Close}
use Rattle.rm_base.specs.declared.name.Name.{Name}
use Rattle.rm_base.specs.declared.refusal.Refusal.{Refusal}
use Rattle.rm_base.specs.declared.refusal.Refusal.TheVariants as refusal
use Rattle.rm_base.specs.declared.reply.CapOwner.{CapOwner}
use Rattle.rm_base.specs.declared.reply.CapOwner.TheVariants as owner
use Rattle.rm_base.specs.declared.reply.Reply.{Reply}
use Rattle.rm_base.specs.declared.reply.Reply.TheVariants as reply
use Rattle.rm_rules.specs.declared.answer.Answer.{Answer}
use Rattle.rm_rules.specs.declared.answer.Answer.TheVariants.{Says, Tells, Collects}
use Rattle.rm_rules.specs.declared.state.Session.{Session}
use Rattle.rm_rules.specs.declared.state.Runner.{Runner}
use Rattle.rm_rules.specs.declared.verdict.Verdict.{Verdict}
use Rattle.rm_rules.specs.declared.verdict.Verdict.TheVariants as verdict
use Rattle.rm_rules.specs.State.{State, session_called, session_of, runner_of, without_runner, phase_of, is_running}
use Rattle.rm_rules.specs.Moving.{moved, leaving_for, stopping, with_runner_as, gave_way}
use Rattle.rm_rules.specs.DropPool.{named_in_place, runner_beside}
use Rattle.rm_rules.specs.Admission.{started}
use Rattle.rm_rules.specs.Settle.{settled}
use Rattle.rm_rules.specs.Refusals.{refused_if, unless_refused}
use Rattle.rm_rules.specs.Change.{Change, changing, finished, finishing, giving_way, giving_way_to, change}
use Rattle.rm_rules.specs.Target.{running_time, pool_runtime_cap, user_runtime_cap, is_exceeded, target, says_if, ended_by, first_verdict, verdict}
use Rattle.rm_rules.specs.Answers.{answered, reply_of}
use Rattle.rm_rules.specs.Step.{has_due, found_at, attempted, step}
use Rattle.rm_rules.specs.Healthy.{AreInPhase, IsHealthy, one_if}
use Rattle.rm_rules.proofs.Found.{find-without, none-left, none-counted}
use Rattle.rm_rules.proofs.Changed.{found-changed, other-changed}
use Rattle.rm_rules.proofs.Taken.{found_passes, or_right_false}
use Rattle.rm_rules.proofs.Phases.{differ, phase_in, one_if-most, phase_of-found}
use Rattle.rm_rules.proofs.Settling.{settled-keeps}
use Rattle.rm_rules.proofs.Grants.{less-found}
use Rattle.rm_rules.proofs.Changing.{IsTried, stays, changes, refuses, judges, IsChange, defines, drops, opens, chooses, caps, submits, collects, moves_on, asks, gives_way, finishes, withdraws, stops, closes, session_of-is, tried-is}
use Rattle.rm_rules.proofs.Stepping.{found-facts, outcome-turn}
use Rattle.rm_rules.proofs.Verdicts.{verdict-free}
use Rattle.rm_rules.proofs.Laws.{IsKeptByOthers}
use Rattle.sessions.specs.Session.{IsOpen, is_leaving, asks_way}
use Rattle.sessions.proofs.OpenLaws.{there-of, open-there, there-found, open-others}
use Rattle.sessions.proofs.ToldLaws.{done_for}

-- the pool for which a running query is to leave
abbrev pub leaving_in : Option Runner → Option Name
leaving_in o = option_and_then (λ r. r.leaving) o

-- whether the session's running query is to leave
abbrev way_in : Option Runner → Bool
way_in o = is_some (leaving_in o)

abbrev pub way_of : List Runner → ℕ → Bool
way_of running n = way_in (runner_of running n)

abbrev runs_in : ℕ → Runner → Bool
runs_in n r = eqb r.session n

-- what is done for a running query, where there is one
abbrev pub running_for : (Runner → Result Change Refusal) → Option Runner → Result Change Refusal
running_for act o = elim o [ Some r ↦ act r | None ↦ Err refusal.NotLive ]

-- a query that comes behind the others, and is not to leave, changes nothing
push-turn : (x : Runner) (b : Bool) (o p : Option Runner) → way_in o ≡ way_in p → way_in (cond b (Some x) o) ≡ way_in (cond b (Some x) p)
push-turn x true o p same = refl
push-turn x false o p same = same

last-turn : (r : Runner) (b : Bool) → (let none : Option Name = None in r.leaving ≡ none) → way_in (cond b (Some r) None) ≡ false
last-turn r true stays_there = ap is_some stays_there
last-turn r false stays_there = refl

way-push : (rs : List Runner) (r : Runner) (n : ℕ) → (let none : Option Name = None in r.leaving ≡ none) → way_of (rs ++ r ∷ []) n ≡ way_of rs n
way-push [] r n stays_there = last-turn r (eqb r.session n) stays_there
way-push (x ∷ xs) r n stays_there = push-turn x (eqb x.session n) (runner_of (xs ++ r ∷ []) n) (runner_of xs n) (way-push xs r n stays_there)

-- another session's query may go, or be changed
runs-apart : (m n : ℕ) (x : Runner) → eqb m n ≡ false → eqb x.session m ≡ true → eqb x.session n ≡ false
runs-apart m n x apart is = differ x.session m n apart is

way-without : (rs : List Runner) (m n : ℕ) → eqb m n ≡ false → way_of (without_runner m rs) n ≡ way_of rs n
way-without rs m n apart = ap way_in (find-without (runs_in m) (runs_in n) rs (λ x is. runs-apart m n x apart is))

way-other : (act : Runner → Runner) (rs : List Runner) (m n : ℕ) → ((r : Runner) → (act r).session ≡ r.session) → eqb m n ≡ false → way_of (with_runner_as act m rs) n ≡ way_of rs n
way-other act rs m n same apart =
    ap way_in (other-changed (runs_in m) (runs_in n) act rs (λ x is. runs-apart m n x apart is) (λ x. ap (λ k. eqb k n) (same x)))

stopping-way : (o : Option Runner) → way_in (option_map stopping o) ≡ way_in o
stopping-way None = refl
stopping-way (Some r) = refl

stop-turn : (rs : List Runner) (m n : ℕ) (b : Bool) → eqb m n ≡ b → way_of (with_runner_as stopping m rs) n ≡ way_of rs n
stop-turn rs m n true same =
    ap (λ k. way_of (with_runner_as stopping k rs) n) (eqb-true m n same) ∙ ap way_in (found-changed (runs_in n) stopping rs (λ x. refl)) ∙ stopping-way (runner_of rs n)
stop-turn rs m n false apart = way-other stopping rs m n (λ r. refl) apart

-- a dropped pool's queries leave for GENERAL
beside-leaving : (pool : Name) (o : Option Name) → is_some (named_in_place pool o) ≡ is_some o
beside-leaving pool None = refl
beside-leaving pool (Some name) = refl

drop-turn : (pool : Name) (x : Runner) (b : Bool) (o p : Option Runner) → way_in o ≡ way_in p → way_in (cond b (Some (runner_beside pool x)) o) ≡ way_in (cond b (Some x) p)
drop-turn pool x true o p same = beside-leaving pool x.leaving
drop-turn pool x false o p same = same

way-dropped : (pool : Name) (rs : List Runner) (n : ℕ) → way_of (map (runner_beside pool) rs) n ≡ way_of rs n
way-dropped pool [] n = refl
way-dropped pool (x ∷ xs) n = drop-turn pool x (eqb x.session n) (runner_of (map (runner_beside pool) xs) n) (runner_of xs n) (way-dropped pool xs n)

-- nor do deadlines, settling and what is answered
way-settled : (s : State) (n : ℕ) → way_of (settled s).running n ≡ way_of s.running n
way-settled s n =
    settled-keeps (λ t. way_of t.running n ≡ way_of s.running n) (λ t w end among h. h) (λ t h. h)
    (λ t w picked h. way-push t.running (started t w) n refl ∙ h) s refl

way-answered : (s : State) (answer : Answer) (n : ℕ) → way_of (answered s answer).running n ≡ way_of s.running n
way-answered s (Says reply) n = refl
way-answered s (Tells session) n = refl
way-answered s (Collects session) n = refl

same-quiet : (t : State) (seat : ℕ) (event : Event) (c : Change) → IsTried t seat event c → c.changed ≡ false → c.state.running ≡ t.running
same-quiet t seat event _ (stays answer still) plain = refl
same-quiet t seat event _ (changes c is loud) plain = absurd (false≢true (sym plain ∙ loud))

-- so it is what the event's change makes of it
way-step : (s : State) (seat at : ℕ) (event : Event) (n : ℕ)
    → way_of (step s seat at event).state.running n ≡ way_of (attempted (found_at s at) seat event).state.running n
way-step s seat at event n =
    let t = found_at s at in
    let c = attempted t seat event in
    outcome-turn (λ o. way_of o.state.running n ≡ way_of c.state.running n) s seat event c (has_due s at || c.changed)
    (λ settles. way-answered (settled c.state) c.answer n ∙ way-settled c.state n)
    (λ still. ap (λ l. way_of l n) (sym (same-quiet t seat event c (tried-is t seat event) (or_right_false (has_due s at) c.changed still) ∙ (less-found s at).running)))

-- the session whose query an event may end, move, or let leave
abbrev pub steered : Event → Option ℕ
steered (Define statement) = None
steered (Open user) = None
steered (SetPool session pool) = None
steered (SetCap session cap) = None
steered (Submit session floor) = None
steered (Poll session) = None
steered (Check session) = Some session
steered (GiveWay session) = Some session
steered (Finish session) = Some session
steered (Cancel by target) = None
steered (Close session) = None

-- that is another one than this
abbrev IsSpared : State → ℕ → Event → ℕ → Type 0
IsSpared t seat event n = (m : ℕ) (x : Session) → steered event ≡ Some m → session_of t seat m ≡ Some x → eqb m n ≡ false

pub runner-session : (rs : List Runner) (m : ℕ) (r : Runner) → runner_of rs m ≡ Some r → r.session ≡ m
runner-session rs m r runs = eqb-true r.session m (found_passes (runs_in m) r rs runs)

spared-turn : (t : State) (seat m n k : ℕ) (x : Session) → session_of t seat m ≡ Some x → k ≡ x.number → eqb m n ≡ false → eqb k n ≡ false
spared-turn t seat m n k x found is apart = ap (λ j. eqb j n) (is ∙ (session_of-is t seat m x found).number) ∙ apart

way-changed : (t : State) (seat : ℕ) (event : Event) (c : Change) (n : ℕ) → IsChange t seat event c → IsSpared t seat event n → way_of c.state.running n ≡ way_of t.running n
way-changed t seat _ _ n (defines statement new none accepts) spared = refl
way-changed t seat _ _ n (drops pool new accepts) spared = way-dropped pool t.running n
way-changed t seat _ _ n (opens user may) spared = refl
way-changed t seat _ _ n (chooses m pool x found may other) spared = refl
way-changed t seat _ _ n (caps m cap x found room other) spared = refl
way-changed t seat _ _ n (submits m floor x found may) spared = refl
way-changed t seat _ _ n (collects m x end found ended) spared = refl
way-changed t seat _ _ n (moves_on m x r pool is taken) spared =
    let free = (verdict-free t.definitions r x.cap_ms _ pool is.comes_to).1 in
    let apart = spared-turn t seat m n r.session x is.found (runner-session t.running x.number r is.runs) (spared m x refl is.found) in
    way-push (without_runner r.session t.running) (moved t.clock pool r) n free ∙ way-without t.running r.session n apart
way-changed t seat _ _ n (asks m x r pool is) spared =
    way-other (leaving_for pool) t.running r.session n (λ z. refl) (spared-turn t seat m n r.session x is.found (runner-session t.running x.number r is.runs) (spared m x refl is.found))
way-changed t seat _ _ n (gives_way m x r pool found runs leaves) spared =
    way-without t.running r.session n (spared-turn t seat m n r.session x found (runner-session t.running x.number r runs) (spared m x refl found))
way-changed t seat _ _ n (finishes m x found runs) spared = way-without t.running x.number n (spared-turn t seat m n x.number x found refl (spared m x refl found))
way-changed t seat _ _ n (withdraws by target x y w may waits) spared = refl
way-changed t seat _ _ n (stops by target x y r may runs first) spared = stop-turn t.running r.session n (eqb r.session n) refl
way-changed t seat _ _ n (closes m x found rests) spared = refl

way-tried : (t : State) (seat : ℕ) (event : Event) (c : Change) (n : ℕ) → IsTried t seat event c → IsSpared t seat event n → way_of c.state.running n ≡ way_of t.running n
way-tried t seat event _ n (stays answer still) spared = refl
way-tried t seat event _ n (changes c is loud) spared = way-changed t seat event c n is spared

-- an event that steers another session's query leaves it
pub leaving-spared : (s : State) (seat at : ℕ) (event : Event) (n : ℕ) → IsSpared (found_at s at) seat event n → is_leaving (step s seat at event).state n ≡ is_leaving s n
leaving-spared s seat at event n spared =
    let t = found_at s at in
    way-step s seat at event n ∙ way-tried t seat event (attempted t seat event) n (tried-is t seat event) spared ∙ ap (λ l. way_of l n) (less-found s at).running

-- so does each of another seat
pub leaving-others : (seat n : ℕ) (b : Bool) → IsKeptByOthers seat (λ s. IsOpen s seat n × (is_leaving s n ≡ b))
leaving-others seat n b s other at event apart healthy formed (opened, is) =
    let there = there-found n seat s at (open-there s seat n opened) in
    let spared : IsSpared (found_at s at) other event n = λ m x steers found. other-turn m x found (eqb m n) refl in
    (open-others seat n s other at event apart healthy formed opened, leaving-spared s other at event n spared ∙ is) where
      other-turn : (m : ℕ) (x : Session) → session_of (found_at s at) other m ≡ Some x → (c : Bool) → eqb m n ≡ c → c ≡ false
      other-turn m x found false e = refl
      other-turn m x found true e =
          let there = there-found n seat s at (open-there s seat n opened) in
          let own = session_of-is (found_at s at) other m x found in
          let both : Some x ≡ Some there.0 = sym own.called ∙ ap (session_called (found_at s at).sessions) (eqb-true m n e) ∙ there.1 in
          let same : x ≡ there.0 = cc in
          absurd (apart (sym own.of_seat ∙ ap (λ (y : Session). y.seat) same ∙ there.2))

-- what a check says that tells no query to give way
abbrev IsNoWay : Verdict → Type 0
IsNoWay (verdict.Says r) = asks_way r ≡ false
IsNoWay (verdict.GoesTo pool) = Unit {0}

abbrev AreNoWay : Option Verdict → Type 0
AreNoWay None = Unit {0}
AreNoWay (Some v) = IsNoWay v

first-no_way : (o : Option Verdict) (more : List (Option Verdict)) → AreNoWay o → IsNoWay (first_verdict more) → IsNoWay (first_verdict (o ∷ more))
first-no_way None more one rest = rest
first-no_way (Some v) more one rest = one

says-no_way : (b : Bool) (r : Reply) → asks_way r ≡ false → AreNoWay (says_if b r)
says-no_way true r is = is
says-no_way false r is = tt

ended-no_way : (which : CapOwner) (cap : Option ℕ) (running : ℕ) → AreNoWay (ended_by which cap running)
ended-no_way which None running = tt
ended-no_way which (Some cap) running = says-no_way (is_exceeded (Some cap) running) (reply.CapEnded which running cap) refl

next-no_way : (o : Option Name) → AreNoWay (option_map verdict.GoesTo o)
next-no_way None = tt
next-no_way (Some pool) = tt

-- only a query that is to give way already is told so by the verdict alone
says-way : (d : Definitions) (r : Runner) (session_cap : Option ℕ) (running : ℕ) (answer : Reply) → verdict d r session_cap running ≡ verdict.Says answer
    → is_some r.leaving ≡ (is_some r.leaving || asks_way answer)
says-way d r session_cap running answer e = turn r.cancelled r.leaving e where
  user : Option Verdict
  user = ended_by owner.User (user_runtime_cap d r.user) running

  own : Option Verdict
  own = ended_by owner.Session session_cap running

  within : Option Verdict
  within = says_if (not (is_exceeded (pool_runtime_cap d r.pool) running)) reply.Go

  next : Option Verdict
  next = option_map verdict.GoesTo (target d r.pool running r.moves)

  end : Option Verdict
  end = ended_by owner.Pool (pool_runtime_cap d r.pool) running

  rest : IsNoWay (first_verdict (user ∷ own ∷ within ∷ next ∷ end ∷ []))
  rest =
      first-no_way user (own ∷ within ∷ next ∷ end ∷ []) (ended-no_way owner.User (user_runtime_cap d r.user) running)
      (first-no_way own (within ∷ next ∷ end ∷ []) (ended-no_way owner.Session session_cap running)
      (first-no_way within (next ∷ end ∷ []) (says-no_way (not (is_exceeded (pool_runtime_cap d r.pool) running)) reply.Go refl)
      (first-no_way next (end ∷ []) (next-no_way (target d r.pool running r.moves))
      (first-no_way end [] (ended-no_way owner.Pool (pool_runtime_cap d r.pool) running) refl))))

  turn : (b : Bool) (o : Option Name)
      → first_verdict (says_if b reply.Stopping ∷ option_map (λ pool. verdict.Says (reply.GiveWay pool)) o ∷ user ∷ own ∷ within ∷ next ∷ end ∷ []) ≡ verdict.Says answer
      → is_some o ≡ (is_some o || asks_way answer)
  turn b (Some pool) is = refl
  turn b None is =
      sym (subst IsNoWay is
      (first-no_way (says_if b reply.Stopping) (None ∷ user ∷ own ∷ within ∷ next ∷ end ∷ []) (says-no_way b reply.Stopping refl)
      (first-no_way None (user ∷ own ∷ within ∷ next ∷ end ∷ []) tt rest)))

or_true : (b : Bool) → true ≡ (b || true)
or_true true = refl
or_true false = refl

or_false : (b : Bool) → b ≡ (b || false)
or_false true = refl
or_false false = refl

-- once a session's query is taken out, none of it is left
none-runs : (t : State) (m n : ℕ) → AreInPhase t.sessions t.waiting t.running → m ≡ n → way_of (without_runner m t.running) n ≡ false
none-runs t m n h same =
    ap (λ k. way_of (without_runner k t.running) n) same
    ∙ ap way_in (none-left (runs_in n) t.running (omega (arith, h.runs n, one_if-most (is_running (phase_of t.sessions n)))))

-- a check tells a query to give way, or it was told so before
check-tried : (t u : State) (seat n : ℕ) (c : Change) → AreInPhase t.sessions t.waiting t.running → IsTried t seat (Check n) c
    → way_of c.state.running n ≡ (way_of t.running n || asks_way (reply_of u c.answer))
check-tried t u seat n _ h (stays _ (refuses _ r is)) = or_false (way_of t.running n)
check-tried t u seat n _ h (stays _ (judges _ x r answer is says)) =
    let runs : runner_of t.running n ≡ Some r = ap (runner_of t.running) (sym (session_of-is t seat n x is.found).number) ∙ is.runs in
    subst (λ (o : Option Runner). way_in o ≡ (way_in o || asks_way answer)) (sym runs)
    (says-way t.definitions r x.cap_ms (running_time r t.clock) answer is.comes_to)
check-tried t u seat n _ h (changes _ (moves_on _ x r pool is taken) loud) =
    let number = (session_of-is t seat n x is.found).number in
    let free = (verdict-free t.definitions r x.cap_ms (running_time r t.clock) pool is.comes_to).1 in
    let was : way_of t.running n ≡ false = ap (way_of t.running) (sym number) ∙ ap way_in is.runs ∙ ap is_some free in
    let now : way_of (without_runner r.session t.running ++ moved t.clock pool r ∷ []) n ≡ false =
    way-push (without_runner r.session t.running) (moved t.clock pool r) n free ∙ none-runs t r.session n h (runner-session t.running x.number r is.runs ∙ number) in
    now ∙ sym (ap (λ b. b || false) was)
check-tried t u seat n _ h (changes _ (asks _ x r pool is) loud) =
    let number = (session_of-is t seat n x is.found).number in
    let runs : runner_of t.running n ≡ Some r = ap (runner_of t.running) (sym number) ∙ is.runs in
    let now : way_of (with_runner_as (leaving_for pool) r.session t.running) n ≡ true =
    ap (λ k. way_of (with_runner_as (leaving_for pool) k t.running) n) (runner-session t.running n r runs)
    ∙ ap way_in (found-changed (runs_in n) (leaving_for pool) t.running (λ z. refl) ∙ ap (option_map (leaving_for pool)) runs) in
    now ∙ or_true (way_of t.running n)

pub check-leaving : (s : State) (seat at n : ℕ) → IsHealthy s
    → is_leaving (step s seat at (Check n)).state n ≡ (is_leaving s n || asks_way (step s seat at (Check n)).reply)
check-leaving s seat at n healthy =
    let t = found_at s at in
    let event : Event = Check n in
    let c = attempted t seat event in
    let tried = λ (u : State). check-tried t u seat n c (found-facts s at healthy).in_phase (tried-is t seat event) in
    let was = ap (λ l. way_of l n) (less-found s at).running in
    way-step s seat at event n
    ∙ outcome-turn (λ o. way_of c.state.running n ≡ (is_leaving s n || asks_way o.reply)) s seat event c (has_due s at || c.changed)
    (λ settles. tried (settled c.state) ∙ ap (λ b. b || asks_way (reply_of (settled c.state) c.answer)) was)
    (λ still. tried c.state ∙ ap (λ b. b || asks_way (reply_of c.state c.answer)) was)

-- a session of which no query runs has none that is to give way
resting-way : (t : State) (n : ℕ) → AreInPhase t.sessions t.waiting t.running → is_running (phase_of t.sessions n) ≡ false → way_of t.running n ≡ false
resting-way t n h rests = ap way_in (none-counted (runs_in n) t.running (h.runs n ∙ ap one_if rests))

pub unopened-leaving : (s : State) (n : ℕ) → AreInPhase s.sessions s.waiting s.running → session_called s.sessions n ≡ None → is_leaving s n ≡ false
unopened-leaving s n h absent = resting-way s n h (ap is_running (ap phase_in absent))

-- after its own Finish none of the session's queries is to give way
finish-refused : (t : State) (seat n : ℕ) (x : Session) (r : Refusal) (b : Bool) → session_of t seat n ≡ Some x → is_running x.phase ≡ b → change t seat (Finish n) ≡ Err r → b ≡ false
finish-refused t seat n x r false found is refused = refl
finish-refused t seat n x r true found is refused =
    let done : change t seat (Finish n) ≡ Ok (finished t x) =
    ap (done_for (finishing t)) found ∙ ap (λ b. unless_refused (refused_if (not b) refusal.NotLive) (finished t x)) is in
    absurd (let both : Err r ≡ Ok (finished t x) = sym refused ∙ done in cc)

finish-tried : (t : State) (seat n : ℕ) (x : Session) (c : Change) → AreInPhase t.sessions t.waiting t.running → session_of t seat n ≡ Some x → IsTried t seat (Finish n) c
    → way_of c.state.running n ≡ false
finish-tried t seat n x _ h found (stays _ (refuses _ r is)) =
    resting-way t n h (ap is_running (phase_of-found n t.sessions x (session_of-is t seat n x found).called) ∙ finish-refused t seat n x r (is_running x.phase) found refl is)
finish-tried t seat n x _ h found (changes _ (finishes _ y own runs) loud) = none-runs t y.number n h (session_of-is t seat n y own).number

-- nor after it gave way, or was refused to
way-refused : (t : State) (seat n : ℕ) (x : Session) (r : Refusal) (o : Option Runner) (p : Option Name) → session_of t seat n ≡ Some x → runner_of t.running x.number ≡ o → leaving_in o ≡ p
    → change t seat (GiveWay n) ≡ Err r → is_some p ≡ false
way-refused t seat n x r o None found runs is refused = refl
way-refused t seat n x r None (Some pool) found runs is refused = absurd (cc)
way-refused t seat n x r (Some z) (Some pool) found runs is refused =
    let done : change t seat (GiveWay n) ≡ Ok (changing (gave_way t z pool) (Collects z.session)) =
    ap (done_for (giving_way t)) found ∙ ap (running_for (λ y. giving_way_to t y y.leaving)) runs ∙ ap (giving_way_to t z) is in
    absurd (let both : Err r ≡ Ok (changing (gave_way t z pool) (Collects z.session)) = sym refused ∙ done in cc)

way-tried_own : (t : State) (seat n : ℕ) (x : Session) (c : Change) → AreInPhase t.sessions t.waiting t.running → session_of t seat n ≡ Some x → IsTried t seat (GiveWay n) c
    → way_of c.state.running n ≡ false
way-tried_own t seat n x _ h found (stays _ (refuses _ r is)) =
    ap (way_of t.running) (sym (session_of-is t seat n x found).number)
    ∙ way-refused t seat n x r (runner_of t.running x.number) (leaving_in (runner_of t.running x.number)) found refl refl is
way-tried_own t seat n x _ h found (changes _ (gives_way _ y r pool own runs leaves) loud) =
    none-runs t r.session n h (runner-session t.running y.number r runs ∙ (session_of-is t seat n y own).number)

own-leaving : (s : State) (seat at n : ℕ) (event : Event) → IsHealthy s → IsOpen s seat n
    → ((t : State) (x : Session) (c : Change) → AreInPhase t.sessions t.waiting t.running → session_of t seat n ≡ Some x → IsTried t seat event c → way_of c.state.running n ≡ false)
    → is_leaving (step s seat at event).state n ≡ false
own-leaving s seat at n event healthy opened ends =
    let t = found_at s at in
    let there = there-of t seat n (there-found n seat s at (open-there s seat n opened)) in
    way-step s seat at event n ∙ ends t there.0 (attempted t seat event) (found-facts s at healthy).in_phase there.1 (tried-is t seat event)

pub finish-leaving : (s : State) (seat at n : ℕ) → IsHealthy s → IsOpen s seat n → is_leaving (step s seat at (Finish n)).state n ≡ false
finish-leaving s seat at n healthy opened = own-leaving s seat at n (Finish n) healthy opened (λ t x c h found is. finish-tried t seat n x c h found is)

pub way-leaving : (s : State) (seat at n : ℕ) → IsHealthy s → IsOpen s seat n → is_leaving (step s seat at (GiveWay n)).state n ≡ false
way-leaving s seat at n healthy opened = own-leaving s seat at n (GiveWay n) healthy opened (λ t x c h found is. way-tried_own t seat n x c h found is)
