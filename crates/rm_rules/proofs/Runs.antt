-- A session that runs: who opened it, how it goes on, and what it is told.
use Rattle.std.proofs.Common.{◌≡◌, ℕ, ◌+◌, ◌≤◌, Bool, true, false, ◌||◌, cond, not, eqb, leb, length, List, [], ◌∷◌, ◌++◌, Some, None, Option, Err, Result, inl, inr, ◌⊎◌, refl, sym, ap, ◌∙◌, subst, arith, count_by, map}
use Rattle.std.specs.Prelude.{◌≢◌, option_map, option_and_then}
use Rattle.std.proofs.lemmas.Bool.{eqb-true, eq-eqb, false≢true}
use Rattle.std.proofs.lemmas.Bool.Decides.{nat_tests}
use Rattle.rm_base.specs.declared.entry.Entry.{Entry}
use Rattle.rm_base.specs.declared.event.Event.{Event}
use Rattle.rm_base.specs.declared.event.Event.TheVariants.{Submit, GiveWay, Finish}
use Rattle.rm_base.specs.declared.name.Name.{Name}
use Rattle.rm_base.specs.declared.refusal.Refusal.{Refusal}
use Rattle.rm_base.specs.declared.refusal.Refusal.TheVariants as refusal
use Rattle.rm_base.specs.declared.reply.End.TheVariants as end
use Rattle.rm_base.specs.declared.reply.Reply.{Reply}
use Rattle.rm_base.specs.declared.reply.Reply.TheVariants as reply
use Rattle.rm_rules.specs.declared.answer.Answer.{Answer}
use Rattle.rm_rules.specs.declared.answer.Answer.TheVariants.{Says, Tells, Collects}
use Rattle.rm_rules.specs.declared.state.Phase.{Phase}
use Rattle.rm_rules.specs.declared.state.Phase.TheVariants as phase
use Rattle.rm_rules.specs.declared.state.Session.{Session}
use Rattle.rm_rules.specs.declared.state.Waiter.{Waiter}
use Rattle.rm_rules.specs.declared.state.Runner.{Runner}
use Rattle.rm_rules.specs.State.{State, session_called, session_of, if_opened_by, session_pool, phase_of, with_phase, with_choice, with_cap, without_session, is_idle, is_running, is_ended, live_queries, runner_of, waiter_of, changed_first}
use Rattle.rm_rules.specs.Refusals.{refused_if, first_refusal, unless_refused, user_missing}
use Rattle.rm_rules.specs.Settle.{settled}
use Rattle.rm_rules.specs.Change.{Change, quiet, tried, new_session, within_moments, usage_missing, size_refusal, journal_full, submitting, submitted, finished, finishing, grant_of}
use Rattle.rm_rules.specs.Moving.{gave_way}
use Rattle.rm_rules.specs.Answers.{told, told_in_phase, told_running, told_waiting, reply_of, answered}
use Rattle.rm_rules.specs.Step.{moved_to, has_due, found_at, attempted, step}
use Rattle.rm_rules.specs.Replay.{IsFormed, replay, IsLegal, own_entries}
use Rattle.rm_rules.specs.Sessions.{session_in}
use Rattle.rm_rules.specs.Healthy.{AreInPhase, AreOpened, AreNumbered, IsHealthy}
use Rattle.rm_rules.specs.Grants.{Run, run_by, run_of, runner_called, query_of, is_refused, freeing, freed_by}
use Rattle.rm_rules.proofs.Taken.{found_passes, counted_among, all_found, or_left_false, or_right_false}
use Rattle.rm_rules.proofs.Found.{found-push, found-split, found-other, find-without, none-left}
use Rattle.rm_rules.proofs.Changed.{found-changed, other-changed}
use Rattle.rm_rules.proofs.Phases.{has_number, phased, choosing_pool, phase_in, differ, one_if-most, phase_of-found}
use Rattle.rm_rules.proofs.Admitting.{one_or_none}
use Rattle.rm_rules.proofs.Settling.{due-keeps, settled-keeps, rest-due}
use Rattle.rm_rules.proofs.Verdicts.{IsCheckReply, says_go, says_way, says_end, says_stop}
use Rattle.rm_rules.proofs.Changing.{IsTried, stays, changes, refuses, repeats, caps_again, judges, stops_again, tells, IsChange, defines, drops, opens, chooses, caps, submits, collects, moves_on, asks, gives_way, finishes, withdraws, stops, closes, session_of-is, session_of-found, tried-is}
use Rattle.rm_rules.proofs.Stepping.{found-facts, none-found, outcome-turn}
use Rattle.rm_rules.specs.DropPool.{session_beside}
use Rattle.rm_rules.proofs.Dropping.{called-dropped}
use Rattle.rm_rules.proofs.Laws.{healthy-step, others-keep}
use Rattle.rm_rules.proofs.Loud.{next-differs}
use Rattle.rm_rules.proofs.Grants.{IsSameRun, goes-same, grant_of-found, runner-number, session-found, plain-quiet, less-found, grants-step}

-- the session of this number, if it is open, was opened by this seat
pub record IsOwned (n seat : ℕ) (xs : List Session) : Type 0 where
  pub owner : (y : Session) → session_called xs n ≡ Some y → y.seat ≡ seat

owned-found : (n : ℕ) (x : Session) (xs : List Session) → session_called xs n ≡ Some x → IsOwned n x.seat xs
owned-found n x xs found = record { owner = λ y is. let same : Some y ≡ Some x = sym is ∙ found in ap (λ (z : Session). z.seat) (let e : y ≡ x = cc in e) }

-- what changes no seat keeps the owner
mapped-seat : (act : Session → Session) (seat : ℕ) (o : Option Session) (y : Session) → ((z : Session) → (act z).seat ≡ z.seat) → ((z : Session) → o ≡ Some z → z.seat ≡ seat)
    → option_map act o ≡ Some y → y.seat ≡ seat
mapped-seat act seat None y kept owner is = absurd (cc)
mapped-seat act seat (Some z) y kept owner is = let same : act z ≡ y = cc in ap (λ (x : Session). x.seat) (sym same) ∙ kept z ∙ owner z refl

changed-turn : (act : Session → Session) (n m seat : ℕ) (xs : List Session) (b : Bool) → eqb m n ≡ b → ((z : Session) → (act z).number ≡ z.number) → ((z : Session) → (act z).seat ≡ z.seat)
    → IsOwned n seat xs → IsOwned n seat (changed_first (has_number m) act xs)
changed-turn act n m seat xs true e number kept h = record {
  owner = λ y is.
      let same : m ≡ n = eqb-true m n e in
      mapped-seat act seat (session_called xs n) y kept h.owner
      (subst (λ k. option_map act (session_called xs k) ≡ Some y) same
      (sym (found-changed (has_number m) act xs (λ z. ap (λ k. eqb k m) (number z))) ∙ ap (session_called (changed_first (has_number m) act xs)) same ∙ is));
}
changed-turn act n m seat xs false e number kept h = record {
  owner = λ y is.
      h.owner y (sym (other-changed (has_number m) (has_number n) act xs (λ z here. differ z.number m n e here) (λ z. ap (λ k. eqb k n) (number z))) ∙ is);
}

owned-with : (n m seat : ℕ) (p : Phase) (xs : List Session) → IsOwned n seat xs → IsOwned n seat (with_phase m p xs)
owned-with n m seat p xs h = changed-turn (phased p) n m seat xs (eqb m n) refl (λ z. refl) (λ z. refl) h

owned-choice : (n m seat : ℕ) (pool : Name) (xs : List Session) → IsOwned n seat xs → IsOwned n seat (with_choice m pool xs)
owned-choice n m seat pool xs h = changed-turn (choosing_pool pool) n m seat xs (eqb m n) refl (λ z. refl) (λ z. refl) h

owned-cap : (n m seat : ℕ) (cap : Option ℕ) (xs : List Session) → IsOwned n seat xs → IsOwned n seat (with_cap m cap xs)
owned-cap n m seat cap xs h = changed-turn (λ x. record x { cap_ms = cap }) n m seat xs (eqb m n) refl (λ z. refl) (λ z. refl) h

owned-dropped : (n seat : ℕ) (pool : Name) (xs : List Session) → IsOwned n seat xs → IsOwned n seat (map (session_beside pool) xs)
owned-dropped n seat pool xs h = record {
  owner = λ y is. mapped-seat (session_beside pool) seat (session_called xs n) y (λ z. refl) h.owner (sym (called-dropped pool n xs) ∙ is);
}

-- a new session has another number, and one that is gone is found no more
owned-push : (n seat : ℕ) (x : Session) (xs : List Session) → eqb x.number n ≡ false → IsOwned n seat xs → IsOwned n seat (xs ++ x ∷ [])
owned-push n seat x xs other h = record { owner = λ y is. turn y is (found-push (has_number n) y x xs is) } where
  turn : (y : Session) → session_called (xs ++ x ∷ []) n ≡ Some y → (session_called xs n ≡ Some y) ⊎ (y ≡ x) → y.seat ≡ seat
  turn y is (inl before) = h.owner y before
  turn y is (inr new) = absurd (false≢true (sym other ∙ ap (λ (z : Session). eqb z.number n) (sym new) ∙ found_passes (has_number n) y (xs ++ x ∷ []) is))

without-turn : (n m seat : ℕ) (xs : List Session) (b : Bool) → eqb m n ≡ b → count_by (has_number m) xs ≤ 1 → IsOwned n seat xs → IsOwned n seat (without_session m xs)
without-turn n m seat xs true e once h = record {
  owner = λ y is. absurd (let none : None ≡ Some y = sym (none-left (has_number m) xs once) ∙ ap (session_called (without_session m xs)) (eqb-true m n e) ∙ is in cc);
}
without-turn n m seat xs false e once h = record {
  owner = λ y is. h.owner y (sym (find-without (has_number m) (has_number n) xs (λ z here. differ z.number m n e here)) ∙ is);
}

-- so no part of an event gives a session to another seat
pub owned-found_at : (s : State) (at n seat : ℕ) → IsOwned n seat s.sessions → IsOwned n seat (found_at s at).sessions
owned-found_at s at n seat h =
    due-keeps (λ t. IsOwned n seat t.sessions) (λ t w end among k. owned-with n w.session seat (phase.Ended end) t.sessions k) (moved_to s at) h

owned-settled : (s : State) (n seat : ℕ) → IsOwned n seat s.sessions → IsOwned n seat (settled s).sessions
owned-settled s n seat h =
    settled-keeps (λ t. IsOwned n seat t.sessions) (λ t w end among k. owned-with n w.session seat (phase.Ended end) t.sessions k) (λ t k. k)
    (λ t w picked k. owned-with n w.session seat phase.Running t.sessions k) s h

owned-answered : (s : State) (answer : Answer) (n seat : ℕ) → IsOwned n seat s.sessions → IsOwned n seat (answered s answer).sessions
owned-answered s (Says reply) n seat h = h
owned-answered s (Tells session) n seat h = h
owned-answered s (Collects session) n seat h = turn (is_ended (phase_of s.sessions session)) where
  turn : (b : Bool) → IsOwned n seat (cond b (with_phase session phase.Idle s.sessions) s.sessions)
  turn true = owned-with n session seat phase.Idle s.sessions h
  turn false = h

owned-changed : (s : State) (by : ℕ) (event : Event) (c : Change) (n seat : ℕ) → IsChange s by event c → AreOpened s.last_session s.sessions → n ≤ s.last_session
    → IsOwned n seat s.sessions → IsOwned n seat c.state.sessions
owned-changed s by _ _ n seat (defines statement new dropped_none accepts) opened given h = h
owned-changed s by _ _ n seat (drops pool new accepts) opened given h = owned-dropped n seat pool s.sessions h
owned-changed s by _ _ n seat (opens user may) opened given h = owned-push n seat (new_session s by user) s.sessions (next-differs s.last_session n given) h
owned-changed s by _ _ n seat (chooses session pool x found may other) opened given h = owned-choice n x.number seat pool s.sessions h
owned-changed s by _ _ n seat (caps session cap x found room other) opened given h = owned-cap n x.number seat (within_moments cap) s.sessions h
owned-changed s by _ _ n seat (submits session floor x found may) opened given h = owned-with n x.number seat phase.Waiting s.sessions h
owned-changed s by _ _ n seat (collects session x end found ended) opened given h = owned-with n x.number seat phase.Idle s.sessions h
owned-changed s by _ _ n seat (moves_on session x r pool is taken) opened given h = h
owned-changed s by _ _ n seat (asks session x r pool is) opened given h = h
owned-changed s by _ _ n seat (gives_way session x r pool found runs leaves) opened given h = owned-with n r.session seat phase.Waiting s.sessions h
owned-changed s by _ _ n seat (finishes session x found runs) opened given h = owned-with n x.number seat phase.Idle s.sessions h
owned-changed s by _ _ n seat (withdraws by_session target x y w may waits) opened given h = owned-with n w.session seat (phase.Ended end.Cancelled) s.sessions h
owned-changed s by _ _ n seat (stops by_session target x y r may runs first) opened given h = h
owned-changed s by _ _ n seat (closes session x found rests) opened given h = without-turn n x.number seat s.sessions (eqb x.number n) refl (opened.once x.number) h

owned-tried : (s : State) (by : ℕ) (event : Event) (c : Change) (n seat : ℕ) → IsTried s by event c → AreOpened s.last_session s.sessions → n ≤ s.last_session
    → IsOwned n seat s.sessions → IsOwned n seat c.state.sessions
owned-tried s by event _ n seat (stays answer still) opened given h = h
owned-tried s by event _ n seat (changes c is loud) opened given h = owned-changed s by event c n seat is opened given h

owned-step : (s : State) (by at : ℕ) (event : Event) (n seat : ℕ) → IsHealthy s → n ≤ s.last_session → IsOwned n seat s.sessions → IsOwned n seat (step s by at event).state.sessions
owned-step s by at event n seat h given owned =
    let t = found_at s at in
    let c = attempted t by event in
    let there = found-facts s at h in
    let more : n ≤ t.last_session = omega (arith, given, (rest-due (moved_to s at)).last_session) in
    outcome-turn (λ o. IsOwned n seat o.state.sessions) s by event c (has_due s at || c.changed)
    (λ settles.
    owned-answered (settled c.state) c.answer n seat
    (owned-settled c.state n seat (owned-tried t by event c n seat (tried-is t by event) there.opened more (owned-found_at s at n seat owned)))
    )
    (λ still. owned)

-- a session of which a query runs is open, and runs
session-runs : (t : State) (n : ℕ) (r : Runner) → AreInPhase t.sessions t.waiting t.running → runner_of t.running n ≡ Some r → is_running (phase_of t.sessions n) ≡ true
session-runs t n r h found =
    let split = found-split (λ (z : Runner). eqb z.session n) r t.running found in
    let some : 1 ≤ count_by (λ (z : Runner). eqb z.session n) t.running =
    subst (λ (l : List Runner). 1 ≤ count_by (λ z. eqb z.session n) l) (sym split.1.1)
    (counted_among (λ (z : Runner). eqb z.session n) split.0 split.1.0 r (found_passes (λ (z : Runner). eqb z.session n) r t.running found)) in
    one_or_none _ (omega (arith, h.runs n, some))

-- a session that is open and this seat's
session_of-owned : (s : State) (seat n : ℕ) (x : Session) → IsOwned n seat s.sessions → session_called s.sessions n ≡ Some x → session_of s seat n ≡ Some x
session_of-owned s seat n x owned called =
    ap (option_and_then (if_opened_by seat)) called ∙ ap (λ b. cond b (Some x) None) (eq-eqb x.seat seat (owned.owner x called))

pub runs-open : (t : State) (n seat : ℕ) (r : Runner) → AreInPhase t.sessions t.waiting t.running → IsOwned n seat t.sessions → runner_of t.running n ≡ Some r
    → (x : Session) × (session_of t seat n ≡ Some x) × (is_running x.phase ≡ true)
runs-open t n seat r h owned found = turn (session_called t.sessions n) refl where
  turn : (o : Option Session) → session_called t.sessions n ≡ o → (x : Session) × (session_of t seat n ≡ Some x) × (is_running x.phase ≡ true)
  turn None absent = absurd (false≢true (ap is_running (sym (ap phase_in absent)) ∙ session-runs t n r h found))
  turn (Some x) called = (x, session_of-owned t seat n x owned called, ap is_running (sym (phase_of-found n t.sessions x called)) ∙ session-runs t n r h found)

-- what goes on is one run
same-run : (r x : Runner) → IsSameRun r x → run_by x ≡ run_by r
same-run r x h =
    ap (λ q. let run : Run = record { query = q; grant = x.grant } in run) h.query ∙ ap (λ g. let run : Run = record { query = r.query; grant = g } in run) h.grant

-- what a seat knows of the run of its session
pub record IsRun (s : State) (seat session : ℕ) (run : Run) : Type 0 where
  pub opener : Session
  pub open_session : session_of s seat session ≡ Some opener
  pub runner : Runner
  pub runs : runner_of s.running session ≡ Some runner
  pub is : run_by runner ≡ run

run-turn : (s : State) (seat session : ℕ) (run : Run) (o : Option Session) (q : Option Runner) → session_of s seat session ≡ o → runner_of s.running session ≡ q
    → option_and_then (λ _. option_map run_by q) o ≡ Some run → IsRun s seat session run
run-turn s seat session run None q e f is = absurd (cc)
run-turn s seat session run (Some x) None e f is = absurd (cc)
run-turn s seat session run (Some x) (Some r) e f is = record { opener = x; open_session = e; runner = r; runs = f; is = let same : run_by r ≡ run = cc in same }

pub run-is : (s : State) (seat session : ℕ) (run : Run) → run_of s seat session ≡ Some run → IsRun s seat session run
run-is s seat session run is = run-turn s seat session run (session_of s seat session) (runner_of s.running session) refl refl is

pub run-found : (s : State) (seat session : ℕ) (x : Session) (r : Runner) → session_of s seat session ≡ Some x → runner_of s.running session ≡ Some r → run_of s seat session ≡ Some (run_by r)
run-found s seat session x r found runs =
    ap (option_and_then (λ (_ : Session). option_map run_by (runner_of s.running session))) found ∙ ap (option_map run_by) runs

-- its session is this seat's, with a number that was given
pub owned-opened : (s : State) (seat n : ℕ) (x : Session) → session_of s seat n ≡ Some x → IsOwned n seat s.sessions
owned-opened s seat n x found =
    let is = session_of-is s seat n x found in
    subst (λ k. IsOwned n k s.sessions) is.of_seat (owned-found n x s.sessions is.called)

within : (k last : ℕ) → leb k last ≡ true → k ≤ last
within k last h = grind (arith, nat_tests)

given-opened : (s : State) (seat n : ℕ) (x : Session) → session_of s seat n ≡ Some x → AreOpened s.last_session s.sessions → n ≤ s.last_session
given-opened s seat n x found opened =
    let is = session_of-is s seat n x found in
    omega (arith, is.number, within x.number s.last_session (all_found (λ z. leb z.number s.last_session) (has_number n) s.sessions x opened.given is.called))

-- the query of a run is that of its session alone
one-session : (s : State) (n m : ℕ) (r : Runner) (o : Option Runner) → AreNumbered s.last_query s.waiting s.running → runner_of s.running n ≡ Some r → runner_of s.running m ≡ o
    → option_map (λ (z : Runner). z.query) o ≡ Some r.query → m ≡ n
one-session s n m r None numbered found other is = absurd (cc)
one-session s n m r (Some z) numbered found other is =
    let query : z.query ≡ r.query = cc in
    let both : Some z ≡ Some r = sym (runner-number s m z other numbered) ∙ ap (runner_called s.running) query ∙ runner-number s n r found numbered in
    let same : z ≡ r = cc in
    sym (eqb-true z.session m (found_passes (λ (x : Runner). eqb x.session m) z s.running other)) ∙ ap (λ (x : Runner). x.session) same
    ∙ eqb-true r.session n (found_passes (λ (x : Runner). eqb x.session n) r s.running found)

-- an event that takes the grant of a session's query is its seat's: it finishes the query, or lets it give way
record IsFreedBy (t : State) (seat : ℕ) (event : Event) (session : ℕ) : Type 0 where
  pub event_is : (event ≡ Finish session) ⊎ (event ≡ GiveWay session)
  pub opener : Session
  pub found : session_of t seat session ≡ Some opener

way-turn : (m session : ℕ) (b : Bool) → cond b None (Some m) ≡ Some session → m ≡ session
way-turn m session true is = absurd (cc)
way-turn m session false is = cc

freed-by : (t u : State) (seat session : ℕ) (event : Event) (c : Change) → IsTried t seat event c → freeing event (reply_of u c.answer) ≡ Some session → IsFreedBy t seat event session
freed-by t u seat session event _ (stays answer still) is = absurd (let no : None ≡ Some session = sym (plain-quiet t u seat event answer still).frees ∙ is in cc)
freed-by t u seat session _ _ (changes _ (defines statement new dropped_none accepts) loud) is = absurd (cc)
freed-by t u seat session _ _ (changes _ (drops pool new accepts) loud) is = absurd (cc)
freed-by t u seat session _ _ (changes _ (opens user may) loud) is = absurd (cc)
freed-by t u seat session _ _ (changes _ (chooses m pool x found may other) loud) is = absurd (cc)
freed-by t u seat session _ _ (changes _ (caps m cap x found room other) loud) is = absurd (cc)
freed-by t u seat session _ _ (changes _ (submits m floor x found may) loud) is = absurd (cc)
freed-by t u seat session _ _ (changes _ (collects m x end found ended) loud) is = absurd (cc)
freed-by t u seat session _ _ (changes _ (moves_on m x r pool checked taken) loud) is = absurd (cc)
freed-by t u seat session _ _ (changes _ (asks m x r pool checked) loud) is = absurd (cc)
freed-by t u seat session _ _ (changes _ (gives_way m x r pool found runs leaves) loud) is =
    let same : m ≡ session = way-turn m session (is_refused (told u r.session)) is in
    record { event_is = inr (ap (λ n. GiveWay n) same); opener = x; found = ap (session_of t seat) (sym same) ∙ found }
freed-by t u seat session _ _ (changes _ (finishes m x found runs) loud) is =
    let same : m ≡ session = cc in
    record { event_is = inl (ap (λ n. Finish n) same); opener = x; found = ap (session_of t seat) (sym same) ∙ found }
freed-by t u seat session _ _ (changes _ (withdraws by target x y w may waits) loud) is = absurd (cc)
freed-by t u seat session _ _ (changes _ (stops by target x y r may runs first) loud) is = absurd (cc)
freed-by t u seat session _ _ (changes _ (closes m x found rests) loud) is = absurd (cc)

freed-own : (s : State) (seat at session : ℕ) (event : Event) → freeing event (step s seat at event).reply ≡ Some session → IsFreedBy (found_at s at) seat event session
freed-own s seat at session event =
    let t = found_at s at in
    let c = attempted t seat event in
    let is = tried-is t seat event in
    outcome-turn (λ o. freeing event o.reply ≡ Some session → IsFreedBy t seat event session) s seat event c (has_due s at || c.changed)
    (λ settles e. freed-by t (settled c.state) seat session event c is e)
    (λ still e. freed-by t c.state seat session event c is e)

-- so what its own seat neither finishes nor lets give way runs on
not-freed : (s : State) (seat at owner session : ℕ) (event : Event) (r : Runner) → IsHealthy s → IsOwned session owner s.sessions → runner_of s.running session ≡ Some r
    → (event ≡ Finish session → seat ≢ owner) → (event ≡ GiveWay session → seat ≢ owner) → freed_by s event (step s seat at event).reply ≢ Some r.query
not-freed s seat at owner session event r h owned runs unless_finished unless_gone freed = turn (freeing event (step s seat at event).reply) refl freed where
  own : IsFreedBy (found_at s at) seat event session → seat ≡ owner
  own by =
      let is = session_of-is (found_at s at) seat session by.opener by.found in
      sym is.of_seat ∙ (owned-found_at s at session owner owned).owner by.opener is.called

  freed-turn : (by : IsFreedBy (found_at s at) seat event session) → (event ≡ Finish session) ⊎ (event ≡ GiveWay session) → ⊥
  freed-turn by (inl is) = unless_finished is (own by)
  freed-turn by (inr is) = unless_gone is (own by)

  turn : (o : Option ℕ) → freeing event (step s seat at event).reply ≡ o → option_and_then (query_of s) o ≡ Some r.query → ⊥
  turn None e f = absurd (cc)
  turn (Some m) e f =
      let same : m ≡ session = one-session s session m r (runner_of s.running m) h.numbered runs refl f in
      let by = freed-own s seat at session event (e ∙ ap (λ n. Some n) same) in
      freed-turn by by.event_is

-- the running query that its number finds is the one of its session
runner-session : (t : State) (n query : ℕ) (r : Runner) → AreInPhase t.sessions t.waiting t.running → runner_called t.running query ≡ Some r → eqb r.session n ≡ true → runner_of t.running n ≡ Some r
runner-session t n query r h called passes =
    found-other (λ (z : Runner). eqb z.query query) (λ z. eqb z.session n) r t.running called passes
    (omega (arith, h.runs n, one_if-most (is_running (phase_of t.sessions n))))

pub runs-on : (s : State) (seat at owner session : ℕ) (event : Event) (run : Run) → IsHealthy s → IsFormed event → run_of s owner session ≡ Some run
    → (event ≡ Finish session → seat ≢ owner) → (event ≡ GiveWay session → seat ≢ owner) → run_of (step s seat at event).state owner session ≡ Some run
runs-on s seat at owner session event run h formed is unless_finished unless_gone =
    let was = run-is s owner session run is in
    let r = was.runner in
    let t = (step s seat at event).state in
    let there = healthy-step s seat at event formed h in
    let owned = owned-opened s owner session was.opener was.open_session in
    let numbered = runner-number s session r was.runs h.numbered in
    let on = (grants-step s seat at event h).kept r.query r numbered (not-freed s seat at owner session event r h owned was.runs unless_finished unless_gone) in
    let same = goes-same event (step s seat at event).reply t.clock r on.0 on.2 in
    let passes = ap (λ n. eqb n session) same.session ∙ found_passes (λ (z : Runner). eqb z.session session) r s.running was.runs in
    let runs = runner-session t session r.query on.0 there.in_phase on.1 passes in
    let opener = runs-open t session owner on.0 there.in_phase
    (owned-step s seat at event session owner h (given-opened s owner session was.opener was.open_session h.opened) owned) runs in
    run-found t owner session opener.0 on.0 opener.1 runs ∙ ap (λ x. Some x) (same-run r on.0 same ∙ was.is)

-- also along a history of other seats
pub runs-among : (s : State) (entries : List Entry) (owner session : ℕ) (run : Run) → IsHealthy s → IsLegal s entries → own_entries owner entries ≡ []
    → run_of s owner session ≡ Some run → run_of (replay s entries) owner session ≡ Some run
runs-among s entries owner session run h legal none is =
    others-keep (λ t. run_of t owner session ≡ Some run) owner
    (λ t seat at event apart healthy formed runs. runs-on t seat at owner session event run healthy formed runs (λ _. apart) (λ _. apart)) s entries h legal none is

-- a Finish of a running session is not refused
finish-found : (t : State) (seat session : ℕ) (x : Session) → session_of t seat session ≡ Some x → is_running x.phase ≡ true → attempted t seat (Finish session) ≡ finished t x
finish-found t seat session x found runs =
    ap (λ (o : Option Session). let r : Result Change Refusal = elim o [ Some y ↦ finishing t y | None ↦ Err refusal.NoSuchSession ] in tried t r) found
    ∙ ap (λ b. tried t (unless_refused (refused_if (not b) refusal.NotLive) (finished t x))) runs

-- and gives its grant back
pub finish-step : (s : State) (seat at session : ℕ) (run : Run) → IsHealthy s → run_of s seat session ≡ Some run → (step s seat at (Finish session)).reply ≡ reply.Released run.grant
finish-step s seat at session run h is =
    let was = run-is s seat session run is in
    let t = found_at s at in
    let c = attempted t seat (Finish session) in
    let runs : runner_of t.running session ≡ Some was.runner = ap (λ l. runner_of l session) (less-found s at).running ∙ was.runs in
    let opener = runs-open t session seat was.runner (found-facts s at h).in_phase (owned-found_at s at session seat (owned-opened s seat session was.opener was.open_session)) runs in
    let tries = finish-found t seat session opener.0 opener.1 opener.2 in
    let grant : grant_of t.running opener.0.number ≡ run.grant =
    ap (grant_of t.running) (session_of-is t seat session opener.0 opener.1).number ∙ grant_of-found t.running session was.runner runs ∙ ap (λ (z : Run). z.grant) was.is in
    let says : reply.Released (grant_of t.running opener.0.number) ≡ reply.Released run.grant = ap (λ g. let a : Reply = reply.Released g in a) grant in
    outcome-turn (λ o. o.reply ≡ reply.Released run.grant) s seat (Finish session) c (has_due s at || c.changed)
    (λ settles. ap (λ (d : Change). reply_of (settled d.state) d.answer) tries ∙ says)
    (λ still. ap (λ (d : Change). reply_of d.state d.answer) tries ∙ says)

-- what runs is not idle
runs-busy : (p : Phase) → is_running p ≡ true → is_idle p ≡ false
runs-busy phase.Idle runs = absurd (false≢true runs)
runs-busy phase.Waiting runs = refl
runs-busy phase.Running runs = refl
runs-busy (phase.Ended end) runs = refl

-- so a Submit of a running session is refused
submit-found : (t : State) (seat session floor : ℕ) (x : Session) → session_of t seat session ≡ Some x → is_running x.phase ≡ true
    → attempted t seat (Submit session floor) ≡ quiet t (Says (reply.Refused refusal.SessionBusy))
submit-found t seat session floor x found runs =
    let d = t.definitions in
    let pool = session_pool d x in
    let more : List (Option Refusal) = user_missing d x.user ∷ usage_missing d x.user pool ∷ size_refusal d pool x.user floor ∷ journal_full t (live_queries t.sessions + 1) (length t.sessions) ∷ [] in
    ap (λ (o : Option Session). let r : Result Change Refusal = elim o [ Some y ↦ submitting t floor y | None ↦ Err refusal.NoSuchSession ] in tried t r) found
    ∙ ap (λ b. tried t (unless_refused (first_refusal (refused_if (not b) refusal.SessionBusy ∷ more)) (submitted t x pool floor))) (runs-busy x.phase runs)

pub submit-step : (s : State) (seat at session floor : ℕ) (run : Run) → IsHealthy s → run_of s seat session ≡ Some run
    → (step s seat at (Submit session floor)).reply ≡ reply.Refused refusal.SessionBusy
submit-step s seat at session floor run h is =
    let was = run-is s seat session run is in
    let t = found_at s at in
    let c = attempted t seat (Submit session floor) in
    let runs : runner_of t.running session ≡ Some was.runner = ap (λ l. runner_of l session) (less-found s at).running ∙ was.runs in
    let opener = runs-open t session seat was.runner (found-facts s at h).in_phase (owned-found_at s at session seat (owned-opened s seat session was.opener was.open_session)) runs in
    let tries = submit-found t seat session floor opener.0 opener.1 opener.2 in
    outcome-turn (λ o. o.reply ≡ reply.Refused refusal.SessionBusy) s seat (Submit session floor) c (has_due s at || c.changed)
    (λ settles. ap (λ (d : Change). reply_of (settled d.state) d.answer) tries)
    (λ still. ap (λ (d : Change). reply_of d.state d.answer) tries)

-- a session that is told of a grant runs with it
record IsToldRun (t : State) (n query grant : ℕ) : Type 0 where
  pub session : Session
  pub called : session_called t.sessions n ≡ Some session
  pub goes_on : is_ended session.phase ≡ false
  pub runner : Runner
  pub runs : runner_of t.running n ≡ Some runner
  pub query_is : runner.query ≡ query
  pub grant_is : runner.grant ≡ grant

told-turn : (t : State) (n query grant own borrowed : ℕ) (pool : Name) (x : Session) (p : Phase) (w : Option Waiter) (q : Option Runner) → session_called t.sessions n ≡ Some x → x.phase ≡ p
    → waiter_of t.waiting n ≡ w → runner_of t.running n ≡ q → told_in_phase t n p ≡ reply.Admitted query pool grant own borrowed → IsToldRun t n query grant
told-turn t n query grant own borrowed pool x phase.Idle w q found is e f told_is = absurd (cc)
told-turn t n query grant own borrowed pool x phase.Waiting None q found is e f told_is = absurd (let no : told_waiting t n None ≡ reply.Admitted query pool grant own borrowed = ap (told_waiting t n) (sym e) ∙ told_is in cc)
told-turn t n query grant own borrowed pool x phase.Waiting (Some w) q found is e f told_is = absurd (let no : told_waiting t n (Some w) ≡ reply.Admitted query pool grant own borrowed = ap (told_waiting t n) (sym e) ∙ told_is in cc)
told-turn t n query grant own borrowed pool x phase.Running w None found is e f told_is = absurd (let no : told_running t n None ≡ reply.Admitted query pool grant own borrowed = ap (told_running t n) (sym f) ∙ told_is in cc)
told-turn t n query grant own borrowed pool x phase.Running w (Some r) found is e f told_is =
    let yes : told_running t n (Some r) ≡ reply.Admitted query pool grant own borrowed = ap (told_running t n) (sym f) ∙ told_is in
    record { session = x; called = found; goes_on = ap is_ended is; runner = r; runs = f; query_is = let same : r.query ≡ query = cc in same; grant_is = let same : r.grant ≡ grant = cc in same }
told-turn t n query grant own borrowed pool x (phase.Ended end) w q found is e f told_is = absurd (cc)

told-run : (t : State) (n query grant own borrowed : ℕ) (pool : Name) → told t n ≡ reply.Admitted query pool grant own borrowed → IsToldRun t n query grant
told-run t n query grant own borrowed pool is = turn (session_called t.sessions n) refl is where
  turn : (o : Option Session) → session_called t.sessions n ≡ o → (let a : Reply = elim o [ Some x ↦ told_in_phase t n x.phase | None ↦ reply.Refused refusal.NoSuchSession ] in a ≡ reply.Admitted query pool grant own borrowed)
      → IsToldRun t n query grant
  turn None found e = absurd (cc)
  turn (Some x) found e = told-turn t n query grant own borrowed pool x x.phase (waiter_of t.waiting n) (runner_of t.running n) found refl refl refl e

run-told : (t : State) (n seat query grant : ℕ) → IsToldRun t n query grant → IsOwned n seat t.sessions → run_of t seat n ≡ Some (record { query = query; grant = grant })
run-told t n seat query grant h owned =
    let same : run_by h.runner ≡ record { query = query; grant = grant } = ap (λ q. let run : Run = record { query = q; grant = h.runner.grant } in run) h.query_is ∙ ap (λ g. let run : Run = record { query = query; grant = g } in run) h.grant_is in
    run-found t seat n h.session h.runner (session_of-owned t seat n h.session owned h.called) h.runs ∙ ap (λ run. Some run) same

-- who is told so by an event that settles
abbrev TellsRun : ℕ → ℕ → ℕ → ℕ → ℕ → ℕ → Name → State → Reply → Type 0
TellsRun seat session query grant own borrowed pool t answer =
    answer ≡ reply.Admitted query pool grant own borrowed → run_of t seat session ≡ Some (record { query = query; grant = grant })

owned-self : (s : State) (seat n : ℕ) (x : Session) → session_of s seat n ≡ Some x → IsOwned x.number seat s.sessions
owned-self s seat n x found = subst (λ k. IsOwned x.number k s.sessions) (session_of-is s seat n x found).of_seat (owned-found x.number x s.sessions (session_of-found s seat n x found))

collects-run : (t : State) (n seat query grant : ℕ) → IsToldRun t n query grant → IsOwned n seat t.sessions → run_of (answered t (Collects n)) seat n ≡ Some (record { query = query; grant = grant })
collects-run t n seat query grant h owned =
    ap (λ b. let u : State = record t { sessions = cond b (with_phase n phase.Idle t.sessions) t.sessions } in run_of u seat n)
    (ap is_ended (phase_of-found n t.sessions h.session h.called) ∙ h.goes_on)
    ∙ run-told t n seat query grant h owned

-- a check tells of no admission
check-admits : (answer : Reply) (query grant own borrowed : ℕ) (pool : Name) → IsCheckReply answer → answer ≢ reply.Admitted query pool grant own borrowed
check-admits _ query grant own borrowed pool says_go e = cc
check-admits _ query grant own borrowed pool (says_way to) e = cc
check-admits _ query grant own borrowed pool (says_end which ran cap) e = cc
check-admits _ query grant own borrowed pool says_stop e = cc

entered-told : (t : State) (seat session query grant own borrowed : ℕ) (pool : Name) (event : Event) (c : Change) → IsTried t seat event c → session_in event ≡ Some session
    → TellsRun seat session query grant own borrowed pool (answered (settled c.state) c.answer) (reply_of (settled c.state) c.answer)
entered-told t seat session query grant own borrowed pool _ _ (stays _ (refuses event r is)) of e = absurd (cc)
entered-told t seat session query grant own borrowed pool _ _ (stays _ (repeats n p x found same)) of e = absurd (cc)
entered-told t seat session query grant own borrowed pool _ _ (stays _ (caps_again n cap x found same)) of e = absurd (cc)
entered-told t seat session query grant own borrowed pool _ _ (stays _ (judges n x r answer is says)) of e = absurd (check-admits answer query grant own borrowed pool says e)
entered-told t seat session query grant own borrowed pool _ _ (stays _ (stops_again by target x y r may runs already)) of e = absurd (cc)
entered-told t seat session query grant own borrowed pool _ _ (stays _ (tells n x found active)) of e =
    let number : x.number ≡ session = (session_of-is t seat n x found).number ∙ (let same : n ≡ session = cc in same) in
    subst (λ k. run_of (settled t) seat k ≡ Some (record { query = query; grant = grant })) number
    (run-told (settled t) x.number seat query grant (told-run (settled t) x.number query grant own borrowed pool e) (owned-settled t x.number seat (owned-self t seat n x found)))
entered-told t seat session query grant own borrowed pool _ _ (changes _ (defines statement new dropped_none accepts) loud) of e = absurd (cc)
entered-told t seat session query grant own borrowed pool _ _ (changes _ (drops gone new accepts) loud) of e = absurd (cc)
entered-told t seat session query grant own borrowed pool _ _ (changes _ (opens user may) loud) of e = absurd (cc)
entered-told t seat session query grant own borrowed pool _ _ (changes _ (chooses n p x found may other) loud) of e = absurd (cc)
entered-told t seat session query grant own borrowed pool _ _ (changes _ (caps n cap x found room other) loud) of e = absurd (cc)
entered-told t seat session query grant own borrowed pool _ _ (changes _ (moves_on n x r to is taken) loud) of e = absurd (cc)
entered-told t seat session query grant own borrowed pool _ _ (changes _ (asks n x r to is) loud) of e = absurd (cc)
entered-told t seat session query grant own borrowed pool _ _ (changes _ (gives_way n x r to found runs leaves) loud) of e =
    let c = gave_way t r to in
    let here : r.session ≡ x.number = session-found t.running x.number r runs in
    let number : r.session ≡ session = here ∙ (session_of-is t seat n x found).number ∙ (let same : n ≡ session = cc in same) in
    let before : IsOwned r.session seat t.sessions = subst (λ k. IsOwned k seat t.sessions) (sym here) (owned-self t seat n x found) in
    let owned = owned-settled c r.session seat (owned-with r.session r.session seat phase.Waiting t.sessions before) in
    subst (λ k. run_of (answered (settled c) (Collects r.session)) seat k ≡ Some (record { query = query; grant = grant })) number
    (collects-run (settled c) r.session seat query grant (told-run (settled c) r.session query grant own borrowed pool e) owned)
entered-told t seat session query grant own borrowed pool _ _ (changes _ (withdraws by target x y w may waits) loud) of e = absurd (cc)
entered-told t seat session query grant own borrowed pool _ _ (changes _ (stops by target x y r may runs first) loud) of e = absurd (cc)
entered-told t seat session query grant own borrowed pool _ _ (changes _ (submits n floor x found may) loud) of e =
    let c = (submitted t x (session_pool t.definitions x) floor).state in
    let number : x.number ≡ session = (session_of-is t seat n x found).number ∙ (let same : n ≡ session = cc in same) in
    let owned = owned-settled c x.number seat (owned-with x.number x.number seat phase.Waiting t.sessions (owned-self t seat n x found)) in
    subst (λ k. run_of (answered (settled c) (Collects x.number)) seat k ≡ Some (record { query = query; grant = grant })) number
    (collects-run (settled c) x.number seat query grant (told-run (settled c) x.number query grant own borrowed pool e) owned)
entered-told t seat session query grant own borrowed pool _ _ (changes _ (collects n x end found ended) loud) of e = absurd (cc)
entered-told t seat session query grant own borrowed pool _ _ (changes _ (finishes n x found runs) loud) of e = absurd (cc)
entered-told t seat session query grant own borrowed pool _ _ (changes _ (closes n x found rests) loud) of e = absurd (cc)

-- and by one that changes nothing
quiet-told : (t : State) (seat session query grant own borrowed : ℕ) (pool : Name) (event : Event) (c : Change) → IsTried t seat event c → c.changed ≡ false → session_in event ≡ Some session
    → TellsRun seat session query grant own borrowed pool t (reply_of c.state c.answer)
quiet-told t seat session query grant own borrowed pool _ _ (stays _ (refuses event r is)) still of e = absurd (cc)
quiet-told t seat session query grant own borrowed pool _ _ (stays _ (repeats n p x found same)) still of e = absurd (cc)
quiet-told t seat session query grant own borrowed pool _ _ (stays _ (caps_again n cap x found same)) still of e = absurd (cc)
quiet-told t seat session query grant own borrowed pool _ _ (stays _ (judges n x r answer is says)) still of e = absurd (check-admits answer query grant own borrowed pool says e)
quiet-told t seat session query grant own borrowed pool _ _ (stays _ (stops_again by target x y r may runs already)) still of e = absurd (cc)
quiet-told t seat session query grant own borrowed pool _ _ (stays _ (tells n x found active)) still of e =
    let number : x.number ≡ session = (session_of-is t seat n x found).number ∙ (let same : n ≡ session = cc in same) in
    subst (λ k. run_of t seat k ≡ Some (record { query = query; grant = grant })) number
    (run-told t x.number seat query grant (told-run t x.number query grant own borrowed pool e) (owned-self t seat n x found))
quiet-told t seat session query grant own borrowed pool event _ (changes c is loud) still of e = absurd (false≢true (sym still ∙ loud))

pub told-step : (s : State) (seat at session query : ℕ) (event : Event) (pool : Name) (grant own borrowed : ℕ) → session_in event ≡ Some session
    → (step s seat at event).reply ≡ reply.Admitted query pool grant own borrowed
    → run_of (step s seat at event).state seat session ≡ Some (record { query = query; grant = grant })
told-step s seat at session query event pool grant own borrowed of =
    let t = found_at s at in
    let c = attempted t seat event in
    let is = tried-is t seat event in
    outcome-turn (λ o. TellsRun seat session query grant own borrowed pool o.state o.reply) s seat event c (has_due s at || c.changed)
    (λ settles e. entered-told t seat session query grant own borrowed pool event c is of e)
    (λ still e.
    ap (λ (u : State). run_of u seat session) (sym (none-found s at (or_left_false (has_due s at) c.changed still)))
    ∙ quiet-told t seat session query grant own borrowed pool event c is (or_right_false (has_due s at) c.changed still) of e
    )
