-- An event that makes an entry has changed more than the clock.
use Rattle.std.proofs.Common.{◌≡◌, ℕ, zero, suc, ◌+◌, ◌≤◌, ◌<◌, Bool, true, false, ◌||◌, cond, eqb, ltb, List, ◌∷◌, length, Some, None, Option, refl, sym, ap, ◌∙◌, subst, arith, sum_by, count_by}
use Rattle.std.specs.Prelude.{option_map, is_none}
use Rattle.std.specs.Option.{is_some}
use Rattle.std.proofs.lemmas.List.{length-append}
use Rattle.std.proofs.lemmas.List.Sums.{sum_by_push}
use Rattle.std.proofs.lemmas.Bool.{eq-eqb, eqb-true, false≢true}
use Rattle.std.proofs.lemmas.Bool.Decides.{nat_tests}
use Rattle.rm_base.specs.declared.definitions.Definitions.{Definitions}
use Rattle.rm_base.specs.declared.event.Event.{Event}
use Rattle.rm_base.specs.declared.name.Name.{Name}
use Rattle.rm_base.specs.declared.statement.Statement.TheVariants.{DropPool}
use Rattle.rm_base.specs.Name.{same_name}
use Rattle.rm_base.proofs.Names.{same_name-refl}
use Rattle.rm_rules.specs.declared.answer.Answer.{Answer}
use Rattle.rm_rules.specs.declared.state.Phase.{Phase}
use Rattle.rm_rules.specs.declared.state.Phase.TheVariants as phase
use Rattle.rm_rules.specs.declared.state.Session.{Session}
use Rattle.rm_rules.specs.declared.state.Waiter.{Waiter}
use Rattle.rm_rules.specs.declared.state.Runner.{Runner}
use Rattle.rm_rules.specs.State.{State, session_called, session_pool, waiter_of, runner_of, with_phase, without_waiter, without_runner, is_idle}
use Rattle.rm_rules.specs.Repeated.{repeated}
use Rattle.rm_rules.specs.DropPool.{dropped, goes_before}
use Rattle.rm_rules.specs.Admission.{started}
use Rattle.rm_rules.specs.Moving.{moved, leaving_for, requeued, stopping, moved_on, asked_to_leave, gave_way, asked_to_stop}
use Rattle.rm_rules.specs.Deadlines.{first_due, timed_out, without_due}
use Rattle.rm_rules.specs.Settle.{settled}
use Rattle.rm_rules.specs.Change.{Change, new_waiter, defined, opened, has_chosen, has_cap, within_moments, submitted, collected, finished, withdrawn, closed}
use Rattle.rm_rules.specs.Answers.{answered}
use Rattle.rm_rules.specs.Step.{entered, moved_to, has_due, found_at, attempted, step, IsSameButClock}
use Rattle.rm_rules.specs.Replay.{IsFormed}
use Rattle.rm_rules.specs.Sessions.{Settles, Stays, Runs, Ends}
use Rattle.rm_rules.specs.Healthy.{AreInPhase, AreNumbered, IsHealthy}
use Rattle.rm_rules.proofs.Taken.{found_passes, sum_without, length_without, count_without, counted_among}
use Rattle.rm_rules.proofs.AcceptanceLaws.{accepted-counted}
use Rattle.rm_rules.proofs.Changed.{sum-changed, found-changed}
use Rattle.rm_rules.proofs.Dropping.{sum-transferred}
use Rattle.rm_rules.proofs.Phases.{has_number, phased, choosing_pool, capped, called-with_same, length-with}
use Rattle.rm_rules.proofs.Queue.{IsAmong}
use Rattle.rm_rules.proofs.Admitting.{waiter_found}
use Rattle.rm_rules.proofs.Settling.{repeated-keeps, due-among, due-keeps, settled-keeps, rest-settled, rest-due}
use Rattle.rm_rules.proofs.Changing.{IsTried, stays, changes, IsChange, defines, drops, opens, chooses, caps, submits, collects, moves_on, asks, gives_way, finishes, withdraws, stops, closes, choice_made, cap_made, session_of-found, tried-is, rest-changed}
use Rattle.rm_rules.proofs.Unsettled.{unsettled-changed}
use Rattle.rm_rules.proofs.Keeping.{running-just}
use Rattle.rm_rules.proofs.Answering.{beside-answered}
use Rattle.rm_rules.proofs.Stepping.{moved-facts, none-found, outcome-turn}
use Rattle.rm_rules.proofs.Foreign.{left-self, left-settled}

-- the state with another clock
abbrev at_clock : ℕ → State → State
at_clock clock s = record s { clock = clock }

-- settling leaves an idle session idle, and every session's chosen pool
settles-idle : (p q : Phase) → Settles p q → is_idle p ≡ true → is_idle q ≡ true
settles-idle p _ (Stays _) idle = idle
settles-idle _ _ Runs idle = absurd (false≢true idle)
settles-idle _ _ (Ends end) idle = absurd (false≢true idle)

-- settling closes and opens no session
length-settled : (s : State) → length (settled s).sessions ≡ length s.sessions
length-settled s =
    settled-keeps (λ t. length t.sessions ≡ length s.sessions) (λ t w end among p. length-with w.session (phase.Ended end) t.sessions ∙ p) (λ t p. p)
    (λ t w e p. length-with w.session phase.Running t.sessions ∙ p) s refl

-- a session that has another phase, another choice or another cap then
session-differs : (s t : State) (n clock : ℕ) (x y : Session) → session_called s.sessions n ≡ Some x → session_called t.sessions n ≡ Some y → t ≡ at_clock clock s → y ≡ x
session-differs s t n clock x y found then same =
    let both : Some y ≡ Some x = sym then ∙ ap (λ (u : State). session_called u.sessions n) same ∙ found in
    cc

idle-differs : (s c : State) (n clock : ℕ) (x y : Session) → AreInPhase c.sessions c.waiting c.running → session_called s.sessions n ≡ Some x → is_idle x.phase ≡ false
    → session_called c.sessions n ≡ Some y → is_idle y.phase ≡ true → settled c ≡ at_clock clock s → ⊥
idle-differs s c n clock x y in_phase found live then idle same =
    let left = (left-settled n y c in_phase (left-self n y c.sessions then)).left in
    let is = session-differs s (settled c) n clock x left.session found left.called same in
    false≢true (sym live ∙ ap (λ (z : Session). is_idle z.phase) (sym is) ∙ settles-idle y.phase left.session.phase left.left.phase idle)

chosen-already : (x : Session) (pool : Name) → x.pool ≡ Some pool → has_chosen x pool ≡ true
chosen-already x pool is = ap (λ (o : Option Name). elim o [ Some p ↦ same_name p pool | None ↦ false ]) is ∙ same_name-refl pool

capped-already : (x : Session) (cap : Option ℕ) → x.cap_ms ≡ cap → has_cap x cap ≡ true
capped-already x None is = ap is_none is
capped-already x (Some cap) is = ap (λ (o : Option ℕ). elim o [ Some own ↦ eqb own cap | None ↦ false ]) is ∙ eq-eqb cap cap refl

-- the sessions of which one goes over to idle
idle-then : (s : State) (x : Session) → session_called s.sessions x.number ≡ Some x
    → session_called (with_phase x.number phase.Idle s.sessions) x.number ≡ Some (phased phase.Idle x)
idle-then s x found = called-with_same x.number phase.Idle s.sessions ∙ ap (option_map (phased phase.Idle)) found

-- how often a query of this number waits, which settling makes no greater
abbrev waiting_count : ℕ → State → ℕ
waiting_count n s = count_by (λ (w : Waiter). eqb w.query n) s.waiting

fewer-settled : (n : ℕ) (s : State) → waiting_count n (settled s) ≤ waiting_count n s
fewer-settled n s =
    settled-keeps (λ t. waiting_count n t ≤ waiting_count n s)
    (λ t w end among p. omega (arith, p, count_without (λ (x : Waiter). eqb x.query n) (λ x. eqb x.session w.session) t.waiting)) (λ t p. p)
    (λ t w e p. omega (arith, p, count_without (λ (x : Waiter). eqb x.query n) (λ x. eqb x.session w.session) t.waiting)) s (omega arith)

-- settling takes no query from those that run
more-settled : (f : Runner → ℕ) (s : State) → sum_by f s.running ≤ sum_by f (settled s).running
more-settled f s =
    settled-keeps (λ t. sum_by f s.running ≤ sum_by f t.running) (λ t w end among p. p) (λ t p. p)
    (λ t w e p. omega (arith, p, sum_by_push f t.running (started t w))) s (omega arith)

-- how many are to give way, as no query is that begins to run
abbrev leaving_count : State → ℕ
leaving_count s = count_by (λ (r : Runner). is_some r.leaving) s.running

none_leaves-settled : (s : State) → leaving_count (settled s) ≤ leaving_count s
none_leaves-settled s =
    settled-keeps (λ t. leaving_count t ≤ leaving_count s) (λ t w end among p. p) (λ t p. p)
    (λ t w e p. omega (arith, p, sum_by_push (λ (r : Runner). cond (is_some r.leaving) 1 0) t.running (started t w))) s (omega arith)

-- a running query is found by its own session
runner-own : (s : State) (n : ℕ) (r : Runner) → runner_of s.running n ≡ Some r → runner_of s.running r.session ≡ Some r
runner-own s n r found = ap (runner_of s.running) (eqb-true r.session n (found_passes (λ (y : Runner). eqb y.session n) r s.running found)) ∙ found

-- what an event that says so changes is more than the clock, also once its answer is given
loud-change : (s : State) (seat clock : ℕ) (event : Event) (c : Change) → IsChange s seat event c → AreInPhase c.state.sessions c.state.waiting c.state.running
    → answered (settled c.state) c.answer ≡ at_clock clock s → ⊥
loud-change s seat clock _ _ (defines statement new none accepts) in_phase same =
    let counted = accepted-counted s.definitions statement new accepts in
    let left = (rest-settled (defined s new)).definitions in
    let changes : s.definitions.changes ≡ new.changes = ap (λ (u : State). u.definitions.changes) (sym same) ∙ ap (λ (d : Definitions). d.changes) left in
    omega (arith, changes, counted.changes)
loud-change s seat clock _ _ (drops pool new accepts) in_phase same =
    let counted = accepted-counted s.definitions (DropPool pool) new accepts in
    let left = (rest-settled (dropped s pool new)).definitions in
    let changes : s.definitions.changes ≡ new.changes = ap (λ (u : State). u.definitions.changes) (sym same) ∙ ap (λ (d : Definitions). d.changes) left in
    omega (arith, changes, counted.changes)
loud-change s seat clock _ _ (opens user may) in_phase same =
    omega (arith, ap (λ (u : State). u.last_session) (sym same), (rest-settled (opened s seat user).state).last_session)
loud-change s seat clock _ _ (chooses session pool x found may other) in_phase same =
    let c = (choice_made s x pool).state in
    let there = session_of-found s seat session x found in
    let now : session_called c.sessions x.number ≡ Some (choosing_pool pool x) =
    found-changed (has_number x.number) (choosing_pool pool) s.sessions (λ y. refl) ∙ ap (option_map (choosing_pool pool)) there in
    let left = (left-settled x.number (choosing_pool pool x) c in_phase (left-self x.number (choosing_pool pool x) c.sessions now)).left in
    let is = session-differs s (settled c) x.number clock x left.session there left.called same in
    false≢true (sym other ∙ chosen-already x pool (ap (λ (z : Session). z.pool) (sym is) ∙ left.left.pool))
loud-change s seat clock _ _ (caps session cap x found room other) in_phase same =
    let own = within_moments cap in
    let c = (cap_made s x own).state in
    let there = session_of-found s seat session x found in
    let now : session_called c.sessions x.number ≡ Some (capped own x) = found-changed (has_number x.number) (capped own) s.sessions (λ y. refl) ∙ ap (option_map (capped own)) there in
    let left = (left-settled x.number (capped own x) c in_phase (left-self x.number (capped own x) c.sessions now)).left in
    let is = session-differs s (settled c) x.number clock x left.session there left.called same in
    false≢true (sym other ∙ capped-already x own (ap (λ (z : Session). z.cap_ms) (sym is) ∙ left.left.cap_ms))
loud-change s seat clock _ _ (submits session floor x found may) in_phase same =
    omega (arith, ap (λ (u : State). u.last_query) (sym same), (rest-settled (submitted s x (session_pool s.definitions x) floor).state).last_query)
loud-change s seat clock _ _ (collects session x end found ended) in_phase same =
    let there = session_of-found s seat session x found in
    idle-differs s (collected s x end).state x.number clock x (phased phase.Idle x) in_phase there (ap is_idle ended) (idle-then s x there) refl same
loud-change s seat clock _ _ (moves_on session x r pool is taken) in_phase same =
    let moves = λ (y : Runner). y.moves in
    omega (
      arith,
      ap {B = ℕ} (λ (u : State). sum_by moves u.running) same,
      more-settled moves (moved_on s r pool),
      sum_without moves (λ y. eqb y.session r.session) r s.running (runner-own s x.number r is.runs),
      sum_by_push moves (without_runner r.session s.running) (moved s.clock pool r),
    )
loud-change s seat clock _ _ (asks session x r pool is) in_phase same =
    let moves = λ (y : Runner). y.moves in
    omega (
      arith,
      ap {B = ℕ} (λ (u : State). sum_by moves u.running) same,
      more-settled moves (asked_to_leave s r pool),
      sum-changed moves (λ y. eqb y.session r.session) (leaving_for pool) r s.running (runner-own s x.number r is.runs),
    )
loud-change s seat clock _ _ (gives_way session x r pool found runs leaves) in_phase same =
    let leaving = λ (y : Runner). cond {A = ℕ} (is_some y.leaving) 1 0 in
    omega (
      arith,
      ap {B = ℕ} (λ (u : State). leaving_count u) same,
      none_leaves-settled (gave_way s r pool),
      sum_without leaving (λ y. eqb y.session r.session) r s.running (runner-own s x.number r runs),
      ap {B = ℕ} (λ (o : Option Name). cond (is_some o) 1 0) leaves,
    )
loud-change s seat clock _ _ (finishes session x found runs) in_phase same =
    let there = session_of-found s seat session x found in
    idle-differs s (finished s x).state x.number clock x (phased phase.Idle x) in_phase there (running-just x.phase runs).idle (idle-then s x there) refl same
loud-change s seat clock _ _ (withdraws by target x y w may waits) in_phase same =
    let number = λ (v : Waiter). cond {A = ℕ} (eqb v.query w.query) 1 0 in
    let own : waiter_of s.waiting w.session ≡ Some w =
    ap (waiter_of s.waiting) (eqb-true w.session y.number (found_passes (λ (v : Waiter). eqb v.session y.number) w s.waiting waits)) ∙ waits in
    omega (
      arith,
      ap {B = ℕ} (λ (u : State). waiting_count w.query u) same,
      fewer-settled w.query (withdrawn s w).state,
      sum_without number (λ v. eqb v.session w.session) w s.waiting own,
      ap {B = ℕ} (λ b. cond b 1 0) (eq-eqb w.query w.query refl),
    )
loud-change s seat clock _ _ (stops by target x y r may runs first) in_phase same =
    let stopped = λ (v : Runner). cond {A = ℕ} v.cancelled 1 0 in
    omega (
      arith,
      ap {B = ℕ} (λ (u : State). sum_by stopped u.running) same,
      more-settled stopped (asked_to_stop s r),
      sum-changed stopped (λ v. eqb v.session r.session) stopping r s.running (runner-own s y.number r runs),
      ap {B = ℕ} (λ b. cond b 1 0) first,
    )
loud-change s seat clock _ _ (closes session x found rests) in_phase same =
    omega (
      arith,
      ap (λ (u : State). length u.sessions) same,
      length-settled (closed s x).state,
      length_without (has_number x.number) x s.sessions (session_of-found s seat session x found),
    )

-- a number that was given is not the next one, and a query that waits has one that was given
pub next-differs : (last n : ℕ) → n ≤ last → eqb (last + 1) n ≡ false
next-differs last n given = grind (arith, nat_tests)

given-waits : (s : State) (n : ℕ) → AreNumbered s.last_query s.waiting s.running → 1 ≤ count_by (λ (w : Waiter). eqb w.query n) s.waiting → n ≤ s.last_query
given-waits s n h waits = turn (ltb s.last_query n) refl where
  turn : (b : Bool) → ltb s.last_query n ≡ b → n ≤ s.last_query
  turn true e = let above : s.last_query < n = grind (arith, nat_tests) in absurd (omega (arith, waits, h.given n above))
  turn false e = grind (arith, nat_tests)

-- how often a query of this number runs
abbrev runs_count : ℕ → State → ℕ
runs_count n s = count_by (λ (r : Runner). eqb r.query n) s.running

-- a query that ends at its deadline waits no more
gone-without : (n : ℕ) (s : State) (w : Waiter) → waiting_count n s ≡ 0 → count_by (λ (x : Waiter). eqb x.query n) (without_waiter w.session s.waiting) ≡ 0
gone-without n s w none = omega (arith, none, count_without (λ (x : Waiter). eqb x.query n) (λ x. eqb x.session w.session) s.waiting)

gone-ended : (s : State) (w : Waiter) → IsAmong w s.waiting → AreInPhase s.sessions s.waiting s.running → AreNumbered s.last_query s.waiting s.running
    → count_by (λ (x : Waiter). eqb x.query w.query) (without_waiter w.session s.waiting) ≡ 0
gone-ended s w among h numbered =
    let one : cond (eqb w.query w.query) 1 0 ≡ 1 = ap {B = ℕ} (λ b. cond b 1 0) (eq-eqb w.query w.query refl) in
    omega (
      arith,
      one,
      numbered.once w.query,
      sum_without (λ (x : Waiter). cond (eqb x.query w.query) 1 0) (λ x. eqb x.session w.session) w s.waiting (waiter_found s.sessions s.waiting s.running w h among),
    )

due-turn : (s : State) (w : Waiter) (n : ℕ) → first_due s ≡ Some w → IsAmong w s.waiting → length s.waiting ≡ n → AreInPhase s.sessions s.waiting s.running
    → AreNumbered s.last_query s.waiting s.running → waiting_count w.query (repeated first_due timed_out n s) ≡ 0
due-turn s w zero found among count h numbered = absurd (omega (arith, count, ap (λ (l : List Waiter). length l) among.split, length-append among.front (w ∷ among.rest)))
due-turn s w (suc n) found among count h numbered =
    subst (λ (o : Option Waiter). waiting_count w.query (elim o [ Some x ↦ repeated first_due timed_out n (timed_out s x) | None ↦ s ]) ≡ 0) (sym found)
    (repeated-keeps first_due timed_out (λ t. waiting_count w.query t ≡ 0) (λ t x e p. gone-without w.query t x p) n (timed_out s w) (gone-ended s w among h numbered))

gone-due : (s : State) (w : Waiter) → first_due s ≡ Some w → AreInPhase s.sessions s.waiting s.running → AreNumbered s.last_query s.waiting s.running
    → waiting_count w.query (without_due s) ≡ 0
gone-due s w found h numbered = due-turn s w (length s.waiting) found (due-among s w found) refl h numbered

-- and no change lets it wait again
gone-changed : (s : State) (seat : ℕ) (event : Event) (c : Change) (n : ℕ) → IsChange s seat event c → n ≤ s.last_query → runs_count n s ≡ 0 → waiting_count n s ≡ 0
    → waiting_count n c.state ≡ 0
gone-changed s seat _ _ n (defines statement new plain accepts) given ran none = none
gone-changed s seat _ _ n (drops pool new accepts) given ran none =
    sum-transferred (λ (w : Waiter). cond (eqb w.query n) 1 0) s.waiting pool (goes_before s.definitions pool) (λ w. refl) ∙ none
gone-changed s seat _ _ n (opens user may) given ran none = none
gone-changed s seat _ _ n (chooses session pool x found may other) given ran none = none
gone-changed s seat _ _ n (caps session cap x found room other) given ran none = none
gone-changed s seat _ _ n (submits session floor x found may) given ran none =
    let w = new_waiter s x (session_pool s.definitions x) floor in
    let other : eqb w.query n ≡ false = next-differs s.last_query n given in
    omega (arith, none, sum_by_push (λ (z : Waiter). cond (eqb z.query n) 1 0) s.waiting w, ap {B = ℕ} (λ b. cond b 1 0) other)
gone-changed s seat _ _ n (collects session x end found ended) given ran none = none
gone-changed s seat _ _ n (moves_on session x r pool is taken) given ran none = none
gone-changed s seat _ _ n (asks session x r pool is) given ran none = none
gone-changed s seat _ _ n (gives_way session x r pool found runs leaves) given ran none =
    omega (
      arith,
      ran,
      none,
      sum_by_push (λ (w : Waiter). cond (eqb w.query n) 1 0) s.waiting (requeued s.clock pool r),
      sum_without (λ (y : Runner). cond (eqb y.query n) 1 0) (λ y. eqb y.session x.number) r s.running runs,
    )
gone-changed s seat _ _ n (finishes session x found runs) given ran none = none
gone-changed s seat _ _ n (withdraws by target x y w may waits) given ran none = omega (arith, none, count_without (λ (v : Waiter). eqb v.query n) (λ v. eqb v.session w.session) s.waiting)
gone-changed s seat _ _ n (stops by target x y r may runs first) given ran none = none
gone-changed s seat _ _ n (closes session x found rests) given ran none = omega (arith, none, count_without (λ (w : Waiter). eqb w.query n) (λ w. eqb w.session x.number) s.waiting)

gone-tried : (s : State) (seat : ℕ) (event : Event) (c : Change) (n : ℕ) → IsTried s seat event c → n ≤ s.last_query → runs_count n s ≡ 0 → waiting_count n s ≡ 0 → waiting_count n c.state ≡ 0
gone-tried s seat event _ n (stays answer still) given ran none = none
gone-tried s seat event _ n (changes c is loud) given ran none = gone-changed s seat event c n is given ran none

gone-answered : (n : ℕ) (s : State) (answer : Answer) → waiting_count n s ≡ 0 → waiting_count n (answered s answer) ≡ 0
gone-answered n s answer none = ap (λ (t : State). waiting_count n t) (beside-answered s answer).beside ∙ none

-- so an event for which a deadline has acted has changed more than the clock and the journal
loud-due : (s t : State) (w : Waiter) (seat : ℕ) (event : Event) (c : Change) → IsAmong w s.waiting → AreNumbered s.last_query s.waiting s.running
    → AreInPhase s.sessions s.waiting s.running → first_due s ≡ Some w
    → IsTried (without_due s) seat event c → t.waiting ≡ (answered (settled c.state) c.answer).waiting → s.waiting ≡ t.waiting → ⊥
loud-due s t w seat event c among numbered in_phase found is left same =
    let waits : 1 ≤ waiting_count w.query s =
    subst (λ (l : List Waiter). 1 ≤ count_by (λ x. eqb x.query w.query) l) (sym among.split)
    (counted_among (λ x. eqb x.query w.query) among.front among.rest w (eq-eqb w.query w.query refl)) in
    let given : w.query ≤ s.last_query = given-waits s w.query numbered waits in
    let ran : runs_count w.query (without_due s) ≡ 0 =
    due-keeps (λ t. runs_count w.query t ≡ 0) (λ t v end here p. p) s (omega (arith, waits, numbered.once w.query)) in
    let tried = gone-tried (without_due s) seat event c w.query is (omega (arith, given, (rest-due s).last_query)) ran (gone-due s w found in_phase numbered) in
    let after = gone-answered w.query (settled c.state) c.answer (omega (arith, tried, fewer-settled w.query c.state)) in
    omega (arith, waits, after, ap (λ (l : List Waiter). count_by (λ x. eqb x.query w.query) l) (same ∙ left))

-- an event that says that it changes something, where no deadline has acted
loud-entered : (s : State) (seat at : ℕ) (event : Event) (c : Change) → IsHealthy s → IsFormed event → IsChange (moved_to s at) seat event c
    → IsSameButClock s (entered seat event (settled c.state) c.answer).state → ⊥
loud-entered s seat at event c h formed is same =
    let m = moved_to s at in
    let t = answered (settled c.state) c.answer in
    let in_phase = (unsettled-changed m seat event c formed (moved-facts s at h) is).in_phase in
    let journal : t.journal ≡ s.journal =
    ap (λ (u : State). u.journal) (beside-answered (settled c.state) c.answer).beside ∙ (rest-settled c.state).journal ∙ (rest-changed m seat event c is).journal in
    let back : (let u : State = record t { journal = s.journal } in u) ≡ (let u : State = record s { clock = t.clock } in u) =
    ap (λ (u : State). let v : State = record u { journal = s.journal } in v) same in
    let whole : t ≡ (let u : State = record t { journal = s.journal } in u) = ap (λ l. let u : State = record t { journal = l } in u) journal in
    loud-change m seat t.clock event c is in_phase (whole ∙ back)

-- an event for which one has acted
due-entered : (s : State) (seat at : ℕ) (event : Event) (c : Change) (o : Option Waiter) → first_due (moved_to s at) ≡ o → is_some o ≡ true → IsHealthy s
    → IsTried (found_at s at) seat event c → IsSameButClock s (entered seat event (settled c.state) c.answer).state → ⊥
due-entered s seat at event c None found some h is same = false≢true some
due-entered s seat at event c (Some w) found some h is same =
    let m = moved_to s at in
    let t = (entered seat event (settled c.state) c.answer).state in
    let healthy = moved-facts s at h in
    loud-due m t w seat event c (due-among m w found) healthy.numbered healthy.in_phase found is refl (ap (λ (u : State). u.waiting) (sym same))

loud-said : (s : State) (seat at : ℕ) (event : Event) (c : Change) → IsTried (moved_to s at) seat event c → IsHealthy s → IsFormed event → c.changed ≡ true
    → IsSameButClock s (entered seat event (settled c.state) c.answer).state → ⊥
loud-said s seat at event _ (stays answer still) h formed settles same = false≢true settles
loud-said s seat at event _ (changes c is loud) h formed settles same = loud-entered s seat at event c h formed is same

loud-tried : (s : State) (seat at : ℕ) (event : Event) (c : Change) (b : Bool) → has_due s at ≡ b → IsTried (found_at s at) seat event c → IsHealthy s → IsFormed event
    → (b || c.changed) ≡ true → IsSameButClock s (entered seat event (settled c.state) c.answer).state → ⊥
loud-tried s seat at event c true due is h formed settles same = due-entered s seat at event c (first_due (moved_to s at)) refl due h is same
loud-tried s seat at event c false due is h formed settles same =
    loud-said s seat at event c (subst (λ (t : State). IsTried t seat event c) (none-found s at due) is) h formed settles same

-- an event that makes an entry has changed more than the clock
pub loud-step : (s : State) (seat at : ℕ) (event : Event) → IsHealthy s → IsFormed event → (step s seat at event).entry ≡ true → IsSameButClock s (step s seat at event).state → ⊥
loud-step s seat at event h formed =
    let c = attempted (found_at s at) seat event in
    outcome-turn (λ o. o.entry ≡ true → IsSameButClock s o.state → ⊥) s seat event c (has_due s at || c.changed)
    (λ settles e same. loud-tried s seat at event c (has_due s at) refl (tried-is (found_at s at) seat event) h formed settles same)
    (λ still e. absurd (false≢true e))
