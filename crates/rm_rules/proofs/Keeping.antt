-- What each event's change keeps, before the state settles.
use Rattle.std.proofs.Common.{◌≡◌, ℕ, ◌+◌, ◌*◌, ◌≤◌, ◌<◌, Bool, true, false, not, ◌||◌, cond, eqb, leb, ltb, List, [], ◌∷◌, ◌++◌, length, Some, None, Option, Ok, refl, sym, ap, ◌∙◌, arith, sum_by, count_by}
use Rattle.std.specs.Option.{is_some}
use Rattle.std.specs.List.{list_all}
use Rattle.std.proofs.lemmas.List.Sums.{sum_by-cons, sum_by_push}
use Rattle.std.proofs.lemmas.List.{length_push}
use Rattle.std.proofs.lemmas.Bool.{eqb-true, false≢true}
use Rattle.std.proofs.lemmas.Bool.Decides.{nat_tests}
use Rattle.rm_base.specs.declared.limits.TheConstants.{SESSIONS_MOST, ENTRIES_A_SESSION, ENTRIES_BEYOND}
use Rattle.rm_base.specs.declared.definitions.Definitions.{Definitions}
use Rattle.rm_base.specs.declared.event.Event.TheVariants.{Define}
use Rattle.rm_base.specs.declared.name.Name.{Name}
use Rattle.rm_base.specs.declared.reply.End.{End}
use Rattle.rm_base.specs.declared.statement.Statement.{Statement}
use Rattle.rm_base.specs.Ranges.{passes_if_set}
use Rattle.rm_base.proofs.WellFormed.{well_formed-in_range}
use Rattle.rm_rules.specs.declared.state.Phase.{Phase}
use Rattle.rm_rules.specs.declared.state.Phase.TheVariants as phase
use Rattle.rm_rules.specs.declared.state.Session.{Session}
use Rattle.rm_rules.specs.declared.state.Waiter.{Waiter}
use Rattle.rm_rules.specs.declared.state.Runner.{Runner}
use Rattle.rm_rules.specs.State.{State, changed_first, session_called, session_pool, phase_of, with_phase, without_runner, is_idle, is_active, is_waiting, is_running, is_ended, live_queries, counted_entries, runner_of}
use Rattle.rm_rules.specs.Acceptance.{accepted}
use Rattle.rm_rules.specs.Change.{defined, opened, new_session, submitted, new_waiter, collected, finished, is_journal_full}
use Rattle.rm_rules.specs.Replay.{IsFormed}
use Rattle.rm_rules.specs.Sound.{has_pool}
use Rattle.rm_rules.specs.Owed.{owed, entries_moving, entries_waiting, entries_running}
use Rattle.rm_rules.specs.Healthy.{was_asked, AreInPhase, AreThere, AreOpened, AreNumbered, IsHealthyWith, IsUnsettledWith, one_if}
use Rattle.rm_rules.proofs.Taken.{and_left, and_right, all_found, all_push, all_wider, found_counted}
use Rattle.rm_rules.proofs.Changed.{all-changed, length-changed, turns-stay, turns-leave, turns-come}
use Rattle.rm_rules.proofs.Known.{session_pool-known, chosen-choice}
use Rattle.rm_rules.proofs.Refused.{not_below}
use Rattle.rm_rules.proofs.AcceptanceLaws.{accepted-sound, accepted-counted}
use Rattle.rm_rules.proofs.Phases.{has_number, choosing_pool, capped, KeepsQuery, phase_of-found, count-with, phase_of-kept, count-kept, opened-kept, opened-with, phase_of-push, count-push, there_if_live, live-counts, live-most, length-with}
use Rattle.rm_rules.proofs.Moving.{Goes, in_phase-goes, there-goes, numbered-goes, owed-goes, room-owed}
use Rattle.rm_rules.specs.DropPool.{drops_none}
use Rattle.rm_rules.proofs.Covering.{held-finished, held-defined}
use Rattle.rm_rules.proofs.Timed.{is_within, timed-goes}
use Rattle.rm_rules.proofs.Changing.{MayOpen, MayChoose, MaySubmit, choice_made, cap_made}

-- a sum of what is at most so much each, where all pass a test
sum-within : {A : Type 0} (f : A → ℕ) (most : ℕ) (p : A → Bool) (xs : List A) → ((x : A) → p x ≡ true → f x ≤ most) → list_all p xs ≡ true → sum_by f xs ≤ most * length xs
sum-within f most p [] within all = omega arith
sum-within f most p (x ∷ xs) within all =
    omega (arith, sum-within f most p xs within (and_right (p x) (list_all p xs) all), within x (and_left (p x) (list_all p xs) all), sum_by-cons f x xs)

all-pass : {A : Type 0} (xs : List A) → list_all (λ _. true) xs ≡ true
all-pass [] = refl
all-pass (x ∷ xs) = all-pass xs

-- the most that one query makes
abbrev share : ℕ
share = entries_moving 0 + 2

waiting-within : (w : Waiter) → entries_waiting w ≤ share
waiting-within w = omega arith

some-moves : (n : ℕ) → ltb 0 n ≡ true → 1 ≤ n
some-moves n h = grind (arith, nat_tests)

running-within : (r : Runner) → was_asked r ≡ true → entries_running r ≤ share
running-within r asked = turn (is_some r.leaving) r.cancelled asked where
  turn : (leaving cancelled : Bool) → (not leaving || ltb 0 r.moves) ≡ true → entries_moving r.moves + cond leaving 3 1 + cond cancelled 0 1 ≤ share
  turn true true asked = omega (arith, some-moves r.moves asked)
  turn true false asked = omega (arith, some-moves r.moves asked)
  turn false true asked = omega arith
  turn false false asked = omega arith

-- what is owed is within what refusal 25 keeps free and what the journal has beyond its room
pub owed-within : (sessions : List Session) (waiting : List Waiter) (running : List Runner) → AreInPhase sessions waiting running → list_all was_asked running ≡ true
    → owed sessions waiting running ≤ share * live_queries sessions + ENTRIES_A_SESSION * length sessions
owed-within sessions waiting running h asked =
    omega (
      arith,
      h.active,
      live-counts sessions,
      sum-within entries_waiting share (λ _. true) waiting (λ w _. waiting-within w) (all-pass waiting),
      sum-within entries_running share was_asked running running-within asked,
    )

-- so where this refusal does not come there is room for an entry more
room-left : (s : State) (live sessions owes : ℕ) → is_journal_full s live sessions ≡ false → owes ≤ share * live + ENTRIES_A_SESSION * sessions → live ≤ SESSIONS_MOST
    → counted_entries s.journal + 1 + owes ≤ s.room + ENTRIES_BEYOND
room-left s live sessions owes not_full within few = omega (arith, not_below _ _ not_full)

-- Define
pub unsettled-defined : (s : State) (statement : Statement) (new : Definitions) → IsFormed (Define statement) → IsHealthyWith 0 0 s → drops_none statement ≡ true
    → accepted s.definitions statement ≡ Ok new → IsUnsettledWith 0 1 (defined s new)
unsettled-defined s statement new formed h none accepts =
    let counted = accepted-counted s.definitions statement new accepts in
    let sound = accepted-sound s.definitions statement new h.sound (well_formed-in_range statement formed) accepts in
    let left = held-defined s statement new none accepts h.sound sound h.sized h.there h.covered.held in
    record {
      sound = sound;
      sized = left.sized;
      there = left.there;
      held = left.held;
      in_phase = h.in_phase;
      opened = h.opened;
      numbered = h.numbered;
      timed = h.timed;
      room = record { kept = h.room.kept; defined = omega (arith, h.room.defined, counted.changes); sessions = h.room.sessions; queries = h.room.queries };
    }

-- Open: no session has the next number
none-above-turn : (k last n : ℕ) → leb k last ≡ true → last < n → eqb k n ≡ false
none-above-turn k last n within above = grind (arith, nat_tests)

none-above : (last n : ℕ) (xs : List Session) → list_all (λ x. leb x.number last) xs ≡ true → last < n → count_by (λ x. eqb x.number n) xs ≡ 0
none-above last n [] all above = refl
none-above last n (x ∷ xs) all above =
    omega (
      arith,
      none-above last n xs (and_right (leb x.number last) (list_all (λ y. leb y.number last) xs) all) above,
      sum_by-cons (λ (z : Session). cond (eqb z.number n) 1 0) x xs,
      ap {B = ℕ} (λ b. cond b 1 0) (none-above-turn x.number last n (and_left (leb x.number last) (list_all (λ y. leb y.number last) xs) all) above),
    )

all-later : (last : ℕ) (xs : List Session) → list_all (λ x. leb x.number last) xs ≡ true → list_all (λ x. leb x.number (last + 1)) xs ≡ true
all-later last xs all = all_wider (λ x. leb x.number last) (λ x. leb x.number (last + 1)) xs (λ x within. later x.number within) all where
  later : (k : ℕ) → leb k last ≡ true → leb k (last + 1) ≡ true
  later k within = grind (arith, nat_tests)

opened-turn : (last n k b c : ℕ) (same : Bool) → eqb k n ≡ same → k ≡ last + 1 → b ≡ c + cond same 1 0 → c ≤ 1 → (last < n → c ≡ 0) → b ≤ 1
opened-turn last n k b c true e next more once none =
    let is : k ≡ n = eqb-true k n e in
    let before : c ≡ 0 = none (omega (arith, is, next)) in
    omega (arith, more, before)
opened-turn last n k b c false e next more once none = omega (arith, more, once)

opened-push : (last : ℕ) (xs : List Session) (y : Session) → y.number ≡ last + 1 → length xs < SESSIONS_MOST → AreOpened last xs → AreOpened (last + 1) (xs ++ y ∷ [])
opened-push last xs y next few h = record {
  once = λ n.
      opened-turn last n y.number (count_by (λ x. eqb x.number n) (xs ++ y ∷ [])) (count_by (λ x. eqb x.number n) xs) (eqb y.number n) refl next
      (sum_by_push (λ (x : Session). cond (eqb x.number n) 1 0) xs y) (h.once n) (none-above last n xs h.given);
  given = all_push (λ x. leb x.number (last + 1)) xs y (all-later last xs h.given) (ap (λ k. leb k (last + 1)) next ∙ own);
  few = omega (arith, few, length_push xs y);
} where
  own : leb (last + 1) (last + 1) ≡ true
  own = grind (arith, nat_tests)

pub unsettled-opened : (s : State) (seat : ℕ) (user : Name) → IsHealthyWith 0 0 s → MayOpen s user → IsUnsettledWith 1 0 (opened s seat user).state
unsettled-opened s seat user h may =
    let y = new_session s seat user in
    let now = s.sessions ++ y ∷ [] in
    let in_phase : AreInPhase now s.waiting s.running = record {
      waits = λ n. h.in_phase.waits n ∙ sym (ap (λ p. one_if (is_waiting p)) (phase_of-push n s.sessions y refl));
      runs = λ n. h.in_phase.runs n ∙ sym (ap (λ p. one_if (is_running p)) (phase_of-push n s.sessions y refl));
      active = h.in_phase.active ∙ sym (count-push is_active s.sessions y refl);
    } in
    record {
      sound = h.sound;
      sized = h.sized;
      there = record {
        runs = h.there.runs;
        waits = h.there.waits;
        chosen = all_push (λ x. passes_if_set (has_pool s.definitions) x.pool) s.sessions y h.there.chosen refl;
        leaves = h.there.leaves;
      };
      held = h.covered.held;
      in_phase = in_phase;
      opened = opened-push s.last_session s.sessions y refl may.few h.opened;
      numbered = h.numbered;
      timed = h.timed;
      room = record {
        kept = room-left s (live_queries s.sessions) (length s.sessions + 1) (owed now s.waiting s.running) may.not_full
            (omega (arith, owed-within now s.waiting s.running in_phase h.timed.asked, count-push (λ p. not (is_idle p)) s.sessions y refl, length_push s.sessions y))
            (omega (arith, live-most s.sessions, may.few));
        defined = h.room.defined;
        sessions = omega (arith, h.room.sessions);
        queries = omega (arith, h.room.queries);
      };
    }

-- SetPool and SetCap: what changes in a session beside its query
unsettled-set : (s : State) (n : ℕ) (act : Session → Session) → KeepsQuery act
    → list_all (λ x. passes_if_set (has_pool s.definitions) x.pool) (changed_first (has_number n) act s.sessions) ≡ true
    → is_journal_full s (live_queries s.sessions) (length s.sessions) ≡ false → IsHealthyWith 0 0 s
    → (let t : State = record s { sessions = changed_first (has_number n) act s.sessions } in IsUnsettledWith 1 0 t)
unsettled-set s n act keeps chosen not_full h =
    let now = changed_first (has_number n) act s.sessions in
    let in_phase : AreInPhase now s.waiting s.running = record {
      waits = λ m. h.in_phase.waits m ∙ sym (ap (λ p. one_if (is_waiting p)) (phase_of-kept n m act s.sessions keeps));
      runs = λ m. h.in_phase.runs m ∙ sym (ap (λ p. one_if (is_running p)) (phase_of-kept n m act s.sessions keeps));
      active = h.in_phase.active ∙ sym (count-kept is_active n act s.sessions keeps);
    } in
    record {
      sound = h.sound;
      sized = h.sized;
      there = record { runs = h.there.runs; waits = h.there.waits; chosen = chosen; leaves = h.there.leaves };
      held = h.covered.held;
      in_phase = in_phase;
      opened = opened-kept s.last_session n act s.sessions keeps h.opened;
      numbered = h.numbered;
      timed = h.timed;
      room = record {
        kept = room-left s (live_queries s.sessions) (length s.sessions) (owed now s.waiting s.running) not_full
            (omega (arith, owed-within now s.waiting s.running in_phase h.timed.asked, count-kept (λ p. not (is_idle p)) n act s.sessions keeps, length-changed (has_number n) act s.sessions))
            (omega (arith, live-most s.sessions, h.opened.few));
        defined = h.room.defined;
        sessions = omega (arith, h.room.sessions);
        queries = omega (arith, h.room.queries);
      };
    }

pub unsettled-chosen : (s : State) (x : Session) (pool : Name) → IsHealthyWith 0 0 s → MayChoose s x pool → IsUnsettledWith 1 0 (choice_made s x pool).state
unsettled-chosen s x pool h may =
    unsettled-set s x.number (choosing_pool pool) (record { number = λ y. refl; phase = λ y. refl })
    (chosen-choice s.definitions x.number pool s.sessions may.pool_there h.there.chosen) may.not_full h

pub unsettled-capped : (s : State) (x : Session) (cap : Option ℕ) → IsHealthyWith 0 0 s → is_journal_full s (live_queries s.sessions) (length s.sessions) ≡ false
    → IsUnsettledWith 1 0 (cap_made s x cap).state
unsettled-capped s x cap h not_full =
    unsettled-set s x.number (capped cap) (record { number = λ y. refl; phase = λ y. refl })
    (all-changed (λ y. passes_if_set (has_pool s.definitions) y.pool) (has_number x.number) (capped cap) s.sessions (λ y known. known) h.there.chosen) not_full h

-- a phase in which there is no query, one in which a query runs, and one in which it has ended
pub record IsJustIdle (p : Phase) : Type 0 where
  pub waiting : is_waiting p ≡ false
  pub running : is_running p ≡ false
  pub ended : is_ended p ≡ false

pub idle-just : (p : Phase) → is_idle p ≡ true → IsJustIdle p
idle-just phase.Idle h = record { waiting = refl; running = refl; ended = refl }
idle-just phase.Waiting h = absurd (false≢true h)
idle-just phase.Running h = absurd (false≢true h)
idle-just (phase.Ended end) h = absurd (false≢true h)

pub record IsJustRunning (p : Phase) : Type 0 where
  pub idle : is_idle p ≡ false
  pub waiting : is_waiting p ≡ false
  pub ended : is_ended p ≡ false

pub running-just : (p : Phase) → is_running p ≡ true → IsJustRunning p
running-just phase.Idle h = absurd (false≢true h)
running-just phase.Waiting h = absurd (false≢true h)
running-just phase.Running h = record { idle = refl; waiting = refl; ended = refl }
running-just (phase.Ended end) h = absurd (false≢true h)

pub record IsJustEnded (p : Phase) : Type 0 where
  pub idle : is_idle p ≡ false
  pub waiting : is_waiting p ≡ false
  pub running : is_running p ≡ false

pub ended-just : (p : Phase) → is_ended p ≡ true → IsJustEnded p
ended-just phase.Idle h = absurd (false≢true h)
ended-just phase.Waiting h = absurd (false≢true h)
ended-just phase.Running h = absurd (false≢true h)
ended-just (phase.Ended end) h = record { idle = refl; waiting = refl; running = refl }

-- Submit: the query of an idle session goes over to waiting
abbrev pub goes-submitted : (s : State) (x : Session) (pool : Name) (floor : ℕ) → session_called s.sessions x.number ≡ Some x → is_idle x.phase ≡ true
    → Goes x.number phase.Waiting s.sessions s.waiting (s.waiting ++ new_waiter s x pool floor ∷ []) s.running s.running
goes-submitted s x pool floor found idle =
    let just = idle-just (phase_of s.sessions x.number) (ap is_idle (phase_of-found x.number s.sessions x found) ∙ idle) in
    record {
      there = ap is_some found;
      waited = None;
      waits = Some (new_waiter s x pool floor);
      ran = None;
      runs = None;
      waited_is = sym just.waiting;
      waits_is = refl;
      ran_is = sym just.running;
      runs_is = refl;
      waiters = turns-come (λ (w : Waiter). w.session) x.number (new_waiter s x pool floor) s.waiting refl;
      runners = turns-stay (λ (r : Runner). r.session) x.number s.running;
    }

-- no query has the next number
numbered-turn : (last n k a b c : ℕ) (same : Bool) → eqb k n ≡ same → k ≡ last + 1 → a ≡ b + cond same 1 0 → b + c ≤ 1 → (last < n → b + c ≡ 0)
    → (a + c ≤ 1) × (last + 1 < n → a + c ≡ 0)
numbered-turn last n k a b c true e next more once given =
    let is : k ≡ n = eqb-true k n e in
    let none : b + c ≡ 0 = given (omega (arith, is, next)) in
    (omega (arith, more, none), λ above. absurd (omega (arith, above, is, next)))
numbered-turn last n k a b c false e next more once given = (omega (arith, more, once), λ above. let none : b + c ≡ 0 = given (omega (arith, above)) in omega (arith, more, none))

pub numbered-submitted : (last : ℕ) (waiting : List Waiter) (running : List Runner) (w : Waiter) → w.query ≡ last + 1 → AreNumbered last waiting running
    → AreNumbered (last + 1) (waiting ++ w ∷ []) running
numbered-submitted last waiting running w next h =
    let turn = λ (n : ℕ).
    numbered-turn last n w.query (count_by (λ (z : Waiter). eqb z.query n) (waiting ++ w ∷ [])) (count_by (λ (z : Waiter). eqb z.query n) waiting)
    (count_by (λ (r : Runner). eqb r.query n) running) (eqb w.query n) refl next (sum_by_push (λ (z : Waiter). cond (eqb z.query n) 1 0) waiting w) (h.once n) (h.given n) in
    record { once = λ n. (turn n).0; given = λ n above. (turn n).1 above }

pub unsettled-submitted : (s : State) (x : Session) (floor : ℕ) → IsHealthyWith 0 0 s → session_called s.sessions x.number ≡ Some x → MaySubmit s x (session_pool s.definitions x) floor
    → IsUnsettledWith 1 0 (submitted s x (session_pool s.definitions x) floor).state
unsettled-submitted s x floor h found may =
    let d = s.definitions in
    let pool = session_pool d x in
    let w = new_waiter s x pool floor in
    let now = with_phase x.number phase.Waiting s.sessions in
    let goes = goes-submitted s x pool floor found may.idle in
    let chosen = all_found (λ (z : Session). passes_if_set (has_pool d) z.pool) (λ z. eqb z.number x.number) s.sessions x h.there.chosen found in
    let in_phase = in_phase-goes x.number phase.Waiting s.sessions s.waiting (s.waiting ++ w ∷ []) s.running s.running goes h.in_phase in
    let was : one_if (not (is_idle (phase_of s.sessions x.number))) ≡ 0 = ap {B = ℕ} (λ b. one_if (not b)) (ap is_idle (phase_of-found x.number s.sessions x found) ∙ may.idle) in
    let live : live_queries now ≡ live_queries s.sessions + 1 = omega (arith, was, count-with (λ p. not (is_idle p)) x.number phase.Waiting s.sessions (ap is_some found)) in
    record {
      sound = h.sound;
      sized = h.sized;
      there = there-goes d x.number phase.Waiting s.sessions s.waiting (s.waiting ++ w ∷ []) s.running s.running goes (session_pool-known d x h.sound chosen) refl refl h.there;
      held = h.covered.held;
      in_phase = in_phase;
      opened = opened-with s.last_session x.number phase.Waiting s.sessions h.opened;
      numbered = numbered-submitted s.last_query s.waiting s.running w refl h.numbered;
      timed = timed-goes s.clock x.number phase.Waiting s.sessions s.waiting (s.waiting ++ w ∷ []) s.running s.running goes (is_within 0 s.clock (omega arith)) refl refl h.timed;
      room = record {
        kept = room-left s (live_queries s.sessions + 1) (length s.sessions) (owed now (s.waiting ++ w ∷ []) s.running) may.not_full
            (omega (arith, owed-within now (s.waiting ++ w ∷ []) s.running in_phase h.timed.asked, live, length-with x.number phase.Waiting s.sessions))
            (omega (arith, live-most now, live, length-with x.number phase.Waiting s.sessions, h.opened.few));
        defined = h.room.defined;
        sessions = omega (arith, h.room.sessions);
        queries = omega (arith, h.room.queries);
      };
    }

-- an end is collected: the session is idle
abbrev pub goes-collected : (n : ℕ) (sessions : List Session) (waiting : List Waiter) (running : List Runner) → is_ended (phase_of sessions n) ≡ true
    → Goes n phase.Idle sessions waiting waiting running running
goes-collected n sessions waiting running ended =
    let just = ended-just (phase_of sessions n) ended in
    record {
      there = there_if_live n sessions just.idle;
      waited = None;
      waits = None;
      ran = None;
      runs = None;
      waited_is = sym just.waiting;
      waits_is = refl;
      ran_is = sym just.running;
      runs_is = refl;
      waiters = turns-stay (λ (w : Waiter). w.session) n waiting;
      runners = turns-stay (λ (r : Runner). r.session) n running;
    }

pub in_phase-collected : (n : ℕ) (sessions : List Session) (waiting : List Waiter) (running : List Runner) → is_ended (phase_of sessions n) ≡ true
    → AreInPhase sessions waiting running → AreInPhase (with_phase n phase.Idle sessions) waiting running
in_phase-collected n sessions waiting running ended h =
    in_phase-goes n phase.Idle sessions waiting waiting running running (goes-collected n sessions waiting running ended) h

pub there-collected : (d : Definitions) (n : ℕ) (sessions : List Session) (waiting : List Waiter) (running : List Runner) → is_ended (phase_of sessions n) ≡ true
    → AreThere d sessions waiting running → AreThere d (with_phase n phase.Idle sessions) waiting running
there-collected d n sessions waiting running ended h =
    there-goes d n phase.Idle sessions waiting waiting running running (goes-collected n sessions waiting running ended) refl refl refl h

-- and nothing more is owed to it
pub owed-collected : (n : ℕ) (sessions : List Session) (waiting : List Waiter) (running : List Runner) → is_ended (phase_of sessions n) ≡ true
    → 1 + owed (with_phase n phase.Idle sessions) waiting running ≤ owed sessions waiting running
owed-collected n sessions waiting running ended =
    omega (arith, owed-goes n phase.Idle sessions waiting waiting running running (goes-collected n sessions waiting running ended), ap {B = ℕ} one_if ended)

-- Poll
pub unsettled-collected : (s : State) (x : Session) (end : End) → IsHealthyWith 0 0 s → session_called s.sessions x.number ≡ Some x → x.phase ≡ phase.Ended end
    → IsUnsettledWith 1 0 (collected s x end).state
unsettled-collected s x end h found is =
    let ended : is_ended (phase_of s.sessions x.number) ≡ true = ap is_ended (phase_of-found x.number s.sessions x found ∙ is) in
    record {
      sound = h.sound;
      sized = h.sized;
      there = there-collected s.definitions x.number s.sessions s.waiting s.running ended h.there;
      held = h.covered.held;
      in_phase = in_phase-collected x.number s.sessions s.waiting s.running ended h.in_phase;
      opened = opened-with s.last_session x.number phase.Idle s.sessions h.opened;
      numbered = h.numbered;
      timed = h.timed;
      room =
          room-owed 0 1 0 (owed s.sessions s.waiting s.running) (owed (with_phase x.number phase.Idle s.sessions) s.waiting s.running)
          s.journal s.room s.definitions.changes s.last_session s.last_query (omega arith) (omega (arith, owed-collected x.number s.sessions s.waiting s.running ended)) h.room;
    }

-- Finish: a running session's query is there
pub runner_found : (sessions : List Session) (waiting : List Waiter) (running : List Runner) (n : ℕ) → AreInPhase sessions waiting running
    → is_running (phase_of sessions n) ≡ true → (r : Runner) × (runner_of running n ≡ Some r)
runner_found sessions waiting running n h runs =
    found_counted (λ (r : Runner). eqb r.session n) running (omega (arith, h.runs n, ap {B = ℕ} one_if runs))

abbrev pub goes-finished : (n : ℕ) (sessions : List Session) (waiting : List Waiter) (running : List Runner) (r : Runner) → is_running (phase_of sessions n) ≡ true
    → runner_of running n ≡ Some r → Goes n phase.Idle sessions waiting waiting running (without_runner n running)
goes-finished n sessions waiting running r runs found =
    let just = running-just (phase_of sessions n) runs in
    record {
      there = there_if_live n sessions just.idle;
      waited = None;
      waits = None;
      ran = Some r;
      runs = None;
      waited_is = sym just.waiting;
      waits_is = refl;
      ran_is = sym runs;
      runs_is = refl;
      waiters = turns-stay (λ (w : Waiter). w.session) n waiting;
      runners = turns-leave (λ (x : Runner). x.session) n r running found;
    }

running-some : (r : Runner) → 1 ≤ entries_running r
running-some r = turn (is_some r.leaving) where
  turn : (leaving : Bool) → 1 ≤ entries_moving r.moves + cond leaving 3 1 + cond r.cancelled 0 1
  turn true = omega arith
  turn false = omega arith

pub unsettled-finished : (s : State) (x : Session) → IsHealthyWith 0 0 s → session_called s.sessions x.number ≡ Some x → is_running x.phase ≡ true
    → IsUnsettledWith 1 0 (finished s x).state
unsettled-finished s x h found is =
    let n = x.number in
    let runs : is_running (phase_of s.sessions n) ≡ true = ap is_running (phase_of-found n s.sessions x found) ∙ is in
    let r = runner_found s.sessions s.waiting s.running n h.in_phase runs in
    let goes = goes-finished n s.sessions s.waiting s.running r.0 runs r.1 in
    let left = without_runner n s.running in
    record {
      sound = h.sound;
      sized = h.sized;
      there = there-goes s.definitions n phase.Idle s.sessions s.waiting s.waiting s.running left goes refl refl refl h.there;
      held = held-finished s n r.0 r.1 h.sound h.sized h.there h.covered.held;
      in_phase = in_phase-goes n phase.Idle s.sessions s.waiting s.waiting s.running left goes h.in_phase;
      opened = opened-with s.last_session n phase.Idle s.sessions h.opened;
      numbered = numbered-goes s.last_query n phase.Idle s.sessions s.waiting s.waiting s.running left goes (λ m. omega arith) h.numbered;
      timed = timed-goes s.clock n phase.Idle s.sessions s.waiting s.waiting s.running left goes refl refl refl h.timed;
      room =
          room-owed 0 1 0 (owed s.sessions s.waiting s.running) (owed (with_phase n phase.Idle s.sessions) s.waiting left)
          s.journal s.room s.definitions.changes s.last_session s.last_query (omega arith)
          (omega (arith, owed-goes n phase.Idle s.sessions s.waiting s.waiting s.running left goes, running-some r.0)) h.room;
    }
