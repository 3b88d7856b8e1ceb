-- The laws of the machine: every state is healthy, and histories are legal and replay to their state.
use Rattle.std.proofs.Common.{◌≡◌, ◌≢◌, ℕ, ◌≤◌, Bool, true, false, ◌||◌, cond, eqb, List, [], ◌∷◌, ◌++◌, length, refl, sym, ap, ◌∙◌, subst, arith, max, append_assoc, append-nil}
use Rattle.std.specs.Option.{is_some}
use Rattle.std.proofs.lemmas.Bool.{false≢true, eq-eqb}
use Rattle.std.proofs.lemmas.Bool.Decides.{nat_tests}
use Rattle.rm_base.specs.declared.definitions.Definitions.{Definitions}
use Rattle.rm_base.specs.declared.entry.Entry.{Entry}
use Rattle.rm_base.specs.declared.event.Event.{Event}
use Rattle.rm_base.specs.declared.limits.TheConstants.{MEMORY_LEAST, MEMORY_MOST, CORES_MOST}
use Rattle.rm_base.specs.Definitions.{fresh}
use Rattle.rm_base.specs.Ranges.{is_between}
use Rattle.rm_rules.specs.State.{State, start}
use Rattle.rm_rules.specs.Settle.{settled}
use Rattle.rm_rules.specs.Deadlines.{first_due, without_due}
use Rattle.rm_rules.specs.Change.{Change}
use Rattle.rm_rules.specs.Answers.{reply_of, answered}
use Rattle.rm_rules.specs.Step.{Outcome, noted, entered, outcome, moved_to, has_due, found_at, attempted, step, made}
use Rattle.rm_rules.specs.Replay.{IsFormed, replay, IsLegal, own_entries, is_define, FromFirst}
use Rattle.rm_rules.specs.Sound.{IsSound}
use Rattle.rm_rules.specs.Healthy.{IsHealthy}
use Rattle.rm_rules.specs.Conserved.{IsConserved, ConservedAfterEach}
use Rattle.rm_rules.proofs.Conserved.{conserved}
use Rattle.rm_rules.proofs.Covering.{sized-start, covered-start}
use Rattle.rm_rules.proofs.Settling.{rest-settled, rest-due}
use Rattle.rm_rules.proofs.Changing.{IsTried, tried-is, rest-tried}
use Rattle.rm_rules.proofs.Answering.{beside-answered}
use Rattle.rm_rules.proofs.Stepping.{unsettled-tried, kept-entered, outcome-turn}

-- each event leaves a healthy state
pub healthy-step : (s : State) (seat at : ℕ) (event : Event) → IsFormed event → IsHealthy s → IsHealthy (step s seat at event).state
healthy-step s seat at event formed h =
    let c = attempted (found_at s at) seat event in
    outcome-turn (λ o. IsHealthy o.state) s seat event c (has_due s at || c.changed)
    (λ settles. kept-entered seat event c (unsettled-tried s seat at event c (tried-is (found_at s at) seat event) formed h settles))
    (λ still. h)

-- at the start every pool has its MEMORYSIZE, and nothing is used
pub healthy-start : (d : Definitions) (room : ℕ) → IsSound d → IsHealthy (start d room)
healthy-start d room sound = record {
  sound = sound;
  sized = sized-start d room;
  there = record { runs = refl; waits = refl; chosen = refl; leaves = refl };
  covered = covered-start d room sound;
  in_phase = record { waits = λ n. refl; runs = λ n. refl; active = refl };
  opened = record { once = λ n. omega arith; given = refl; few = omega arith };
  numbered = record { once = λ n. omega arith; given = λ n above. refl };
  timed = record { waits = refl; runs = refl; asked = refl };
  room = record { kept = omega arith; defined = omega arith; sessions = omega arith; queries = omega arith };
}

pub healthy-replay : (s : State) (entries : List Entry) → IsLegal s entries → IsHealthy s → IsHealthy (replay s entries)
healthy-replay s [] legal h = h
healthy-replay s (e ∷ es) legal h = healthy-replay (step s e.seat e.at e.event).state es legal.2 (healthy-step s e.seat e.at e.event legal.0 h)

-- a fact that the events of other seats keep
abbrev pub IsKeptByOthers : ℕ → (State → Type 0) → Type 0
IsKeptByOthers seat P = (s : State) (other at : ℕ) (event : Event) → other ≢ seat → IsHealthy s → IsFormed event → P s → P (step s other at event).state

others-turn : (e : Entry) (rest : List Entry) (b : Bool) → cond b (e ∷ rest) rest ≡ [] → (b ≡ false) × (rest ≡ [])
others-turn e rest true none = absurd (cc)
others-turn e rest false none = (refl, none)

pub others-keep : (P : State → Type 0) (seat : ℕ) → IsKeptByOthers seat P → (s : State) (others : List Entry) → IsHealthy s → IsLegal s others → own_entries seat others ≡ []
    → P s → P (replay s others)
others-keep P seat each s [] healthy legal none h = h
others-keep P seat each s (e ∷ es) healthy legal none h =
    let first = others-turn e (own_entries seat es) (eqb e.seat seat) none in
    others-keep P seat each (step s e.seat e.at e.event).state es (healthy-step s e.seat e.at e.event legal.0 healthy) legal.2 first.1
    (each s e.seat e.at e.event (λ same. false≢true (sym first.0 ∙ eq-eqb e.seat seat same)) healthy legal.0 h)

-- the journal after an event is the journal before it and what the event made
rest-entered : (s : State) (seat at : ℕ) (event : Event) (c : Change) → IsTried (found_at s at) seat event c
    → (entered seat event (settled c.state) c.answer).state.journal ≡ s.journal ++ noted seat (max s.clock at) event (reply_of (settled c.state) c.answer) ∷ []
rest-entered s seat at event c is =
    let t = settled c.state in
    let found = rest-due (moved_to s at) in
    let tried = rest-tried (found_at s at) seat event c is in
    let after = rest-settled c.state in
    let clock : t.clock ≡ max s.clock at = after.clock ∙ tried.clock ∙ found.clock in
    let journal : (answered t c.answer).journal ≡ s.journal = ap (λ (u : State). u.journal) (beside-answered t c.answer).beside ∙ after.journal ∙ tried.journal ∙ found.journal in
    ap (λ l. l ++ noted seat t.clock event (reply_of t c.answer) ∷ []) journal ∙ ap (λ k. s.journal ++ noted seat k event (reply_of t c.answer) ∷ []) clock

pub journal-step : (s : State) (seat at : ℕ) (event : Event) → (step s seat at event).state.journal ≡ s.journal ++ made s seat at event
journal-step s seat at event =
    let c = attempted (found_at s at) seat event in
    outcome-turn (λ o. o.state.journal ≡ s.journal ++ cond o.entry (noted seat (max s.clock at) event o.reply ∷ []) []) s seat event c (has_due s at || c.changed)
    (λ settles. rest-entered s seat at event c (tried-is (found_at s at) seat event))
    (λ still. sym (append-nil s.journal))

-- an event that makes no entry leaves the state as it was
pub quiet-step : (s : State) (seat at : ℕ) (event : Event) → (step s seat at event).entry ≡ false → (step s seat at event).state ≡ s
quiet-step s seat at event =
    let c = attempted (found_at s at) seat event in
    outcome-turn (λ o. o.entry ≡ false → o.state ≡ s) s seat event c (has_due s at || c.changed)
    (λ settles e. absurd (false≢true (sym e)))
    (λ still e. refl)

-- histories, one after the other
pub replay-append : (s : State) (xs ys : List Entry) → replay s (xs ++ ys) ≡ replay (replay s xs) ys
replay-append s [] ys = refl
replay-append s (e ∷ es) ys = replay-append (step s e.seat e.at e.event).state es ys

legal-append : (s : State) (xs ys : List Entry) → IsLegal s xs → IsLegal (replay s xs) ys → IsLegal s (xs ++ ys)
legal-append s [] ys h k = k
legal-append s (e ∷ es) ys h k = (h.0, h.1, legal-append (step s e.seat e.at e.event).state es ys h.2 k)

-- both parts of a legal history are legal
pub legal-parts : (s : State) (xs ys : List Entry) → IsLegal s (xs ++ ys) → IsLegal s xs × IsLegal (replay s xs) ys
legal-parts s [] ys h = (tt, h)
legal-parts s (e ∷ es) ys h = let rest = legal-parts (step s e.seat e.at e.event).state es ys h.2 in ((h.0, h.1, rest.0), rest.1)

-- an event acts the same at the moment that its entry has
abbrev at_moment : State → ℕ → ℕ → Event → Outcome
at_moment s seat moment event =
    let m : State = record s { clock = moment } in
    outcome s (is_some (first_due m)) seat event (attempted (without_due m) seat event)

step-again : (s : State) (seat at : ℕ) (event : Event) → step s seat (max s.clock at) event ≡ step s seat at event
step-again s seat at event =
    let later : max s.clock (max s.clock at) ≡ max s.clock at = omega arith in
    ap (λ k. at_moment s seat k event) later

made-again : (s : State) (seat at : ℕ) (event : Event) → made s seat (max s.clock at) event ≡ made s seat at event
made-again s seat at event =
    let later : max s.clock (max s.clock at) ≡ max s.clock at = omega arith in
    ap (λ k. let o = at_moment s seat k event in cond o.entry (noted seat k event o.reply ∷ []) []) later

-- what an event made is legal where it was made, and leads where the event leads
legal-turn : (s : State) (seat at : ℕ) (event : Event) (b : Bool) → IsFormed event → (step s seat at event).entry ≡ b
    → IsLegal s (cond b (noted seat (max s.clock at) event (step s seat at event).reply ∷ []) [])
legal-turn s seat at event true formed e =
    (formed, made-again s seat at event ∙ ap (λ c. cond c (noted seat (max s.clock at) event (step s seat at event).reply ∷ []) []) e, tt)
legal-turn s seat at event false formed e = tt

pub legal-made : (s : State) (seat at : ℕ) (event : Event) → IsFormed event → IsLegal s (made s seat at event)
legal-made s seat at event formed = legal-turn s seat at event (step s seat at event).entry formed refl

replay-turn : (s : State) (seat at : ℕ) (event : Event) (b : Bool) → (step s seat at event).entry ≡ b
    → replay s (cond b (noted seat (max s.clock at) event (step s seat at event).reply ∷ []) []) ≡ (step s seat at event).state
replay-turn s seat at event true e = ap (λ (o : Outcome). o.state) (step-again s seat at event)
replay-turn s seat at event false e = sym (quiet-step s seat at event e)

pub replay-made : (s : State) (seat at : ℕ) (event : Event) → replay s (made s seat at event) ≡ (step s seat at event).state
replay-made s seat at event = replay-turn s seat at event (step s seat at event).entry refl

-- a history that is legal from here stands behind the journal that was here
pub replay-journal : (s : State) (entries : List Entry) → IsLegal s entries → (replay s entries).journal ≡ s.journal ++ entries
replay-journal s [] legal = sym (append-nil s.journal)
replay-journal s (e ∷ es) legal =
    replay-journal (step s e.seat e.at e.event).state es legal.2
    ∙ ap (λ l. l ++ es) (journal-step s e.seat e.at e.event ∙ ap (λ l. s.journal ++ l) legal.1)
    ∙ append_assoc s.journal (e ∷ []) es

-- a legal history goes on with what an event makes, and leads where the event leads
pub legal-more : (s : State) (entries : List Entry) (seat at : ℕ) (event : Event) → IsFormed event → IsLegal s entries → IsLegal s (entries ++ made (replay s entries) seat at event)
legal-more s entries seat at event formed legal =
    legal-append s entries (made (replay s entries) seat at event) legal (legal-made (replay s entries) seat at event formed)

pub replay-more : (s : State) (entries : List Entry) (seat at : ℕ) (event : Event)
    → replay s (entries ++ made (replay s entries) seat at event) ≡ (step (replay s entries) seat at event).state
replay-more s entries seat at event = replay-append s entries (made (replay s entries) seat at event) ∙ replay-made (replay s entries) seat at event

-- the empty history is legal, and leaves the state as it is
pub legal-nil : (s : State) → IsLegal s []
legal-nil s = tt

pub replay-nil : (s : State) → replay s [] ≡ s
replay-nil s = refl

-- what an event made is one entry or none, of its own seat
made-cases : (P : List Entry → Type 0) (b : Bool) (e : Entry) → P (e ∷ []) → P [] → P (cond b (e ∷ []) [])
made-cases P true e one none = one
made-cases P false e one none = none

pub made-length : (s : State) (seat at : ℕ) (event : Event) → length (made s seat at event) ≡ cond (step s seat at event).entry 1 0
made-length s seat at event =
    let turn : (b : Bool) (e : Entry) → length (cond b (e ∷ []) []) ≡ cond b 1 0 = λ b e. elim b as (λ c. length (cond c (e ∷ []) []) ≡ cond c 1 0) [ true ↦ refl | false ↦ refl ] in
    turn (step s seat at event).entry (noted seat (max s.clock at) event (step s seat at event).reply)

pub made-own : (s : State) (seat at : ℕ) (event : Event) → own_entries seat (made s seat at event) ≡ made s seat at event
made-own s seat at event =
    let e = noted seat (max s.clock at) event (step s seat at event).reply in
    made-cases (λ l. own_entries seat l ≡ l) (step s seat at event).entry e (ap (λ b. cond b (e ∷ []) []) (eq-eqb seat seat refl)) refl

pub made-other : (s : State) (n seat at : ℕ) (event : Event) → eqb seat n ≡ false → own_entries n (made s seat at event) ≡ []
made-other s n seat at event differs =
    let e = noted seat (max s.clock at) event (step s seat at event).reply in
    made-cases (λ l. own_entries n l ≡ []) (step s seat at event).entry e (ap (λ b. cond b (e ∷ []) []) differs) refl

pub made-first : (s : State) (seat at : ℕ) (event : Event) → (is_define event ≡ true → seat ≡ 0) → FromFirst (made s seat at event)
made-first s seat at event first =
    made-cases FromFirst (step s seat at event).entry (noted seat (max s.clock at) event (step s seat at event).reply) (first, tt) tt

-- the journal of a state that its journal leads to stays legal, and leads to the next state
pub legal-step : (first s : State) (seat at : ℕ) (event : Event) → IsFormed event → IsLegal first s.journal → replay first s.journal ≡ s
    → IsLegal first (step s seat at event).state.journal
legal-step first s seat at event formed legal replays =
    subst (IsLegal first) (sym (journal-step s seat at event))
    (legal-append first s.journal (made s seat at event) legal (subst (λ (t : State). IsLegal t (made s seat at event)) (sym replays) (legal-made s seat at event formed)))

pub replay-step : (first s : State) (seat at : ℕ) (event : Event) → replay first s.journal ≡ s
    → replay first (step s seat at event).state.journal ≡ (step s seat at event).state
replay-step first s seat at event replays =
    ap (replay first) (journal-step s seat at event) ∙ replay-append first s.journal (made s seat at event)
    ∙ ap (λ t. replay t (made s seat at event)) replays ∙ replay-made s seat at event

-- the quantity is conserved in every healthy state, and after each entry of a history
pub conserved-healthy : (s : State) → IsHealthy s → IsConserved s
conserved-healthy s h = conserved s h.sound h.sized h.there h.covered

conserved-from : (s : State) (entries : List Entry) → IsLegal s entries → IsHealthy s → ConservedAfterEach s entries
conserved-from s [] legal h = conserved-healthy s h
conserved-from s (e ∷ es) legal h =
    (conserved-healthy s h, conserved-from (step s e.seat e.at e.event).state es legal.2 (healthy-step s e.seat e.at e.event legal.0 h))

pub conserved-after-each : (d : Definitions) (room : ℕ) (entries : List Entry) → IsSound d → IsLegal (start d room) entries → ConservedAfterEach (start d room) entries
conserved-after-each d room entries sound legal = conserved-from (start d room) entries legal (healthy-start d room sound)

-- the definitions of a machine on which nothing was defined yet are sound
between : (a b n : ℕ) → a ≤ n → n ≤ b → is_between a b n ≡ true
between a b n low high = grind (arith, nat_tests)

pub fresh-sound : (memory cores : ℕ) → MEMORY_LEAST ≤ memory → memory ≤ MEMORY_MOST → 1 ≤ cores → cores ≤ CORES_MOST → IsSound (fresh memory cores)
fresh-sound memory cores memory_least memory_most cores_least cores_most = record {
  memory = between MEMORY_LEAST MEMORY_MOST memory memory_least memory_most;
  cores = between 1 CORES_MOST cores cores_least cores_most;
  changes = omega arith;
  pool_count = omega arith;
  user_count = omega arith;
  role_count = omega arith;
  grant_count = omega arith;
  general_first = refl;
  dbadmin_there = refl;
  pools_distinct = refl;
  users_distinct = refl;
  pools_in_range = refl;
  users_in_range = refl;
  pools_within_max = refl;
  total_least = omega arith;
  total_most = omega arith;
  reserved_most = omega arith;
  quarter_left = omega arith;
  chains_end = refl;
  user_pools_there = refl;
  role_pools_there = refl;
  grants_known = refl;
  grants_distinct = refl;
}
