-- What holds along every legal history.
use Rattle.std.proofs.Common.{◌≡◌, ℕ, ◌+◌, ◌≤◌, Bool, true, false, ◌||◌, cond, List, [], ◌∷◌, ◌++◌, length, refl, sym, ap, ◌∙◌, subst, arith}
use Rattle.rm_base.specs.declared.definitions.Definitions.{Definitions}
use Rattle.rm_base.specs.declared.entry.Entry.{Entry}
use Rattle.rm_base.specs.declared.event.Event.{Event}
use Rattle.rm_base.specs.declared.limits.TheConstants.{CHANGES_MOST, ENTRIES_BEYOND}
use Rattle.rm_rules.specs.State.{State, start}
use Rattle.rm_rules.specs.Settle.{settled}
use Rattle.rm_rules.specs.Settled.{IsSettled}
use Rattle.rm_rules.specs.Change.{Change}
use Rattle.rm_rules.specs.Answers.{reply_of, answered}
use Rattle.rm_rules.specs.Step.{Outcome, noted, recorded, entered, moved_to, has_due, found_at, attempted, step}
use Rattle.rm_rules.specs.Replay.{IsFormed, replay, IsLegal}
use Rattle.rm_rules.specs.Sound.{IsSound}
use Rattle.rm_rules.specs.Healthy.{IsHealthy, IsUnsettled}
use Rattle.rm_rules.specs.Grants.{KeepsGrants, BytesAreKept}
use Rattle.rm_rules.proofs.SettledLaws.{settled-is-settled, settled-beside, start-settled}
use Rattle.rm_rules.proofs.Settling.{rest-settled, rest-due}
use Rattle.rm_rules.proofs.Changing.{tried-is, rest-tried}
use Rattle.rm_rules.proofs.Answering.{beside-answered}
use Rattle.rm_rules.proofs.Stepping.{unsettled-tried, outcome-turn}
use Rattle.rm_rules.proofs.Laws.{healthy-start, healthy-step, healthy-replay, conserved-healthy}
use Rattle.rm_rules.proofs.Forces.{force-step}
use Rattle.rm_rules.proofs.Grants.{grants-step}

-- each event leaves a state in which nothing is left to settle
rest-entered : (seat : ℕ) (event : Event) (c : Change) → IsUnsettled c.answer c.state → IsSettled (entered seat event (settled c.state) c.answer).state
rest-entered seat event c h =
    let t = settled c.state in
    let u = answered t c.answer in
    let entry = noted seat t.clock event (reply_of t c.answer) in
    let left = settled-beside t u.sessions t.clock (t.journal ++ entry ∷ []) (settled-is-settled c.state h.sound h.sized h.there h.held) in
    subst IsSettled (sym (ap (λ (v : State). recorded v entry) (beside-answered t c.answer).beside)) left

pub rest-step : (s : State) (seat at : ℕ) (event : Event) → IsHealthy s → IsFormed event → IsSettled s → IsSettled (step s seat at event).state
rest-step s seat at event healthy formed h =
    let c = attempted (found_at s at) seat event in
    outcome-turn (λ o. IsSettled o.state) s seat event c (has_due s at || c.changed)
    (λ settles. rest-entered seat event c (unsettled-tried s seat at event c (tried-is (found_at s at) seat event) formed healthy settles))
    (λ still. h)

-- so where no query runs, none waits
pub idle-step : (s : State) (seat at : ℕ) (event : Event) → IsHealthy s → IsFormed event → (s.running ≡ [] → s.waiting ≡ [])
    → (step s seat at event).state.running ≡ [] → (step s seat at event).state.waiting ≡ []
idle-step s seat at event healthy formed idle =
    let c = attempted (found_at s at) seat event in
    outcome-turn (λ o. o.state.running ≡ [] → o.state.waiting ≡ []) s seat event c (has_due s at || c.changed)
    (λ settles. (rest-entered seat event c (unsettled-tried s seat at event c (tried-is (found_at s at) seat event) formed healthy settles)).idle)
    (λ still. idle)

rest-from : (s : State) (entries : List Entry) → IsLegal s entries → IsHealthy s → IsSettled s → IsSettled (replay s entries)
rest-from s [] legal healthy h = h
rest-from s (e ∷ es) legal healthy h =
    rest-from (step s e.seat e.at e.event).state es legal.2 (healthy-step s e.seat e.at e.event legal.0 healthy) (rest-step s e.seat e.at e.event healthy legal.0 h)

pub rest-replay : (d : Definitions) (room : ℕ) (entries : List Entry) → IsSound d → IsLegal (start d room) entries → IsSettled (replay (start d room) entries)
rest-replay d room entries sound legal = rest-from (start d room) entries legal (healthy-start d room sound) (start-settled d room sound)

-- the reply of a legal entry is its event's
reply-turn : (o : Outcome) (seat moment : ℕ) (event : Event) (e : Entry) (b : Bool) → cond b (noted seat moment event o.reply ∷ []) [] ≡ e ∷ [] → o.reply ≡ e.reply
reply-turn o seat moment event e true is = let same : noted seat moment event o.reply ≡ e = cc in ap (λ (x : Entry). x.reply) same
reply-turn o seat moment event e false is = absurd (cc)

-- each entry keeps the bytes
pub bytes-from : (s : State) (entries : List Entry) → IsLegal s entries → IsHealthy s → BytesAreKept s entries
bytes-from s [] legal h = tt
bytes-from s (e ∷ es) legal h =
    let o = step s e.seat e.at e.event in
    let then = healthy-step s e.seat e.at e.event legal.0 h in
    let replies : o.reply ≡ e.reply = reply-turn o e.seat _ e.event e o.entry legal.1 in (
      record {
        conserved = conserved-healthy o.state then;
        force = force-step s e.seat e.at e.event h legal.0;
        grants = subst (KeepsGrants s o.state e.event) replies (grants-step s e.seat e.at e.event h);
      },
      bytes-from o.state es legal.2 then,
    )

-- no event changes the journal's room
pub room-step : (s : State) (seat at : ℕ) (event : Event) → (step s seat at event).state.room ≡ s.room
room-step s seat at event =
    let c = attempted (found_at s at) seat event in
    outcome-turn (λ o. o.state.room ≡ s.room) s seat event c (has_due s at || c.changed)
    (λ settles.
    ap (λ (u : State). u.room) (beside-answered (settled c.state) c.answer).beside ∙ (rest-settled c.state).room
    ∙ (rest-tried (found_at s at) seat event c (tried-is (found_at s at) seat event)).room ∙ (rest-due (moved_to s at)).room
    )
    (λ still. refl)

pub room-replay : (s : State) (entries : List Entry) → (replay s entries).room ≡ s.room
room-replay s [] = refl
room-replay s (e ∷ es) = room-replay (step s e.seat e.at e.event).state es ∙ room-step s e.seat e.at e.event

-- so the journal never has more entries than its room, those beyond it and those of statements
pub journal-most : (d : Definitions) (room : ℕ) (entries : List Entry) → IsSound d → IsLegal (start d room) entries
    → length (replay (start d room) entries).journal ≤ room + ENTRIES_BEYOND + CHANGES_MOST
journal-most d room entries sound legal =
    let h = healthy-replay (start d room) entries legal (healthy-start d room sound) in
    omega (arith, h.room.kept, h.room.defined, h.sound.changes, room-replay (start d room) entries)
