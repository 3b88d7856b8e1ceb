-- What the calls of a host leave of the state that it has seen.
use Rattle.std.proofs.Common.{◌≡◌, ℕ, true, [], ◌++◌, length, append-nil, refl, sym, ap, ◌∙◌, subst}
use Rattle.rm_base.specs.declared.entry.Answered.{Answered}
use Rattle.rm_base.specs.declared.event.Event.{Event}
use Rattle.rm_rules.specs.State.{State, start}
use Rattle.rm_rules.specs.Step.{step, made}
use Rattle.rm_rules.specs.Replay.{replay, IsFormed, IsLegal}
use Rattle.rm_rules.specs.Sound.{IsSound}
use Rattle.rm_rules.specs.Healthy.{IsHealthy}
use Rattle.rm_rules.proofs.Laws.{IsKeptByOthers, others-keep, healthy-start, healthy-replay, journal-step, replay-append, legal-parts, legal-more, replay-more}
use Rattle.rm_rules.proofs.Histories.{room-step}
use Rattle.machine.specs.Desk.{DeskState}
use Rattle.sessions.specs.declared.host.TheConstants.{FIRST_SEAT}
use Rattle.sessions.specs.Host.{Known, beginning, state_of, outcome_at, with_seen, SeesMore, Called, IsStep, desk_known}

-- what a host has seen leaves a healthy state
pub sees-healthy : (old new : Known) → SeesMore old new → IsHealthy (state_of new)
sees-healthy old new h = healthy-replay (beginning new) new.seen h.legal (healthy-start new.first new.room h.sound)

-- what other seats' events keep, the host still sees
pub sees-keeps : (P : State → Type 0) (old new : Known) → SeesMore old new → IsKeptByOthers old.seat P → P (state_of old) → P (state_of new)
sees-keeps P old new h each was =
    let sound : IsSound old.first = subst (λ (k : Known). IsSound k.first) h.seen h.sound in
    let legal : IsLegal (beginning old) (old.seen ++ h.others) = subst (λ (k : Known). IsLegal (beginning k) k.seen) h.seen h.legal in
    let parts = legal-parts (beginning old) old.seen h.others legal in
    let healthy = healthy-replay (beginning old) old.seen parts.0 (healthy-start old.first old.room sound) in
    subst (λ (k : Known). P (state_of k)) (sym h.seen)
    (subst P (sym (replay-append (beginning old) old.seen h.others)) (others-keep P old.seat each (state_of old) h.others healthy parts.1 h.of_others was))

pub sees-seat : (old new : Known) → SeesMore old new → new.seat ≡ old.seat
sees-seat old new h = ap (λ (k : Known). k.seat) h.seen

-- after a call it sees the state that the event leaves
pub called-state : (old new : Known) (at : ℕ) (event : Event) (answered : Answered) (h : Called old new at event answered)
    → state_of new ≡ (outcome_at h.found at event).state
called-state old new at event answered h = ap state_of h.seen ∙ replay-more (beginning h.found) h.found.seen h.found.seat at event

pub called-seat : (old new : Known) (at : ℕ) (event : Event) (answered : Answered) → Called old new at event answered → new.seat ≡ old.seat
called-seat old new at event answered h = ap (λ (k : Known). k.seat) h.seen ∙ sees-seat old h.found h.sees

-- what other seats' events keep, and the event itself, a call keeps
pub called-keeps : (P : ℕ → State → Type 0) (old new : Known) (at : ℕ) (event : Event) (answered : Answered) → Called old new at event answered
    → IsKeptByOthers old.seat (P old.seat) → ((s : State) → IsHealthy s → P old.seat s → P old.seat (step s old.seat at event).state)
    → P old.seat (state_of old) → P new.seat (state_of new)
called-keeps P old new at event answered h others own was =
    let found = sees-keeps (P old.seat) old h.found h.sees others was in
    let then = own (state_of h.found) (sees-healthy old h.found h.sees) found in
    subst (λ n. P n (state_of new)) (sym (called-seat old new at event answered h))
    (subst (P old.seat) (sym (called-state old new at event answered h))
    (subst (λ n. P old.seat (step (state_of h.found) n at event).state) (sym (sees-seat old h.found h.sees)) then))

-- where nobody else acts on the machine, a call is the event's step
pub called-alone : (old new : Known) (at : ℕ) (event : Event) (answered : Answered) → Called old new at event answered → old.alone ≡ true → IsStep old new at event answered
called-alone old new at event answered h alone =
    let same : h.found ≡ old = h.sees.seen ∙ ap (with_seen old) (h.sees.none_alone alone) ∙ ap (λ l. let k : Known = record old { seen = l } in k) (append-nil old.seen) in
    record {
      reply = h.reply ∙ ap (λ (k : Known). (outcome_at k at event).reply) same;
      state = called-state old new at event answered h ∙ ap (λ (k : Known). (outcome_at k at event).state) same;
      seat = called-seat old new at event answered h;
      alone = ap (λ (k : Known). k.alone) h.seen ∙ ap (λ (k : Known). k.alone) same ∙ alone;
    }

-- an event of a desk is such a call
pub desk-called : (d new : DeskState) (at : ℕ) (event : Event) (answered : Answered) → IsFormed event → IsSound d.first
    → IsLegal (start d.first d.state.room) d.state.journal → replay (start d.first d.state.room) d.state.journal ≡ d.state
    → new ≡ (let next : DeskState = record d { state = (step d.state FIRST_SEAT at event).state } in next)
    → answered.reply ≡ (step d.state FIRST_SEAT at event).reply → answered.entry ≡ (step d.state FIRST_SEAT at event).entry → answered.place ≡ length new.state.journal
    → Called (desk_known d) (desk_known new) at event answered
desk-called d new at event answered formed sound legal replays is reply entry place =
    let old = desk_known d in
    let o = step d.state FIRST_SEAT at event in
    let journal : o.state.journal ≡ old.seen ++ made (state_of old) FIRST_SEAT at event =
    journal-step d.state FIRST_SEAT at event ∙ ap (λ s. old.seen ++ made s FIRST_SEAT at event) (sym replays) in
    let seen : desk_known new ≡ with_seen old (made (state_of old) FIRST_SEAT at event) =
    ap desk_known is ∙ ap (λ n. let k : Known = record old { room = n; seen = o.state.journal } in k) (room-step d.state FIRST_SEAT at event)
    ∙ ap (λ l. let k : Known = record old { seen = l } in k) journal in
    record {
      found = old;
      sees = record {
        others = [];
        seen = ap (λ l. let k : Known = record old { seen = l } in k) (sym (append-nil old.seen));
        of_others = refl;
        none_alone = λ alone. refl;
        from_first = tt;
        sound = sound;
        legal = legal;
      };
      seen = seen;
      legal = subst (λ (k : Known). IsLegal (beginning k) k.seen) (sym seen) (legal-more (beginning old) old.seen FIRST_SEAT at event formed legal);
      reply = reply ∙ ap (λ s. (step s FIRST_SEAT at event).reply) (sym replays);
      entry = entry ∙ ap (λ s. (step s FIRST_SEAT at event).entry) (sym replays);
      place = place;
    }
