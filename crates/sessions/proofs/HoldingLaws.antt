-- What the calls of a held session leave of it, and what they print.
use Rattle.std.proofs.Common.{◌≡◌, ◌≢◌, ℕ, Bool, true, false, ◌||◌, Option, Some, None, refl, sym, ap, ◌∙◌, subst}
use Rattle.std.specs.Prelude.{is_some}
use Rattle.rm_base.specs.declared.entry.Answered.{Answered}
use Rattle.rm_base.specs.declared.event.Event.{Event}
use Rattle.rm_base.specs.declared.event.Event.TheVariants.{Check, GiveWay, Close}
use Rattle.rm_base.specs.declared.name.Name.{Name}
use Rattle.rm_base.specs.declared.refusal.Refusal.{Refusal}
use Rattle.rm_base.specs.declared.reply.Reply.{Reply}
use Rattle.rm_base.specs.declared.reply.Reply.TheVariants as reply
use Rattle.rm_rules.specs.Replay.{IsFormed}
use Rattle.sessions.specs.declared.held.Held.{Held}
use Rattle.sessions.specs.declared.submitted.Submitted.{Submitted}
use Rattle.sessions.specs.declared.submitted.Submitted.TheVariants.{Admitted, Waiting, Ended, Refused}
use Rattle.sessions.specs.Granted.{Granted}
use Rattle.sessions.specs.Held.{IsHeld, printed, unnumbered, PrintsAs, grant_after, given_up, held_back}
use Rattle.sessions.specs.Host.{Known, state_of, Called}
use Rattle.sessions.specs.Session.{SeesOpen, HoldsGrant, sees_leaving, asks_way, CallsOnce, IsTold, is_admitted, IfAdmitted}
use Rattle.sessions.proofs.EndingLaws.{close-closed, close-other}
use Rattle.sessions.proofs.HeldLaws.{held-goes_on}
use Rattle.sessions.proofs.LeavingLaws.{steered}
use Rattle.sessions.proofs.SessionLaws.{open-called, running-called, running-open, leaving-called, check-called, way-called, stands-called, close-reply}

-- what a session was told prints as the reply did
told-prints : (number : ℕ) (told : Submitted) (r : Reply) → IsTold number told r → PrintsAs (printed told) r
told-prints number (Admitted grant account) r is = sym (ap unnumbered is.1)
told-prints number (Waiting place) r is = sym (ap unnumbered is.1)
told-prints number (Ended end) r is = sym (ap unnumbered is)
told-prints number (Refused refusal) r is = sym (ap unnumbered is)

pub call-prints : (old new : Known) (at : ℕ) (event : Event) (number : ℕ) (told : Submitted) (r : Reply) → r ≡ printed told → CallsOnce old new at event (IsTold number told)
    → CallsOnce old new at event (PrintsAs r)
call-prints old new at event number told r is h = (h.0, h.1, subst (λ p. PrintsAs p h.0.reply) (sym is) (told-prints number told h.0.reply h.2))

or_true : (b : Bool) → (b || true) ≡ true
or_true true = refl
or_true false = refl

or_false : (b : Bool) → (b || false) ≡ b
or_false true = refl
or_false false = refl

-- where this grant alone is out
with-grant : (k : Known) (h : Held) (grant : Granted) → h.grant ≡ Some grant → h.session.granted ≡ true → SeesOpen k h.session.number → HoldsGrant k h.session.number grant → h.leaving ≡ sees_leaving k h.session.number → IsHeld k h
with-grant k h grant is granted opened holds leaves = record {
  opened = opened;
  told = granted ∙ sym (ap is_some is);
  own = λ g there. let same : grant ≡ g = cc in subst (HoldsGrant k h.session.number) same holds;
  leaves = leaves;
}

-- and where none is
pub without-grant : (k : Known) (h : Held) → h.grant ≡ None → h.session.granted ≡ false → SeesOpen k h.session.number → h.leaving ≡ sees_leaving k h.session.number → IsHeld k h
without-grant k h is granted opened leaves = record { opened = opened; told = granted ∙ sym (ap is_some is); own = λ g there. absurd (cc); leaves = leaves }

-- Submit: a grant that was out stays out, and one may come out
pub asked-held : (old new : Known) (at : ℕ) (event : Event) (answered : Answered) (h : Held) (told : Submitted) → Called old new at event answered → IsFormed event
    → steered event ≢ Some h.session.number → event ≢ Close h.session.number → IfAdmitted told (HoldsGrant new h.session.number) → IsHeld old h
    → let g : Held = record { name = h.name; session = record h.session { granted = h.session.granted || is_admitted told }; grant = grant_after told h.grant; leaving = h.leaving } in IsHeld new g
asked-held old new at event answered h (Admitted grant account) called formed spared unclosed holds is =
    let on = held-goes_on old new at event answered h called formed spared unclosed is in
    with-grant new (record { name = h.name; session = record h.session { granted = h.session.granted || true }; grant = Some grant; leaving = h.leaving }) grant refl (or_true h.session.granted) on.opened holds on.leaves
asked-held old new at event answered h (Waiting place) called formed spared unclosed holds is =
    let on = held-goes_on old new at event answered h called formed spared unclosed is in record { opened = on.opened; told = or_false h.session.granted ∙ on.told; own = on.own; leaves = on.leaves }
asked-held old new at event answered h (Ended end) called formed spared unclosed holds is =
    let on = held-goes_on old new at event answered h called formed spared unclosed is in record { opened = on.opened; told = or_false h.session.granted ∙ on.told; own = on.own; leaves = on.leaves }
asked-held old new at event answered h (Refused refusal) called formed spared unclosed holds is =
    let on = held-goes_on old new at event answered h called formed spared unclosed is in record { opened = on.opened; told = or_false h.session.granted ∙ on.told; own = on.own; leaves = on.leaves }

-- Poll: the grant is out that it tells of
pub polled-held : (old new : Known) (at : ℕ) (event : Event) (answered : Answered) (h : Held) (told : Submitted) → Called old new at event answered → IsFormed event
    → steered event ≢ Some h.session.number → event ≢ Close h.session.number → IfAdmitted told (HoldsGrant new h.session.number) → IsHeld old h
    → let g : Held = record { name = h.name; session = record h.session { granted = is_admitted told }; grant = grant_after told None; leaving = h.leaving } in IsHeld new g
polled-held old new at event answered h (Admitted grant account) called formed spared unclosed holds is =
    let on = held-goes_on old new at event answered h called formed spared unclosed is in
    with-grant new (record { name = h.name; session = record h.session { granted = true }; grant = Some grant; leaving = h.leaving }) grant refl refl on.opened holds on.leaves
polled-held old new at event answered h (Waiting place) called formed spared unclosed holds is =
    let on = held-goes_on old new at event answered h called formed spared unclosed is in
    without-grant new (record { name = h.name; session = record h.session { granted = false }; grant = None; leaving = h.leaving }) refl refl on.opened on.leaves
polled-held old new at event answered h (Ended end) called formed spared unclosed holds is =
    let on = held-goes_on old new at event answered h called formed spared unclosed is in
    without-grant new (record { name = h.name; session = record h.session { granted = false }; grant = None; leaving = h.leaving }) refl refl on.opened on.leaves
polled-held old new at event answered h (Refused refusal) called formed spared unclosed holds is =
    let on = held-goes_on old new at event answered h called formed spared unclosed is in
    without-grant new (record { name = h.name; session = record h.session { granted = false }; grant = None; leaving = h.leaving }) refl refl on.opened on.leaves

-- Close while a grant is out: the query runs on, so it is refused
busy-runs : (old new : Known) (at : ℕ) (answered : Answered) (h : Held) (grant : Granted) → Called old new at (Close h.session.number) answered → h.grant ≡ Some grant → IsHeld old h
    → HoldsGrant new h.session.number grant
busy-runs old new at answered h grant called is held =
    let own = held.own grant is in (own.0, running-called old new at grant (Close h.session.number) answered called tt (λ same. cc) (λ same. cc) own.1)

pub busy-refused : (old new : Known) (at : ℕ) (answered : Answered) (h : Held) (grant : Granted) → Called old new at (Close h.session.number) answered → h.grant ≡ Some grant → IsHeld old h
    → ((r : Refusal) → answered.reply ≡ reply.Refused r → ⊥) → ⊥
busy-refused old new at answered h grant called is held other =
    let n = h.session.number in
    let runs = busy-runs old new at answered h grant called is held in
    let answers = close-reply old new at n n answered refl called held.opened in
    close-other new.seat n (state_of new) answered.reply answers
    (λ closed. close-closed new.seat n (state_of new) answered.reply answers closed (subst (SeesOpen new) runs.0 (running-open new grant runs.1))) other

pub busy-held : (old new : Known) (at : ℕ) (answered : Answered) (h : Held) (grant : Granted) → Called old new at (Close h.session.number) answered → h.grant ≡ Some grant → IsHeld old h
    → let g : Held = record { name = h.name; session = h.session; grant = Some grant; leaving = h.leaving } in IsHeld new g
busy-held old new at answered h grant called is held =
    let runs = busy-runs old new at answered h grant called is held in
    with-grant new (record { name = h.name; session = h.session; grant = Some grant; leaving = h.leaving }) grant refl (held.told ∙ ap is_some is) (subst (SeesOpen new) runs.0 (running-open new grant runs.1)) runs
    (held.leaves ∙ sym (leaving-called old new at h.session.number (Close h.session.number) answered called (λ same. cc) held.opened))

-- Check: the query may be told to give way
pub checked-held : (old new : Known) (at : ℕ) (h : Held) (r : Reply) (leaving : Bool) → CallsOnce old new at (Check h.session.number) (λ answer. answer ≡ r) → leaving ≡ (h.leaving || asks_way r) → IsHeld old h
    → let g : Held = record { name = h.name; session = h.session; grant = h.grant; leaving = leaving } in IsHeld new g
checked-held old new at h r leaving call turns is =
    let n = h.session.number in
    let called = call.1 in
    record {
      opened = open-called old new at n (Check n) call.0 called tt (λ same. cc) is.opened;
      told = is.told;
      own = λ g there. let own = is.own g there in (own.0, running-called old new at g (Check n) call.0 called tt (λ same. cc) (λ same. cc) own.1);
      leaves = turns ∙ ap (λ b. b || asks_way r) is.leaves ∙ ap (λ (a : Reply). sees_leaving old n || asks_way a) (sym call.2) ∙ sym (check-called old new at n call.0 called is.opened);
    }

-- GiveWay, of a query that is to give way: its grant is gone, and another may come out
pub gave-held : (old new : Known) (at : ℕ) (answered : Answered) (h : Held) (told : Submitted) → Called old new at (GiveWay h.session.number) answered → IfAdmitted told (HoldsGrant new h.session.number) → IsHeld old h
    → let g : Held = record { name = h.name; session = record h.session { granted = is_admitted told }; grant = grant_after told None; leaving = false } in IsHeld new g
gave-held old new at answered h told called holds is = turn told holds where
  n : ℕ
  n = h.session.number

  opened : SeesOpen new n
  opened = open-called old new at n (GiveWay n) answered called tt (λ same. cc) is.opened

  leaves : false ≡ sees_leaving new n
  leaves = sym (way-called old new at n answered called is.opened)

  turn : (told : Submitted) → IfAdmitted told (HoldsGrant new n)
      → let g : Held = record { name = h.name; session = record h.session { granted = is_admitted told }; grant = grant_after told None; leaving = false } in IsHeld new g
  turn (Admitted grant account) holds = with-grant new (record { name = h.name; session = record h.session { granted = true }; grant = Some grant; leaving = false }) grant refl refl opened holds leaves
  turn (Waiting place) holds = without-grant new (record { name = h.name; session = record h.session { granted = false }; grant = None; leaving = false }) refl refl opened leaves
  turn (Ended end) holds = without-grant new (record { name = h.name; session = record h.session { granted = false }; grant = None; leaving = false }) refl refl opened leaves
  turn (Refused refusal) holds = without-grant new (record { name = h.name; session = record h.session { granted = false }; grant = None; leaving = false }) refl refl opened leaves

-- a grant that is given up is one of a query that is to give way
pub given-up : (leaving : Bool) (held : Option Granted) (g : Granted) → given_up leaving held ≡ Some g → (leaving ≡ true) × (held ≡ Some g)
given-up true held g is = (refl, is)
given-up false held g is = absurd (cc)

-- GiveWay where none is given up: no grant is out, or the query goes on with it
stood-turn : (old new : Known) (at : ℕ) (answered : Answered) (h : Held) (b : Bool) → Called old new at (GiveWay h.session.number) answered → h.leaving ≡ b → given_up b h.grant ≡ None → IsHeld old h
    → let g : Held = record { name = h.name; session = h.session; grant = held_back b h.grant; leaving = false } in IsHeld new g
stood-turn old new at answered h false called stands none is = record {
  opened = open-called old new at h.session.number (GiveWay h.session.number) answered called tt (λ same. cc) is.opened;
  told = is.told;
  own = λ g there. stands-called old new at h.session.number g answered called (is.own g there) (sym is.leaves ∙ stands);
  leaves = sym (way-called old new at h.session.number answered called is.opened);
}
stood-turn old new at answered h true called stands none is = record {
  opened = open-called old new at h.session.number (GiveWay h.session.number) answered called tt (λ same. cc) is.opened;
  told = is.told ∙ ap is_some none;
  own = λ g there. absurd (cc);
  leaves = sym (way-called old new at h.session.number answered called is.opened);
}

pub stood-held : (old new : Known) (at : ℕ) (answered : Answered) (h : Held) → Called old new at (GiveWay h.session.number) answered → given_up h.leaving h.grant ≡ None → IsHeld old h
    → let g : Held = record { name = h.name; session = h.session; grant = held_back h.leaving h.grant; leaving = false } in IsHeld new g
stood-held old new at answered h called none is = stood-turn old new at answered h h.leaving called refl none is

-- a check that asks for no giving way leaves it as it was
pub asks-none : (r : Reply) → ((pool : Name) → r ≡ reply.GiveWay pool → ⊥) → asks_way r ≡ false
asks-none (reply.GiveWay pool) other = absurd (other pool refl)
asks-none _ other = refl

pub turns-none : (b : Bool) (r : Reply) → ((pool : Name) → r ≡ reply.GiveWay pool → ⊥) → b ≡ (b || asks_way r)
turns-none b r other = sym (ap (λ a. b || a) (asks-none r other) ∙ or_false b)

pub turns-way : (b : Bool) (r : Reply) (pool : Name) → r ≡ reply.GiveWay pool → true ≡ (b || asks_way r)
turns-way b r pool is = sym (ap (λ a. b || asks_way a) is ∙ or_true b)
