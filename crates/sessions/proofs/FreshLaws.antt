-- The number of a session that is opened is no other open session's.
use Rattle.std.proofs.Common.{◌≡◌, ◌≢◌, ℕ, ◌+◌, ◌≤◌, false, ◌||◌, leb, List, [], ◌∷◌, ◌++◌, Option, Some, None, refl, sym, ap, ◌∙◌, arith}
use Rattle.std.proofs.lemmas.Bool.{leb-true, eqb-true}
use Rattle.rm_base.specs.declared.entry.Answered.{Answered}
use Rattle.rm_base.specs.declared.event.Event.{Event}
use Rattle.rm_base.specs.declared.event.Event.TheVariants.{Open}
use Rattle.rm_base.specs.declared.name.Name.{Name}
use Rattle.rm_base.specs.declared.reply.Reply.TheVariants as reply
use Rattle.rm_rules.specs.declared.state.Session.{Session}
use Rattle.rm_rules.specs.State.{State, session_called}
use Rattle.rm_rules.specs.Settle.{settled}
use Rattle.rm_rules.specs.Change.{Change}
use Rattle.rm_rules.specs.Answers.{reply_of}
use Rattle.rm_rules.specs.Step.{has_due, found_at, attempted, step}
use Rattle.rm_rules.specs.Healthy.{AreOpened, IsHealthy}
use Rattle.rm_rules.proofs.Taken.{all_found, found_passes}
use Rattle.rm_rules.proofs.Grants.{less-found}
use Rattle.rm_rules.proofs.Phases.{has_number}
use Rattle.rm_rules.proofs.Changing.{IsTried, stays, changes, refuses, opens, session_of-is, tried-is}
use Rattle.rm_rules.proofs.Stepping.{found-facts, outcome-turn}
use Rattle.sessions.specs.declared.held.Held.{Held}
use Rattle.sessions.specs.Held.{AreHeld}
use Rattle.sessions.specs.Host.{Known, state_of, Called}
use Rattle.sessions.specs.Session.{IsOpen, is_leaving, SeesOpen, sees_leaving}
use Rattle.sessions.proofs.HeldLaws.{all-go_on, more-held, open-apart}
use Rattle.sessions.proofs.HoldingLaws.{without-grant}
use Rattle.sessions.proofs.HostLaws.{sees-healthy}
use Rattle.sessions.proofs.LeavingLaws.{way_of, leaving-spared, unopened-leaving}
use Rattle.sessions.proofs.OpenLaws.{there-of, open-there, there-found}
use Rattle.sessions.proofs.SessionLaws.{called-turn, open-sees}

-- it is the next number
next-number : (s t : State) (seat : ℕ) (user : Name) (c : Change) (m : ℕ) → IsTried s seat (Open user) c → reply_of t c.answer ≡ reply.Opened m → m ≡ s.last_session + 1
next-number s t seat user _ m (stays _ (refuses _ r is)) answer = absurd (cc)
next-number s t seat _ c m (changes _ (opens user may) loud) answer = let e : s.last_session + 1 ≡ m = cc in sym e

given : (s : State) (seat n : ℕ) → IsHealthy s → (at : ℕ) → IsOpen s seat n → n ≤ (found_at s at).last_session
given s seat n healthy at is =
    let t = found_at s at in
    let there = there-of t seat n (there-found n seat s at (open-there s seat n is)) in
    let x = there.0 in
    let found = session_of-is t seat n x there.1 in
    let within = all_found (λ z. leb z.number t.last_session) (has_number n) t.sessions x (found-facts s at healthy).opened.given found.called in
    omega (arith, found.number, leb-true x.number t.last_session within)

step-number : (s : State) (seat at m : ℕ) (user : Name) → (step s seat at (Open user)).reply ≡ reply.Opened m → m ≡ (found_at s at).last_session + 1
step-number s seat at m user =
    let t = found_at s at in
    let event : Event = Open user in
    let c = attempted t seat event in
    outcome-turn (λ o. o.reply ≡ reply.Opened m → m ≡ t.last_session + 1) s seat event c (has_due s at || c.changed)
    (λ settles r. next-number t (settled c.state) seat user c m (tried-is t seat event) r)
    (λ still r. next-number t c.state seat user c m (tried-is t seat event) r)

opened-new : (s : State) (seat at n m : ℕ) (user : Name) → IsHealthy s → IsOpen s seat n → (step s seat at (Open user)).reply ≡ reply.Opened m → n ≢ m
opened-new s seat at n m user healthy is answer =
    let next = step-number s seat at m user answer in
    λ same. let most = given s seat n healthy at is in absurd (omega (arith, most, next, same))

opened-fresh : (old new : Known) (at n m : ℕ) (user : Name) (answered : Answered) → Called old new at (Open user) answered → answered.reply ≡ reply.Opened m → SeesOpen old n → n ≢ m
opened-fresh old new at n m user answered h =
    called-turn (λ seat s r. r ≡ reply.Opened m → SeesOpen old n → n ≢ m) old new at (Open user) answered h
    (λ r was. opened-new (state_of h.found) h.found.seat at n m user (sees-healthy old h.found h.sees) (open-sees old h.found n h.sees was) r)

-- no query of it is to give way
next-absent : (t : State) (m : ℕ) → AreOpened t.last_session t.sessions → m ≡ t.last_session + 1 → session_called t.sessions m ≡ None
next-absent t m opened next = turn (session_called t.sessions m) refl where
  turn : (o : Option Session) → session_called t.sessions m ≡ o → o ≡ None
  turn None called = refl
  turn (Some x) called =
      let within = all_found (λ z. leb z.number t.last_session) (has_number m) t.sessions x opened.given called in
      absurd (omega (arith, next, eqb-true x.number m (found_passes (has_number m) x t.sessions called), leb-true x.number t.last_session within))

opened-leaving : (s : State) (seat at m : ℕ) (user : Name) → IsHealthy s → (step s seat at (Open user)).reply ≡ reply.Opened m → is_leaving (step s seat at (Open user)).state m ≡ false
opened-leaving s seat at m user healthy answer =
    let t = found_at s at in
    let facts = found-facts s at healthy in
    leaving-spared s seat at (Open user) m (λ k x of found. absurd (cc))
    ∙ ap (λ l. way_of l m) (sym (less-found s at).running)
    ∙ unopened-leaving t m facts.in_phase (next-absent t m facts.opened (step-number s seat at m user answer))

leaving-fresh : (old new : Known) (at m : ℕ) (user : Name) (answered : Answered) → Called old new at (Open user) answered → answered.reply ≡ reply.Opened m → sees_leaving new m ≡ false
leaving-fresh old new at m user answered h =
    called-turn (λ seat s r. r ≡ reply.Opened m → is_leaving s m ≡ false) old new at (Open user) answered h
    (λ r. opened-leaving (state_of h.found) h.found.seat at m user (sees-healthy old h.found h.sees) r)

-- so a session that was opened can be held with all before it
pub opened-held : (old new : Known) (at : ℕ) (user : Name) (answered : Answered) (hs : List Held) (g : Held) → Called old new at (Open user) answered → answered.reply ≡ reply.Opened g.session.number
    → SeesOpen new g.session.number → g.session.granted ≡ false → g.grant ≡ None → g.leaving ≡ false → AreHeld old hs → AreHeld new (hs ++ g ∷ [])
opened-held old new at user answered hs g called answer opened granted free stands are =
    more-held new hs g (all-go_on old new at (Open user) answered hs called tt refl are) (without-grant new g free granted opened (stands ∙ sym (leaving-fresh old new at g.session.number user answered called answer)))
    (open-apart old g.session.number hs (λ n was. opened-fresh old new at n g.session.number user answered called answer was) are)
