-- What settling and deadlines keep.
use Rattle.std.proofs.Common.{◌≡◌, ℕ, zero, suc, ◌+◌, ◌≤◌, List, ◌∷◌, length, Some, None, Option, refl, sym, ap, ◌∙◌, subst, arith, max, unwrap_or}
use Rattle.std.proofs.lemmas.List.{length-append}
use Rattle.rm_base.specs.declared.reply.End.{End}
use Rattle.rm_base.specs.declared.reply.End.TheVariants.{TimedOut}
use Rattle.rm_rules.specs.declared.state.Waiter.{Waiter}
use Rattle.rm_rules.specs.Definitions.{pool_row, total}
use Rattle.rm_rules.specs.Ask.{is_too_large}
use Rattle.rm_rules.specs.State.{State}
use Rattle.rm_rules.specs.Holdings.{holdings_of}
use Rattle.rm_rules.specs.Repeated.{repeated}
use Rattle.rm_rules.specs.Admission.{first_entitled, admitted, admission}
use Rattle.rm_rules.specs.Shuffle.{shuffled_state}
use Rattle.rm_rules.specs.Deadlines.{ended_as, deadline_of, is_due, is_nowait, first_due, first_nowait, timed_out, without_due}
use Rattle.rm_rules.specs.Settle.{without_nowait, first_too_large, too_large_end, ended_too_large, without_too_large, settled}
use Rattle.rm_rules.specs.Healthy.{AreSized, AreWithinMemory, IsHealthyWith, IsUnsettledWith}
use Rattle.rm_rules.proofs.Queue.{IsAmong, first_entitled_fits, found_among}
use Rattle.rm_rules.proofs.Covering.{sized-shuffled, covered-shuffled, force-shuffled}
use Rattle.rm_rules.proofs.Admitting.{healthy-admitted}
use Rattle.rm_rules.proofs.Ending.{sized-ended, unsettled-ended, healthy-ended, healthy-ended-more}

-- what each turn keeps is kept by all of them
repeated-turn : (pick : State → Option Waiter) (act : State → Waiter → State) (P : State → Type 0) (n : ℕ) (s : State) (o : Option Waiter) → pick s ≡ o → P s
    → ((w : Waiter) → pick s ≡ Some w → P (repeated pick act n (act s w)))
    → P (elim o [ Some w ↦ repeated pick act n (act s w) | None ↦ s ])
repeated-turn pick act P n s None e p more = p
repeated-turn pick act P n s (Some w) e p more = more w e

pub repeated-keeps : (pick : State → Option Waiter) (act : State → Waiter → State) (P : State → Type 0)
    → ((s : State) (w : Waiter) → pick s ≡ Some w → P s → P (act s w))
    → (n : ℕ) (s : State) → P s → P (repeated pick act n s)
repeated-keeps pick act P each zero s p = p
repeated-keeps pick act P each (suc n) s p =
    repeated-turn pick act P n s (pick s) refl p (λ w e. repeated-keeps pick act P each n (act s w) (each s w e p))

-- what is picked waits: a query that is too large, one whose deadline has come, one that may not wait, and an entitled one
pub too_large-among : (s : State) (w : Waiter) → first_too_large s ≡ Some w → IsAmong w s.waiting
too_large-among s w found = found_among (λ x. is_too_large s.definitions (pool_row s.definitions x.pool) x.user x.floor) w s.waiting found

pub due-among : (s : State) (w : Waiter) → first_due s ≡ Some w → IsAmong w s.waiting
due-among s w found = found_among (is_due s.definitions s.clock) w s.waiting found

pub nowait-among : (s : State) (w : Waiter) → first_nowait s ≡ Some w → IsAmong w s.waiting
nowait-among s w found = found_among (is_nowait s.definitions) w s.waiting found

pub entitled-among : (s : State) (w : Waiter) → first_entitled s ≡ Some w → IsAmong w s.waiting
entitled-among s w found = (first_entitled_fits s w found).0

-- how a query ends at its deadline
abbrev pub deadline_end : State → Waiter → End
deadline_end s w = TimedOut (unwrap_or (deadline_of s.definitions w) w.queued)

-- what each part keeps, deadlines, admission and settling keep: ends, the shuffle and admissions
pub due-keeps : (P : State → Type 0) → ((s : State) (w : Waiter) (end : End) → IsAmong w s.waiting → P s → P (ended_as end s w)) → (s : State) → P s → P (without_due s)
due-keeps P ends s p = repeated-keeps first_due timed_out P (λ a w e. ends a w (deadline_end a w) (due-among a w e)) (length s.waiting) s p

pub admission-keeps : (P : State → Type 0) → ((s : State) (w : Waiter) → first_entitled s ≡ Some w → P s → P (admitted s w)) → (s : State) → P s → P (admission s)
admission-keeps P admits s p = repeated-keeps first_entitled admitted P admits _ s p

-- what holds before the shuffle, and what from it on
pub settled-leads : (P Q : State → Type 0) → ((s : State) (w : Waiter) (end : End) → IsAmong w s.waiting → P s → P (ended_as end s w)) → ((s : State) → P s → Q (shuffled_state s))
    → ((s : State) (w : Waiter) (end : End) → IsAmong w s.waiting → Q s → Q (ended_as end s w))
    → ((s : State) (w : Waiter) → first_entitled s ≡ Some w → Q s → Q (admitted s w)) → (s : State) → P s → Q (settled s)
settled-leads P Q ends shuffles ends_then admits s p =
    let t = without_too_large s in
    let u = admission (shuffled_state t) in
    let first = repeated-keeps first_too_large ended_too_large P (λ a w e. ends a w (too_large_end a w) (too_large-among a w e)) (length s.waiting) s p in
    admission-keeps Q admits (without_nowait u)
    (repeated-keeps first_nowait timed_out Q (λ a w e. ends_then a w (deadline_end a w) (nowait-among a w e)) (length u.waiting) u
    (admission-keeps Q admits (shuffled_state t) (shuffles t first)))

pub settled-keeps : (P : State → Type 0) → ((s : State) (w : Waiter) (end : End) → IsAmong w s.waiting → P s → P (ended_as end s w)) → ((s : State) → P s → P (shuffled_state s))
    → ((s : State) (w : Waiter) → first_entitled s ≡ Some w → P s → P (admitted s w)) → (s : State) → P s → P (settled s)
settled-keeps P ends shuffles admits s p = settled-leads P P ends shuffles ends admits s p

-- after the shuffle the bytes are covered
pub healthy-shuffled : (entries statements : ℕ) (s : State) → IsUnsettledWith entries statements s → IsHealthyWith entries statements (shuffled_state s)
healthy-shuffled entries statements s h = record {
  sound = h.sound;
  sized = sized-shuffled s h.sized;
  there = h.there;
  covered = covered-shuffled s h.sound h.sized h.there h.held;
  in_phase = h.in_phase;
  opened = h.opened;
  numbered = h.numbered;
  timed = h.timed;
  room = h.room;
}

-- so a state that has settled is healthy
pub kept-settled : (entries statements : ℕ) (s : State) → IsUnsettledWith entries statements s → IsHealthyWith entries statements (settled s)
kept-settled entries statements s h =
    settled-leads (IsUnsettledWith entries statements) (IsHealthyWith entries statements)
    (λ t w end among p. unsettled-ended entries statements end t w among p)
    (healthy-shuffled entries statements)
    (λ t w end among p. healthy-ended entries statements end t w among p)
    (healthy-admitted entries statements) s h

-- deadlines leave it healthy, and with room for one entry more where one has come
pub kept-without_due : (entries statements : ℕ) (s : State) → IsHealthyWith entries statements s → IsHealthyWith entries statements (without_due s)
kept-without_due entries statements s h = due-keeps (IsHealthyWith entries statements) (λ t w end among p. healthy-ended entries statements end t w among p) s h

more-turn : (entries statements : ℕ) (s : State) (w : Waiter) (n : ℕ) → first_due s ≡ Some w → IsAmong w s.waiting → length s.waiting ≡ n → IsHealthyWith entries statements s
    → IsHealthyWith (entries + 1) statements (repeated first_due timed_out n s)
more-turn entries statements s w zero found among count h =
    absurd (omega (arith, count, ap (λ (l : List Waiter). length l) among.split, length-append among.front (w ∷ among.rest)))
more-turn entries statements s w (suc n) found among count h =
    subst (λ (o : Option Waiter). IsHealthyWith (entries + 1) statements (elim o [ Some x ↦ repeated first_due timed_out n (timed_out s x) | None ↦ s ])) (sym found)
    (repeated-keeps first_due timed_out (IsHealthyWith (entries + 1) statements) (λ a x e p. healthy-ended (entries + 1) statements (deadline_end a x) a x (due-among a x e) p) n (timed_out s w)
    (healthy-ended-more entries statements (deadline_end s w) s w among h))

pub kept-due-more : (entries statements : ℕ) (s : State) (w : Waiter) → first_due s ≡ Some w → IsHealthyWith entries statements s → IsHealthyWith (entries + 1) statements (without_due s)
kept-due-more entries statements s w found h = more-turn entries statements s w (length s.waiting) found (due-among s w found) refl h

-- where no deadline has come, nothing changes
none-turn : (s : State) (n : ℕ) → (let o : Option Waiter = None in first_due s ≡ o) → repeated first_due timed_out n s ≡ s
none-turn s zero nothing = refl
none-turn s (suc n) nothing = ap (λ (o : Option Waiter). elim o [ Some x ↦ repeated first_due timed_out n (timed_out s x) | None ↦ s ]) nothing

pub none-due : (s : State) → (let o : Option Waiter = None in first_due s ≡ o) → without_due s ≡ s
none-due s nothing = none-turn s (length s.waiting) nothing

-- what neither ends nor the shuffle nor admissions touch
pub record LeavesRest (s t : State) : Type 0 where
  pub definitions : t.definitions ≡ s.definitions
  pub clock : t.clock ≡ s.clock
  pub last_session : t.last_session ≡ s.last_session
  pub last_query : t.last_query ≡ s.last_query
  pub journal : t.journal ≡ s.journal
  pub room : t.room ≡ s.room

rest-same : (s t : State) → LeavesRest s t → (u : State) → u.definitions ≡ t.definitions → u.clock ≡ t.clock → u.last_session ≡ t.last_session → u.last_query ≡ t.last_query
    → u.journal ≡ t.journal → u.room ≡ t.room → LeavesRest s u
rest-same s t h u definitions clock last_session last_query journal room = record {
  definitions = definitions ∙ h.definitions;
  clock = clock ∙ h.clock;
  last_session = last_session ∙ h.last_session;
  last_query = last_query ∙ h.last_query;
  journal = journal ∙ h.journal;
  room = room ∙ h.room;
}

rest-self : (s : State) → LeavesRest s s
rest-self s = record { definitions = refl; clock = refl; last_session = refl; last_query = refl; journal = refl; room = refl }

pub rest-settled : (s : State) → LeavesRest s (settled s)
rest-settled s =
    settled-keeps (LeavesRest s) (λ t w end among p. rest-same s t p (ended_as end t w) refl refl refl refl refl refl)
    (λ t p. rest-same s t p (shuffled_state t) refl refl refl refl refl refl) (λ t w e p. rest-same s t p (admitted t w) refl refl refl refl refl refl) s (rest-self s)

pub rest-due : (s : State) → LeavesRest s (without_due s)
rest-due s = due-keeps (LeavesRest s) (λ t w end among p. rest-same s t p (ended_as end t w) refl refl refl refl refl refl) s (rest-self s)

-- the memory in force is then no more than it was, or the total
record HasForce (first s : State) : Type 0 where
  pub sized : AreSized s.definitions s.actual s.counters
  pub held : AreWithinMemory s.definitions (holdings_of s)
  pub definitions : s.definitions ≡ first.definitions
  pub force : s.in_force ≡ first.in_force

pub force-settled : (s : State) → AreSized s.definitions s.actual s.counters → AreWithinMemory s.definitions (holdings_of s) → (settled s).in_force ≤ max (total s.definitions) s.in_force
force-settled s sized held =
    settled-leads (HasForce s) (λ t. t.in_force ≤ max (total s.definitions) s.in_force)
    (λ t w end among p. record { sized = sized-ended end t w p.sized; held = p.held; definitions = p.definitions; force = p.force })
    (λ t p. omega (arith, force-shuffled t p.sized p.held, ap total p.definitions, p.force))
    (λ t w end among p. p) (λ t w e p. p) s
    (record { sized = sized; held = held; definitions = refl; force = refl })
