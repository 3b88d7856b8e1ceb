-- What settling leaves is settled, and a settled state settles to itself.
use Rattle.std.proofs.Common.{◌≡◌, ℕ, zero, suc, ◌+◌, ◌≤◌, Bool, true, false, cond, eqb, List, [], ◌∷◌, Some, None, Option, length, refl, ap, ◌∙◌, arith, map}
use Rattle.std.specs.List.{find}
use Rattle.std.specs.Option.{unwrap_or}
use Rattle.rm_base.specs.declared.definitions.Definitions.{Definitions}
use Rattle.rm_base.specs.declared.entry.Entry.{Entry}
use Rattle.rm_base.specs.declared.reply.End.{End}
use Rattle.rm_base.specs.declared.rows.PoolRow.{PoolRow}
use Rattle.rm_base.specs.Definitions.{default_pool_row}
use Rattle.rm_rules.specs.declared.state.Session.{Session}
use Rattle.rm_rules.specs.declared.state.Waiter.{Waiter}
use Rattle.rm_rules.specs.Definitions.{memory_size, user_pools, pool_called, pool_row}
use Rattle.rm_rules.specs.Ask.{is_too_large}
use Rattle.rm_rules.specs.State.{State, start, without, without_waiter}
use Rattle.rm_rules.specs.Holdings.{reserves_of, holdings_of}
use Rattle.rm_rules.specs.Accounting.{free}
use Rattle.rm_rules.specs.Repeated.{repeated}
use Rattle.rm_rules.specs.Admission.{first_entitled, admitted, admission}
use Rattle.rm_rules.specs.Shuffle.{shuffled_state}
use Rattle.rm_rules.specs.Deadlines.{ended_as, is_nowait, first_nowait, timed_out}
use Rattle.rm_rules.specs.Settle.{first_too_large, too_large_end, ended_too_large, without_too_large, without_nowait, settled}
use Rattle.rm_rules.specs.Settled.{IsSettled}
use Rattle.rm_rules.specs.Sound.{IsSound}
use Rattle.rm_rules.specs.Healthy.{AreSized, AreThere, AreWithinMemory, AreCovered}
use Rattle.rm_rules.proofs.Queue.{without-fewer}
use Rattle.rm_rules.proofs.Covering.{covered-admitted, sized-shuffled, covered-shuffled, sized-start, covered-start}
use Rattle.rm_rules.proofs.There.{pools-ended, pools-admitted}
use Rattle.rm_rules.proofs.Ending.{sized-ended}
use Rattle.rm_rules.proofs.Settling.{admission-keeps, repeated-keeps, deadline_end, too_large-among, nowait-among, entitled-among}
use Rattle.rm_rules.proofs.Rests.{AllRest, Rests, rests-shuffled, shuffled-rests, rests-admitted}
use Rattle.rm_rules.proofs.Idle.{AreFound, found-user, idle-none}

-- a turn takes one query that waits
abbrev pub TakesOne : (State → Option Waiter) → (State → Waiter → State) → Type 0
TakesOne pick act = (s : State) (w : Waiter) → pick s ≡ Some w → 1 + length (act s w).waiting ≡ length s.waiting

-- turns that each take one waiting query end with nothing to pick
done-turn : (pick : State → Option Waiter) (act : State → Waiter → State) (s : State) (o : Option Waiter) → pick s ≡ o → TakesOne pick act → length s.waiting ≤ 0 → pick s ≡ None
done-turn pick act s None e takes few = e
done-turn pick act s (Some w) e takes few = absurd (omega (arith, takes s w e, few))

repeated-done-turn : (pick : State → Option Waiter) (act : State → Waiter → State) (n : ℕ) (s : State) (o : Option Waiter) → pick s ≡ o
    → ((w : Waiter) → pick s ≡ Some w → pick (repeated pick act n (act s w)) ≡ None)
    → pick (elim o [ Some w ↦ repeated pick act n (act s w) | None ↦ s ]) ≡ None
repeated-done-turn pick act n s None e more = e
repeated-done-turn pick act n s (Some w) e more = more w e

pub repeated-done : (pick : State → Option Waiter) (act : State → Waiter → State) → TakesOne pick act
    → (n : ℕ) (s : State) → length s.waiting ≤ n → pick (repeated pick act n s) ≡ None
repeated-done pick act takes zero s few = done-turn pick act s (pick s) refl takes few
repeated-done pick act takes (suc n) s few =
    repeated-done-turn pick act n s (pick s) refl (λ w e. repeated-done pick act takes n (act s w) (omega (arith, takes s w e, few)))

-- where nothing is picked, no turn is taken
pub repeated-none : (pick : State → Option Waiter) (act : State → Waiter → State) (n : ℕ) (s : State) → pick s ≡ None → repeated pick act n s ≡ s
repeated-none pick act zero s none = refl
repeated-none pick act (suc n) s none = ap (λ (o : Option Waiter). elim o [ Some w ↦ repeated pick act n (act s w) | None ↦ s ]) none

-- a query that is admitted or ends waits no more
takes-entitled : TakesOne first_entitled admitted
takes-entitled s w picked = without-fewer w s.waiting (entitled-among s w picked)

takes-too_large : TakesOne first_too_large ended_too_large
takes-too_large s w picked = without-fewer w s.waiting (too_large-among s w picked)

takes-nowait : TakesOne first_nowait timed_out
takes-nowait s w picked = without-fewer w s.waiting (nowait-among s w picked)

-- where none passes a test, none does without one
none-tail : {A : Type 0} (test : A → Bool) (x : A) (xs : List A) (b : Bool) → cond b (Some x) (find test xs) ≡ None → (find test xs ≡ None) × (b ≡ false)
none-tail test x xs true none = absurd (cc)
none-tail test x xs false none = (none, refl)

pub none_without : {A : Type 0} (test other : A → Bool) (xs : List A) → find test xs ≡ None → find test (without other xs) ≡ None
none_without test other [] none = none
none_without {A} test other (x ∷ xs) none =
    let parts = none-tail test x xs (test x) none in
    let fewer : find test (x ∷ without other xs) ≡ None = ap (λ b. cond b (Some x) (find test (without other xs))) parts.1 ∙ none_without test other xs parts.0 in
    elim (other x) as (λ b. find test (cond b xs (x ∷ without other xs)) ≡ None) [ true ↦ parts.0 | false ↦ fewer ]

-- what holds before the shuffle
record IsFitting (s : State) : Type 0 where
  pub sound : IsSound s.definitions
  pub sized : AreSized s.definitions s.actual s.counters
  pub there : AreThere s.definitions s.sessions s.waiting s.running
  pub held : AreWithinMemory s.definitions (holdings_of s)

fitting-ended : (end : End) (s : State) (w : Waiter) → IsFitting s → IsFitting (ended_as end s w)
fitting-ended end s w h = record { sound = h.sound; sized = sized-ended end s w h.sized; there = pools-ended end s w h.there; held = h.held }

-- what holds from it on
record IsResting (s : State) : Type 0 where
  pub sound : IsSound s.definitions
  pub sized : AreSized s.definitions s.actual s.counters
  pub there : AreThere s.definitions s.sessions s.waiting s.running
  pub covered : AreCovered s.definitions (holdings_of s)
  pub rests : Rests s.definitions (holdings_of s)
  pub none_too_large : first_too_large s ≡ None

none-too_large : (s : State) (w : Waiter) → first_too_large s ≡ None
    → find (λ x. is_too_large s.definitions (pool_row s.definitions x.pool) x.user x.floor) (without_waiter w.session s.waiting) ≡ None
none-too_large s w none =
    none_without (λ x. is_too_large s.definitions (pool_row s.definitions x.pool) x.user x.floor) (λ x. eqb x.session w.session) s.waiting none

resting-shuffled : (s : State) → IsFitting s → first_too_large s ≡ None → IsResting (shuffled_state s)
resting-shuffled s h none = record {
  sound = h.sound;
  sized = sized-shuffled s h.sized;
  there = h.there;
  covered = covered-shuffled s h.sound h.sized h.there h.held;
  rests = shuffled-rests s h.sized;
  none_too_large = none;
}

resting-ended : (end : End) (s : State) (w : Waiter) → IsResting s → IsResting (ended_as end s w)
resting-ended end s w h = record {
  sound = h.sound;
  sized = sized-ended end s w h.sized;
  there = pools-ended end s w h.there;
  covered = h.covered;
  rests = h.rests;
  none_too_large = none-too_large s w h.none_too_large;
}

resting-admitted : (s : State) (w : Waiter) → first_entitled s ≡ Some w → IsResting s → IsResting (admitted s w)
resting-admitted s w picked h = record {
  sound = h.sound;
  sized = h.sized;
  there = pools-admitted s w (entitled-among s w picked) h.there;
  covered = covered-admitted s w h.sound h.sized h.there h.covered picked;
  rests = rests-admitted s w h.sound h.sized h.there picked h.rests;
  none_too_large = none-too_large s w h.none_too_large;
}

-- and what holds at the end: no query is left that may not wait
record IsQuiet (s : State) : Type 0 where
  pub resting : IsResting s
  pub none_nowait : first_nowait s ≡ None

quiet-admitted : (s : State) (w : Waiter) → first_entitled s ≡ Some w → IsQuiet s → IsQuiet (admitted s w)
quiet-admitted s w picked h = record {
  resting = resting-admitted s w picked h.resting;
  none_nowait = none_without (is_nowait s.definitions) (λ x. eqb x.session w.session) s.waiting h.none_nowait;
}

quiet-settled : (s : State) → IsFitting s → IsQuiet (settled s)
quiet-settled s h =
    let t = without_too_large s in
    let u = admission (shuffled_state t) in
    let v = without_nowait u in
    let fits : IsFitting t = repeated-keeps first_too_large ended_too_large IsFitting (λ a w _ p. fitting-ended (too_large_end a w) a w p) (length s.waiting) s h in
    let none : first_too_large t ≡ None = repeated-done first_too_large ended_too_large takes-too_large (length s.waiting) s (omega arith) in
    let second : IsResting u = admission-keeps IsResting resting-admitted (shuffled_state t) (resting-shuffled t fits none) in
    let third : IsResting v = repeated-keeps first_nowait timed_out IsResting (λ a w _ p. resting-ended (deadline_end a w) a w p) (length u.waiting) u second in
    let quiet : first_nowait v ≡ None = repeated-done first_nowait timed_out takes-nowait (length u.waiting) u (omega arith) in
    admission-keeps IsQuiet quiet-admitted v (record { resting = third; none_nowait = quiet })

-- what settling leaves is settled
pub settled-is-settled : (s : State) → IsSound s.definitions → AreSized s.definitions s.actual s.counters → AreThere s.definitions s.sessions s.waiting s.running
    → AreWithinMemory s.definitions (holdings_of s) → IsSettled (settled s)
settled-is-settled s sound sized there held =
    let v = without_nowait (admission (shuffled_state (without_too_large s))) in
    let h = quiet-settled s (record { sound = sound; sized = sized; there = there; held = held }) in
    let r = h.resting in
    let none : first_entitled (settled s) ≡ None = repeated-done first_entitled admitted takes-entitled _ v (omega arith) in
    record {
      none_too_large = r.none_too_large;
      sizes_rest = rests-shuffled (settled s) r.sized r.covered r.rests;
      none_entitled = none;
      none_nowait = h.none_nowait;
      idle = idle-none (settled s) r.sound r.sized r.there r.covered r.rests none;
    }

-- a settled state settles to itself
pub settled-again : (s : State) → IsSettled s → settled s ≡ s
settled-again s h =
    let admits : admission s ≡ s = repeated-none first_entitled admitted _ s h.none_entitled in
    ap (λ t. admission (without_nowait (admission (shuffled_state t)))) (repeated-none first_too_large ended_too_large (length s.waiting) s h.none_too_large)
    ∙ ap (λ t. admission (without_nowait (admission t))) h.sizes_rest
    ∙ ap (λ t. admission (without_nowait t)) admits
    ∙ ap admission (repeated-none first_nowait timed_out (length s.waiting) s h.none_nowait)
    ∙ admits

-- to settle twice is to settle once
pub settled-twice : (s : State) → IsSound s.definitions → AreSized s.definitions s.actual s.counters → AreThere s.definitions s.sessions s.waiting s.running
    → AreWithinMemory s.definitions (holdings_of s) → settled (settled s) ≡ settled s
settled-twice s sound sized there held = settled-again (settled s) (settled-is-settled s sound sized there held)

-- at the start each pool has its MEMORYSIZE, and nobody is there
rests-start : (d : Definitions) (spare : ℕ) (rows : List PoolRow) → AreFound (pool_called d.pools) rows → AllRest d [] spare (reserves_of rows (map (λ r. r.memory) rows))
rests-start d spare [] found = tt
rests-start d spare (r ∷ rs) found =
    let same : memory_size d r.name ≡ r.memory = ap {B = ℕ} (λ (o : Option PoolRow). (unwrap_or o (default_pool_row r.name)).memory) found.0 in (
      record {
        above = λ over. absurd (omega (arith, over, same));
        no_debt = λ below. absurd (omega (arith, below, same));
        none_free = λ below. absurd (omega (arith, below, same));
      },
      rests-start d spare rs found.1,
    )

-- so the start is settled
pub start-settled : (d : Definitions) (room : ℕ) → IsSound d → IsSettled (start d room)
start-settled d room sound =
    let s = start d room in
    record {
      none_too_large = refl;
      sizes_rest = rests-shuffled s (sized-start d room) (covered-start d room sound)
          (rests-start d (free (holdings_of s)) (user_pools d.pools) (found-user d.pools sound.pools_distinct));
      none_entitled = refl;
      none_nowait = refl;
      idle = λ _. refl;
    }

-- sessions, the clock and the journal do not count
pub settled-beside : (s : State) (sessions : List Session) (clock : ℕ) (journal : List Entry) → IsSettled s
    → (let u : State = record s { sessions = sessions; clock = clock; journal = journal } in IsSettled u)
settled-beside s sessions clock journal h = record {
  none_too_large = h.none_too_large;
  sizes_rest = ap (λ (t : State). let u : State = record t { sessions = sessions; clock = clock; journal = journal } in u) h.sizes_rest;
  none_entitled = h.none_entitled;
  none_nowait = h.none_nowait;
  idle = h.idle;
}
