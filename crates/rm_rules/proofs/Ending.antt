-- What a waiting query that ends in the queue leaves.
use Rattle.std.proofs.Common.{◌≡◌, ℕ, ◌+◌, ◌≤◌, true, false, cond, List, [], ◌∷◌, length, Some, None, refl, sym, ap, ◌∙◌, arith}
use Rattle.rm_base.specs.declared.entry.EndCounts.{EndCounts}
use Rattle.rm_base.specs.declared.name.Name.{Name}
use Rattle.rm_base.specs.declared.reply.End.{End}
use Rattle.rm_base.specs.declared.rows.PoolRow.{PoolRow}
use Rattle.rm_base.specs.Name.{same_name}
use Rattle.rm_rules.specs.declared.state.Phase.TheVariants as phase
use Rattle.rm_rules.specs.declared.state.Waiter.{Waiter}
use Rattle.rm_rules.specs.declared.state.Runner.{Runner}
use Rattle.rm_rules.specs.State.{State, phase_of, with_one_end, with_end, without_waiter}
use Rattle.rm_rules.specs.Deadlines.{ended_as}
use Rattle.rm_rules.specs.Owed.{owed}
use Rattle.rm_rules.specs.Healthy.{AreSized, AreInPhase, AreNumbered, RoomOf, IsHealthyWith, IsUnsettledWith, one_if}
use Rattle.rm_rules.proofs.Changed.{turns-stay, turns-leave}
use Rattle.rm_rules.proofs.Phases.{there_if_live, opened-with}
use Rattle.rm_rules.proofs.Queue.{IsAmong}
use Rattle.rm_rules.proofs.There.{pools-ended}
use Rattle.rm_rules.proofs.Moving.{Goes, in_phase-goes, numbered-goes, owed-goes, room-owed}
use Rattle.rm_rules.proofs.Admitting.{waiting-just, session-waits, waiter_found}
use Rattle.rm_rules.proofs.Timed.{timed-left}

-- one count changes, and no counter comes or goes
pub length_with_end : (rows : List PoolRow) (pool : Name) (end : End) (counters : List EndCounts) → length (with_end rows pool end counters) ≡ length counters
length_with_end [] pool end counters = refl
length_with_end (r ∷ rs) pool end [] = refl
length_with_end (r ∷ rs) pool end (c ∷ cs) = elim (same_name r.name pool) as (λ b. length (cond b (with_one_end end c ∷ cs) (c ∷ with_end rs pool end cs)) ≡ length (c ∷ cs)) [
  | true ↦ refl
  | false ↦ omega (arith, length_with_end rs pool end cs)
]

pub sized-ended : (end : End) (s : State) (w : Waiter) → AreSized s.definitions s.actual s.counters → AreSized s.definitions (ended_as end s w).actual (ended_as end s w).counters
sized-ended end s w h = record { sizes = h.sizes; counts = length_with_end s.definitions.pools w.pool end s.counters ∙ h.counts }

-- the query of a waiting session goes over to its end
abbrev pub goes-ended : (end : End) (s : State) (w : Waiter) → AreInPhase s.sessions s.waiting s.running → IsAmong w s.waiting
    → Goes w.session (phase.Ended end) s.sessions s.waiting (without_waiter w.session s.waiting) s.running s.running
goes-ended end s w h among =
    let waits = session-waits s.sessions s.waiting s.running w h among in
    let just = waiting-just (phase_of s.sessions w.session) waits in
    record {
      there = there_if_live w.session s.sessions just.idle;
      waited = Some w;
      waits = None;
      ran = None;
      runs = None;
      waited_is = sym waits;
      waits_is = refl;
      ran_is = sym just.running;
      runs_is = refl;
      waiters = turns-leave (λ (x : Waiter). x.session) w.session w s.waiting (waiter_found s.sessions s.waiting s.running w h among);
      runners = turns-stay (λ (r : Runner). r.session) w.session s.running;
    }

pub in_phase-ended : (end : End) (s : State) (w : Waiter) → AreInPhase s.sessions s.waiting s.running → IsAmong w s.waiting
    → AreInPhase (ended_as end s w).sessions (ended_as end s w).waiting (ended_as end s w).running
in_phase-ended end s w h among =
    in_phase-goes w.session (phase.Ended end) s.sessions s.waiting (without_waiter w.session s.waiting) s.running s.running (goes-ended end s w h among) h

-- it leaves its number to nobody
pub numbered-ended : (end : End) (s : State) (w : Waiter) → AreInPhase s.sessions s.waiting s.running → IsAmong w s.waiting → AreNumbered s.last_query s.waiting s.running
    → AreNumbered (ended_as end s w).last_query (ended_as end s w).waiting (ended_as end s w).running
numbered-ended end s w h among numbered =
    numbered-goes s.last_query w.session (phase.Ended end) s.sessions s.waiting (without_waiter w.session s.waiting) s.running s.running
    (goes-ended end s w h among) (λ m. omega arith) numbered

-- and less is owed to it, so there is room for an entry more
owed-ended : (end : End) (s : State) (w : Waiter) → AreInPhase s.sessions s.waiting s.running → IsAmong w s.waiting
    → 1 + owed (ended_as end s w).sessions (ended_as end s w).waiting (ended_as end s w).running ≤ owed s.sessions s.waiting s.running
owed-ended end s w h among =
    let just = waiting-just (phase_of s.sessions w.session) (session-waits s.sessions s.waiting s.running w h among) in
    omega (
      arith,
      owed-goes w.session (phase.Ended end) s.sessions s.waiting (without_waiter w.session s.waiting) s.running s.running (goes-ended end s w h among),
      ap one_if just.ended,
    )

pub room-ended : (entries statements : ℕ) (end : End) (s : State) (w : Waiter) → AreInPhase s.sessions s.waiting s.running → IsAmong w s.waiting
    → RoomOf entries statements s → RoomOf entries statements (ended_as end s w)
room-ended entries statements end s w h among room =
    room-owed entries entries statements (owed s.sessions s.waiting s.running) (owed (ended_as end s w).sessions (ended_as end s w).waiting (ended_as end s w).running)
    s.journal s.room s.definitions.changes s.last_session s.last_query (omega arith) (omega (arith, owed-ended end s w h among)) room

pub room-ended-more : (entries statements : ℕ) (end : End) (s : State) (w : Waiter) → AreInPhase s.sessions s.waiting s.running → IsAmong w s.waiting
    → RoomOf entries statements s → RoomOf (entries + 1) statements (ended_as end s w)
room-ended-more entries statements end s w h among room =
    room-owed entries (entries + 1) statements (owed s.sessions s.waiting s.running) (owed (ended_as end s w).sessions (ended_as end s w).waiting (ended_as end s w).running)
    s.journal s.room s.definitions.changes s.last_session s.last_query (omega arith) (omega (arith, owed-ended end s w h among)) room

-- what is kept before a state settles, and once it has settled
pub unsettled-ended : (entries statements : ℕ) (end : End) (s : State) (w : Waiter) → IsAmong w s.waiting → IsUnsettledWith entries statements s
    → IsUnsettledWith entries statements (ended_as end s w)
unsettled-ended entries statements end s w among h = record {
  sound = h.sound;
  sized = sized-ended end s w h.sized;
  there = pools-ended end s w h.there;
  held = h.held;
  in_phase = in_phase-ended end s w h.in_phase among;
  opened = opened-with s.last_session w.session (phase.Ended end) s.sessions h.opened;
  numbered = numbered-ended end s w h.in_phase among h.numbered;
  timed = timed-left s.clock w.session s.waiting s.running h.timed;
  room = room-ended entries statements end s w h.in_phase among h.room;
}

pub healthy-ended : (entries statements : ℕ) (end : End) (s : State) (w : Waiter) → IsAmong w s.waiting → IsHealthyWith entries statements s
    → IsHealthyWith entries statements (ended_as end s w)
healthy-ended entries statements end s w among h = record {
  sound = h.sound;
  sized = sized-ended end s w h.sized;
  there = pools-ended end s w h.there;
  covered = h.covered;
  in_phase = in_phase-ended end s w h.in_phase among;
  opened = opened-with s.last_session w.session (phase.Ended end) s.sessions h.opened;
  numbered = numbered-ended end s w h.in_phase among h.numbered;
  timed = timed-left s.clock w.session s.waiting s.running h.timed;
  room = room-ended entries statements end s w h.in_phase among h.room;
}

pub healthy-ended-more : (entries statements : ℕ) (end : End) (s : State) (w : Waiter) → IsAmong w s.waiting → IsHealthyWith entries statements s
    → IsHealthyWith (entries + 1) statements (ended_as end s w)
healthy-ended-more entries statements end s w among h = record {
  sound = h.sound;
  sized = sized-ended end s w h.sized;
  there = pools-ended end s w h.there;
  covered = h.covered;
  in_phase = in_phase-ended end s w h.in_phase among;
  opened = opened-with s.last_session w.session (phase.Ended end) s.sessions h.opened;
  numbered = numbered-ended end s w h.in_phase among h.numbered;
  timed = timed-left s.clock w.session s.waiting s.running h.timed;
  room = room-ended-more entries statements end s w h.in_phase among h.room;
}
