-- What a host tells of itself, and what a call of it does to that.
use Rattle.std.specs.Prelude.{◌≡◌, ℕ, Bool, true, List, [], ◌++◌, length}
use Rattle.rm_base.specs.declared.definitions.Definitions.{Definitions}
use Rattle.rm_base.specs.declared.entry.Answered.{Answered}
use Rattle.rm_base.specs.declared.entry.Entry.{Entry}
use Rattle.rm_base.specs.declared.event.Event.{Event}
use Rattle.rm_rules.specs.State.{State, start}
use Rattle.rm_rules.specs.Step.{Outcome, step, made}
use Rattle.rm_rules.specs.Replay.{replay, IsLegal, own_entries, FromFirst}
use Rattle.rm_rules.specs.Sound.{IsSound}
use Rattle.machine.specs.Desk.{DeskState}
use Rattle.sessions.specs.declared.host.TheConstants.{FIRST_SEAT}

-- What a host tells: the number of its seat, whether no other seat acts on its machine, the definitions and the room from
-- which the history begins, and the entries that it has seen.
pub record Known : Type 0 where
  pub seat : ℕ
  pub alone : Bool
  pub first : Definitions
  pub room : ℕ
  pub seen : List Entry

-- the state in which the history begins, and the one that the entries leave which the host has seen
abbrev pub beginning : Known → State
beginning k = start k.first k.room

abbrev pub state_of : Known → State
state_of k = replay (beginning k) k.seen

-- what an event of the host's seat comes to at that state
abbrev pub outcome_at : Known → ℕ → Event → Outcome
outcome_at k at event = step (state_of k) k.seat at event

-- with these entries more
abbrev pub with_seen : Known → List Entry → Known
with_seen k more = record k { seen = k.seen ++ more }

-- The host has come to see what others did meanwhile. Nothing else changes, and what it has seen is legal.
pub record SeesMore (old new : Known) : Type 0 where
  pub others : List Entry
  pub seen : new ≡ with_seen old others
  pub of_others : own_entries old.seat others ≡ []
  pub none_alone : old.alone ≡ true → others ≡ []
  pub from_first : FromFirst others
  pub sound : IsSound new.first
  pub legal : IsLegal (beginning new) new.seen

-- One call of an event: the host sees what others did before it, and then the event is a step of the machine, with its
-- reply, and with its entry if it makes one.
pub record Called (old new : Known) (at : ℕ) (event : Event) (answered : Answered) : Type 0 where
  pub found : Known
  pub sees : SeesMore old found
  pub seen : new ≡ with_seen found (made (state_of found) found.seat at event)
  pub legal : IsLegal (beginning new) new.seen
  pub reply : answered.reply ≡ (outcome_at found at event).reply
  pub entry : answered.entry ≡ (outcome_at found at event).entry
  pub place : answered.place ≡ length new.seen

-- Where nobody else acts on the machine, a call is the event's step at the state that the host has seen.
pub record IsStep (old new : Known) (at : ℕ) (event : Event) (answered : Answered) : Type 0 where
  pub reply : answered.reply ≡ (outcome_at old at event).reply
  pub state : state_of new ≡ (outcome_at old at event).state
  pub seat : new.seat ≡ old.seat
  pub alone : new.alone ≡ true

-- what a desk tells: nobody but its one seat acts on it, and it has seen its whole journal
abbrev pub desk_known : DeskState → Known
desk_known d = record { seat = FIRST_SEAT; alone = true; first = d.first; room = d.state.room; seen = d.state.journal }
