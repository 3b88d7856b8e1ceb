-- A desk: the definitions that it began with, and its state.
use Rattle.std.specs.Prelude.{◌≡◌}
use Rattle.rm_base.specs.declared.definitions.Definitions.{Definitions}
use Rattle.rm_rules.specs.State.{State, start}
use Rattle.rm_rules.specs.Replay.{replay, IsLegal}
use Rattle.rm_rules.specs.Sound.{IsSound}
use Rattle.rm_rules.specs.Healthy.{IsHealthy}

pub record DeskState : Type 0 where
  pub first : Definitions
  pub state : State

-- the state in which the desk began
abbrev pub beginning : DeskState → State
beginning d = start d.first d.state.room

-- the history is legal and leads from the beginning to the state, which is healthy
pub record IsLegalDesk (d : DeskState) : Type 0 where
  pub sound : IsSound d.first
  pub healthy : IsHealthy d.state
  pub legal : IsLegal (beginning d) d.state.journal
  pub replays : replay (beginning d) d.state.journal ≡ d.state
