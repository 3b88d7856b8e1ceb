-- What a running script is seen as, and what it keeps.
use Rattle.sessions.specs.declared.script.Script.TheInside.{Inside}
use Rattle.sessions.specs.Held.{held_names, AreHeld}
use Rattle.sessions.specs.Host.{state_of, desk_known}
use Rattle.sessions.specs.Plans.{AreRunnable}
use Rattle.sessions.specs.Turns.{ScriptState}

-- the state to which its desk's journal leads, the names of its sessions, their plans, its tables, and its moment
abbrev pub seen_script : Inside → ScriptState
seen_script s = record { machine = state_of (desk_known s.desk); names = held_names s.held.items; plans = s.plans; tables = s.tables; moment = s.moment }

-- its sessions are those that its desk knows, and its plans can be run over its tables
pub record IsKept (s : Inside) : Type 0 where
  pub held : AreHeld (desk_known s.desk) s.held.items
  pub plans : AreRunnable s.tables s.plans
