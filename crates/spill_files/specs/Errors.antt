-- Why a run has no rows.
use Rattle.std.specs.Prelude.{◌≤◌, ℕ, Option, Some, None, Result, Ok, Err, IsErrOf, ⊤}
use Rattle.rm_base.specs.declared.reply.Reply.{Reply}
use Rattle.rm_outside.specs.Faults.{Rose}
use Rattle.spill_files.specs.declared.error.RunError.{RunError}
use Rattle.spill_files.specs.declared.error.RunError.TheVariants.{Failed, Stopped, NeedsSpill, Memory}

-- the reply for which work was stopped
abbrev pub stop_for : RunError → Option Reply
stop_for Failed = None
stop_for (Stopped reply) = Some reply
stop_for NeedsSpill = None
stop_for Memory = None

abbrev pub stop_after : {T : Type 0} → Result T RunError → Option Reply
stop_after (Ok x) = None
stop_after (Err e) = stop_for e

-- a spool's count of faults never falls, and a call answers Failed only where it rose
pub record HasRunCause {T : Type 0} (before now : ℕ) (result : Result T RunError) : Type 0 where
  pub later : before ≤ now
  pub failed : IsErrOf result Failed → Rose before now

-- the error tells of memory alone: of the grant, or of a growth that was refused
abbrev pub IsOfMemory : RunError → Type 0
IsOfMemory Failed = ⊥
IsOfMemory (Stopped reply) = ⊥
IsOfMemory NeedsSpill = ⊤
IsOfMemory Memory = ⊤
