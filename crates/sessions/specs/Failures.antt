-- Why scripts fail, and with which status.
use Rattle.std.specs.Prelude.{ℕ, Result, Ok, Err}
use Rattle.rm_outside.specs.declared.outside.Outside.{Outside}
use Rattle.rm_outside.specs.declared.outside.Outside.TheVariants as outside
use Rattle.sessions.specs.declared.failure.Failure.{Failure}
use Rattle.sessions.specs.declared.failure.Failure.TheVariants as failure
use Rattle.keeper_rows.specs.declared.opening.OpenError.{OpenError}
use Rattle.keeper_rows.specs.declared.opening.OpenError.TheVariants as opening
use Rattle.options.specs.declared.status.TheConstants.{DONE, USAGE, BAD_LINE, READ_FAULT, WRITE_FAULT, BAD_TABLE, KEEPER_FAULT, NO_MEMORY, TOO_LONG, UNSOUND}

-- why a script fails whose input answers this
abbrev pub read_failure : Outside → Failure
read_failure outside.Failed = failure.ReadFault
read_failure outside.Memory = failure.Memory

-- why a script fails whose output answers this
abbrev pub write_failure : Outside → Failure
write_failure outside.Failed = failure.WriteFault
write_failure outside.Memory = failure.Memory

-- why a script fails whose store gives no definitions to begin with
abbrev pub open_failure : OpenError → Failure
open_failure opening.Failed = failure.OpenFault
open_failure opening.Unsound = failure.Unsound
open_failure opening.Memory = failure.Memory

-- why a script fails whose store answers this to a commit
abbrev pub commit_failure : Outside → Failure
commit_failure outside.Failed = failure.CommitFault
commit_failure outside.Memory = failure.Memory

-- the status of a script that came to the end of its lines, or failed
abbrev pub status_of : Result (Unit {0}) Failure → ℕ
status_of (Ok done) = DONE
status_of (Err failure.Usage) = USAGE
status_of (Err failure.BadLine) = BAD_LINE
status_of (Err failure.ReadFault) = READ_FAULT
status_of (Err failure.ShelfFault) = READ_FAULT
status_of (Err failure.WriteFault) = WRITE_FAULT
status_of (Err failure.BadTable) = BAD_TABLE
status_of (Err failure.OpenFault) = KEEPER_FAULT
status_of (Err failure.CommitFault) = KEEPER_FAULT
status_of (Err failure.Memory) = NO_MEMORY
status_of (Err failure.TooLong) = TOO_LONG
status_of (Err failure.Unsound) = UNSOUND
