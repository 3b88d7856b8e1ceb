-- Why a workload fails, and with which status.
use Rattle.std.specs.Prelude.{ℕ, Result, Ok, Err}
use Rattle.rm_outside.specs.declared.outside.Outside.{Outside}
use Rattle.rm_outside.specs.declared.outside.Outside.TheVariants as outside
use Rattle.options.specs.declared.status.TheConstants.{DONE, USAGE, WRITE_FAULT, NO_MEMORY}
use Rattle.workload.specs.declared.failure.Failure.{Failure}
use Rattle.workload.specs.declared.failure.Failure.TheVariants as failure

-- why a workload fails whose output answers this
abbrev pub write_failure : Outside → Failure
write_failure outside.Failed = failure.WriteFault
write_failure outside.Memory = failure.Memory

-- the status of a workload that printed its text, or failed
abbrev pub status_of : Result (Unit {0}) Failure → ℕ
status_of (Ok done) = DONE
status_of (Err failure.Usage) = USAGE
status_of (Err failure.WriteFault) = WRITE_FAULT
status_of (Err failure.Memory) = NO_MEMORY
