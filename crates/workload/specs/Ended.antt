-- How a workload ends, and what its end leaves.
use Rattle.std.specs.Prelude.{◌≡◌, ◌≢◌, ◌⊎◌, ◌≤◌, ℕ, List, [], ◌++◌, Option, Some, None, IsSome, IfSome, Result, Ok, Err}
use Rattle.std.specs.Io.KnownBytes.{Appends, Keeps}
use Rattle.rm_outside.specs.declared.sink.Sink.{Ghosts as SinkGhosts}
use Rattle.rm_outside.specs.Faults.{Rose}
use Rattle.options.specs.declared.status.TheConstants.{DONE, USAGE, WRITE_FAULT, NO_MEMORY}
use Rattle.options.specs.declared.workload.WorkloadOptions.{WorkloadOptions}
use Rattle.options.specs.Workload.{workload_options}
use Rattle.workload.specs.declared.failure.Failure.{Failure}
use Rattle.workload.specs.declared.failure.Failure.TheVariants.{Usage, WriteFault, Memory}
use Rattle.workload.specs.Summary.{text_of}

-- the output at a moment: the bytes written, where they are told, and the faults counted
pub record Output : Type 0 where
  pub told : Option (List ℕ)
  pub faults : ℕ

abbrev pub seen_sink : {O : Type 0} → SinkGhosts O → O → Output
seen_sink sink out = record { told = sink.written out; faults = sink.faults out }

-- it counted a fault
abbrev pub HasFailed : Output → Output → Type 0
HasFailed old new = Rose old.faults new.faults

-- the text was written whole
abbrev pub WroteWhole : Output → Output → List ℕ → Type 0
WroteWhole old new text = Appends old.told new.told text

-- the front of the text was written, and no more
pub record WroteFront (old new : Output) (text : List ℕ) : Type 0 where
  pub front : List ℕ
  pub rest : List ℕ
  pub split : text ≡ front ++ rest
  pub wrote : Appends old.told new.told front

-- why a text was not written whole, of which the front was written
abbrev pub ExplainsOutput : Output → Output → List ℕ → Failure → Type 0
ExplainsOutput old new text Usage = ⊥
ExplainsOutput old new text WriteFault = WroteFront old new text × HasFailed old new
ExplainsOutput old new text Memory = WroteFront old new text

-- what a workload prints, by what its words say; where they are none of a workload's, nothing
abbrev pub text_by : Option WorkloadOptions → List ℕ
text_by None = []
text_by (Some options) = text_of options

-- the same by its words
abbrev pub summary_text : List (List ℕ) → List ℕ
summary_text words = text_by (workload_options words)

-- there is a kit for each worker that the words name
abbrev pub HasKits : List (List ℕ) → ℕ → Type 0
HasKits words kits = IfSome (workload_options words) (λ options. options.workers ≤ kits)

-- what a workload with these options, or with none, leaves that ends so
abbrev pub EndsAs : Option WorkloadOptions → Output → Output → Result (Unit {0}) Failure → Type 0
EndsAs options old new (Ok done) = IsSome options × WroteWhole old new (text_by options)
EndsAs options old new (Err Usage) = (options ≡ None) × Keeps old.told new.told
EndsAs options old new (Err WriteFault) = IsSome options × WroteFront old new (text_by options) × HasFailed old new
EndsAs options old new (Err Memory) = WroteFront old new (text_by options)

-- what a workload leaves, by the words of the command line and its status
pub record IsWorkload (words : List (List ℕ)) (old new : Output) (status : ℕ) : Type 0 where
  -- where no fault was counted and memory was not wanting, the text is that of the words
  pub exact : (HasFailed old new → ⊥) → status ≢ NO_MEMORY → WroteWhole old new (summary_text words)
  -- when each status comes
  pub usage : status ≡ USAGE → workload_options words ≡ None
  pub outside : workload_options words ≡ None → (status ≡ USAGE) ⊎ (status ≡ NO_MEMORY)
  pub write_fault : status ≡ WRITE_FAULT → HasFailed old new
  pub known : (status ≡ DONE) ⊎ ((status ≡ USAGE) ⊎ ((status ≡ WRITE_FAULT) ⊎ (status ≡ NO_MEMORY)))
  -- what was written, whatever was counted
  pub own : status ≡ DONE → WroteWhole old new (summary_text words)
  pub nothing : status ≡ USAGE → Keeps old.told new.told
  pub front : (status ≡ WRITE_FAULT) ⊎ (status ≡ NO_MEMORY) → WroteFront old new (summary_text words)
