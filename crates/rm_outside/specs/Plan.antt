use Rattle.std.specs.Prelude.{◌==◌, ℕ, Bool, List, if◌then◌else◌}
use Rattle.std.specs.List.{list_any}
use Rattle.rm_outside.specs.Faults.{counted}
use Rattle.rm_outside.specs.Stored.{StoredRows}

-- the numbers of the calls that fail, the calls made so far and the faults counted so far
pub record Plan : Type 0 where
  pub failing : List ℕ
  pub calls : ℕ
  pub faults : ℕ

-- whether the next call fails; calls are counted from 1
abbrev pub fails_next : Plan → Bool
fails_next plan = list_any (λ number. number == counted plan.calls 1) plan.failing

-- the plan after its next call
abbrev pub after_call : Plan → Plan
after_call plan = record plan {
  calls = counted plan.calls 1;
  faults = if fails_next plan then counted plan.faults 1 else plan.faults;
}

-- bytes behind a plan of failing calls
pub record Planned : Type 0 where
  pub bytes : List ℕ
  pub plan : Plan

-- files by their paths behind a plan of failing calls
pub record PlannedShelf : Type 0 where
  pub shelf : List (List ℕ × List ℕ)
  pub plan : Plan

-- stored rows behind a plan of failing calls
pub record PlannedKeeper : Type 0 where
  pub rows : StoredRows
  pub plan : Plan
