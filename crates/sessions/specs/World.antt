-- What a script has around it, at a moment: what is told of each part, and the faults that the part has counted.
use Rattle.std.specs.Prelude.{◌≡◌, ℕ, List, Option, Some}
use Rattle.rm_outside.specs.declared.source.Source.{Ghosts as SourceGhosts}
use Rattle.rm_outside.specs.declared.sink.Sink.{Ghosts as SinkGhosts}
use Rattle.rm_outside.specs.declared.shelf.Shelf.{Ghosts as ShelfGhosts}
use Rattle.rm_outside.specs.declared.spool.Spool.{Ghosts as SpoolGhosts}
use Rattle.rm_outside.specs.declared.keeper.Keeper.{Ghosts as KeeperGhosts}
use Rattle.rm_outside.specs.Faults.{Rose}
use Rattle.rm_outside.specs.Spool.{Files}
use Rattle.rm_base.specs.declared.definitions.Definitions.{Definitions}
use Rattle.rm_outside.specs.Stored.{StoredRows, rows_of}

-- what is told of a part, and how many faults it has counted
pub record Seen (A : Type 0) : Type 0 where
  pub told : A
  pub faults : ℕ

-- the world of a script: `input` tells the bytes that are left, `output` those that were written, `shelf` the files by
-- their paths, `spool` its files by their numbers, and `keeper` the rows that are stored
pub record World : Type 0 where
  pub input : Seen (Option (List ℕ))
  pub output : Seen (Option (List ℕ))
  pub shelf : Seen (Option (List ℕ → Option (List ℕ)))
  pub spool : Seen Files
  pub keeper : Seen (Option StoredRows)

abbrev pub seen_source : {S : Type 0} → SourceGhosts S → S → Seen (Option (List ℕ))
seen_source source input = record { told = source.left input; faults = source.faults input }

abbrev pub seen_sink : {O : Type 0} → SinkGhosts O → O → Seen (Option (List ℕ))
seen_sink sink out = record { told = sink.written out; faults = sink.faults out }

abbrev pub seen_shelf : {H : Type 0} → ShelfGhosts H → H → Seen (Option (List ℕ → Option (List ℕ)))
seen_shelf ghosts shelf = record { told = ghosts.files shelf; faults = ghosts.faults shelf }

abbrev pub seen_spool : {P : Type 0} → SpoolGhosts P → P → Seen Files
seen_spool ghosts spool = record { told = ghosts.files spool; faults = ghosts.faults spool }

abbrev pub seen_keeper : {K : Type 0} → KeeperGhosts K → K → Seen (Option StoredRows)
seen_keeper ghosts keeper = record { told = ghosts.stored keeper; faults = ghosts.faults keeper }

-- the world that these five make, by what their traits tell of them
abbrev pub seen_world : {S O H P K : Type 0} → SourceGhosts S → SinkGhosts O → ShelfGhosts H → SpoolGhosts P → KeeperGhosts K → S → O → H → P → K → World
seen_world sources sinks shelves spools keepers input out shelf spool keeper = record {
  input = seen_source sources input;
  output = seen_sink sinks out;
  shelf = seen_shelf shelves shelf;
  spool = seen_spool spools spool;
  keeper = seen_keeper keepers keeper;
}

-- a part counted a fault
abbrev pub HasFailed : {A : Type 0} → Seen A → Seen A → Type 0
HasFailed old new = Rose old.faults new.faults

-- no fault was counted; the spool is not called yet
pub record CountsNoFault (old new : World) : Type 0 where
  pub input : HasFailed old.input new.input → ⊥
  pub output : HasFailed old.output new.output → ⊥
  pub shelf : HasFailed old.shelf new.shelf → ⊥
  pub keeper : HasFailed old.keeper new.keeper → ⊥

-- what holds of what is told, where it is
abbrev pub WhereTold : {A : Type 0} → Option A → (A → Type 0) → Type 0
WhereTold {A} told P = (x : A) → told ≡ Some x → P x

-- what a script is given: the bytes that are left of its input, and the files that it may load
pub record IsGiven (world : World) (bytes : List ℕ) (files : List ℕ → Option (List ℕ)) : Type 0 where
  pub of_input : world.input.told ≡ Some bytes
  pub of_shelf : world.shelf.told ≡ Some files

-- the rows that a store tells, where it tells any, are those of these definitions
abbrev pub TellsRows : Option StoredRows → Definitions → Type 0
TellsRows told definitions = WhereTold told (λ rows. rows ≡ rows_of definitions)
