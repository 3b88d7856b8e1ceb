-- What a reader of `csv` over a slice has left.
use Rattle.std.specs.Prelude.{◌≡◌, ◌+◌, ℕ, Bool, true, false, List, [], ◌∷◌, length, Option, Some, None}
use Rattle.std.specs.Borrow.{Bor}
use Rattle.csv.specs.Machine.{ends_at_end}
use Rattle.csv.specs.Reading.{records_from, default_config, source_of, Ready, reader_trim, reader_config, reader_state}
use Rattle.csv.specs.declared.parser.State.{State}
use Rattle.csv.specs.declared.reader.Reader.{Reader}
use Rattle.csv.specs.declared.reader.Trim.TheVariants as trim

-- the records of a text that is read on in a state
abbrev pub left_from : State → List ℕ → List (List (List ℕ))
left_from state text = records_from default_config (length text + 1) state text

abbrev pub left_in : State → Option (List ℕ) → List (List (List ℕ))
left_in state None = []
left_in state (Some text) = left_from state text

-- the bytes of a slice are known
abbrev pub known : Bor (List ℕ) → Option (List ℕ)
known s = Some s.now

-- the records that a reader has left
abbrev pub left_of : Reader (Bor (List ℕ)) → List (List (List ℕ))
left_of r = left_in (reader_state r) (source_of known r)

-- a reader with the default settings that has not failed and stands between two records
pub record IsReading (r : Reader (Bor (List ℕ))) : Type 0 where
  pub trim : reader_trim r ≡ trim.None
  pub ready : Ready r
  pub config : reader_config r ≡ default_config
  pub between : ends_at_end (reader_state r) ≡ false
  pub text : List ℕ
  pub told : source_of known r ≡ Some text

-- whether there was one more record, its cells, and what is left behind it
abbrev pub TakesNext : List (List (List ℕ)) → List (List (List ℕ)) → Bool → List (List ℕ) → Type 0
TakesNext before after true cells = before ≡ cells ∷ after
TakesNext before after false cells = before ≡ []
