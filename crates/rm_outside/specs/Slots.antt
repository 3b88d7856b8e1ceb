use Rattle.std.specs.Prelude.{ℕ, Bool, false, List, [], length, Option, Some, None, nat_le, unwrap_or, slice_index_or}
use Rattle.rm_base.specs.declared.limits.TheConstants.{SPOOL_FILE_MOST}
use Rattle.rm_outside.specs.Spool.{Files}

-- the files of a spool in memory: at each number a live file's bytes, or nothing, and what was counted
pub record Slots : Type 0 where
  pub slots : List (Option (List ℕ))
  pub calls : ℕ
  pub written : ℕ

-- the file with a number
abbrev pub slot_at : List (Option (List ℕ)) → ℕ → Option (List ℕ)
slot_at slots number = slice_index_or slots number None

-- whether a slot has a live file: it keeps bytes, and no more of them than a file may have
abbrev pub is_file : Option (List ℕ) → Bool
is_file None = false
is_file (Some bytes) = nat_le (length bytes) SPOOL_FILE_MOST

-- what a spool in memory tells of its files
abbrev pub files_of : List (Option (List ℕ)) → Files
files_of slots = record {
  is_live = λ number. is_file (slot_at slots number);
  size = λ number. length (unwrap_or (slot_at slots number) []);
  bytes = λ number. Some (unwrap_or (slot_at slots number) []);
}
