-- The longest chain, in parts.
use Rattle.std.specs.Prelude.{ℕ, List, [], ◌∷◌, max, if◌then◌else◌}
use Rattle.rm_base.specs.declared.rows.PoolRow.{PoolRow}
use Rattle.rm_base.specs.declared.name.Name.{Name}
use Rattle.rm_base.specs.Name.{same_name}
use Rattle.rm_rules.specs.PoolStatements.{chain_from, length_through}

-- how many pools the chain from another pool has, where it goes through this one
abbrev pub other_length : List PoolRow → Name → PoolRow → ℕ
other_length after name r = if same_name name r.name then 0 else length_through name (chain_from after r)

-- the length of the longest of those from these pools
abbrev pub longest_of_others : List PoolRow → Name → List PoolRow → ℕ
longest_of_others after name [] = 0
longest_of_others after name (r ∷ rs) = max (other_length after name r) (longest_of_others after name rs)
