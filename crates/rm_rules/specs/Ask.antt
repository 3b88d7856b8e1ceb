-- Reachable caps, and what a query asks for.
use Rattle.std.specs.Prelude.{ℕ, ◌+◌, ◌-◌, Bool, nat_lt, Option, Some, None, min, max, if◌then◌else◌}
use Rattle.rm_base.specs.declared.definitions.Definitions.{Definitions}
use Rattle.rm_base.specs.declared.rows.PoolRow.{PoolRow}
use Rattle.rm_base.specs.declared.name.Name.{Name}
use Rattle.rm_base.specs.declared.refusal.CapKind.{CapKind}
use Rattle.rm_base.specs.declared.refusal.CapKind.TheVariants.{Pool, Query, User}
use Rattle.rm_base.specs.declared.refusal.Refusal.{Refusal}
use Rattle.rm_base.specs.declared.refusal.Refusal.TheVariants.{TooLarge}
use Rattle.rm_base.specs.Name.{same_name, general}
use Rattle.rm_rules.specs.declared.state.Cap.{Cap}
use Rattle.rm_rules.specs.Definitions.{total, reserved, memory_cap}
use Rattle.rm_rules.specs.Budget.{budget}

-- the number within a limit, where there is one
abbrev pub within : Option ℕ → ℕ → ℕ
within None n = n
within (Some most) n = min most n

-- what the pool's queries can hold in all: its own bytes and what no pool reserves, within its MAXMEMORYSIZE
abbrev pub cap : Definitions → PoolRow → ℕ
cap d r = if same_name r.name general then total d - reserved d else within r.max (r.memory + (total d - reserved d))

-- the narrower of two caps, the earlier where they are equal
abbrev pub narrowed : Cap → CapKind → Option ℕ → Cap
narrowed c kind None = c
narrowed c kind (Some bytes) = if nat_lt bytes c.bytes then record { kind = kind; bytes = bytes } else c

-- the least of the pool's cap, its MAXQUERYMEMORYSIZE and the user's MEMORYCAP
abbrev pub least_cap : Definitions → PoolRow → Name → Cap
least_cap d r user = narrowed (narrowed (record { kind = Pool; bytes = cap d r }) Query r.query_max) User (memory_cap d user)

-- what a query asks for: the budget or its floor, within the least cap
abbrev pub ask : Definitions → PoolRow → Name → ℕ → ℕ
ask d r user floor = min (max (budget d r) floor) (least_cap d r user).bytes

-- a query whose floor is above the least cap is too large
abbrev pub is_too_large : Definitions → PoolRow → Name → ℕ → Bool
is_too_large d r user floor = nat_lt (least_cap d r user).bytes floor

abbrev pub too_large : Definitions → PoolRow → Name → ℕ → Refusal
too_large d r user floor = let least = least_cap d r user in TooLarge least.kind floor least.bytes
