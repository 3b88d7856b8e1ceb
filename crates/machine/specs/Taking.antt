-- Whether a pool takes a running query, by the numbers that the accounts tell.
use Rattle.std.specs.Prelude.{ℕ, ◌+◌, Bool, ◌&&◌, ◌||◌, ◌==◌, nat_le}
use Rattle.rm_base.specs.declared.definitions.Definitions.{Definitions}
use Rattle.rm_base.specs.declared.name.Name.{Name}
use Rattle.rm_base.specs.Name.{general}
use Rattle.rm_rules.specs.Definitions.{pool_row}
use Rattle.rm_rules.specs.Budget.{threshold}
use Rattle.rm_rules.specs.Ask.{cap}
use Rattle.rm_rules.specs.Fit.{has_place}
use Rattle.rm_rules.specs.Moving.{allows_grant}
use Rattle.accounts.specs.declared.moves.IfMoved.{IfMoved}

-- the pool lets in a query of so many bytes
abbrev pub lets_in : Definitions → IfMoved → Name → ℕ → Bool
lets_in d seen pool bytes =
    has_place (pool_row d pool) seen.running
    && (nat_le seen.used (threshold d (pool_row d pool))
    && nat_le (seen.used + bytes) (cap d (pool_row d pool)))

-- GENERAL lends what is needed
abbrev pub lends : Definitions → IfMoved → Bool
lends d seen = seen.need == 0 || (nat_le seen.lent (threshold d (pool_row d general)) && nat_le seen.need seen.free)

-- the pool takes a query with this grant
abbrev pub takes_grant : Definitions → IfMoved → Name → ℕ → Bool
takes_grant d seen pool grant = (lets_in d seen pool grant && lends d seen) && allows_grant d pool grant
