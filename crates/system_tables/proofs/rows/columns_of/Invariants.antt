use Rattle.std.proofs.Common.{◌≡◌, take, map}
use Rattle.system_tables.proofs.rows.columns_of.Given as goal

abbrev pub invariant-loop-name : goal.invariant-loop-name
invariant-loop-name l = l.columns ≡ map (λ c. c.now) (take l.name-index l.names)
