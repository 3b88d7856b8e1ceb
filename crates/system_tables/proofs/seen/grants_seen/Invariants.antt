use Rattle.std.proofs.Common.{◌≡◌, take, map, length, vec_len, vec_capacity}
use Rattle.system_tables.specs.Seen.{holding_seen}
use Rattle.system_tables.proofs.seen.grants_seen.Given as goal

abbrev pub invariant-loop-r : goal.invariant-loop-r
invariant-loop-r l =
    (l.grants.items ≡ map holding_seen (take l.r-index l.running)) × (vec_len l.grants ≡ l.r-index) × (vec_capacity l.grants ≡ length l.running)
