use Rattle.std.proofs.Common.{◌≡◌, take, map, length, vec_len, vec_capacity}
use Rattle.machine.proofs.machine.look.sizes_seen.Given as goal

abbrev pub invariant-loop-e : goal.invariant-loop-e
invariant-loop-e l =
    (l.seen.items ≡ map (λ e. e.size) (take l.e-index l.reserves)) × (vec_len l.seen ≡ l.e-index) × (vec_capacity l.seen ≡ length l.reserves)
