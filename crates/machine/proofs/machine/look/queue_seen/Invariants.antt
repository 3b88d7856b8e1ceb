use Rattle.std.proofs.Common.{◌≡◌, take, map, length, vec_len, vec_capacity}
use Rattle.machine.specs.Looked.{waiting_seen}
use Rattle.machine.proofs.machine.look.queue_seen.Given as goal

abbrev pub invariant-loop-w : goal.invariant-loop-w
invariant-loop-w l =
    (l.seen.items ≡ map waiting_seen (take l.w-index l.waiting)) × (vec_len l.seen ≡ l.w-index) × (vec_capacity l.seen ≡ length l.waiting)
