use Rattle.std.proofs.Common.{◌≡◌, take, map, length, vec_len, vec_capacity}
use Rattle.machine.specs.Looked.{session_seen}
use Rattle.machine.proofs.machine.Machine.sessions_seen.Given as goal

abbrev pub invariant-loop-x : goal.invariant-loop-x
invariant-loop-x l =
    (l.seen.items ≡ map (session_seen l.self.definitions) (take l.x-index l.self.sessions)) × (vec_len l.seen ≡ l.x-index) × (vec_capacity l.seen ≡ length l.self.sessions)
