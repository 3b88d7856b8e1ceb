use Rattle.std.proofs.Common.{◌≡◌, ◌++◌, take, drop, map, length, vec_len, vec_capacity}
use Rattle.std.specs.List.{zip}
use Rattle.rm_rules.specs.Holdings.{holdings, holdings_of}
use Rattle.rm_rules.specs.Accounting.{accounts}
use Rattle.machine.specs.Looked.{running_seen}
use Rattle.machine.proofs.Looking.{unseen}
use Rattle.machine.proofs.machine.Machine.runs_seen.Given as goal

abbrev pub invariant-loop-i : goal.invariant-loop-i
invariant-loop-i l =
    (map running_seen (zip l.self.running (accounts (holdings_of l.self)))
    ≡ l.seen.items ++ unseen (holdings_of l.self) (holdings (take l.i l.self.running)) (drop l.i l.self.running))
    × (vec_len l.seen ≡ l.i)
    × (vec_capacity l.seen ≡ length l.self.running)
