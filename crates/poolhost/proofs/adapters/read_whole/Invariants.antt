use Rattle.std.proofs.Common.{◌≤◌, ◌+◌, ◌-◌, vec_len}
use Rattle.rm_base.specs.declared.limits.TheConstants.{FILE_MOST}
use Rattle.poolhost.proofs.adapters.read_whole.Given as goal

abbrev pub invariant-loop-piece : goal.invariant-loop-piece
invariant-loop-piece g l = vec_len l.bytes ≤ FILE_MOST + 1

abbrev pub decreases-loop-piece : goal.decreases-loop-piece
decreases-loop-piece g l = FILE_MOST + 1 - vec_len l.bytes
