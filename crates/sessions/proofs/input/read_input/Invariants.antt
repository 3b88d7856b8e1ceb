use Rattle.std.proofs.Common.{◌≤◌, ◌+◌, ◌-◌, vec_len}
use Rattle.std.specs.Io.KnownBytes.{Consumes}
use Rattle.rm_base.specs.declared.limits.TheConstants.{SCRIPT_MOST}
use Rattle.sessions.proofs.input.read_input.Given as goal

abbrev pub invariant-loop-piece : goal.invariant-loop-piece
invariant-loop-piece g l = record {
  within : vec_len l.bytes ≤ SCRIPT_MOST + 1;
  read : Consumes (g.S.Source.left l.initial.input) (g.S.Source.left l.input) l.bytes.items;
  later : g.S.Source.faults l.initial.input ≤ g.S.Source.faults l.input;
}

abbrev pub decreases-loop-piece : goal.decreases-loop-piece
decreases-loop-piece g l = SCRIPT_MOST + 1 - vec_len l.bytes
