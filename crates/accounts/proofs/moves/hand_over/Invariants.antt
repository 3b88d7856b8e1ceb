use Rattle.std.proofs.Common.{◌≡◌, ◌++◌, length, take, drop, map}
use Rattle.rm_rules.specs.DropPool.{holding_beside}
use Rattle.accounts.proofs.moves.hand_over.Given as goal

abbrev pub invariant-loop-i : goal.invariant-loop-i
invariant-loop-i l = record {
  count : length l.grants ≡ length l.initial.grants;
  items : take l.i l.grants ++ map (holding_beside l.pool) (drop l.i l.grants) ≡ map (holding_beside l.pool) l.initial.grants;
}
