use Rattle.std.proofs.Common.{◌≡◌, ◌++◌, length, take, drop, map}
use Rattle.std.specs.Prelude.{vec_capacity}
use Rattle.pool_queue.specs.Numbers.{ranked_line}
use Rattle.pool_queue.proofs.numbers.rank_lines.Given as goal

abbrev pub invariant-loop-i : goal.invariant-loop-i
invariant-loop-i l = record {
  count : length l.lines.items ≡ length l.initial.lines.items;
  capacity : vec_capacity l.lines ≡ vec_capacity l.initial.lines;
  items : take l.i l.lines.items ++ map (ranked_line l.given) (drop l.i l.lines.items) ≡ map (ranked_line l.given) l.initial.lines.items;
}
