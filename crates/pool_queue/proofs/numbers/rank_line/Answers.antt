use Rattle.std.proofs.Common.{◌<◌, ◌+◌, ◌++◌, List, length, get_or, take, drop, map, ap, ◌∙◌, arith, length-set}
use Rattle.pool_queue.specs.declared.lines.Arrived.{Arrived}
use Rattle.pool_queue.specs.Numbers.{ranked}
use Rattle.pool_queue.proofs.Numbering.{map-more}
use Rattle.pool_queue.proofs.numbers.rank_line.Goals as goal

pub loop-i-preserved : goal.loop-i-preserved
loop-i-preserved c =
    let i = c.loop-i.i in
    let f = ranked c.args.given.now in
    let xs = c.loop-i.line.waiters in
    let within : i < length xs = omega (arith, c.loop-i-test.true, c.loop-i.invariant.count, c.len-i-end.ensures.value) in
    let at = c.index-rows-i.is ∙ ap (λ (xs : List Arrived). get_or xs i c.index-rows-i.result) c.rows.ensures.rows in
    record {
      pool = c.loop-i.invariant.pool;
      count = ap (λ (xs : List Arrived). length xs) c.set.ensures ∙ length-set xs i c.ranked-a.result ∙ c.loop-i.invariant.count;
      items = ap (λ (xs : List Arrived). take (i + 1) xs ++ map f (drop (i + 1) xs)) c.set.ensures
          ∙ map-more f xs i c.index-rows-i.result c.ranked-a.result within at c.ranked-a.ensures
          ∙ c.loop-i.invariant.items;
    }
