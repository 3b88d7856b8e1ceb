use Rattle.std.proofs.Common.{◌<◌, ◌+◌, ◌++◌, List, length, get_or, take, drop, ap, ◌∙◌, arith}
use Rattle.std.specs.Prelude.{pos, ◌+ℤ◌}
use Rattle.std.proofs.Common.{length-set}
use Rattle.pool_queue.specs.declared.lines.Arrived.{Arrived}
use Rattle.pool_queue.specs.Transfer.{as_generals_from}
use Rattle.pool_queue.proofs.Transferring.{generals-more}
use Rattle.pool_queue.proofs.transfer.make_generals.Goals as goal

pub loop-i-preserved : goal.loop-i-preserved
loop-i-preserved c =
    let i = c.loop-i.i in
    let n = c.args.given.now.least in
    let within : i < length c.loop-i.block = omega (arith, c.loop-i-test.true, c.loop-i.invariant.count, c.len-i-end.ensures.value) in
    let at = c.index-rows-i.is ∙ ap (λ (xs : List Arrived). get_or xs i c.index-rows-i.result) c.rows.ensures.rows in
    record {
      count = ap (λ (xs : List Arrived). length xs) c.set.ensures ∙ length-set c.loop-i.block i c.as_generals-a.result ∙ c.loop-i.invariant.count;
      items = ap (λ (xs : List Arrived). take (i + 1) xs ++ as_generals_from (n +ℤ pos (i + 1)) (drop (i + 1) xs)) c.set.ensures
          ∙ generals-more n i c.loop-i.block c.index-rows-i.result c.as_generals-a.result within at c.as_generals-a.ensures
          ∙ c.loop-i.invariant.items;
    }
