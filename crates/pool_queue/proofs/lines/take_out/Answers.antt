use Rattle.std.proofs.Common.{rules}
use Rattle.std.proofs.lemmas.Fn.{filter_same}
use Rattle.pool_queue.specs.declared.lines.Arrived.{Arrived}
use Rattle.pool_queue.specs.Lines.{has_other_number}
use Rattle.pool_queue.proofs.lines.take_out.Goals as goal

pub returns : goal.returns
returns c =
    let kept = filter_same _ (λ (a : Arrived). has_other_number c.args.gone.now.number a) _ (λ x b f' k. search rules) _ _ c.retain.ensures in
    let name = c.args.line.now.pool in
    λ i. record { pool = name; waiters = kept i }
