use Rattle.std.proofs.Common.{ℕ, Result, Err, ap, arith, sym, subst}
use Rattle.rm_outside.specs.declared.outside.Outside.{Outside}
use Rattle.std.proofs.lemmas.List.{length-drop, length-take}
use Rattle.workload.specs.declared.failure.Failure.{Failure}
use Rattle.workload.specs.Ended.{ExplainsOutput, seen_sink}
use Rattle.workload.proofs.Written.{wrote_more, wrote_front, explained}
use Rattle.workload.proofs.output.write_text.Goals as goal

pub returns-in-Err-clause-err : goal.returns-in-Err-clause-err
returns-in-Err-clause-err g c =
    let old = seen_sink g.O.Sink c.args.out.now in
    let new = seen_sink g.O.Sink c.write.new.self in
    subst (λ (f : Failure). ExplainsOutput old new c.args.text.now f) (sym c.write_failure.ensures)
    (explained old new c.args.text.now c.in-Err.error
    (wrote_front old new _ c.args.text.now c.loop-at.at c.loop-at.invariant.wrote c.in-Err.ensures.bytes)
    (λ e. omega (arith, c.in-Err.ensures.cause.failed (ap {B = Result ℕ Outside} Err e), c.loop-at.invariant.later)))

pub loop-at-preserved : goal.loop-at-preserved
loop-at-preserved g c = record {
  within = omega (arith, length-take {A = ℕ}, length-drop {A = ℕ}, c.in-Ok.ensures.takes);
  wrote = wrote_more _ _ _ c.args.text.now c.loop-at.at c.in-Ok.count c.loop-at.invariant.wrote c.in-Ok.ensures.bytes;
  later = omega (arith, c.in-Ok.ensures.cause);
}
