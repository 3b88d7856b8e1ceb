use Rattle.std.proofs.Common.{◌∙◌, refl, arith}
use Rattle.std.proofs.lemmas.Result.{err_from_is_err_and}
use Rattle.sessions.specs.World.{seen_sink, seen_shelf, seen_keeper}
use Rattle.sessions.proofs.RunLemmas.{has_run-begins, has_run-ends, has_run-left, has_run-left_whole, has_run-more, has_run-whole, cause-later}
use Rattle.sessions.proofs.run.run_lines.Goals as goal

pub loop-line-init : goal.loop-line-init
loop-line-init g c = record {
  later = omega arith;
  shelf_later = omega arith;
  keeper_later = omega arith;
  told = λ some. some;
  agrees = c.requires.agrees;
  files = refl;
  spool = refl;
  counted = omega arith;
  run = λ files told. has_run-begins files c.args.bytes.now c.args.script.now (g.O.Sink.written c.args.out.now);
}

pub loop-line-preserved : goal.loop-line-preserved
loop-line-preserved g c =
    let inv = c.loop-line.invariant in
    let e = c.in_ok-run_line.ensures in
    record {
      later = omega (arith, inv.later, e.later);
      shelf_later = omega (arith, inv.shelf_later, e.shelf_later);
      keeper_later = omega (arith, inv.keeper_later, e.keeper_later);
      told = λ some. inv.told (e.told some);
      agrees = e.agrees;
      files = e.files ∙ inv.files;
      spool = e.spool ∙ inv.spool;
      counted = omega (arith, inv.counted, c.in-Some.ensures.shorter);
      run = λ files told. has_run-more files c.args.bytes.now c.loop-line.rest.now c.in-Some.more.now c.in-Some.line.now c.args.script.now c.loop-line.script c.run_line.new.script c.loop-line.number
          (g.O.Sink.written c.args.out.now) (g.O.Sink.written c.loop-line.out) (g.O.Sink.written c.run_line.new.out)
          (inv.run files told) c.in-Some.ensures.line (e.goes files (inv.files ∙ told));
    }

pub returns-in_err-run_line-clause-cause : goal.returns-in_err-run_line-clause-cause
returns-in_err-run_line-clause-cause g c =
    let p = err_from_is_err_and c.from_residual.result c.from_residual.ensures.1 in
    rw (p.1, p.2)
    (cause-later (seen_sink g.O.Sink c.args.out.now) (seen_sink g.O.Sink c.loop-line.out) (seen_sink g.O.Sink c.run_line.new.out)
    (seen_shelf g.H.Shelf c.args.shelf.now) (seen_shelf g.H.Shelf c.loop-line.shelf) (seen_shelf g.H.Shelf c.run_line.new.shelf)
    (seen_keeper g.K.Keeper c.args.keeper.now) (seen_keeper g.K.Keeper c.loop-line.keeper) (seen_keeper g.K.Keeper c.run_line.new.keeper)
    c.in_err-run_line.field-0.0 c.loop-line.invariant.later c.loop-line.invariant.shelf_later c.loop-line.invariant.keeper_later c.in_err-run_line.ensures.cause)

pub returns-in_err-run_line-clause-ends : goal.returns-in_err-run_line-clause-ends
returns-in_err-run_line-clause-ends g c =
    let p = err_from_is_err_and c.from_residual.result c.from_residual.ensures.1 in
    rw (p.1, p.2)
    (λ files told. has_run-ends files c.args.bytes.now c.loop-line.rest.now c.in-Some.more.now c.in-Some.line.now c.args.script.now c.loop-line.script c.loop-line.number
    (g.O.Sink.written c.args.out.now) (g.O.Sink.written c.loop-line.out) (g.O.Sink.written c.run_line.new.out) (g.K.Keeper.stored c.run_line.new.keeper)
    c.in_err-run_line.field-0.0 (c.loop-line.invariant.run files told) c.in-Some.ensures.line (c.in_err-run_line.ensures.ends files (c.loop-line.invariant.files ∙ told)))

pub returns-in_err-run_line-clause-left : goal.returns-in_err-run_line-clause-left
returns-in_err-run_line-clause-left g c = λ files told rows stored.
    has_run-left files c.args.bytes.now c.loop-line.rest.now c.in-Some.more.now c.in-Some.line.now c.args.script.now c.loop-line.script c.loop-line.number
    (g.O.Sink.written c.args.out.now) (g.O.Sink.written c.loop-line.out) (g.O.Sink.written c.run_line.new.out) rows
    (c.loop-line.invariant.run files told) c.in-Some.ensures.line (c.in_err-run_line.ensures.left files (c.loop-line.invariant.files ∙ told) rows stored)

pub returns-clause-ends : goal.returns-clause-ends
returns-clause-ends g c = λ files told.
    has_run-whole files c.args.bytes.now c.loop-line.rest.now c.args.script.now c.loop-line.script c.loop-line.number (g.O.Sink.written c.args.out.now) (g.O.Sink.written c.loop-line.out)
    (g.K.Keeper.stored c.loop-line.keeper) (c.loop-line.invariant.run files told) c.in_default.ensures.line c.loop-line.invariant.agrees

pub returns-clause-left : goal.returns-clause-left
returns-clause-left g c = λ files told rows stored.
    has_run-left_whole files c.args.bytes.now c.loop-line.rest.now c.args.script.now c.loop-line.script c.loop-line.number (g.O.Sink.written c.args.out.now) (g.O.Sink.written c.loop-line.out)
    rows (c.loop-line.invariant.run files told) c.in_default.ensures.line (c.loop-line.invariant.agrees rows stored)
