use Rattle.std.proofs.Common.{◌∙◌, List, ℕ, length, ap, arith}
use Rattle.system_tables.specs.TableRows.{status_shown, other_shown}
use Rattle.system_tables.proofs.Sizes.{other-named, zipped-more}
use Rattle.system_tables.proofs.status.add_others.Goals as goal

pub status_cells-requires-clause-named : goal.status_cells-requires-clause-named
status_cells-requires-clause-named c = other-named c.args.snapshot.now c.args.others.now c.loop-i.i c.index-others-i.result c.requires.seen c.requires.behind c.loop-i-test.true c.index-others-i.is

pub loop-i-preserved : goal.loop-i-preserved
loop-i-preserved c =
    let s = c.args.snapshot.now in
    let sizes = c.as_slice-sizes.result.now in
    let r = c.index-others-i.result in
    zipped-more (other_shown s) c.args.others.now sizes c.loop-i.i r 0 _ c.loop-i.rows.items c.push.new.self.items c.in_ok-row_of.field-0 c.loop-i-test.true
    (omega (arith, c.loop-i-test.true, c.requires.sized, ap (λ (l : List ℕ). length l) c.as_slice-sizes.ensures)) c.index-others-i.is c.loop-i.invariant c.in_ok-push.ensures.items
    (c.in_ok-row_of.ensures ∙ c.status_cells.ensures ∙ ap (status_shown s r) c.pool_bytes-bytes.ensures)
