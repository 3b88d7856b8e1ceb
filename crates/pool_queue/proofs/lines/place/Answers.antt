use Rattle.std.proofs.Common.{◌<◌, List, length, position, set, ap, sym, subst, ◌∙◌, arith}
use Rattle.pool_queue.specs.declared.lines.Arrived.{Arrived}
use Rattle.pool_queue.specs.declared.lines.Line.{Line}
use Rattle.pool_queue.specs.Lines.{is_line, AreEmpty}
use Rattle.pool_queue.proofs.Counts.{line-within, joined-found, joined-new, empty-push}
use Rattle.pool_queue.proofs.lines.place.Goals as goal

pub add_block-empty-requires : goal.add_block-empty-requires
add_block-empty-requires c =
    let within : c.in-Some.index < length c.args.lines.now.items = omega (arith, c.in-Some.ensures.within, ap (λ (xs : List Line). length xs) c.deref.ensures.value) in
    omega (arith, line-within c.args.lines.now.items c.in-Some.index c.index_mut-line.result.now within c.index_mut-line.ensures.value, c.requires.fits)

pub returns-in-Some-clause-lines : goal.returns-in-Some-clause-lines
returns-in-Some-clause-lines c =
    let lines = c.args.lines.now.items in
    ap (λ (l : Line). set lines c.in-Some.index l) c.add_block-empty.ensures.line
    ∙ joined-found c.args.front c.args.pool c.args.block lines c.in-Some.index c.index_mut-line.result.now
    (ap (λ (xs : List Line). position (is_line c.args.pool) xs) (sym c.deref.ensures.value) ∙ sym c.line_of.ensures.value ∙ c.in-Some.is)
    c.index_mut-line.ensures.value

pub returns-in-Some-clause-spare : goal.returns-in-Some-clause-spare
returns-in-Some-clause-spare c =
    λ all. subst (λ (xs : List (List Arrived)). AreEmpty xs) (sym c.add.ensures) (empty-push c.args.spare.now c.add_block-empty.result all c.add_block-empty.ensures.empty)

pub returns-in-None-clause-lines : goal.returns-in-None-clause-lines
returns-in-None-clause-lines c =
    let lines = c.args.lines.now.items in
    c.push_reserved.ensures.items
    ∙ joined-new c.args.front c.args.pool c.args.block lines
    (ap (λ (xs : List Line). position (is_line c.args.pool) xs) (sym c.deref.ensures.value) ∙ sym c.line_of.ensures.value ∙ c.in-None.is)
