use Rattle.std.proofs.Common.{rules, sym, ◌∙◌, ◌≡◌, ◌+◌, Some, None}
use Rattle.grouping.specs.Finishing.{bad_from}
use Rattle.grouping.proofs.FinishLemmas.{bad_step}
use Rattle.grouping.proofs.cells.first_bad.Goals as goal

pub returns-in-Some-clause-first : goal.returns-in-Some-clause-first
returns-in-Some-clause-first c =
    let e : Some (c.loop-place.place + 1, c.in-Some.sum) ≡ bad_from 0 c.args.items.now c.args.groups.now =
    sym (bad_step c.loop-place.place c.args.items.now c.args.groups.now (Some c.in-Some.sum) (search rules) (search rules)) ∙ c.loop-place.invariant in
    search (rules, e)

pub loop-place-preserved : goal.loop-place-preserved
loop-place-preserved c = sym (bad_step c.loop-place.place c.args.items.now c.args.groups.now None (search rules) (search rules)) ∙ c.loop-place.invariant
