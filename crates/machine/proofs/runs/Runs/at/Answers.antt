use Rattle.std.proofs.Common.{ap, sym, ◌∙◌, List, length, get_or, arith}
use Rattle.rm_rules.specs.declared.state.Holding.{Holding}
use Rattle.machine.specs.declared.runs.Run.{Run}
use Rattle.machine.specs.Runs.{RunsSeen}
use Rattle.machine.proofs.Beside.{seen-rows, runners-at}
use Rattle.machine.proofs.runs.Runs.at.Goals as goal

pub bounds-grants-place : goal.bounds-grants-place
bounds-grants-place c =
    omega (arith, c.requires, c.self.invariant, seen-rows c.self.inside c.args.self.now c.self.view_is c.self.invariant, ap (λ (l : List Holding). length l) c.grants.ensures)

pub bounds-rows-place : goal.bounds-rows-place
bounds-rows-place c =
    omega (arith, c.requires, seen-rows c.self.inside c.args.self.now c.self.view_is c.self.invariant, ap (λ (l : List Run). length l) c.rows.ensures.rows)

pub offset_bounds-grants-place : goal.offset_bounds-grants-place
offset_bounds-grants-place c =
    omega (arith, c.requires, c.self.invariant, seen-rows c.self.inside c.args.self.now c.self.view_is c.self.invariant, ap (λ (l : List Holding). length l) c.grants.ensures, c.grants.type_inv)

pub offset_bounds-rows-place : goal.offset_bounds-rows-place
offset_bounds-rows-place c =
    omega (arith, c.requires, seen-rows c.self.inside c.args.self.now c.self.view_is c.self.invariant, ap (λ (l : List Run). length l) c.rows.ensures.rows, c.rows.ensures.room)

pub returns : goal.returns
returns c =
    c.runner.ensures
    ∙ sym (runners-at c.self.inside.accounts.grants c.self.inside.rows c.args.place c.index-grants-place.result c.index-rows-place.result c.runner.result c.self.invariant
    (omega (arith, c.requires, seen-rows c.self.inside c.args.self.now c.self.view_is c.self.invariant))
    (c.index-grants-place.is ∙ ap (λ (l : List Holding). get_or l c.args.place c.index-grants-place.result) c.grants.ensures)
    (c.index-rows-place.is ∙ ap (λ (l : List Run). get_or l c.args.place c.index-rows-place.result) c.rows.ensures.rows))
    ∙ ap (λ (v : RunsSeen). get_or v.running c.args.place c.runner.result) c.self.view_is
