use Rattle.std.proofs.Common.{set, ap, ◌∙◌, arith}
use Rattle.machine.specs.declared.runs.Run.{Run}
use Rattle.machine.proofs.Beside.{seen-rows, seen-marked}
use Rattle.machine.proofs.runs.Runs.mark.Goals as goal

pub set-requires : goal.set-requires
set-requires c = (omega arith, omega (arith, c.place_of_runner-place.ensures.within, seen-rows c.self.inside c.args.self.now c.self.view_is c.self.invariant))

pub returns-clause-running : goal.returns-clause-running
returns-clause-running c =
    seen-marked c.self.inside c.args.self.now c.args.r.now c.args.now.now c.place_of_runner-place.result c.set.new.self c.self.view_is c.self.invariant c.requires.runs (c.place_of_runner-place.ensures.value, c.place_of_runner-place.ensures.within) c.requires.holds
    (c.set.ensures ∙ ap (λ (x : Run). set c.self.inside.rows c.place_of_runner-place.result x) c.run_of.ensures)
