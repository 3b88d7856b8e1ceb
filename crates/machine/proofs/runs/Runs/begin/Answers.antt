use Rattle.std.proofs.Common.{◌++◌, ◌∷◌, [], ap, ◌∙◌, arith}
use Rattle.rm_rules.specs.Holdings.{Holdings}
use Rattle.machine.specs.declared.runs.Run.{Run}
use Rattle.machine.specs.Runs.{RunsSeen}
use Rattle.machine.proofs.Beside.{seen-rows, has-come}
use Rattle.machine.proofs.runs.Runs.begin.Goals as goal

pub take-requires-clause-room : goal.take-requires-clause-room
take-requires-clause-room c = omega (arith, c.requires.room, c.self.invariant, seen-rows c.self.inside c.args.self.now c.self.view_is c.self.invariant)

pub add-requires : goal.add-requires
add-requires c = (omega arith, omega (arith, c.requires.room, seen-rows c.self.inside c.args.self.now c.self.view_is c.self.invariant))

pub returns-clause-running : goal.returns-clause-running
returns-clause-running c =
    (has-come c.self.inside.accounts.grants c.take.new.self.grants c.self.inside.rows c.add.new.self c.args.r.now c.self.invariant
    (ap (λ (h : Holdings). h.grants) c.take.ensures) (c.add.ensures ∙ ap (λ (x : Run). c.self.inside.rows ++ x ∷ []) c.run_of.ensures)).running_are
    ∙ ap (λ (v : RunsSeen). v.running ++ c.args.r.now ∷ []) c.self.view_is
