use Rattle.std.proofs.Common.{◌∙◌, arith}
use Rattle.machine.proofs.Beside.{seen-rows}
use Rattle.machine.proofs.runs.Runs.len.Goals as goal

pub returns-clause-value : goal.returns-clause-value
returns-clause-value c = c.len.ensures.value ∙ seen-rows c.self.inside c.args.self.now c.self.view_is c.self.invariant

pub returns-clause-room : goal.returns-clause-room
returns-clause-room c = omega (arith, c.len.ensures.room, seen-rows c.self.inside c.args.self.now c.self.view_is c.self.invariant)
