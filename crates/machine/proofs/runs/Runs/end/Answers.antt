use Rattle.std.proofs.Common.{ap, arith}
use Rattle.rm_rules.specs.Holdings.{Holdings}
use Rattle.machine.proofs.Beside.{seen-rows, seen-left}
use Rattle.machine.proofs.runs.Runs.end.Goals as goal

pub remove-requires : goal.remove-requires
remove-requires c = (omega arith, omega (arith, c.place_of_runner-place.ensures.within, seen-rows c.self.inside c.args.self.now c.self.view_is c.self.invariant))

pub invariant_of-self : goal.invariant_of-self
invariant_of-self c =
    (seen-left c.self.inside c.args.self.now c.args.r.now c.place_of_runner-place.result c.give_back.new.self.grants c.remove.new.self c.self.view_is c.self.invariant c.requires.once c.requires.runs (c.place_of_runner-place.ensures.value, c.place_of_runner-place.ensures.within)
    (ap (λ (h : Holdings). h.grants) c.give_back.ensures.state) c.remove.ensures.rest).beside

pub returns-clause-running : goal.returns-clause-running
returns-clause-running c =
    (seen-left c.self.inside c.args.self.now c.args.r.now c.place_of_runner-place.result c.give_back.new.self.grants c.remove.new.self c.self.view_is c.self.invariant c.requires.once c.requires.runs (c.place_of_runner-place.ensures.value, c.place_of_runner-place.ensures.within)
    (ap (λ (h : Holdings). h.grants) c.give_back.ensures.state) c.remove.ensures.rest).running_are
