use Rattle.std.proofs.Common.{◌<◌, sym, ◌∙◌, subst, length}
use Rattle.std.specs.Prelude.{IfSome}
use Rattle.machine.proofs.Beside.{stands-turn}
use Rattle.machine.proofs.runs.Runs.place_of_runner.Goals as goal

pub unwrap-requires : goal.unwrap-requires
unwrap-requires c = stands-turn c.args.self.now.running c.args.r.now.session c.args.r.now c.place_of.result (sym c.place_of.ensures.value) c.requires

pub returns-clause-value : goal.returns-clause-value
returns-clause-value c = sym c.place_of.ensures.value ∙ c.unwrap.ensures

pub returns-clause-within : goal.returns-clause-within
returns-clause-within c = subst (λ o. IfSome o (λ place. place < length c.args.self.now.running)) c.unwrap.ensures c.place_of.ensures.within
