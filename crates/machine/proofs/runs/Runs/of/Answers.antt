use Rattle.std.proofs.Common.{sym, ◌∙◌, eqb}
use Rattle.rm_rules.specs.declared.state.Runner.{Runner}
use Rattle.rm_rules.proofs.Places.{find-found, find-absent}
use Rattle.machine.proofs.runs.Runs.of.Goals as goal

pub returns-in_err-place : goal.returns-in_err-place
returns-in_err-place c =
    c.from_residual.ensures ∙ sym (find-absent (λ (x : Runner). eqb x.session c.args.session) c.args.self.now.running (sym c.place_of.ensures.value ∙ c.in_err-place.was))

pub returns : goal.returns
returns c = sym (find-found (λ (x : Runner). eqb x.session c.args.session) c.args.self.now.running c.in_ok-place.place c.at.result (sym c.place_of.ensures.value ∙ c.in_ok-place.was) c.at.ensures)
