use Rattle.std.proofs.Common.{sym, ap, ◌∙◌, eqb, get_or, List}
use Rattle.rm_rules.specs.declared.state.Session.{Session}
use Rattle.rm_rules.proofs.Places.{find-found, find-absent}
use Rattle.machine.proofs.sessions.Sessions.called.Goals as goal

pub returns-in_err-place : goal.returns-in_err-place
returns-in_err-place c =
    c.from_residual.ensures ∙ sym (find-absent (λ (x : Session). eqb x.number c.args.number) c.args.self.now (sym c.place_of.ensures.value ∙ c.in_err-place.was))

pub returns : goal.returns
returns c =
    let x = c.index-rows-place.result in
    let at = c.index-rows-place.is ∙ ap (λ (l : List Session). get_or l c.in_ok-place.place x) (c.rows.ensures.rows ∙ c.self.view_is) in
    sym (find-found (λ (y : Session). eqb y.number c.args.number) c.args.self.now c.in_ok-place.place x (sym c.place_of.ensures.value ∙ c.in_ok-place.was) at)
