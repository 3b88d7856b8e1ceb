use Rattle.std.proofs.Common.{eqb, position, sym, ap, ◌∙◌, List}
use Rattle.rm_rules.specs.declared.state.Session.{Session}
use Rattle.rm_rules.specs.State.{without}
use Rattle.rm_rules.proofs.Places.{find-found, without-found, without-absent}
use Rattle.machine.proofs.Rising.{order-without}
use Rattle.machine.proofs.sessions.Sessions.remove.Goals as goal

pub invariant_of-self : goal.invariant_of-self
invariant_of-self c =
    let test = λ (x : Session). eqb x.number c.args.number in
    let at = sym (c.in-Some.ensures.value ∙ ap (λ (l : List Session). position test l) (sym c.self.view_is)) in
    let found = find-found test c.self.inside.rows c.in-Some.place c.remove-session.result at c.remove-session.ensures.row in
    order-without c.self.inside c.args.number c.remove-session.new.self c.remove-session.result c.live_after-self-inside.result found c.live_after-self-inside.ensures c.self.invariant
    (c.remove-session.ensures.rest ∙ sym (without-found test c.self.inside.rows c.in-Some.place at))

pub returns-in-Some : goal.returns-in-Some
returns-in-Some c =
    let test = λ (x : Session). eqb x.number c.args.number in
    let at = sym (c.in-Some.ensures.value ∙ ap (λ (l : List Session). position test l) (sym c.self.view_is)) in
    c.remove-session.ensures.rest ∙ sym (without-found test c.self.inside.rows c.in-Some.place at) ∙ ap (λ (l : List Session). without test l) c.self.view_is

pub returns-in_default : goal.returns-in_default
returns-in_default c = sym (without-absent (λ (x : Session). eqb x.number c.args.number) c.args.self.now (sym c.in_default.ensures.value))
