use Rattle.std.proofs.Common.{eqb, position, Some, refl, sym, ap, ◌∙◌, List}
use Rattle.rm_rules.specs.declared.state.Session.{Session}
use Rattle.rm_rules.specs.State.{changed_first}
use Rattle.machine.proofs.Places.{set-changed, set-absent}
use Rattle.machine.proofs.Rising.{order-kept}
use Rattle.machine.proofs.sessions.Sessions.set_choice.Goals as goal

pub invariant_of-self : goal.invariant_of-self
invariant_of-self c =
    let test = λ (x : Session). eqb x.number c.args.number in
    let act = λ (x : Session). record x { pool = Some c.args.pool } in
    let at = c.in-Some.ensures.value ∙ ap (λ (l : List Session). position test l) (sym c.self.view_is) in
    order-kept c.self.inside c.args.number act c.set.new.self (λ x. refl) (λ x. refl) c.self.invariant
    (set-changed test act c.self.inside.rows c.self.inside.rows c.rows.result.now c.set.new.self c.index-rows-place.result c.in-Some.place refl at c.rows.ensures.rows c.index-rows-place.is c.set.ensures)

pub returns-in-Some : goal.returns-in-Some
returns-in-Some c =
    let test = λ (x : Session). eqb x.number c.args.number in
    let act = λ (x : Session). record x { pool = Some c.args.pool } in
    let at = c.in-Some.ensures.value ∙ ap (λ (l : List Session). position test l) (sym c.self.view_is) in
    set-changed test act c.self.inside.rows c.self.inside.rows c.rows.result.now c.set.new.self c.index-rows-place.result c.in-Some.place refl at c.rows.ensures.rows c.index-rows-place.is c.set.ensures
    ∙ ap (λ (l : List Session). changed_first test act l) c.self.view_is

pub returns-in_default : goal.returns-in_default
returns-in_default c = set-absent (λ (x : Session). eqb x.number c.args.number) (λ (x : Session). record x { pool = Some c.args.pool }) c.args.self.now c.args.self.now refl c.in_default.ensures.value
