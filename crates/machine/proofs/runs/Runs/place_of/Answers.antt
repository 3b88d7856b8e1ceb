use Rattle.std.proofs.Common.{◌<◌, ℕ, eqb, position, ap, sym, ◌∙◌, subst, length, arith}
use Rattle.std.specs.Prelude.{IfSome}
use Rattle.rm_rules.specs.declared.state.Runner.{Runner}
use Rattle.machine.specs.Runs.{RunsSeen}
use Rattle.machine.proofs.Beside.{seen-rows, position-beside}
use Rattle.machine.proofs.runs.Runs.place_of.Goals as goal

pub returns-clause-value : goal.returns-clause-value
returns-clause-value c =
    c.place_in.ensures.value ∙ ap (λ l. position (λ x. eqb x.session c.args.session) l) c.rows.ensures.rows
    ∙ sym (position-beside c.self.inside.accounts.grants c.self.inside.rows c.args.session c.self.invariant)
    ∙ ap (λ (v : RunsSeen). position (λ (x : Runner). eqb x.session c.args.session) v.running) c.self.view_is

pub returns-clause-within : goal.returns-clause-within
returns-clause-within c =
    subst (λ (n : ℕ). IfSome c.place_in.result (λ place. place < n)) (ap (λ l. length l) c.rows.ensures.rows ∙ seen-rows c.self.inside c.args.self.now c.self.view_is c.self.invariant) c.place_in.ensures.within

pub returns-clause-room : goal.returns-clause-room
returns-clause-room c = omega (arith, c.rows.ensures.room, seen-rows c.self.inside c.args.self.now c.self.view_is c.self.invariant)
